-- What is written of the documents that a step read.
use Rattle.std.specs.Prelude.{ℕ, List, [], ◌++◌, Bool, true, false}
use Rattle.bson_value.specs.declared.namespace.NsName.{NsName}
use Rattle.archive_format.specs.Written.{Writing, block_text, end_text, with_documents}

-- the end of a namespace whose documents have this sum, where it has ended
abbrev pub end_if : Bool → NsName → ℕ → List ℕ
end_if true n sum = end_text n sum
end_if false n sum = []

-- a block of the documents, and the end behind the last ones
abbrev pub read_text : Writing → List (List ℕ) → Bool → List ℕ
read_text w ds ended = block_text w.ns ds ++ end_if ended w.ns (with_documents w ds).sum
