-- The archive that a dump writes: the prelude of the state at Start, and a block or an end for what each step read or sent.
use Rattle.std.specs.Prelude.{ℕ, List, [], ◌∷◌, ◌++◌, map as each, filter, flat_map, Bool, true, false, Option, Some, None, codes, pos}
use Rattle.std.specs.FinMap as map
use Rattle.bson_value.specs.declared.namespace.NsName.{NsName}
use Rattle.bson_value.specs.declared.value.Ts.{Ts}
use Rattle.bson_value.specs.Spelling.{document_text}
use Rattle.json_text.specs.Print.{text_of}
use Rattle.metadata_text.specs.Metadata.{metadata_tree}
use Rattle.state_model.specs.States.{State, Collection}
use Rattle.coll_state.specs.Rows.{Row}
use Rattle.archive_format.specs.Shapes.{Header, Metadata}
use Rattle.archive_content.specs.Pieces.{Piece, Block, End, archive_text}
use Rattle.history_model.specs.Entries.{entry_bytes}
use Rattle.history_model.specs.Stages.{Write, not_later}
use Rattle.history_model.specs.Runs.{Schedule, Step, Documents, Entries}
use Rattle.history_model.specs.Histories.{history, moments, reads, state}

-- one collection after the other, of no server
abbrev pub header : Header
header = record { concurrent = pos 1; server = codes "0.0.0"; tool = codes "0.0.0" }

-- the options and the definitions of a collection, as text
abbrev pub metadata_of : NsName × Collection → Metadata
metadata_of e = record { ns = e.0; text = text_of (metadata_tree e.0.coll e.1.options (map.values e.1.indexes)) }

-- of each collection, by name
abbrev pub metas_of : State → List Metadata
metas_of s = each metadata_of (map.entries s)

abbrev pub oplog : NsName
oplog = record { db = []; coll = codes "oplog" }

-- documents of a namespace as a block, where there are any
abbrev pub block_of : NsName → List (List ℕ) → List Piece
block_of n [] = []
block_of n (d ∷ ds) = Block n (d ∷ ds) ∷ []

-- the end of a namespace, where it has ended
abbrev pub end_of : NsName → Bool → List Piece
end_of n true = End n ∷ []
end_of n false = []

abbrev pub document_texts : List Row → List (List ℕ)
document_texts rs = each (λ (r : Row). document_text r.document) rs

-- what a step writes
abbrev pub pieces_of : Step → List Piece
pieces_of (Documents n rs ended) = block_of n (document_texts rs) ++ end_of n ended
pieces_of (Entries es last) = block_of oplog (each entry_bytes es) ++ end_of oplog last

abbrev pub all_pieces : List Step → List Piece
all_pieces ss = flat_map pieces_of ss

-- what a dump writes that starts on a state and makes these steps
abbrev pub text_of_steps : State → List Step → List ℕ
text_of_steps s ss = archive_text header (metas_of s) (all_pieces ss)

-- the state of the writes that aren't later than a moment; none where there is no moment
abbrev pub state_at : Option Ts → List (Ts × Write) → State
state_at None h = map.empty
state_at (Some ts) h = state (filter (λ (e : Ts × Write). not_later e.0 ts) h)

-- what the dump of a schedule writes, up to the step at which it fails; the whole archive where its outcome is Done
abbrev pub written : Schedule → List ℕ
written s = text_of_steps (state_at (moments s).start (history s)) (reads s)
