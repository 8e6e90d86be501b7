-- The cursors of a dump with the writers of their collections, and what a step makes of them.
use Rattle.std.specs.Prelude.{⊤, ◌≡◌, ℕ, List, [], ◌∷◌, length, Bool, true, false, Option, Some, None, Result, Ok, Err, refl}
use Rattle.std.specs.Coded.{Coded, code_by, coded×, coded_ℕ, coded_bool}
use Rattle.std.specs.FinMap as map
use Rattle.std.specs.Io.KnownBytes.{Appends}
use Rattle.bson_value.specs.declared.namespace.NsName.{NsName}
use Rattle.bson_value.specs.NamespaceOrder.{namespace_cmp}
use Rattle.tool_io.specs.declared.ends.Fault.{Fault}
use Rattle.tool_io.specs.Causes.{AppendsFront}
use Rattle.tool_io.specs.Ends.{End}
use Rattle.archive_format.specs.Written.{Writing, with_documents}
use Rattle.archive_format.specs.Written as written
use Rattle.coll_state.specs.Rows.{Row, Rows, Table}
use Rattle.coll_state.specs.Codes.{name_code}
use Rattle.copy_model.specs.Cursors.{Cursor}
use Rattle.copy_model.specs.Copies.{cursors_of}
use Rattle.history_model.specs.Runs.{looked}
use Rattle.dump_model.specs.Archives.{document_texts}
use Rattle.dump_copies.specs.Writing.{read_text}

-- by name
pub record Copying : Type 0 where
  pub cursors : map.FinMap namespace_cmp Cursor
  pub writers : map.FinMap namespace_cmp Writing

abbrev pub cursor_code : Coded Cursor
cursor_code = code_by (ℕ × (ℕ × Bool)) (coded× coded_ℕ (coded× coded_ℕ coded_bool)) (λ c. (c.incarnation, (c.position, c.ended))) (λ p. record { incarnation = p.0; position = p.1.0; ended = p.1.1 }) (λ _. refl)

abbrev pub writing_code : Coded Writing
writing_code = code_by (NsName × ℕ) (coded× name_code coded_ℕ) (λ w. (w.ns, w.sum)) (λ p. record { ns = p.0; sum = p.1 }) (λ _. refl)

abbrev pub copies_code : Coded Copying
copies_code =
    code_by (map.FinMap namespace_cmp Cursor × map.FinMap namespace_cmp Writing) (coded× (map.code name_code cursor_code) (map.code name_code writing_code))
    (λ c. (c.cursors, c.writers)) (λ p. record { cursors = p.0; writers = p.1 }) (λ _. refl)

abbrev pub writers_of : List (NsName × Table) → List (NsName × Writing)
writers_of [] = []
writers_of (e ∷ es) = (e.0, written.begun e.0) ∷ writers_of es

-- on each collection that is there, before its first document
abbrev pub begin : Rows → Copying
begin r = record { cursors = map.from_entries (cursors_of (map.entries r.tables)); writers = map.from_entries (writers_of (map.entries r.tables)) }

-- no cursor, or one that has ended
abbrev pub IsClosed : Option Cursor → Type 0
IsClosed None = ⊤
IsClosed (Some c) = c.ended ≡ true

-- a cursor that reads on, and the writer of its collection
pub record IsOpen (c : Copying) (n : NsName) (cursor : Cursor) (writer : Writing) : Type 0 where
  pub there : map.get c.cursors n ≡ Some cursor
  pub open_yet : cursor.ended ≡ false
  pub writes : map.get c.writers n ≡ Some writer

-- a step that has read these documents and moved the cursor on, and has written them
pub record HasRead (old new : Copying) (n : NsName) (cursor : Cursor) (writer : Writing) (read : List Row × Cursor) (count : ℕ) (before after : Option (List ℕ)) : Type 0 where
  pub counted : count ≡ length read.0
  pub cursors : new.cursors ≡ map.insert old.cursors n read.1
  pub writers : new.writers ≡ map.insert old.writers n (with_documents writer (document_texts read.0))
  pub text : Appends before after (read_text writer (document_texts read.0) read.1.ended)

-- what a step of k comes to, over the collection as it stands
abbrev pub ComesTo : Result (Option ℕ) Fault → Copying → Copying → NsName → ℕ → Option Table → End → End → Type 0
ComesTo (Ok None) old new n k t before after = IsClosed (map.get old.cursors n) × (new ≡ old) × (after ≡ before)
ComesTo (Ok (Some count)) old new n k t before after = (c : Cursor) × (w : Writing) × IsOpen old n c w × HasRead old new n c w (looked k c t) count before.bytes after.bytes
ComesTo (Err fault) old new n k t before after = (c : Cursor) × (w : Writing) × IsOpen old n c w × AppendsFront before.bytes after.bytes (read_text w (document_texts (looked k c t).0) (looked k c t).1.ended)
