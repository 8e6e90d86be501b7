-- A command on rows without index definitions, which show it the documents of others, tells what it is on the others.
use Rattle.std.specs.Prelude.{◌≡◌, [], ◌∷◌, true, Option, Some, None}
use Rattle.std.specs.FinMap as map
use Rattle.doc_path.specs.declared.parts.Form.{Form}
use Rattle.coll_state.specs.Rows.{Rows}
use Rattle.copy_model.specs.Writes.{SingleWrite}
use Rattle.copy_model.specs.Writes as writes
use Rattle.schedule_model.specs.declared.command.DocumentCommand.{DocumentCommand}
use Rattle.schedule_model.specs.declared.refused.Refused.{Refused}
use Rattle.history_model.specs.Commands.{document_changes}
use Rattle.history_model.specs.Entries.{Item}
use Rattle.history_model.specs.Indexes.{IndexesHold}
use Rattle.history_model.specs.Refusals.{namespace_of, definitions_in, document_refusal}
use Rattle.transaction_indexes.specs.Shown.{Shows}
use Rattle.transaction_indexes.specs.Following.{tested_in}

-- why the indexes refuse a write of a document
abbrev pub tested_write : SingleWrite → Rows → Option Refused
tested_write (writes.Put n k d) r = tested_in n k (Some d) r
tested_write _ r = None

-- the first rows show the command its document, and have no definition in its collection
pub record IsShown (c : DocumentCommand) (s r : Rows) : Type 0 where
  pub shows : Shows c s r
  pub plain : definitions_in (map.get s.tables (namespace_of c)) ≡ []

-- it makes the same
abbrev pub ChangesAreSame : Type 0
ChangesAreSame = (f : Form) (c : DocumentCommand) (s r : Rows) → IsShown c s r → document_changes f c s ≡ document_changes f c r

-- what refuses it there refuses it on the others
abbrev pub RefusalsAreSame : Type 0
RefusalsAreSame = (c : DocumentCommand) (s r : Rows) (x : Refused) → IsShown c s r → document_refusal true c s ≡ Some x → document_refusal true c r ≡ Some x

-- where nothing refuses it there, the indexes alone may refuse its write
abbrev pub IndexesDecide : Type 0
IndexesDecide = (f : Form) (c : DocumentCommand) (s r : Rows) (w : SingleWrite) (i : Item) → IsShown c s r → document_refusal true c s ≡ None → document_changes f c s ≡ (w, i) ∷ [] → document_refusal true c r ≡ tested_write w r

-- and nothing where it changes nothing
abbrev pub UnchangedIsAccepted : Type 0
UnchangedIsAccepted = (f : Form) (c : DocumentCommand) (s r : Rows) → IsShown c s r → document_refusal true c s ≡ None → document_changes f c s ≡ [] → IndexesHold r → document_refusal true c r ≡ None
