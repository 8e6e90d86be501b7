-- What accepted commands leave of documents.
use Rattle.std.specs.Prelude.{◌≡◌, ◌≤◌, true, length, Some, is_some}
use Rattle.bson_value.specs.Levels.{levels_of}
use Rattle.bson_value.specs.Spelling.{document_text}
use Rattle.coll_state.specs.Kept.{is_short}
use Rattle.coll_state.specs.Rows.{Document, id_of}
use Rattle.update_model.specs.declared.updated.Updated.{Updated}
use Rattle.update_model.specs.Reading.{operators, ops_fault}
use Rattle.update_model.specs.Updating.{updated}
use Rattle.history_model.specs.Documents.{id_first, is_good_document}
use Rattle.history_model.specs.Refusals.{accepted}

-- ---- a document with its `_id` first

abbrev pub IdFirstKeepsId : Type 0
IdFirstKeepsId = (d : Document) → id_of (id_first d) ≡ id_of d

abbrev pub IdFirstIsNoLarger : Type 0
IdFirstIsNoLarger = (d : Document) → (length (document_text (id_first d)) ≤ length (document_text d)) × (levels_of (id_first d) ≤ levels_of d)

-- ---- a document that may be stored

abbrev pub GoodHasId : Type 0
GoodHasId = (d : Document) → is_good_document d ≡ true → is_some (id_of d) ≡ true

-- also with its `_id` first
abbrev pub GoodIsShort : Type 0
GoodIsShort = (d : Document) → is_good_document d ≡ true → (is_short d ≡ true) × (is_short (id_first d) ≡ true)

-- ---- an update where neither the operators nor the document refuse it

abbrev pub UpdateKeepsId : Type 0
UpdateKeepsId = (ops old : Document) (u : Updated) → accepted (ops_fault ops) (updated (operators ops) old) ≡ Some u → id_of u.doc ≡ id_of old

abbrev pub UpdateIsShort : Type 0
UpdateIsShort = (ops old : Document) (u : Updated) → accepted (ops_fault ops) (updated (operators ops) old) ≡ Some u → is_short u.doc ≡ true
