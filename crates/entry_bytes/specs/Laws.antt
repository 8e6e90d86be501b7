-- The bytes of entries and documents are decoded again.
use Rattle.std.specs.Prelude.{◌≡◌, Ok}
use Rattle.bson_value.specs.declared.value.Value.{Value}
use Rattle.bson_value.specs.declared.value.Ts.{Ts}
use Rattle.bson_value.specs.Spelling.{document_text}
use Rattle.archive_format.specs.Archive.{fields_of}
use Rattle.entry_model.specs.Spelling.{entry_fields}
use Rattle.entry_documents.specs.Laws.{FitsStamp}
use Rattle.coll_state.specs.Rows.{Document as Fields}
use Rattle.history_model.specs.Entries.{Content, entry_at, entry_bytes}
use Rattle.recorded_entries.specs.Good.{IsGoodDocument, IsGood}

-- those of a good entry, at a timestamp of 32 bits each
abbrev pub EntriesAreRead : Type 0
EntriesAreRead = (ts : Ts) (c : Content) → FitsStamp ts → IsGood c → fields_of (entry_bytes (record { ts = ts; content = c })) ≡ Ok (entry_fields (entry_at ts c))

-- those of a document that is kept
abbrev pub DocumentsAreRead : Type 0
DocumentsAreRead = (id : Value) (d : Fields) → IsGoodDocument id d → fields_of (document_text d) ≡ Ok d
