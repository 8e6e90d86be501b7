-- The bytes of entries.
use Rattle.std.proofs.Common.{◌≡◌, refl}
use Rattle.bson_value.specs.declared.value.Ts.{Ts}
use Rattle.bson_value.specs.Spelling.{document_text}
use Rattle.entry_model.specs.Spelling.{entry_fields}
use Rattle.history_model.specs.Entries.{Content, entry_at, entry_bytes}

pub entry_text : (ts : Ts) (c : Content) → document_text (entry_fields (entry_at ts c)) ≡ entry_bytes (record { ts = ts; content = c })
unfolding entry_bytes
entry_text ts c = refl
