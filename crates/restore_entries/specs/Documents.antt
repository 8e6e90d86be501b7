-- Entries that change one document.
use Rattle.std.specs.Prelude.{Bool, true, false}
use Rattle.entry_model.specs.declared.entry.Action.TheOpen.{Action-F}

-- such an action: a put, a removal, a whole document or a delta
abbrev pub is_of_document : {A E : Type 0} → Action-F A E → Bool
is_of_document (Action-F.Put d) = true
is_of_document (Action-F.Remove id) = true
is_of_document (Action-F.Whole id d) = true
is_of_document (Action-F.Delta id f ts) = true
is_of_document a = false
