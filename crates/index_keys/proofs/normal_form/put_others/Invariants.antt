use Rattle.std.proofs.Common.{◌≡◌, ◌++◌, take}
use Rattle.extjson.specs.Plain.{wrapped_fields}
use Rattle.index_keys.specs.Definition.{others, placed}
use Rattle.index_keys.proofs.normal_form.put_others.Given as goal

abbrev pub invariant-loop-field : goal.invariant-loop-field
invariant-loop-field l = l.entries.items ≡ l.fn.entries.items ++ wrapped_fields (others placed (take l.field-index l.fields))
