use Rattle.std.proofs.Common.{◌≡◌, ◌++◌, take}
use Rattle.bson_value.specs.Spelling.{elements_of}
use Rattle.entry_writer.proofs.elements.put_fields.Given as goal

abbrev pub invariant-loop-name : goal.invariant-loop-name
invariant-loop-name l = l.out.items ≡ l.fn.out.items ++ elements_of (take l.name-index l.fields)
