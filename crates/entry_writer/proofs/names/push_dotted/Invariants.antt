use Rattle.std.proofs.Common.{◌≡◌, ◌++◌, take}
use Rattle.entry_writer.specs.Levels.{dotted}
use Rattle.entry_writer.proofs.names.push_dotted.Given as goal

abbrev pub invariant-loop-part : goal.invariant-loop-part
invariant-loop-part l = l.text ≡ l.fn.text ++ dotted (take l.part-index l.parts)
