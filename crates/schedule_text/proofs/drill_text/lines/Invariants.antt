use Rattle.std.proofs.Common.{◌≡◌, ◌+◌, ◌-◌, ◌++◌}
use Rattle.schedule_text.specs.DrillText.{rows, drill_text}
use Rattle.schedule_text.proofs.drill_text.lines.Given as goal

abbrev pub invariant-loop-i : goal.invariant-loop-i
invariant-loop-i l = l.text.items ++ rows l.n (l.n - l.i) (l.i + 1) l.generator.state ≡ drill_text l.n
