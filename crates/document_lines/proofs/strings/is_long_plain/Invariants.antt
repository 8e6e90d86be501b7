use Rattle.std.proofs.Common.{◌-◌, ◌≤◌, length}
use Rattle.document_lines.specs.Strings.{ArePlain}
use Rattle.document_lines.proofs.strings.is_long_plain.Given as goal

abbrev pub invariant-runs : goal.invariant-runs
invariant-runs l = (l.at ≤ length l.text) × ArePlain l.text 0 l.at

abbrev pub decreases-runs : goal.decreases-runs
decreases-runs l = length l.text - l.at
