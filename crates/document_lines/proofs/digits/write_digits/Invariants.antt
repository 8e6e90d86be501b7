use Rattle.std.proofs.Common.{◌-◌, ◌≤◌, length}
use Rattle.document_lines.specs.Digits.{AreWritten}
use Rattle.document_lines.proofs.digits.write_digits.Given as goal

abbrev pub invariant-runs : goal.invariant-runs
invariant-runs l = (l.at ≤ length l.bytes) × AreWritten l.bytes l.text l.at

abbrev pub decreases-runs : goal.decreases-runs
decreases-runs l = length l.bytes - l.at
