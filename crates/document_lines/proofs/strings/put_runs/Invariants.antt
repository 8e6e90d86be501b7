use Rattle.std.proofs.Common.{◌≡◌, ◌++◌, length}
use Rattle.std.specs.List.{flat_map}
use Rattle.json_text.specs.Print.{escaped}
use Rattle.document_lines.proofs.strings.put_runs.Given as goal

abbrev pub invariant-runs : goal.invariant-runs
invariant-runs l = l.out.items ++ flat_map escaped l.rest ≡ l.fn.out.items ++ flat_map escaped l.text

abbrev pub decreases-runs : goal.decreases-runs
decreases-runs l = length l.rest
