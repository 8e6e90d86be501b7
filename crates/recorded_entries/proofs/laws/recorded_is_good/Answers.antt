use Rattle.recorded_entries.proofs.RunGood.{recorded_good, rows_kept}
use Rattle.recorded_entries.proofs.laws.recorded_is_good.Goals as goal

pub returns : goal.returns
returns c = record { recorded = recorded_good; kept = rows_kept }
