use Rattle.std.proofs.Common.{ap, refl, true}
use Rattle.std.proofs.Common.{map as each}
use Rattle.schedule_source.specs.Progress.{refusal_in}
use Rattle.schedule_source.proofs.Progresses.{starts}
use Rattle.schedule_source.proofs.run.SourceRun.new.Goals as goal

pub returns : goal.returns
returns c =
    starts (record { entries = c.args.cap; bytes = c.args.bytes }) (record { store = c.in_ok-new.field-0; refused = c.new-2.result; goes_on = true }) c.in_ok-new.ensures (ap (each refusal_in) c.new-2.ensures) refl
