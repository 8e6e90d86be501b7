use Rattle.std.proofs.Common.{◌≡◌, ◌-◌, length, drop}
use Rattle.archive_format.specs.Archive.{open_of}
use Rattle.demux.proofs.run.first_open.Given as goal

abbrev pub invariant-entries : goal.invariant-entries
invariant-entries l = open_of (drop l.i l.seen) ≡ open_of l.seen

abbrev pub decreases-entries : goal.decreases-entries
decreases-entries l = length l.seen - l.i
