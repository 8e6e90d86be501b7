use Rattle.std.proofs.Common.{take, length}
use Rattle.std.specs.Prelude.{nat_lt}
use Rattle.archive_format.specs.Archive.{start, limit}
use Rattle.archive_format.proofs.Fold.{ends_total, ends_unique}
use Rattle.archive_format.proofs.laws.one_end.Goals as goal

pub returns : goal.returns
returns c = λ bytes.
    let k = ends_total start 0 (take limit bytes) (nat_lt limit (length bytes)) in
    ((k.takings, k.fault, k.ends), λ ts us e f p q. ends_unique start 0 (take limit bytes) (nat_lt limit (length bytes)) ts us e f p q)
