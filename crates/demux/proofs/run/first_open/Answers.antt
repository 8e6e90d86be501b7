use Rattle.std.proofs.Common.{◌≡◌, ◌<◌, false, length, ◌∙◌, sym, arith}
use Rattle.demux.proofs.Seats.{there, still_open}
use Rattle.demux.proofs.run.first_open.Goals as goal

pub returns-then-not-has_ended : goal.returns-then-not-has_ended
returns-then-not-has_ended c =
    let es = c.args.seen.now in
    let i = c.entries.i in
    let e = c.index-seen-i.result in
    let le : i < length es = omega arith in
    let ended : e.ended ≡ false = sym c.has_ended.ensures ∙ c.if-not-has_ended.true in
    (e, there es i e le c.index-seen-i.is, sym c.entries.invariant ∙ still_open es i e le c.index-seen-i.is ended)
