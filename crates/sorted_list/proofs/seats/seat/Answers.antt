use Rattle.std.proofs.lemmas.Fn.{always_returns_same}
use Rattle.sorted_list.specs.Chunks.{side, ends_below}
use Rattle.sorted_list.proofs.Ends.{seat_ok, seat_err}
use Rattle.sorted_list.proofs.seats.seat.Goals as goal

pub returns-in-Ok-clause-seat : goal.returns-in-Ok-clause-seat
returns-in-Ok-clause-seat g c = λ ord by r o.
    let h = c.in-Ok.ensures.position (λ chunk. side (ends_below ord chunk)) (always_returns_same _ _ _ (λ a r f' k. (k.met.1 ord by, λ j. record { 0 = k.met.0 j }))) in
    absurd (seat_ok ord c.args.chunks.now c.in-Ok.at h)

pub returns-in-Err-clause-seat : goal.returns-in-Err-clause-seat
returns-in-Err-clause-seat g c = λ ord by r o.
    let h = c.in-Err.ensures.position (λ chunk. side (ends_below ord chunk)) (always_returns_same _ _ _ (λ a r f' k. (k.met.1 ord by, λ j. record { 0 = k.met.0 j }))) in
    seat_err ord _ _ r o c.in-Err.ensures.bound h
