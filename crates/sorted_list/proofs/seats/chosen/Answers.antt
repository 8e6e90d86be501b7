use Rattle.std.proofs.Common.{ℕ, ◌≡◌, ◌<◌, length, ◌∙◌, subst, arith}
use Rattle.sorted_list.specs.Chunks.{seat}
use Rattle.sorted_list.proofs.Edits.{near_seat, near_end}
use Rattle.sorted_list.proofs.seats.chosen.Goals as goal

pub returns-then-at-chunks-clause-near : goal.returns-then-at-chunks-clause-near
returns-then-at-chunks-clause-near g c = λ ord h r o.
    let cs = c.args.chunks.now in
    let e = c.seat-at.ensures.seat ord h r o in
    e ∙ near_seat ord cs (subst (λ (m : ℕ). m < length cs) e c.if-at-chunks.true)

pub returns-else-at-chunks-clause-near : goal.returns-else-at-chunks-clause-near
returns-else-at-chunks-clause-near g c = λ ord h r o.
    let cs = c.args.chunks.now in
    let e = c.seat-at.ensures.seat ord h r o in
    let end : seat ord cs ≡ length cs = omega (arith, e, c.seat-at.ensures.bound, c.if-at-chunks.false) in
    omega (arith, e, near_end ord cs c.requires.some end)
