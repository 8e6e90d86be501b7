use Rattle.std.proofs.Common.{refl}
use Rattle.extjson.specs.Values.{without_zero}
use Rattle.extjson.proofs.Wholes.{zero_free}
use Rattle.extjson.proofs.parts.without_zero.Goals as goal

pub returns-in-Some : goal.returns-in-Some
unfolding without_zero
returns-in-Some c =
    let some = rw c.in-Some.is at c.in_ok-text.ensures.some in
    let none = rw c.in-Some.is at c.in_ok-text.ensures.none in
    let z = zero_free c.args.text.now (λ k. let e = none.1 k in cc) in
    rw (z, some) refl
