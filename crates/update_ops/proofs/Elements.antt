-- Marks of elements, one after the other.
use Rattle.std.proofs.Common.{◌≡◌, ℕ, zero, suc, ◌+◌, ◌-◌, ◌≤◌, ◌<◌, List, [], ◌∷◌, ◌++◌, refl, sym, ap, ◌∙◌, arith}
use Rattle.doc_path.specs.declared.parts.Part.{Part}
use Rattle.update_model.specs.declared.mark.Mark.{Mark}
use Rattle.update_model.specs.Steps.{elements}

elements_one_more : (ws : List Part) (from n : ℕ) → elements ws from (suc n) ≡ elements ws from n ++ elements ws (from + n) 1
elements_one_more ws from zero = let e : from + 0 ≡ from = omega arith in rw e refl
elements_one_more ws from (suc n) =
    let e : suc from + n ≡ from + suc n = omega arith in
    ap (λ (z : List Mark). elements ws from 1 ++ z) (elements_one_more ws (suc from) n ∙ ap (λ (k : ℕ). elements ws (suc from) n ++ elements ws k 1) e)

-- one element more, up to an index
pub elements_next : (ws : List Part) (from at : ℕ) → from ≤ at → elements ws from (at - from) ++ elements ws at 1 ≡ elements ws from ((at + 1) - from)
elements_next ws from at l =
    let a : (at + 1) - from ≡ suc (at - from) = omega arith in
    let b : from + (at - from) ≡ at = omega arith in
    sym (ap (elements ws from) a ∙ (elements_one_more ws from (at - from) ∙ ap (λ (k : ℕ). elements ws from (at - from) ++ elements ws k 1) b))
