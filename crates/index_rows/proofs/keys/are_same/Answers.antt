use Rattle.std.proofs.Common.{◌≡◌, ◌∙◌, ◌+◌, ◌++◌, ℕ, zero, suc, Bool, true, false, not, List, [], ◌∷◌, Some, take, refl, ap, sym, add-one, slice_get}
use Rattle.std.proofs.lemmas.Slice.Eq.{bytes_eq-Decides}
use Rattle.index_rows.proofs.keys.are_same.Goals as goal

some : {A : Type 0} {a b : A} → Some a ≡ Some b → a ≡ b
some e = cc

-- the front with one more element is the front and the element
take-get : {A : Type 0} (xs : List A) (i : ℕ) (x : A) → slice_get xs i ≡ Some x → take (suc i) xs ≡ take i xs ++ x ∷ []
take-get [] i x e = cc
take-get (y ∷ xs) zero x e = ap (λ z. z ∷ []) (some e)
take-get (y ∷ xs) (suc i) x e = ap (λ zs. y ∷ zs) (take-get xs i x e)

-- fronts that are equal stay so with one equal element more
one_more : {A : Type 0} (xs ys : List A) (i : ℕ) (x y : A) → slice_get xs i ≡ Some x → slice_get ys i ≡ Some y → take i xs ≡ take i ys → x ≡ y → take (i + 1) xs ≡ take (i + 1) ys
one_more xs ys i x y at_x at_y same e = rw add-one (take-get xs i x at_x ∙ (ap (λ zs. zs ++ x ∷ []) same ∙ (ap (λ z. take i ys ++ z ∷ []) e ∙ sym (take-get ys i y at_y))))

passes : (b : Bool) → not b ≡ false → b ≡ true
passes true e = refl
passes false e = cc

pub loop-i-preserved : goal.loop-i-preserved
loop-i-preserved c =
    let equal = (bytes_eq-Decides c.in_ok-copy.field-0 c.get-in-loop-i.result.now).0 (passes _ (sym c.ne-in-loop-i.ensures ∙ c.if-ne.false)) in
    one_more c.args.a.now c.args.b.now c.loop-i.i c.get.result.now c.get-in-loop-i.result.now c.get.ensures c.get-in-loop-i.ensures c.loop-i.invariant (sym c.in_ok-copy.ensures ∙ equal)
