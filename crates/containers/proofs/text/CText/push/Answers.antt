use Rattle.std.proofs.Common.{List, ◌≡◌, ℕ, Contains, Result, Ok, Err, subst, sym}
use Rattle.std.specs.Prelude.{OnOk, OnErr}
use Rattle.containers.proofs.Characters.{pushed}
use Rattle.containers.proofs.text.CText.push.Goals as goal

either : {A B : Type 0} (r : Result A B) (xs ys zs : List ℕ) → OnOk r (zs ≡ ys) → OnErr r (zs ≡ xs) → (Contains xs 0 → ⊥) → (Contains ys 0 → ⊥) → Contains zs 0 → ⊥
either (Ok a) xs ys zs k e f g = subst (λ (l : List ℕ). Contains l 0 → ⊥) (sym k) g
either (Err b) xs ys zs k e f g = subst (λ (l : List ℕ). Contains l 0 → ⊥) (sym e) f

pub invariant_of-self : goal.invariant_of-self
invariant_of-self c = either c.push.result _ _ _ c.push.ensures.ok c.push.ensures.err c.self.invariant (pushed _ _ c.requires c.self.invariant)
