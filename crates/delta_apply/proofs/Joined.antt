-- The touched fields and the others are all fields.
use Rattle.std.proofs.Common.{◌≡◌, List, [], ◌∷◌, refl, ap, inl, inr}
use Rattle.std.proofs.lemmas.Bool.{cases_Bool}
use Rattle.doc_path.specs.declared.touches.Touch.{Touch}
use Rattle.delta_apply.specs.Touched.{Field, is_touched, untouched, touched_fields, joined}

pub joined-all : (ts : List Touch) (fs : List Field) → joined (touched_fields ts fs) (untouched ts fs) ≡ fs
joined-all ts [] = refl
joined-all ts (f ∷ fs) =
    elim (cases_Bool (is_touched ts f.0)) [
      | inl e ↦ rw e (ap (λ (gs : List Field). f ∷ gs) (joined-all ts fs))
      | inr e ↦ rw e (ap (λ (gs : List Field). f ∷ gs) (joined-all ts fs))
    ]
