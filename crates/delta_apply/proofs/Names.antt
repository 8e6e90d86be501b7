-- A test whether a name is this one.
use Rattle.std.proofs.Common.{◌≡◌, ℕ, List, Bool, true, false, refl, sym, ◌∙◌, inl, inr}
use Rattle.std.specs.Prelude.{◌↔◌, IsTrue}
use Rattle.std.specs.Str.{bytes_eq}
use Rattle.std.proofs.lemmas.Slice.Eq.{bytes_eq-Decides}
use Rattle.std.proofs.lemmas.Bool.{cases_Bool}

pub test_is : (b : Bool) (j k : List ℕ) → IsTrue b ↔ (k ≡ j) → b ≡ bytes_eq j k
test_is true j k h = sym ((bytes_eq-Decides j k).1 (sym (h.0 refl)))
test_is false j k h =
    elim (cases_Bool (bytes_eq j k)) [
      | inl e ↦ let f : false ≡ true = h.1 (sym ((bytes_eq-Decides j k).0 e)) in f ∙ sym e
      | inr e ↦ sym e
    ]
