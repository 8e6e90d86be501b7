-- A text that isn't parted names no collection.
use Rattle.std.proofs.Common.{◌≡◌, ℕ, ◌+◌, ◌-◌, ◌<◌, List, [], ◌∷◌, length, refl, ap, ◌∙◌, arith, length-drop}
use Rattle.std.specs.Prelude.{None}
use Rattle.std.specs.List.{position_or_len, before_first, after_first}
use Rattle.bson_value.specs.Namespace.{IsSplit}
use Rattle.bson_value.proofs.FirstDot.{at_first_dot}
use Rattle.entry_model.specs.Reading.{is_dot, both_sides, namespace_of}

pub no_sides : (text : List ℕ) → ((db coll : List ℕ) → IsSplit text db coll → ⊥) → namespace_of text ≡ None
no_sides text n = by (before_first is_dot text) (after_first is_dot text) refl refl
  where
    by : (x y : List ℕ) → x ≡ before_first is_dot text → y ≡ after_first is_dot text → both_sides x y ≡ None
    by [] y p q = refl
    by (c ∷ x) [] p q = refl
    by (c ∷ x) (d ∷ y) p q =
        let some : length (d ∷ y) ≡ length text - (position_or_len is_dot text + 1) = ap length q ∙ length-drop (position_or_len is_dot text + 1) text in
        let lt : position_or_len is_dot text < length text = omega (arith, some) in
        absurd (n (c ∷ x) (d ∷ y) (at_first_dot text (c ∷ x) (d ∷ y) lt p q (λ e. cc) (λ e. cc)))
