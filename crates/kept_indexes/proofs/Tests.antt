-- Tests of the elements of a list, and texts in common.
use Rattle.std.proofs.Common.{◌≡◌, ℕ, List, [], Bool, true, false, refl, sym, ◌∙◌}
use Rattle.std.specs.Prelude.{◌||◌, if◌then◌else◌}
use Rattle.std.specs.List.{list_any}
use Rattle.std.specs.Str.{bytes_eq}
use Rattle.std.proofs.lemmas.Slice.Eq.{bytes_eq-Decides}
use Rattle.index_build.specs.Owners.{Texts}
use Rattle.history_model.specs.Refusals.{meet}
use Rattle.command_refusals.proofs.Shared.{any_same, any_swap}

pub or_both : (a b : Bool) → (a || b) ≡ false → (a ≡ false) × (b ≡ false)
or_both true b h = cc
or_both false b h = (refl, h)

pub or_true : (b : Bool) → (b || true) ≡ true
or_true true = refl
or_true false = refl

-- two tests each of which holds where the other one does
pub same_truth : (a b : Bool) → (a ≡ true → b ≡ true) → (b ≡ true → a ≡ true) → a ≡ b
same_truth true b f g = sym (f refl)
same_truth false true f g = g refl
same_truth false false f g = refl

-- ---- texts in common

bytes_turn : (s t : List ℕ) → bytes_eq s t ≡ bytes_eq t s
bytes_turn s t = same_truth (bytes_eq s t) (bytes_eq t s) (turned s t) (turned t s)
  where
    turned : (a b : List ℕ) → bytes_eq a b ≡ true → bytes_eq b a ≡ true
    turned a b e = (bytes_eq-Decides b a).1 (sym ((bytes_eq-Decides a b).0 e))

pub meet_turn : (ts us : Texts) → meet ts us ≡ meet us ts
meet_turn ts us = any_swap bytes_eq ts us ∙ any_same (λ u. list_any (λ t. bytes_eq t u) ts) (λ u. list_any (bytes_eq u) ts) (λ u. any_same (λ t. bytes_eq t u) (bytes_eq u) (λ t. bytes_turn t u) ts) us
