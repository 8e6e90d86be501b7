-- What is left at once, by the parts of a place.
use Rattle.std.proofs.Common.{◌≡◌, ℕ, zero, suc, ◌≤◌, List, [], ◌∷◌, ◌++◌, Bool, true, false, refl, ap, ◌∙◌, arith, inl, inr}
use Rattle.std.specs.Prelude.{◌⊎◌, ◌↔◌, ◌||◌, not, nat_lt}
use Rattle.std.specs.List.{Contains}
use Rattle.std.proofs.lemmas.Bool.{cases_Bool}
use Rattle.std.proofs.lemmas.Grind.{common_steps}
use Rattle.std.proofs.lemmas.List.Elements.{Contains-append_cases, Contains-append_right}
use Rattle.std.proofs.lemmas.Slice.Eq.{bytes_eq-Decides}
use Rattle.bson_value.specs.declared.value.Value.{Value}
use Rattle.doc_path.specs.declared.parts.Part.{Part}
use Rattle.doc_path.specs.declared.parts.Part.TheVariants.{Name as name, Index as index}
use Rattle.doc_path.specs.declared.parts.Form.{Form}
use Rattle.doc_path.specs.Touch.{Touch, Set, Unset, Resize, limit, play}
use Rattle.doc_path.specs.Played.{id_name, starts_at_id, is_far, any_far, left_at, is_left, played}
use Rattle.doc_path.specs.Left.{BeginsWithId, HasFarIndex, IsLeftAtOnce}

-- ---- the name `_id`

id_first : (ps : List Part) → starts_at_id ps ≡ true → BeginsWithId ps
id_first [] e = cc
id_first (name k ∷ ps) e = (ps, ap (λ (n : List ℕ). name n ∷ ps) ((bytes_eq-Decides k id_name).0 e))
id_first (index n ∷ ps) e = cc

first_id : (ps : List Part) → BeginsWithId ps → starts_at_id ps ≡ true
first_id ps (rest, e) = ap starts_at_id e ∙ (bytes_eq-Decides id_name id_name).1 refl

-- ---- indexes

far_index : (p : Part) → is_far p ≡ true → (n : ℕ) × (limit ≤ n) × (p ≡ index n)
far_index (name k) e = cc
far_index (index n) e = (n, grind (arith, common_steps), refl)

is_far_index : (n : ℕ) → limit ≤ n → is_far (index n) ≡ true
is_far_index n l = grind (arith, common_steps)

or_left : (a b : Bool) → a ≡ true → a || b ≡ true
or_left a b e = rw e refl

or_right : (a b : Bool) → b ≡ true → a || b ≡ true
or_right true b e = refl
or_right false b e = e

or_cases : (a b : Bool) → a || b ≡ true → (a ≡ true) ⊎ (b ≡ true)
or_cases true b e = inl refl
or_cases false b e = inr e

only : (p q : Part) → Contains (p ∷ []) q → p ≡ q
only p q (zero, l, e) = e
only p q (suc k, l, e) = absurd (omega (arith, l))

first_is : (p q : Part) (ps : List Part) → p ≡ q → Contains (p ∷ ps) q
first_is p q ps e = (zero, omega arith, e)

pub has_far : (ps : List Part) → any_far ps ≡ true → HasFarIndex ps
has_far [] e = cc
has_far (p ∷ ps) e =
    elim (or_cases (is_far p) (any_far ps) e) [
      | inl h ↦ let f = far_index p h in (f.0, f.1, first_is p (index f.0) ps f.2)
      | inr h ↦ let f = has_far ps h in (f.0, f.1, Contains-append_right (p ∷ []) ps (index f.0) f.2)
    ]

pub far_there : (ps : List Part) (n : ℕ) → limit ≤ n → Contains ps (index n) → any_far ps ≡ true
far_there [] n l (k, b, e) = absurd (omega (arith, b))
far_there (p ∷ ps) n l c =
    elim (Contains-append_cases (p ∷ []) ps (index n) c) [
      | inl h ↦ or_left (is_far p) (any_far ps) (ap is_far (only p (index n) h) ∙ is_far_index n l)
      | inr h ↦ or_right (is_far p) (any_far ps) (far_there ps n l h)
    ]

-- ---- places

place_left : (ps : List Part) → left_at ps ≡ true → BeginsWithId ps ⊎ HasFarIndex ps
place_left ps e =
    elim (or_cases (starts_at_id ps) (any_far ps) e) [ inl h ↦ inl (id_first ps h) | inr h ↦ inr (has_far ps h) ]

left_place : (ps : List Part) → BeginsWithId ps ⊎ HasFarIndex ps → left_at ps ≡ true
left_place ps (inl h) = or_left (starts_at_id ps) (any_far ps) (first_id ps h)
left_place ps (inr h) = or_right (starts_at_id ps) (any_far ps) (far_there ps h.0 h.1 h.2)

long_left : (n : ℕ) → not (nat_lt n limit) ≡ true → limit ≤ n
long_left n e = grind (arith, common_steps)

left_long : (n : ℕ) → limit ≤ n → not (nat_lt n limit) ≡ true
left_long n l = grind (arith, common_steps)

-- ---- touches

wider : {A B C : Type 0} → A ⊎ B → A ⊎ (B ⊎ C)
wider (inl a) = inl a
wider (inr b) = inr (inl b)

narrower : {A B : Type 0} → A ⊎ (B ⊎ ⊥) → A ⊎ B
narrower (inl a) = inl a
narrower (inr (inl b)) = inr b
narrower (inr (inr c)) = absurd c

pub is_left_at_once : (t : Touch) → is_left t ≡ true → IsLeftAtOnce t
is_left_at_once (Set ps p a) e = wider (place_left (ps ++ (p ∷ [])) e)
is_left_at_once (Unset ps p) e = wider (place_left (ps ++ (p ∷ [])) e)
is_left_at_once (Resize ps n) e =
    elim (or_cases (left_at ps) (not (nat_lt n limit)) e) [ inl h ↦ wider (place_left ps h) | inr h ↦ inr (inr (long_left n h)) ]

pub left_at_once : (t : Touch) → IsLeftAtOnce t → is_left t ≡ true
left_at_once (Set ps p a) h = left_place (ps ++ (p ∷ [])) (narrower h)
left_at_once (Unset ps p) h = left_place (ps ++ (p ∷ [])) (narrower h)
left_at_once (Resize ps n) (inl h) = or_left (left_at ps) (not (nat_lt n limit)) (left_place ps (inl h))
left_at_once (Resize ps n) (inr (inl h)) = or_left (left_at ps) (not (nat_lt n limit)) (left_place ps (inr h))
left_at_once (Resize ps n) (inr (inr l)) = or_right (left_at ps) (not (nat_lt n limit)) (left_long n l)

pub left_iff : (t : Touch) → (is_left t ≡ true) ↔ IsLeftAtOnce t
left_iff t = (is_left_at_once t, left_at_once t)

pub left_stays : (f : Form) (t : Touch) (v : Value) → IsLeftAtOnce t → played f t v ≡ v
left_stays f t v h = rw (left_at_once t h) refl

pub others_play : (f : Form) (t : Touch) (v : Value) → (IsLeftAtOnce t → ⊥) → played f t v ≡ play f t v
others_play f t v h =
    elim (cases_Bool (is_left t)) [ inl e ↦ absurd (h (is_left_at_once t e)) | inr e ↦ rw e refl ]
