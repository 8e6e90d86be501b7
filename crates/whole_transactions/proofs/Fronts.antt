-- What passes of a history whose timestamps rise, where with a moment all earlier ones pass.
use Rattle.std.proofs.Common.{◌≡◌, List, [], ◌∷◌, ◌++◌, Bool, true, false, refl, ap, ◌∙◌, inl, inr}
use Rattle.std.specs.Prelude.{filter, if◌then◌else◌}
use Rattle.std.proofs.lemmas.List.Elements.{filter-append}
use Rattle.bson_value.specs.declared.value.Ts.{Ts}
use Rattle.history_model.specs.Stages.{Write, Made, earlier}
use Rattle.history_model.specs.Histories.{history_of, state}
use Rattle.history_model.specs.Invariants.{RisesTo}
use Rattle.history_model.proofs.Order.{earlier_trans}
use Rattle.whole_transactions.specs.Laws.{IsWhole}

abbrev pub History : Type 0
History = List (Ts × Write)

-- timestamps rise from a moment on
abbrev pub Rises : Ts → History → Type 0
Rises low [] = Unit {0}
Rises low (e ∷ es) = (earlier low e.0 ≡ true) × Rises e.0 es

pub rises : (low : Ts) (ms : List Made) (high : Ts) → RisesTo low ms high → Rises low (history_of ms)
rises low [] high r = tt
rises low (m ∷ ms) high r = (r.0, rises m.ts ms high r.1)

-- with a moment all earlier ones pass
abbrev pub IsClosed : (Ts → Bool) → Type 0
IsClosed t = (a b : Ts) → earlier a b ≡ true → t b ≡ true → t a ≡ true

abbrev pub passed : (Ts → Bool) → History → History
passed t h = filter (λ (e : Ts × Write). t e.0) h

none_pass : (t : Ts → Bool) → IsClosed t → (low : Ts) (h : History) → Rises low h → t low ≡ false → passed t h ≡ []
none_pass t c low [] r f = refl
none_pass t c low (e ∷ es) r f = by (t e.0) refl (none_pass t c e.0 es r.1)
  where
    by : (b : Bool) → t e.0 ≡ b → (t e.0 ≡ false → passed t es ≡ []) → (if b then e ∷ passed t es else passed t es) ≡ []
    by true g ih = (let k : t low ≡ true = c low e.0 r.0 g in cc)
    by false g ih = ih g

-- what passes is a front
record Front (h p : History) : Type 0 where
  front : History
  rest : History
  parted : h ≡ front ++ rest
  is : p ≡ front

a_front : (t : Ts → Bool) → IsClosed t → (low : Ts) (h : History) → Rises low h → Front h (passed t h)
a_front t c low [] r = record { front = []; rest = []; parted = refl; is = refl }
a_front t c low (e ∷ es) r = by (t e.0) refl (a_front t c e.0 es r.1)
  where
    by : (b : Bool) → t e.0 ≡ b → Front es (passed t es) → Front (e ∷ es) (if b then e ∷ passed t es else passed t es)
    by true g f = record { front = e ∷ f.front; rest = f.rest; parted = ap (λ (z : History). e ∷ z) f.parted; is = ap (λ (z : History). e ∷ z) f.is }
    by false g f = record { front = []; rest = e ∷ es; parted = refl; is = none_pass t c e.0 es r.1 g }

-- ---- around one write

rest_rises : (low : Ts) (before : History) (w : Ts × Write) (behind : History) → Rises low (before ++ (w ∷ behind)) → Rises w.0 behind
rest_rises low [] w behind r = r.1
rest_rises low (e ∷ es) w behind r = rest_rises e.0 es w behind r.1

front_rises : (low : Ts) (before more : History) → Rises low (before ++ more) → Rises low before
front_rises low [] more r = tt
front_rises low (e ∷ es) more r = (r.0, front_rises e.0 es more r.1)

-- all in front of a write that passes do
later_write : (low : Ts) (before : History) (w : Ts × Write) (behind : History) → Rises low (before ++ (w ∷ behind)) → earlier low w.0 ≡ true
later_write low [] w behind r = r.0
later_write low (e ∷ es) w behind r = earlier_trans low e.0 w.0 r.0 (later_write e.0 es w behind r.1)

all_pass : (t : Ts → Bool) → IsClosed t → (low : Ts) (before : History) (w : Ts × Write) (behind : History) → Rises low (before ++ (w ∷ behind)) → t w.0 ≡ true → passed t before ≡ before
all_pass t c low [] w behind r g = refl
all_pass t c low (e ∷ es) w behind r g =
    let k : t e.0 ≡ true = c e.0 w.0 (later_write e.0 es w behind r.1) g in
    ap (λ (b : Bool). if b then e ∷ passed t es else passed t es) k ∙ ap (λ (z : History). e ∷ z) (all_pass t c e.0 es w behind r.1 g)

-- of what passes, the write and all in front of it stand, or the write doesn't
pub whole : (t : Ts → Bool) → IsClosed t → (low : Ts) (before : History) (w : Ts × Write) (behind : History) → Rises low (before ++ (w ∷ behind)) → IsWhole before w behind (state (passed t (before ++ (w ∷ behind))))
whole t c low before w behind r = by (t w.0) refl
  where
    parts : passed t (before ++ (w ∷ behind)) ≡ passed t before ++ passed t (w ∷ behind)
    parts = filter-append (λ (e : Ts × Write). t e.0) before (w ∷ behind)

    nothing : (h : History) → h ++ [] ≡ h
    nothing [] = refl
    nothing (x ∷ xs) = ap (λ (z : History). x ∷ z) (nothing xs)

    by : (b : Bool) → t w.0 ≡ b → IsWhole before w behind (state (passed t (before ++ (w ∷ behind))))
    by true g =
        let f = a_front t c w.0 behind (rest_rises low before w behind r) in
        let tail : passed t (w ∷ behind) ≡ w ∷ f.front = ap (λ (b : Bool). if b then w ∷ passed t behind else passed t behind) g ∙ ap (λ (z : History). w ∷ z) f.is in
        inr (f.front, f.rest, f.parted, ap state (parts ∙ (ap (λ (z : History). z ++ passed t (w ∷ behind)) (all_pass t c low before w behind r g) ∙ ap (λ (z : History). before ++ z) tail)))
    by false g =
        let f = a_front t c low before (front_rises low before (w ∷ behind) r) in
        let tail : passed t (w ∷ behind) ≡ [] = ap (λ (b : Bool). if b then w ∷ passed t behind else passed t behind) g ∙ none_pass t c w.0 behind (rest_rises low before w behind r) g in
        inl (f.front, f.rest, f.parted, ap state (parts ∙ (ap (λ (z : History). passed t before ++ z) tail ∙ (nothing (passed t before) ∙ f.is))))
