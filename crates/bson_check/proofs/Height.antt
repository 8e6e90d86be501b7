-- The levels of what is spelled: as many as it has are needed, and they are enough.
use Rattle.std.proofs.Common.{◌≡◌, ℕ, zero, suc, ◌≤◌, max, List, [], ◌∷◌, map, refl, sym, ap, ◌∙◌, arith}
use Rattle.bson_value.specs.Levels.{largest, levels_below, levels_step, levels_in, levels_of}
use Rattle.bson_value.specs.declared.value.Value.{Value, out-Value, roll-out-Value, fold-Value, fold-roll-Value, map-Value}
use Rattle.bson_value.specs.declared.value.Value.TheOpen.{Value-F}
use Rattle.bson_check.specs.Spells.{AreBytesOf, AreFields, AreItems, IsDocument, IsArray}

-- the levels of one level of a value
abbrev pub levels_at : Value-F Value → ℕ
levels_at x = levels_step (map-Value Value ℕ levels_in x)

pub levels_out : (v : Value) → levels_in v ≡ levels_at (out-Value v)
unfolding levels_in
levels_out v = ap (fold-Value ℕ levels_step) (sym (roll-out-Value v)) ∙ fold-roll-Value ℕ levels_step (out-Value v)

pub below_is : (fs : List (List ℕ × Value)) → levels_below (map (λ e. (e.0, levels_in e.1)) fs) ≡ largest (map (λ e. levels_in e.1) fs)
below_is [] = refl
below_is (e ∷ fs) = ap (λ (n : ℕ). max (levels_in e.1) n) (below_is fs)

pub object_levels : (fs : List (List ℕ × Value)) → levels_at (Value-F.Object fs) ≡ levels_of fs
object_levels fs = ap suc (below_is fs)

pub code_levels : (t : List ℕ) (fs : List (List ℕ × Value)) → levels_at (Value-F.ScopedCode t fs) ≡ levels_of fs
code_levels t fs = ap suc (below_is fs)

abbrev pub array_levels : List Value → ℕ
array_levels vs = suc (largest (map levels_in vs))

-- ---- as many levels as it has are needed

module _ (D : List ℕ → List (List ℕ × Value) → Type 0) (A : List ℕ → List Value → Type 0) (m : ℕ)
    (documents : (b : List ℕ) (fs : List (List ℕ × Value)) → D b fs → levels_of fs ≤ m) (arrays : (b : List ℕ) (vs : List Value) → A b vs → array_levels vs ≤ m) where
  one_bound : (b : List ℕ) (x : Value-F Value) → AreBytesOf D A b x → levels_at x ≤ m
  one_bound b (Value-F.Object fs) s = omega (arith, documents b fs s, object_levels fs)
  one_bound b (Value-F.Array vs) s = arrays b vs s
  one_bound b (Value-F.ScopedCode t fs) s = omega (arith, documents s.2 fs s.5, code_levels t fs)
  one_bound b _ s = omega arith

  value_bound : (b : List ℕ) (v : Value) → AreBytesOf D A b (out-Value v) → levels_in v ≤ m
  value_bound b v s = omega (arith, one_bound b (out-Value v) s, levels_out v)

  fields_bound : (b : List ℕ) (fs : List (List ℕ × Value)) → AreFields (λ c v. AreBytesOf D A c (out-Value v)) b fs → largest (map (λ e. levels_in e.1) fs) ≤ m
  fields_bound b [] s = omega arith
  fields_bound b (e ∷ fs) s = omega (arith, value_bound s.0 e.1 s.3, fields_bound s.1 fs s.4)

  items_bound : (b : List ℕ) (vs : List Value) → AreItems (λ c v. AreBytesOf D A c (out-Value v)) b vs → largest (map levels_in vs) ≤ m
  items_bound b [] s = omega arith
  items_bound b (v ∷ vs) s = omega (arith, value_bound s.1 v s.4, items_bound s.2 vs s.5)

mutual
  unfolding IsDocument

  pub document_bound : (m : ℕ) (b : List ℕ) (fs : List (List ℕ × Value)) → IsDocument m b fs → levels_of fs ≤ m
  document_bound zero b fs h = absurd h
  document_bound (suc m) b fs h = omega (arith, fields_bound (IsDocument m) (IsArray m) m (document_bound m) (array_bound m) h.0 fs h.3)

  pub array_bound : (m : ℕ) (b : List ℕ) (vs : List Value) → IsArray m b vs → array_levels vs ≤ m
  array_bound zero b vs h = absurd h
  array_bound (suc m) b vs h = omega (arith, items_bound (IsDocument m) (IsArray m) m (document_bound m) (array_bound m) h.0 vs h.2)

-- ---- and they are enough

module _ (D E : List ℕ → List (List ℕ × Value) → Type 0) (A B : List ℕ → List Value → Type 0) (n : ℕ)
    (documents : (b : List ℕ) (fs : List (List ℕ × Value)) → D b fs → levels_of fs ≤ n → E b fs) (arrays : (b : List ℕ) (vs : List Value) → A b vs → array_levels vs ≤ n → B b vs) where
  one_within : (b : List ℕ) (x : Value-F Value) → AreBytesOf D A b x → levels_at x ≤ n → AreBytesOf E B b x
  one_within b (Value-F.Object fs) s le = documents b fs s (omega (arith, le, object_levels fs))
  one_within b (Value-F.Array vs) s le = arrays b vs s le
  one_within b (Value-F.ScopedCode t fs) s le = (s.0, s.1, s.2, s.3, s.4, documents s.2 fs s.5 (omega (arith, le, code_levels t fs)), s.6)
  one_within b _ s le = s

  pub value_within : (b : List ℕ) (v : Value) → AreBytesOf D A b (out-Value v) → levels_in v ≤ n → AreBytesOf E B b (out-Value v)
  value_within b v s le = one_within b (out-Value v) s (omega (arith, le, levels_out v))

  fields_within : (b : List ℕ) (fs : List (List ℕ × Value)) → AreFields (λ c v. AreBytesOf D A c (out-Value v)) b fs → largest (map (λ e. levels_in e.1) fs) ≤ n → AreFields (λ c v. AreBytesOf E B c (out-Value v)) b fs
  fields_within b [] s le = s
  fields_within b (e ∷ fs) s le = (s.0, s.1, s.2, value_within s.0 e.1 s.3 (omega (arith, le)), fields_within s.1 fs s.4 (omega (arith, le)), s.5)

  items_within : (b : List ℕ) (vs : List Value) → AreItems (λ c v. AreBytesOf D A c (out-Value v)) b vs → largest (map levels_in vs) ≤ n → AreItems (λ c v. AreBytesOf E B c (out-Value v)) b vs
  items_within b [] s le = s
  items_within b (v ∷ vs) s le = (s.0, s.1, s.2, s.3, value_within s.1 v s.4 (omega (arith, le)), items_within s.2 vs s.5 (omega (arith, le)), s.6)

mutual
  unfolding IsDocument

  pub document_within : (m n : ℕ) (b : List ℕ) (fs : List (List ℕ × Value)) → IsDocument m b fs → levels_of fs ≤ n → IsDocument n b fs
  document_within zero n b fs h le = absurd h
  document_within (suc m) zero b fs h le = absurd (omega (arith, le))
  document_within (suc m) (suc n) b fs h le =
      (h.0, h.1, h.2, fields_within (IsDocument m) (IsDocument n) (IsArray m) (IsArray n) n (document_within m n) (array_within m n) h.0 fs h.3 (omega (arith, le)))

  pub array_within : (m n : ℕ) (b : List ℕ) (vs : List Value) → IsArray m b vs → array_levels vs ≤ n → IsArray n b vs
  array_within zero n b vs h le = absurd h
  array_within (suc m) zero b vs h le = absurd (omega (arith, le))
  array_within (suc m) (suc n) b vs h le =
      (h.0, h.1, items_within (IsDocument m) (IsDocument n) (IsArray m) (IsArray n) n (document_within m n) (array_within m n) h.0 vs h.2 (omega (arith, le)))
