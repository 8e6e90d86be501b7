-- A way that is there in a value is shorter than the value's levels.
use Rattle.std.proofs.Common.{◌≡◌, ℕ, zero, suc, ◌+◌, ◌<◌, ◌≤◌, List, [], ◌∷◌, length, map, sym, ap, ◌∙◌, arith, inl, inr}
use Rattle.std.specs.Prelude.{◌⊎◌, Option, Some, None}
use Rattle.std.specs.Str.{bytes_eq}
use Rattle.std.proofs.lemmas.Bool.{cases_Bool}
use Rattle.containers.specs.Entries.{lookup}
use Rattle.bson_value.specs.declared.value.Value.{Value, Value-F, out-Value, roll-Value, roll-out-Value}
use Rattle.bson_value.specs.declared.value.Value.TheVariants.{rolls-Object, rolls-Array, rolls-ScopedCode}
use Rattle.bson_value.specs.Digits.{index_of}
use Rattle.bson_value.specs.Levels.{largest, levels_in, levels_of}
use Rattle.bson_value.specs.Place.{an_array, an_object, shape, shape_in, nth, at_index, child_in, child}
use Rattle.bson_value.proofs.Sizes.{levels-object, levels-array, levels-code}
use Rattle.doc_path.specs.declared.parts.Part.{Part}
use Rattle.doc_path.specs.declared.parts.Form.TheVariants.{V2}
use Rattle.doc_path.specs.Touch.{key_of}
use Rattle.touch_laws.specs.Agree.{Done}
use Rattle.entry_model.specs.Edits.{Step, touch_in}
use Rattle.entry_model.proofs.Standing.{down, somewhere}

abbrev field_levels : List (List ℕ × Value) → List ℕ
field_levels fs = map (λ e. levels_in e.1) fs

pub field_level : (fs : List (List ℕ × Value)) (k : List ℕ) (c : Value) → lookup k fs ≡ Some c → levels_in c ≤ largest (field_levels fs)
field_level [] k c e = cc
field_level (f ∷ fs) k c e =
    elim (cases_Bool (bytes_eq f.0 k)) [
      | inl h ↦ let g : Some f.1 ≡ Some c = rw h at e in let q : f.1 ≡ c = cc in let l : levels_in f.1 ≡ levels_in c = ap (λ (v : Value). levels_in v) q in omega (arith, l)
      | inr h ↦ let g : lookup k fs ≡ Some c = rw h at e in omega (arith, field_level fs k c g)
    ]

pub item_level : (vs : List Value) (n : ℕ) (c : Value) → nth vs n ≡ Some c → levels_in c ≤ largest (map levels_in vs)
item_level [] n c e = cc
item_level (v ∷ vs) zero c e = let q : v ≡ c = cc in let l : levels_in v ≡ levels_in c = ap (λ (w : Value). levels_in w) q in omega (arith, l)
item_level (v ∷ vs) (suc n) c e = omega (arith, item_level vs n c e)

pub index_level : (vs : List Value) (i : Option ℕ) (c : Value) → at_index vs i ≡ Some c → levels_in c ≤ largest (map levels_in vs)
index_level vs None c e = cc
index_level vs (Some n) c e = item_level vs n c e

pub under_level : (f : Value-F Value) (v : Value) (k : List ℕ) (i : Option ℕ) (c : Value) → roll-Value f ≡ v → child_in f k i ≡ Some c → levels_in c < levels_in v
under_level (Value-F.Object fs) v k i c r e =
    let l : levels_in v ≡ levels_of fs = ap (λ (w : Value). levels_in w) (sym r ∙ rolls-Object fs) ∙ levels-object fs in omega (arith, l, field_level fs k c e)
under_level (Value-F.ScopedCode t fs) v k i c r e =
    let l : levels_in v ≡ levels_of fs = ap (λ (w : Value). levels_in w) (sym r ∙ rolls-ScopedCode t fs) ∙ levels-code t fs in omega (arith, l, field_level fs k c e)
under_level (Value-F.Array vs) v k i c r e =
    let l : levels_in v ≡ largest (map levels_in vs) + 1 = ap (λ (w : Value). levels_in w) (sym r ∙ rolls-Array vs) ∙ levels-array vs in omega (arith, l, index_level vs i c e)
under_level f v k i c r e = cc

child_level : (v : Value) (k : List ℕ) (c : Value) → child v k ≡ Some c → levels_in c < levels_in v
unfolding child
child_level v k c e = under_level (out-Value v) v k (index_of k) c (roll-out-Value v) e

pub kind_level : (f : Value-F Value) (v : Value) → roll-Value f ≡ v → (shape_in f ≡ an_object) ⊎ (shape_in f ≡ an_array) → 0 < levels_in v
kind_level (Value-F.Object fs) v r s =
    let l : levels_in v ≡ levels_of fs = ap (λ (w : Value). levels_in w) (sym r ∙ rolls-Object fs) ∙ levels-object fs in omega (arith, l)
kind_level (Value-F.Array vs) v r s =
    let l : levels_in v ≡ largest (map levels_in vs) + 1 = ap (λ (w : Value). levels_in w) (sym r ∙ rolls-Array vs) ∙ levels-array vs in omega (arith, l)
kind_level f v r (inl s) = cc
kind_level f v r (inr s) = cc

some_level : (v : Value) → (shape v ≡ an_object) ⊎ (shape v ≡ an_array) → 0 < levels_in v
unfolding shape
some_level v s = kind_level (out-Value v) v (roll-out-Value v) s

pub way_level : (ps : List Part) (s : Step) (v : Value) → Done V2 (touch_in ps s) v → length ps < levels_in v
way_level [] s v d = some_level v (somewhere [] s v d)
way_level (p ∷ ps) s v d =
    let w = down p ps s v d in
    let a = way_level ps s w.1 w.3 in
    let b = child_level v (key_of p) w.1 w.2 in
    omega (arith, a, b)
