-- What stands at the end of a way has fewer levels than the value, by the length of the way.
use Rattle.std.proofs.Common.{◌≡◌, ℕ, ◌+◌, ◌<◌, List, [], ◌∷◌, length, map, arith, inl, inr}
use Rattle.std.specs.Prelude.{◌⊎◌, Some}
use Rattle.bson_value.specs.declared.value.Value.{Value, out-Value, roll-out-Value}
use Rattle.bson_value.specs.Digits.{index_of}
use Rattle.bson_value.specs.Levels.{levels_in}
use Rattle.bson_value.specs.Place.{an_array, an_object, shape, child}
use Rattle.doc_path.specs.declared.parts.Part.{Part}
use Rattle.doc_path.specs.declared.parts.Form.{Form}
use Rattle.doc_path.specs.Touch.{key_of}
use Rattle.touch_laws.specs.Agree.{Done}
use Rattle.entry_model.specs.Edits.{Step, Sets, Unsets, Resizes, touch_in}
use Rattle.entry_model.proofs.Standing.{shape_array}
use Rattle.entry_model.proofs.Deep.{under_level, kind_level}

abbrev pub field_levels : List (List ℕ × Value) → List ℕ
field_levels fs = map (λ e. levels_in e.1) fs

child_level : (v : Value) (k : List ℕ) (c : Value) → child v k ≡ Some c → levels_in c < levels_in v
unfolding child
child_level v k c e = under_level (out-Value v) v k (index_of k) c (roll-out-Value v) e

pub some_level : (v : Value) → (shape v ≡ an_object) ⊎ (shape v ≡ an_array) → 0 < levels_in v
unfolding shape
some_level v s = kind_level (out-Value v) v (roll-out-Value v) s

-- the levels of what an edit sets
abbrev pub weight : Step → ℕ
weight (Sets p a fresh) = levels_in a
weight (Unsets p) = 0
weight (Resizes n) = 0

pub way_weight : (f : Form) (ps : List Part) (s : Step) (v : Value) → Done f (touch_in ps s) v → length ps + weight s < levels_in v
way_weight f [] (Sets p a fresh) v d = omega (arith, child_level v (key_of p) a d.1)
way_weight f [] (Unsets p) v d = omega (arith, some_level v (inl d.1))
way_weight f [] (Resizes n) v d = omega (arith, some_level v (inr (shape_array v d.1 d.2)))
way_weight f (p ∷ ps) (Sets q a fresh) v d = omega (arith, way_weight f ps (Sets q a fresh) d.1 d.3, child_level v (key_of p) d.1 d.2)
way_weight f (p ∷ ps) (Unsets q) v d = omega (arith, way_weight f ps (Unsets q) d.1 d.3, child_level v (key_of p) d.1 d.2)
way_weight f (p ∷ ps) (Resizes n) v d = omega (arith, way_weight f ps (Resizes n) d.1 d.3, child_level v (key_of p) d.1 d.2)
