-- Values that are well-formed but for names that stand twice, and when such a one is well-formed.
use Rattle.std.proofs.Common.{◌≡◌, ℕ, true, List, [], ◌∷◌, ◌++◌, map, Bool, refl, sym, ap, subst, inl, inr}
use Rattle.std.specs.Prelude.{◌⊎◌, ℤ, FitsSigned}
use Rattle.std.specs.Int.{w32}
use Rattle.std.specs.Str.{is_utf8}
use Rattle.std.specs.List.{AllByRecursion}
use Rattle.bson_value.specs.declared.value.Value.{Value, Value-F, every-Value, every_made-Value}
use Rattle.bson_value.specs.declared.value.Value.TheVariants.{Object, Bool as Truth, Int, rolls-Object, rolls-Bool, rolls-Int}
use Rattle.bson_value.specs.WellFormed.{IsName, IsWellFormedLevel, IsWellFormed}
use Rattle.entry_model.specs.Distinct.{DistinctIn, AllDistinct}
use Rattle.entry_model.specs.Edits.{In}
use Rattle.entry_model.specs.Written.{section}
use Rattle.entry_model.proofs.Lists.{in_either}
use Rattle.update_records.proofs.Levels.{Fields, both_hold}

-- one level, whose names may stand twice
abbrev pub IsSoundLevel : Value-F Value → Type 0
IsSoundLevel (Value-F.Object fs) = AllByRecursion (λ e. IsName e.0) fs
IsSoundLevel (Value-F.ScopedCode t fs) = (is_utf8 t ≡ true) × AllByRecursion (λ e. IsName e.0) fs
IsSoundLevel x = IsWellFormedLevel x

abbrev pub IsSound : Value → Type 0
IsSound v = every-Value IsSoundLevel v

level_distinct : (x : Value-F Value) → IsWellFormedLevel x → IsWellFormedLevel x → DistinctIn x
level_distinct (Value-F.Object fs) k h = k.0
level_distinct (Value-F.ScopedCode t fs) k h = k.1.0
level_distinct _ k h = tt

level_sound : (x : Value-F Value) → IsWellFormedLevel x → IsWellFormedLevel x → IsSoundLevel x
level_sound (Value-F.Object fs) k h = k.1
level_sound (Value-F.ScopedCode t fs) k h = (k.0, k.1.1)
level_sound _ k h = k

level_formed : (x : Value-F Value) → DistinctIn x → IsSoundLevel x → IsWellFormedLevel x
level_formed (Value-F.Object fs) d k = (d, k)
level_formed (Value-F.ScopedCode t fs) d k = (k.0, (d, k.1))
level_formed _ d k = k

pub formed_distinct : (v : Value) → IsWellFormed v → AllDistinct v
formed_distinct v k = both_hold IsWellFormedLevel IsWellFormedLevel DistinctIn level_distinct v k k

pub formed_sound : (v : Value) → IsWellFormed v → IsSound v
formed_sound v k = both_hold IsWellFormedLevel IsWellFormedLevel IsSoundLevel level_sound v k k

pub sound_formed : (v : Value) → AllDistinct v → IsSound v → IsWellFormed v
sound_formed v d k = both_hold DistinctIn IsSoundLevel IsWellFormedLevel level_formed v d k

-- ---- fields

abbrev pub SoundFields : Fields → Type 0
SoundFields fs = (f : List ℕ × Value) → In f fs → IsName f.0 × IsSound f.1

abbrev SoundHeld : Type 0
SoundHeld = (v : Value) × IsSound v

abbrev on_first : List ℕ × SoundHeld → List ℕ × Value
on_first e = (e.0, e.1.0)

names_sound : (fs : Fields) → SoundFields fs → AllByRecursion (λ e. IsName e.0) fs
names_sound [] h = tt
names_sound (f ∷ fs) h = ((h f (inl refl)).0, names_sound fs (λ g i. h g (inr i)))

held_sound : (fs : Fields) → SoundFields fs → (ys : List (List ℕ × SoundHeld)) × (map on_first ys ≡ fs)
held_sound [] h = ([], refl)
held_sound (f ∷ fs) h =
    let r = held_sound fs (λ g i. h g (inr i)) in
    ((f.0, (f.1, (h f (inl refl)).1)) ∷ r.0, ap (λ (l : Fields). f ∷ l) r.1)

pub sound_object : (fs : Fields) → SoundFields fs → IsSound (Object fs)
sound_object fs h =
    let r = held_sound fs h in
    subst IsSound (rolls-Object fs) (every_made-Value IsSoundLevel (Value-F.Object fs) (Value-F.Object r.0) (ap (λ (l : Fields). Value-F.Object l) r.1) (names_sound fs h))

pub sound_truth : (b : Bool) → IsSound (Truth b)
sound_truth b = subst IsSound (rolls-Bool b) (every_made-Value IsSoundLevel (Value-F.Bool b) (Value-F.Bool b) refl tt)

pub sound_int : (z : ℤ) → FitsSigned w32 z → IsSound (Int z)
sound_int z k = subst IsSound (rolls-Int z) (every_made-Value IsSoundLevel (Value-F.Int z) (Value-F.Int z) refl k)

pub sound_none : SoundFields []
sound_none f i = absurd i

pub sound_next : (k : List ℕ) (v : Value) (fs : Fields) → IsName k → IsSound v → SoundFields fs → SoundFields ((k, v) ∷ fs)
sound_next k v fs n s h f (inl e) = subst (λ (g : List ℕ × Value). IsName g.0 × IsSound g.1) (sym e) (n, s)
sound_next k v fs n s h f (inr i) = h f i

pub sound_append : (xs ys : Fields) → SoundFields xs → SoundFields ys → SoundFields (xs ++ ys)
sound_append xs ys h g f i = by (in_either xs ys f i)
  where
    by : In f xs ⊎ In f ys → IsName f.0 × IsSound f.1
    by (inl a) = h f a
    by (inr b) = g f b

pub sound_section : (k : List ℕ) (fs : Fields) → IsName k → SoundFields fs → SoundFields (section k fs)
sound_section k [] n h = sound_none
sound_section k (f ∷ fs) n h = sound_next k (Object (f ∷ fs)) [] n (sound_object (f ∷ fs) h) sound_none
