-- What ordering makes of each kind of value.
use Rattle.std.proofs.Common.{◌≡◌, ℕ, zero, suc, ◌+◌, ◌<◌, ◌≤◌, List, [], ◌∷◌, ◌++◌, length, map, take, drop, get_or, slice_set, refl, sym, ap, subst, ◌∙◌, arith}
use Rattle.bson_value.specs.declared.value.Value.{Value, Value-F, out-Value, roll-Value, roll-out-Value, fold-roll-Value}
use Rattle.bson_value.specs.declared.value.Value.TheVariants.{Object, Array, ScopedCode, rolls-Object, rolls-Array, rolls-ScopedCode}
use Rattle.containers.specs.Entries.{names_of}
use Rattle.bson_value.specs.Alike.{by_name, ordered_step, ordered, ordered_fields}

abbrev Fields : Type 0
Fields = List (List ℕ × Value)

pub ordered-Object : (fs : Fields) → ordered (Object fs) ≡ Object (by_name (ordered_fields fs))
unfolding ordered
ordered-Object fs = ap (λ (v : Value). ordered v) (sym (rolls-Object fs)) ∙ (fold-roll-Value Value ordered_step (Value-F.Object fs) ∙ rolls-Object (by_name (ordered_fields fs)))

pub ordered-ScopedCode : (t : List ℕ) (fs : Fields) → ordered (ScopedCode t fs) ≡ ScopedCode t (by_name (ordered_fields fs))
unfolding ordered
ordered-ScopedCode t fs = ap (λ (v : Value). ordered v) (sym (rolls-ScopedCode t fs)) ∙ (fold-roll-Value Value ordered_step (Value-F.ScopedCode t fs) ∙ rolls-ScopedCode t (by_name (ordered_fields fs)))

pub ordered-Array : (vs : List Value) → ordered (Array vs) ≡ Array (map ordered vs)
unfolding ordered
ordered-Array vs = ap (λ (v : Value). ordered v) (sym (rolls-Array vs)) ∙ (fold-roll-Value Value ordered_step (Value-F.Array vs) ∙ rolls-Array (map ordered vs))

leaf_in : (a : Value) (f : Value-F Value) → roll-Value f ≡ a → ((fs : Fields) → a ≡ Object fs → ⊥) → ((vs : List Value) → a ≡ Array vs → ⊥) → ((t : List ℕ) (fs : Fields) → a ≡ ScopedCode t fs → ⊥) → ordered (roll-Value f) ≡ roll-Value f
unfolding ordered
leaf_in a (Value-F.Object fs) e o v c = absurd (o fs (sym e ∙ rolls-Object fs))
leaf_in a (Value-F.Array vs) e o v c = absurd (v vs (sym e ∙ rolls-Array vs))
leaf_in a (Value-F.ScopedCode t fs) e o v c = absurd (c t fs (sym e ∙ rolls-ScopedCode t fs))
leaf_in a (Value-F.Null) e o v c = fold-roll-Value Value ordered_step Value-F.Null
leaf_in a f e o v c = fold-roll-Value Value ordered_step f

pub ordered_leaf : (a : Value) → ((fs : Fields) → a ≡ Object fs → ⊥) → ((vs : List Value) → a ≡ Array vs → ⊥) → ((t : List ℕ) (fs : Fields) → a ≡ ScopedCode t fs → ⊥) → ordered a ≡ a
ordered_leaf a o v c = subst (λ (b : Value). ordered b ≡ b) (roll-out-Value a) (leaf_in a (out-Value a) (roll-out-Value a) o v c)

-- names stay
pub names-ordered_fields : (fs : Fields) → names_of (ordered_fields fs) ≡ names_of fs
names-ordered_fields [] = refl
names-ordered_fields (f ∷ fs) = ap (λ (ns : List (List ℕ)). f.0 ∷ ns) (names-ordered_fields fs)

-- one more of a list is mapped, in its place
pub set_mapped : {A : Type 0} (h : A → A) (old : List A) (i : ℕ) (d x v : A) → i < length old → x ≡ get_or (map h (take i old) ++ drop i old) i x → v ≡ h x
    → slice_set (slice_set (map h (take i old) ++ drop i old) i d) i v ≡ map h (take (suc i) old) ++ drop (suc i) old
set_mapped h [] i d x v l e f = absurd (omega arith)
set_mapped h (w ∷ ws) zero d x v l e f = ap (λ y. y ∷ ws) (f ∙ ap h e)
set_mapped h (w ∷ ws) (suc i) d x v l e f = ap (λ ys. h w ∷ ys) (set_mapped h ws i d x v (omega arith) e f)

pub set_mapped_next : {A : Type 0} (h : A → A) (old xs : List A) (i : ℕ) (d x v : A) → i < length old → xs ≡ map h (take i old) ++ drop i old → x ≡ get_or xs i x → v ≡ h x
    → slice_set (slice_set xs i d) i v ≡ map h (take (i + 1) old) ++ drop (i + 1) old
set_mapped_next h old xs i d x v l so e f =
    let n : suc i ≡ i + 1 = omega arith in
    subst (λ ys. slice_set (slice_set ys i d) i v ≡ map h (take (i + 1) old) ++ drop (i + 1) old) (sym so)
    (subst (λ m. slice_set (slice_set (map h (take i old) ++ drop i old) i d) i v ≡ map h (take m old) ++ drop m old) n
    (set_mapped h old i d x v l (subst (λ ys. x ≡ get_or ys i x) so e) f))

pub read_set : {A : Type 0} (xs : List A) (i : ℕ) (d x y : A) → i < length xs → x ≡ get_or (slice_set xs i d) i y → x ≡ d
read_set [] i d x y l e = absurd (omega arith)
read_set (w ∷ ws) zero d x y l e = e
read_set (w ∷ ws) (suc i) d x y l e = read_set ws i d x y (omega arith) e

pub length-mapped : {A : Type 0} (h : A → A) (old : List A) (i : ℕ) → length (map h (take i old) ++ drop i old) ≡ length old
length-mapped h [] zero = refl
length-mapped h [] (suc i) = refl
length-mapped h (w ∷ ws) zero = refl
length-mapped h (w ∷ ws) (suc i) = ap suc (length-mapped h ws i)

-- all of them are mapped
pub all_mapped : {A : Type 0} (h : A → A) (old : List A) (i : ℕ) → length old ≤ i → map h (take i old) ++ drop i old ≡ map h old
all_mapped h [] zero l = refl
all_mapped h [] (suc i) l = refl
all_mapped h (w ∷ ws) zero l = absurd (omega arith)
all_mapped h (w ∷ ws) (suc i) l = ap (λ ys. h w ∷ ys) (all_mapped h ws i (omega arith))
