-- Plain numbers become wrappers once: the tree with wrappers stays as it is.
use Rattle.std.proofs.Common.{◌≡◌, ℕ, List, [], ◌∷◌, map, Bool as Truth, true, false, cond, Option, Some, None, Ok, Err, refl, sym, ap, ◌∙◌, subst, inl, inr}
use Rattle.std.specs.Prelude.{ℤ, codes, is_ok, if◌then◌else◌}
use Rattle.std.specs.Str.{bytes_eq}
use Rattle.std.proofs.lemmas.Bool.{cases_Bool}
use Rattle.bson_value.specs.declared.value.Value.{Value}
use Rattle.bson_value.specs.declared.value.Value.TheVariants as values
use Rattle.json_tree.specs.declared.tree.Tree.{Tree, Tree-F, out-Tree, roll-Tree, roll-out-Tree, map-Tree, ind-Tree}
use Rattle.json_tree.specs.declared.tree.Tree.TheVariants as trees
use Rattle.extjson.specs.declared.wrapper.Wrapper.{Wrapper}
use Rattle.extjson.specs.declared.wrapper.Wrapper.TheVariants as wrappers
use Rattle.extjson.specs.Wrappers.{wrapper_of, outermost_names}
use Rattle.extjson.specs.Numbers.{is_whole, whole_number, in_range}
use Rattle.extjson.specs.Trees.{int_tree, long_tree}
use Rattle.extjson.specs.declared.fault.ExtFault.{ExtFault}
use Rattle.extjson.specs.declared.fault.ExtFault.TheVariants as faults
use Rattle.extjson.specs.Values.{◌>>=◌, Read, whole, counted, number_at, number_of, members_at, members_of, both, either_way, stamp_value, key_value, plain_value, whole_value}
use Rattle.extjson.specs.Plain.{is_told, has_plain_parts, number_tree, wrapped_numbers, wrapped_items, wrapped_fields}
use Rattle.extjson.proofs.Wrapping.{wrapped_null, wrapped_bool, wrapped_number, wrapped_str, wrapped_list, told_object, other_object, number_int, number_long}

-- ---- numbers

pub data Plain (t : List ℕ) : Type 0 where
  an_int : (z : ℤ) → number_tree t ≡ int_tree z → Plain t
  a_long : (z : ℤ) → number_tree t ≡ long_tree z → Plain t
  as_it_is : number_tree t ≡ trees.Number t → Plain t

pub not_whole : (t : List ℕ) → is_whole t ≡ false → number_tree t ≡ trees.Number t
unfolding number_tree plain_value
not_whole t h = rw h refl

pub too_far : (t : List ℕ) → is_whole t ≡ true → None ≡ in_range 2147483648 (whole_number t) → None ≡ in_range 9223372036854775808 (whole_number t) → number_tree t ≡ trees.Number t
unfolding number_tree plain_value whole_value
too_far t h q r = rw (h, ← q, ← r) refl

by_range : (t : List ℕ) → is_whole t ≡ true → (a b : Option ℤ) → a ≡ in_range 2147483648 (whole_number t) → b ≡ in_range 9223372036854775808 (whole_number t) → Plain t
by_range t h (Some n) b q r = an_int _ (number_int t n h q)
by_range t h None (Some n) q r = a_long _ (number_long t n h q r)
by_range t h None None q r = as_it_is (too_far t h q r)

pub plain : (t : List ℕ) → Plain t
plain t = elim (cases_Bool (is_whole t)) [ inl h ↦ by_range t h _ _ refl refl | inr h ↦ as_it_is (not_whole t h) ]

-- a wrapper of a string whose name isn't one of those with plain numbers
string_wrapper : (name s : List ℕ) → has_plain_parts ((name, trees.Str s) ∷ []) ≡ false → wrapped_numbers (trees.Object ((name, trees.Str s) ∷ [])) ≡ trees.Object ((name, trees.Str s) ∷ [])
string_wrapper name s h = other_object _ h ∙ ap (λ (t : Tree). trees.Object ((name, t) ∷ [])) (wrapped_str s)

wrapped_int : (z : ℤ) → wrapped_numbers (int_tree z) ≡ int_tree z
unfolding int_tree has_plain_parts wrapper_of outermost_names
wrapped_int z = string_wrapper _ _ refl

wrapped_long : (z : ℤ) → wrapped_numbers (long_tree z) ≡ long_tree z
unfolding long_tree has_plain_parts wrapper_of outermost_names
wrapped_long z = string_wrapper _ _ refl

number_twice : (t : List ℕ) → Plain t → wrapped_numbers (number_tree t) ≡ number_tree t
number_twice t (an_int z e) = ap wrapped_numbers e ∙ (wrapped_int z ∙ sym e)
number_twice t (a_long z e) = ap wrapped_numbers e ∙ (wrapped_long z ∙ sym e)
number_twice t (as_it_is e) = ap wrapped_numbers e ∙ wrapped_number t

-- ---- a wrapper with plain numbers is one before, if it is one after

abbrev Same : {A : Type 0} → Read A → Read A → Type 0
Same {A} after before = (x : A) → after ≡ Ok x → before ≡ Ok x

-- by one level of the tree
module _ {A : Type 0} (read : Tree → Read A) where
  abbrev Stays : Tree → Type 0
  Stays t = Same (read (wrapped_numbers t)) (read t)

  stays_if : (t : Tree) → wrapped_numbers t ≡ t → Stays t
  stays_if t e x r = sym (ap read e) ∙ r

  never_if : (t : Tree) → ((x : A) → read (wrapped_numbers t) ≡ Ok x → ⊥) → Stays t
  never_if t n x r = absurd (n x r)

not_ok : {A : Type 0} (r : Read A) → is_ok r ≡ false → (x : A) → r ≡ Ok x → ⊥
not_ok r e x f = let g : is_ok r ≡ true = ap is_ok f in cc

number_of_object : (es : List (List ℕ × Tree)) → is_ok (number_of (trees.Object es)) ≡ false
unfolding number_of
number_of_object es = ap (λ (f : Tree-F Tree). is_ok (number_at f)) (trees.outs-Object es)

number_of_items : (ts : List Tree) → is_ok (number_of (trees.Items ts)) ≡ false
unfolding number_of
number_of_items ts = ap (λ (f : Tree-F Tree). is_ok (number_at f)) (trees.outs-Items ts)

number_of_int : (z : ℤ) → is_ok (number_of (int_tree z)) ≡ false
unfolding int_tree
number_of_int z = number_of_object _

number_of_long : (z : ℤ) → is_ok (number_of (long_tree z)) ≡ false
unfolding long_tree
number_of_long z = number_of_object _

from_wrapped : {A : Type 0} (read : Tree → Read A) (t u : Tree) → wrapped_numbers t ≡ u → is_ok (read u) ≡ false → Stays read t
from_wrapped read t u e n = never_if read t (λ x r. not_ok (read u) n x (sym (ap read e) ∙ r))

by_number : {A : Type 0} (read : Tree → Read A) → ((z : ℤ) → is_ok (read (int_tree z)) ≡ false) → ((z : ℤ) → is_ok (read (long_tree z)) ≡ false) → (t : List ℕ) → Plain t → Stays read (trees.Number t)
by_number read i l t (an_int z e) = from_wrapped read _ _ (wrapped_number t ∙ e) (i z)
by_number read i l t (a_long z e) = from_wrapped read _ _ (wrapped_number t ∙ e) (l z)
by_number read i l t (as_it_is e) = stays_if read _ (wrapped_number t ∙ e)

object_number : (es : List (List ℕ × Tree)) → Stays number_of (trees.Object es)
object_number es =
    elim (cases_Bool (has_plain_parts es)) [
      | inl h ↦ stays_if number_of _ (told_object es h)
      | inr h ↦ from_wrapped number_of _ _ (other_object es h) (number_of_object _)
    ]

number_in : (f : Tree-F Tree) → Stays number_of (roll-Tree f)
number_in Tree-F.Null = subst (Stays number_of) (sym trees.rolls-Null) (stays_if number_of _ wrapped_null)
number_in (Tree-F.Bool b) = subst (Stays number_of) (sym (trees.rolls-Bool b)) (stays_if number_of _ (wrapped_bool b))
number_in (Tree-F.Str t) = subst (Stays number_of) (sym (trees.rolls-Str t)) (stays_if number_of _ (wrapped_str t))
number_in (Tree-F.Number t) = subst (Stays number_of) (sym (trees.rolls-Number t)) (by_number number_of number_of_int number_of_long t (plain t))
number_in (Tree-F.Items ts) = subst (Stays number_of) (sym (trees.rolls-Items ts)) (from_wrapped number_of _ _ (wrapped_list ts) (number_of_items _))
number_in (Tree-F.Object es) = subst (Stays number_of) (sym (trees.rolls-Object es)) (object_number es)

number_stays : (t : Tree) → Stays number_of t
number_stays t = subst (Stays number_of) (roll-out-Tree t) (number_in (out-Tree t))

-- ---- the two numbers of a timestamp

members_of_object : (es : List (List ℕ × Tree)) → members_of (trees.Object es) ≡ Ok es
unfolding members_of
members_of_object es = ap members_at (trees.outs-Object es)

-- the wrapped value under a name that reads as a number is the value
abbrev wrapped_field : List ℕ × Tree → List ℕ × Tree
wrapped_field e = (e.0, wrapped_numbers e.1)

abbrev wrapped_two : Read (Tree × Tree) → Read (Tree × Tree)
wrapped_two (Ok p) = Ok (wrapped_numbers p.0, wrapped_numbers p.1)
wrapped_two (Err e) = Err e

either_wrapped : (m n : List ℕ) (e f : List ℕ × Tree) → either_way m n (wrapped_field e) (wrapped_field f) ≡ wrapped_two (either_way m n e f)
either_wrapped m n e f = by (bytes_eq e.0 m) (bytes_eq f.0 n) (bytes_eq e.0 n) (bytes_eq f.0 m)
  where
    by : (a b c d : Truth) →
        cond a (cond b (Ok (wrapped_numbers e.1, wrapped_numbers f.1)) (Err faults.BadWrapper)) (cond c (cond d (Ok (wrapped_numbers f.1, wrapped_numbers e.1)) (Err faults.BadWrapper)) (Err faults.BadWrapper))
        ≡ wrapped_two (cond a (cond b (Ok (e.1, f.1)) (Err faults.BadWrapper)) (cond c (cond d (Ok (f.1, e.1)) (Err faults.BadWrapper)) (Err faults.BadWrapper)))
    by true true c d = refl
    by true false c d = refl
    by false b true true = refl
    by false b true false = refl
    by false b false d = refl

both_wrapped : (m n : List ℕ) (es : List (List ℕ × Tree)) → both m n (wrapped_fields es) ≡ wrapped_two (both m n es)
unfolding both
both_wrapped m n [] = refl
both_wrapped m n (e ∷ []) = refl
both_wrapped m n (e ∷ f ∷ []) = either_wrapped m n e f
both_wrapped m n (e ∷ f ∷ g ∷ es) = refl

-- the rest of a timestamp's reading
abbrev stamped : Read (List ℕ) → Read (List ℕ) → Read Value
stamped m n = m >>= whole >>= λ a. n >>= whole >>= λ b. counted a >>= λ secs. counted b >>= λ inc. Ok (values.Stamp (record { secs = secs; inc = inc }))

abbrev stamped_two : Read (Tree × Tree) → Read Value
stamped_two r = r >>= λ p. stamped (number_of p.0) (number_of p.1)

second_fails : (r : Read (List ℕ)) (e : ExtFault) → is_ok (r >>= λ a. stamped (Ok a) (Err e)) ≡ false
second_fails (Err f) e = refl
second_fails (Ok a) e = by (whole a)
  where
    by : (w : Read (List ℕ)) → is_ok (w >>= λ a. (Err e >>= whole) >>= λ b. counted a >>= λ secs. counted b >>= λ inc. Ok (values.Stamp (record { secs = secs; inc = inc }))) ≡ false
    by (Ok x) = refl
    by (Err f) = refl

stamped_stays : (m n after_m after_n : Read (List ℕ)) → Same after_m m → Same after_n n → is_ok (stamped after_m after_n) ≡ true → stamped after_m after_n ≡ stamped m n
stamped_stays m n (Err e) an h k ok = cc
stamped_stays m n (Ok x) (Err e) h k ok = let f = second_fails (Ok x) e in absurd (different f ok)
  where
    different : {b : Truth} → b ≡ false → b ≡ true → ⊥
    different p q = let r : true ≡ false = sym q ∙ p in cc
stamped_stays m n (Ok x) (Ok y) h k ok = λ i. stamped (sym (h x refl) i) (sym (k y refl) i)

two_stay : (r : Read (Tree × Tree)) → is_ok (stamped_two (wrapped_two r)) ≡ true → is_ok (stamped_two r) ≡ true
two_stay (Err e) ok = cc
two_stay (Ok p) ok = sym (ap is_ok (stamped_stays (number_of p.0) (number_of p.1) (number_of (wrapped_numbers p.0)) (number_of (wrapped_numbers p.1)) (number_stays p.0) (number_stays p.1) ok)) ∙ ok

abbrev Fine : (Tree → Read Value) → Tree → Type 0
Fine read t = is_ok (read (wrapped_numbers t)) ≡ true → is_ok (read t) ≡ true

fine_if : (read : Tree → Read Value) (t : Tree) → wrapped_numbers t ≡ t → Fine read t
fine_if read t e ok = sym (ap (λ (u : Tree). is_ok (read u)) e) ∙ ok

never_fine : (read : Tree → Read Value) (t u : Tree) → wrapped_numbers t ≡ u → is_ok (read u) ≡ false → Fine read t
never_fine read t u e n ok = let f : false ≡ true = sym n ∙ (sym (ap (λ (w : Tree). is_ok (read w)) e) ∙ ok) in cc

stamp_of_object : (es : List (List ℕ × Tree)) → stamp_value (trees.Object es) ≡ stamped_two (both (codes "t") (codes "i") es)
unfolding stamp_value
stamp_of_object es = ap (λ (r : Read (List (List ℕ × Tree))). stamped_two (r >>= both (codes "t") (codes "i"))) (members_of_object es)

stamp_of_items : (ts : List Tree) → is_ok (stamp_value (trees.Items ts)) ≡ false
unfolding stamp_value members_of
stamp_of_items ts = ap (λ (f : Tree-F Tree). is_ok (stamped_two (members_at f >>= both (codes "t") (codes "i")))) (trees.outs-Items ts)

stamp_of_one : (e : List ℕ × Tree) → is_ok (stamp_value (trees.Object (e ∷ []))) ≡ false
unfolding both
stamp_of_one e = ap is_ok (stamp_of_object (e ∷ []))

stamp_of_int : (z : ℤ) → is_ok (stamp_value (int_tree z)) ≡ false
unfolding int_tree
stamp_of_int z = stamp_of_one _

stamp_of_long : (z : ℤ) → is_ok (stamp_value (long_tree z)) ≡ false
unfolding long_tree
stamp_of_long z = stamp_of_one _

fine_number : (read : Tree → Read Value) → ((z : ℤ) → is_ok (read (int_tree z)) ≡ false) → ((z : ℤ) → is_ok (read (long_tree z)) ≡ false) → (t : List ℕ) → Plain t → Fine read (trees.Number t)
fine_number read i l t (an_int z e) = never_fine read _ _ (wrapped_number t ∙ e) (i z)
fine_number read i l t (a_long z e) = never_fine read _ _ (wrapped_number t ∙ e) (l z)
fine_number read i l t (as_it_is e) = fine_if read _ (wrapped_number t ∙ e)

other_stamp : (es : List (List ℕ × Tree)) → has_plain_parts es ≡ false → Fine stamp_value (trees.Object es)
other_stamp es h ok =
    let after : stamp_value (wrapped_numbers (trees.Object es)) ≡ stamped_two (wrapped_two (both (codes "t") (codes "i") es)) =
    ap stamp_value (other_object es h) ∙ (stamp_of_object (wrapped_fields es) ∙ ap stamped_two (both_wrapped (codes "t") (codes "i") es)) in
    ap is_ok (stamp_of_object es) ∙ two_stay (both (codes "t") (codes "i") es) (sym (ap is_ok after) ∙ ok)

stamp_in : (f : Tree-F Tree) → Fine stamp_value (roll-Tree f)
stamp_in Tree-F.Null = subst (Fine stamp_value) (sym trees.rolls-Null) (fine_if stamp_value _ wrapped_null)
stamp_in (Tree-F.Bool b) = subst (Fine stamp_value) (sym (trees.rolls-Bool b)) (fine_if stamp_value _ (wrapped_bool b))
stamp_in (Tree-F.Str t) = subst (Fine stamp_value) (sym (trees.rolls-Str t)) (fine_if stamp_value _ (wrapped_str t))
stamp_in (Tree-F.Number t) = subst (Fine stamp_value) (sym (trees.rolls-Number t)) (fine_number stamp_value stamp_of_int stamp_of_long t (plain t))
stamp_in (Tree-F.Items ts) = subst (Fine stamp_value) (sym (trees.rolls-Items ts)) (never_fine stamp_value _ _ (wrapped_list ts) (stamp_of_items _))
stamp_in (Tree-F.Object es) = subst (Fine stamp_value) (sym (trees.rolls-Object es))
    (elim (cases_Bool (has_plain_parts es)) [ inl h ↦ fine_if stamp_value _ (told_object es h) | inr h ↦ other_stamp es h ])

stamp_stays : (t : Tree) → Fine stamp_value t
stamp_stays t = subst (Fine stamp_value) (roll-out-Tree t) (stamp_in (out-Tree t))

-- ---- the number of a key

abbrev keyed : Value → Read (List ℕ) → Read Value
keyed key r = r >>= λ n. if bytes_eq n (codes "1") then Ok key else Err faults.BadWrapper

keyed_stays : (key : Value) (after before : Read (List ℕ)) → Same after before → is_ok (keyed key after) ≡ true → is_ok (keyed key before) ≡ true
keyed_stays key (Err e) before h ok = cc
keyed_stays key (Ok x) before h ok = ap (λ (r : Read (List ℕ)). is_ok (keyed key r)) (h x refl) ∙ ok

key_stays : (key : Value) (t : Tree) → Fine (key_value key) t
unfolding key_value
key_stays key t ok = keyed_stays key (number_of (wrapped_numbers t)) (number_of t) (number_stays t) ok

-- ---- the whole tree

not_true : (a b : Truth) → (a ≡ true → b ≡ true) → b ≡ false → a ≡ false
not_true true b f e = let g : true ≡ false = sym (f refl) ∙ e in cc
not_true false b f e = refl

untold : (w : Option Wrapper) (t : Tree) → is_told w t ≡ false → is_told w (wrapped_numbers t) ≡ false
untold (Some wrappers.Stamp) t h = not_true _ _ (stamp_stays t) h
untold (Some wrappers.MinKey) t h = not_true _ _ (key_stays values.MinKey t) h
untold (Some wrappers.MaxKey) t h = not_true _ _ (key_stays values.MaxKey t) h
untold None t h = refl
untold _ t h = refl

no_parts : (es : List (List ℕ × Tree)) → has_plain_parts es ≡ false → has_plain_parts (wrapped_fields es) ≡ false
unfolding has_plain_parts
no_parts [] h = refl
no_parts (e ∷ []) h = untold (wrapper_of e.0) e.1 h
no_parts (e ∷ f ∷ es) h = refl

abbrev Once : Tree → Type 0
Once t = wrapped_numbers (wrapped_numbers t) ≡ wrapped_numbers t

abbrev Proved : Type 0
Proved = (t : Tree) × Once t

abbrev on_first : List ℕ × Proved → List ℕ × Tree
on_first e = (e.0, e.1.0)

abbrev first_of : Tree-F Proved → Tree-F Tree
first_of y = map-Tree Proved Tree (λ (p : Proved). p.0) y

items_once : (ys : List Proved) → wrapped_items (wrapped_items (map (λ (p : Proved). p.0) ys)) ≡ wrapped_items (map (λ (p : Proved). p.0) ys)
items_once [] = refl
items_once (y ∷ ys) = λ i. y.1 i ∷ items_once ys i

fields_once : (ys : List (List ℕ × Proved)) → wrapped_fields (wrapped_fields (map on_first ys)) ≡ wrapped_fields (map on_first ys)
fields_once [] = refl
fields_once (y ∷ ys) = λ i. (y.0, y.1.1 i) ∷ fields_once ys i

object_once : (es : List (List ℕ × Tree)) → wrapped_fields (wrapped_fields es) ≡ wrapped_fields es → Once (trees.Object es)
object_once es again =
    elim (cases_Bool (has_plain_parts es)) [
      | inl h ↦ ap wrapped_numbers (told_object es h)
      | inr h ↦ ap wrapped_numbers (other_object es h) ∙ (other_object (wrapped_fields es) (no_parts es h) ∙ (ap (λ (l : List (List ℕ × Tree)). trees.Object l) again ∙ sym (other_object es h)))
    ]

one_level : (y : Tree-F Proved) → Once (roll-Tree (first_of y))
one_level Tree-F.Null = subst Once (sym trees.rolls-Null) (ap wrapped_numbers wrapped_null)
one_level (Tree-F.Bool b) = subst Once (sym (trees.rolls-Bool b)) (ap wrapped_numbers (wrapped_bool b))
one_level (Tree-F.Str t) = subst Once (sym (trees.rolls-Str t)) (ap wrapped_numbers (wrapped_str t))
one_level (Tree-F.Number t) = subst Once (sym (trees.rolls-Number t)) (ap wrapped_numbers (wrapped_number t) ∙ (number_twice t (plain t) ∙ sym (wrapped_number t)))
one_level (Tree-F.Items ys) = subst Once (sym (trees.rolls-Items _)) (ap wrapped_numbers (wrapped_list _) ∙ (wrapped_list _ ∙ (ap (λ (l : List Tree). trees.Items l) (items_once ys) ∙ sym (wrapped_list _))))
one_level (Tree-F.Object ys) = subst Once (sym (trees.rolls-Object _)) (object_once _ (fields_once ys))

once_step : (x : Tree-F Tree) (y : Tree-F Proved) → first_of y ≡ x → Once (roll-Tree x)
once_step x y is = subst (λ (z : Tree-F Tree). Once (roll-Tree z)) is (one_level y)

pub wrapped_once : (t : Tree) → wrapped_numbers (wrapped_numbers t) ≡ wrapped_numbers t
wrapped_once t = ind-Tree Once once_step t
