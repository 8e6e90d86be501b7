-- The value of a tree by the values of its parts.
use Rattle.extjson.proofs.Recursions.{by_parts-roll}
use denote.Param.Weighed.{most}
use Rattle.std.proofs.Common.{◌≡◌, ℕ, ◌<◌, ◌≤◌, max, length, get_or, arith, Bool as Truth, true, false, cond, List, [], ◌∷◌, Ok, Err, refl, sym, ap, ◌∙◌}
use Rattle.std.specs.Prelude.{map, codes}
use Rattle.std.specs.Str.{bytes_eq}
use Rattle.json_tree.specs.declared.tree.Tree.{Tree, Tree-F, roll-Tree, map-Tree, size-Tree}
use Rattle.json_tree.specs.declared.tree.Tree.TheVariants as trees
use Rattle.bson_value.specs.declared.value.Value.{Value}
use Rattle.bson_value.specs.declared.value.Value.TheVariants as values
use Rattle.extjson.specs.declared.fault.ExtFault.TheVariants.{BadWrapper}
use Rattle.extjson.specs.Values.{Read, ◌>>=◌, Part, value_step, value_of, read_part, parts_of, items_value, fields_value, plain_value, object_value, wrapper_value, scoped_value, scope_of, string_of, wrapped_value, both, has_wrapper}
use Rattle.extjson.specs.Wrappers.{wrapper_of}

-- one level of a tree, where its parts are read
pub value_roll : (x : Tree-F Tree) → value_of (roll-Tree x) ≡ value_step (map-Tree Tree Part read_part x)
unfolding value_of
value_roll x = by_parts-roll value_step x

read_items : (ts : List Tree) → map (λ (p : Part). p.1) (map read_part ts) ≡ map value_of ts
read_items [] = refl
read_items (t ∷ ts) = ap (λ (rs : List (Read Value)). value_of t ∷ rs) (read_items ts)

pub value_items : (ts : List Tree) → value_of (trees.Items ts) ≡ (items_value (map value_of ts) >>= λ vs. Ok (values.Array vs))
value_items ts =
    ap value_of (sym (trees.rolls-Items ts)) ∙ value_roll (Tree-F.Items ts)
    ∙ ap (λ (rs : List (Read Value)). items_value rs >>= λ vs. Ok (values.Array vs)) (read_items ts)

pub value_object : (es : List (List ℕ × Tree)) → value_of (trees.Object es) ≡ object_value (parts_of es)
value_object es = ap value_of (sym (trees.rolls-Object es)) ∙ value_roll (Tree-F.Object es)

pub value_null : value_of trees.Null ≡ Ok values.Null
value_null = ap value_of (sym trees.rolls-Null) ∙ value_roll Tree-F.Null

pub value_bool : (b : Truth) → value_of (trees.Bool b) ≡ Ok (values.Bool b)
value_bool b = ap value_of (sym (trees.rolls-Bool b)) ∙ value_roll (Tree-F.Bool b)

pub value_number : (t : List ℕ) → value_of (trees.Number t) ≡ plain_value t
value_number t = ap value_of (sym (trees.rolls-Number t)) ∙ value_roll (Tree-F.Number t)

pub value_str : (t : List ℕ) → value_of (trees.Str t) ≡ Ok (values.Str t)
value_str t = ap value_of (sym (trees.rolls-Str t)) ∙ value_roll (Tree-F.Str t)

-- ---- members and their parts

abbrev chosen : {A : Type 0} → A → A → Truth → Truth → Truth → Truth → Read (A × A)
chosen x y a b c d = cond a (cond b (Ok (x, y)) (Err BadWrapper)) (cond c (cond d (Ok (y, x)) (Err BadWrapper)) (Err BadWrapper))

either_parts : (t u : Tree) (a b c d : Truth) → chosen (read_part t) (read_part u) a b c d ≡ (chosen t u a b c d >>= λ p. Ok (read_part p.0, read_part p.1))
either_parts t u true true c d = refl
either_parts t u true false c d = refl
either_parts t u false b true true = refl
either_parts t u false b true false = refl
either_parts t u false b false d = refl

-- what both names name, in the parts
pub both_parts : (m n : List ℕ) (es : List (List ℕ × Tree)) → both m n (parts_of es) ≡ (both m n es >>= λ p. Ok (read_part p.0, read_part p.1))
unfolding both
both_parts m n [] = refl
both_parts m n (e ∷ []) = refl
both_parts m n (e ∷ f ∷ []) = either_parts e.1 f.1 (bytes_eq e.0 m) (bytes_eq f.0 n) (bytes_eq e.0 n) (bytes_eq f.0 m)
both_parts m n (e ∷ f ∷ g ∷ es) = refl

has_wrapper_parts : (es : List (List ℕ × Tree)) → has_wrapper (parts_of es) ≡ has_wrapper es
unfolding has_wrapper
has_wrapper_parts [] = refl
has_wrapper_parts (e ∷ es) = rw (has_wrapper_parts es) refl

-- ---- objects

pub plain_object : (es : List (List ℕ × Tree)) → has_wrapper es ≡ false → object_value (parts_of es) ≡ (fields_value (parts_of es) >>= λ fs. Ok (values.Object fs))
unfolding object_value
plain_object es h = rw (has_wrapper_parts es, h) refl

pub wrapper_object : (es : List (List ℕ × Tree)) → has_wrapper es ≡ true → object_value (parts_of es) ≡ wrapper_value (parts_of es)
unfolding object_value
wrapper_object es h = rw (has_wrapper_parts es, h) refl

pub wrapper_none : (es : List (List ℕ × Tree)) → length es < 1 → wrapper_value (parts_of es) ≡ Err BadWrapper
unfolding wrapper_value
wrapper_none [] lt = refl
wrapper_none (e ∷ es) lt = absurd (omega arith)

pub wrapper_one : (es : List (List ℕ × Tree)) (e : List ℕ × Tree) → 1 ≤ length es → length es < 2 → e ≡ get_or es 0 e → wrapper_value (parts_of es) ≡ wrapped_value (wrapper_of e.0) e.1
unfolding wrapper_value
wrapper_one [] e le lt at = absurd (omega arith)
wrapper_one (f ∷ []) e le lt at = ap (λ (x : List ℕ × Tree). wrapped_value (wrapper_of x.0) x.1) (sym at)
wrapper_one (f ∷ g ∷ es) e le lt at = absurd (omega arith)

pub wrapper_two : (es : List (List ℕ × Tree)) → 2 ≤ length es → wrapper_value (parts_of es) ≡ scoped_value (parts_of es)
unfolding wrapper_value
wrapper_two [] le = absurd (omega arith)
wrapper_two (e ∷ []) le = absurd (omega arith)
wrapper_two (e ∷ f ∷ es) le = refl

-- a code with its scope, where both are there
abbrev pub scoped_pair : Tree × Tree → Read Value
scoped_pair p = string_of p.0 >>= λ code. scope_of (value_of p.1) >>= λ scope. Ok (values.ScopedCode code scope)

abbrev parts_pair : Tree × Tree → Read (Part × Part)
parts_pair p = Ok (read_part p.0, read_part p.1)

abbrev scoped_parts : Part × Part → Read Value
scoped_parts p = string_of p.0.0 >>= λ code. scope_of p.1.1 >>= λ scope. Ok (values.ScopedCode code scope)

then_read : (r : Read (Tree × Tree)) → (r >>= parts_pair >>= scoped_parts) ≡ (r >>= scoped_pair)
then_read (Ok p) = refl
then_read (Err e) = refl

pub scoped_is : (es : List (List ℕ × Tree)) → scoped_value (parts_of es) ≡ (both (codes "$code") (codes "$scope") es >>= scoped_pair)
unfolding scoped_value
scoped_is es = ap (λ (r : Read (Part × Part)). r >>= scoped_parts) (both_parts (codes "$code") (codes "$scope") es) ∙ then_read (both (codes "$code") (codes "$scope") es)

-- ---- sizes

abbrev entry_size : List ℕ × Tree → ℕ
entry_size e = max 0 (size-Tree e.1)

abbrev second_of : Read (Tree × Tree) → Tree
second_of (Ok q) = q.1
second_of (Err e) = trees.Null

chosen_size : (t u : Tree) (p : Tree × Tree) (a b c d : Truth) → chosen t u a b c d ≡ Ok p → size-Tree p.1 ≤ max (size-Tree t) (size-Tree u)
chosen_size t u p true true c d h = let e : u ≡ p.1 = ap second_of h in omega (arith, ap size-Tree e)
chosen_size t u p true false c d h = absurd cc
chosen_size t u p false b true true h = let e : t ≡ p.1 = ap second_of h in omega (arith, ap size-Tree e)
chosen_size t u p false b true false h = absurd cc
chosen_size t u p false b false d h = absurd cc

pub both_size : (m n : List ℕ) (es : List (List ℕ × Tree)) (p : Tree × Tree) → both m n es ≡ Ok p → size-Tree p.1 ≤ most entry_size es
unfolding both
both_size m n [] p h = absurd cc
both_size m n (e ∷ []) p h = absurd cc
both_size m n (e ∷ f ∷ []) p h = omega (arith, chosen_size e.1 f.1 p (bytes_eq e.0 m) (bytes_eq f.0 n) (bytes_eq e.0 n) (bytes_eq f.0 m) h)
both_size m n (e ∷ f ∷ g ∷ es) p h = absurd cc
