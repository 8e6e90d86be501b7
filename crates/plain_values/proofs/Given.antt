-- What a well-formed tree is read as.
use Rattle.std.proofs.Common.{◌≡◌, ℕ, Bool as Truth, true, false, cond, inl, inr, List, [], ◌∷◌, map, refl, sym, ap, ◌∙◌, subst, Option, Some, None, Ok, Err}
use Rattle.std.specs.Prelude.{ℤ, IfOk, codes, is_some, ◌||◌}
use Rattle.std.specs.Int.{w32, w64}
use Rattle.std.specs.List.{AllByRecursion}
use Rattle.std.proofs.lemmas.Bool.{cases_Bool}
use Rattle.containers.specs.Entries.{AreDistinct, names_of}
use Rattle.bson_value.specs.declared.value.Value.{Value, Value-F, out-Value, every-Value}
use Rattle.bson_value.specs.declared.value.Value.TheVariants as values
use Rattle.bson_value.specs.WellFormed as bson
use Rattle.bson_value.proofs.WellFormed.{IsHeldWellFormed, here_formed, held_formed}
use Rattle.json_tree.specs.declared.tree.Tree.{Tree, Tree-F, roll-Tree, map-Tree, ind-Tree}
use Rattle.json_tree.specs.declared.tree.Tree.TheVariants as trees
use Rattle.json_tree.specs.WellFormed.{AreNames, IsWellFormedLevel, IsWellFormed, AreWellFormedItems, AreWellFormedFields}
use Rattle.json_tree.proofs.WellFormed.{HoldsWellFormed, here_well, held_well}
use Rattle.json_text.proofs.FoundWell.{json_well}
use Rattle.extjson.specs.declared.fault.ExtFault.TheVariants as faults
use Rattle.extjson.specs.Numbers.{is_whole, is_within, in_range, whole_number}
use Rattle.extjson.specs.RoundTrip.{IsPlain}
use Rattle.extjson.specs.Values.{Read, ◌>>=◌, string_of, both, without_zero, whole_value, plain_value, int_or, long_or, fields_at, scope_of, items_value, fields_value, has_wrapper, object_value, wrapper_value, value_of, parts_of}
use Rattle.extjson.specs.Wrappers.{wrapper_of}
use Rattle.extjson.proofs.RoundTrips.{Holds}
use Rattle.extjson.proofs.TreeParts.{value_null, value_bool, value_number, value_str, value_items, value_object, plain_object, wrapper_object, scoped_pair, scoped_is}
use Rattle.extjson.proofs.Wholes.{within_fits}
use Rattle.plain_values.specs.Laws.{JsonIsFormed, ReadIsFormed, ReadIsPlain}
use Rattle.plain_values.proofs.Levels.{outer, inner}
use Rattle.plain_values.proofs.Parts.{next, IsText, string_text, BothAre, both_of, IsSame, zero_free}
use Rattle.plain_values.proofs.Wrapped.{IsGiven, given, wrapped_given}

pub json_formed : JsonIsFormed
json_formed text t h = (json_well text t h).0

-- ---- numbers

within : (limit : ℕ) (z : ℤ) → (o : Option ℤ) → in_range limit z ≡ o → (n : ℤ) → o ≡ Some n → is_within limit n ≡ true
unfolding in_range
within limit z o e n f = by (is_within limit z) refl (e ∙ f)
  where
    by : (b : Truth) → is_within limit z ≡ b → cond b (Some z) None ≡ Some n → is_within limit n ≡ true
    by true h g = (let q : z ≡ n = cc in subst (λ (y : ℤ). is_within limit y ≡ true) q h)
    by false h g = absurd cc

whole_given : (z : ℤ) → IfOk (whole_value z) IsGiven
unfolding whole_value
whole_given z = by (in_range 2147483648 z) refl (in_range 9223372036854775808 z) refl
  where
    by : (a : Option ℤ) → in_range 2147483648 z ≡ a → (b : Option ℤ) → in_range 9223372036854775808 z ≡ b → IfOk (int_or a (long_or b)) IsGiven
    by (Some n) e b f = given (Value-F.Int n) (values.Int n) (values.rolls-Int n) (within_fits w32 n (within 2147483648 z (Some n) e n refl)) tt tt tt
    by None e (Some n) f = given (Value-F.Long n) (values.Long n) (values.rolls-Long n) (within_fits w64 n (within 9223372036854775808 z (Some n) f n refl)) tt tt tt
    by None e None f = tt

number_given : (t : List ℕ) → IfOk (plain_value t) IsGiven
unfolding plain_value
number_given t = by (is_whole t)
  where
    by : (b : Truth) → IfOk (cond b (whole_value (whole_number t)) (Err faults.Double)) IsGiven
    by true = whole_given (whole_number t)
    by false = tt

-- ---- the induction

abbrev IsReadSo : Tree → Type 0
IsReadSo t = IsWellFormed t → IfOk (value_of t) IsGiven

abbrev Proved : Type 0
Proved = (t : Tree) × IsReadSo t

abbrev tree_in : Proved → Tree
tree_in p = p.0

abbrev on_tree : List ℕ × Proved → List ℕ × Tree
on_tree e = (e.0, e.1.0)

-- ---- arrays

abbrev AreGiven : List Value → Type 0
AreGiven vs = bson.AreWellFormedItems vs × AllByRecursion (every-Value IsPlain) vs

items_given : (ys : List Proved) → AreWellFormedItems (map tree_in ys) → IfOk (items_value (map value_of (map tree_in ys))) AreGiven
unfolding items_value
items_given [] k = (tt, tt)
items_given (y ∷ ys) k =
    next IsGiven AreGiven (value_of y.0) (λ v. items_value (map value_of (map tree_in ys)) >>= λ vs. Ok (v ∷ vs)) (y.1 k.0)
    (λ v h. next AreGiven AreGiven (items_value (map value_of (map tree_in ys))) (λ vs. Ok (v ∷ vs)) (items_given ys k.1) (λ vs g. ((h.0, g.0), (h.1, g.1))))

array_given : (ys : List Proved) → AreWellFormedItems (map tree_in ys) → IfOk (items_value (map value_of (map tree_in ys)) >>= λ vs. Ok (values.Array vs)) IsGiven
array_given ys k =
    next AreGiven IsGiven (items_value (map value_of (map tree_in ys))) (λ vs. Ok (values.Array vs)) (items_given ys k)
    (λ vs h. given (Value-F.Array vs) (values.Array vs) (values.rolls-Array vs) tt h.0 tt h.1)

-- ---- objects

-- fields under the names of a tree's members
record AreFieldsOf (es : List (List ℕ × Tree)) (fs : List (List ℕ × Value)) : Type 0 where
  same : names_of fs ≡ names_of es
  wrappers : has_wrapper fs ≡ has_wrapper es
  names : AllByRecursion (λ e. bson.IsName e.0) fs
  formed : bson.AreWellFormedFields fs
  plain : AllByRecursion (λ e. every-Value IsPlain e.1) fs

field_more : (es : List (List ℕ × Tree)) (fs : List (List ℕ × Value)) (n : List ℕ) (t : Tree) (v : Value) → bson.IsName n → IsGiven v → AreFieldsOf es fs → AreFieldsOf ((n, t) ∷ es) ((n, v) ∷ fs)
unfolding has_wrapper
field_more es fs n t v a h g =
    record {
      same = ap (λ (ns : List (List ℕ)). n ∷ ns) g.same;
      wrappers = ap (λ (b : Truth). is_some (wrapper_of n) || b) g.wrappers;
      names = (a, g.names);
      formed = (h.0, g.formed);
      plain = (h.1, g.plain);
    }

no_fields : AreFieldsOf [] []
unfolding has_wrapper
no_fields = record { same = refl; wrappers = refl; names = tt; formed = tt; plain = tt }

fields_given : (ys : List (List ℕ × Proved)) → AllByRecursion (λ e. IsText e.0) (map on_tree ys) → AreWellFormedFields (map on_tree ys) → IfOk (fields_value (parts_of (map on_tree ys))) (AreFieldsOf (map on_tree ys))
unfolding fields_value
fields_given [] u k = no_fields
fields_given (y ∷ ys) u k =
    let rest = fields_value (parts_of (map on_tree ys)) in
    next (IsSame y.0) (AreFieldsOf (map on_tree (y ∷ ys))) (without_zero y.0) (λ name. value_of y.1.0 >>= λ v. rest >>= λ fs. Ok ((name, v) ∷ fs)) (zero_free y.0 u.0)
    (λ name n. next IsGiven (AreFieldsOf (map on_tree (y ∷ ys))) (value_of y.1.0) (λ v. rest >>= λ fs. Ok ((name, v) ∷ fs)) (y.1.1 k.0)
    (λ v h. next (AreFieldsOf (map on_tree ys)) (AreFieldsOf (map on_tree (y ∷ ys))) rest (λ fs. Ok ((name, v) ∷ fs)) (fields_given ys u.1 k.1)
    (λ fs g. subst (λ (m : List ℕ). AreFieldsOf ((m, y.1.0) ∷ map on_tree ys) ((name, v) ∷ fs)) n.1 (field_more (map on_tree ys) fs name y.1.0 v n.0 h g))))

plain_given : (ys : List (List ℕ × Proved)) → has_wrapper (map on_tree ys) ≡ false → AreNames (map on_tree ys) → AreWellFormedFields (map on_tree ys)
    → IfOk (fields_value (parts_of (map on_tree ys)) >>= λ fs. Ok (values.Object fs)) IsGiven
plain_given ys w n k =
    next (AreFieldsOf (map on_tree ys)) IsGiven (fields_value (parts_of (map on_tree ys))) (λ fs. Ok (values.Object fs)) (fields_given ys n.1 k)
    (λ fs g. given (Value-F.Object fs) (values.Object fs) (values.rolls-Object fs) (subst AreDistinct (sym g.same) n.0, g.names) g.formed (g.wrappers ∙ w) g.plain)

-- ---- code with its scope

record IsScope (fs : List (List ℕ × Value)) : Type 0 where
  names : bson.AreNames fs
  formed : bson.AreWellFormedFields fs
  plain : has_wrapper fs ≡ false
  inside : AllByRecursion (λ e. every-Value IsPlain e.1) fs

scope_level : (x : Value-F Value) → bson.IsWellFormedLevel x → IsHeldWellFormed x → IsPlain x → Holds IsPlain x → IfOk (fields_at x) IsScope
scope_level (Value-F.Object fs) a b c d = record { names = a; formed = b; plain = c; inside = d }
scope_level (Value-F.Double d) a b c e = tt
scope_level (Value-F.Str t) a b c d = tt
scope_level (Value-F.Array vs) a b c d = tt
scope_level (Value-F.Binary s bs) a b c d = tt
scope_level Value-F.Undefined a b c d = tt
scope_level (Value-F.Oid id) a b c d = tt
scope_level (Value-F.Bool t) a b c d = tt
scope_level (Value-F.Date z) a b c d = tt
scope_level Value-F.Null a b c d = tt
scope_level (Value-F.Regex p o) a b c d = tt
scope_level (Value-F.DbPointer t id) a b c d = tt
scope_level (Value-F.Code t) a b c d = tt
scope_level (Value-F.Symbol t) a b c d = tt
scope_level (Value-F.ScopedCode t fs) a b c d = tt
scope_level (Value-F.Int z) a b c d = tt
scope_level (Value-F.Stamp s) a b c d = tt
scope_level (Value-F.Long z) a b c d = tt
scope_level (Value-F.Decimal e) a b c d = tt
scope_level Value-F.MinKey a b c d = tt
scope_level Value-F.MaxKey a b c d = tt

scope_given : (r : Read Value) → IfOk r IsGiven → IfOk (scope_of r) IsScope
scope_given (Ok v) h = scope_level (out-Value v) (here_formed v h.0) (held_formed v h.0) (outer IsPlain v h.1) (inner IsPlain v h.1)
scope_given (Err e) h = tt

-- a member that is well-formed, and what it is read as
abbrev IsReadMember : Tree → Type 0
IsReadMember t = IsWellFormed t × IfOk (value_of t) IsGiven

members_read : (ys : List (List ℕ × Proved)) → AreWellFormedFields (map on_tree ys) → AllByRecursion (λ e. IsReadMember e.1) (map on_tree ys)
members_read [] k = tt
members_read (y ∷ ys) k = ((k.0, y.1.1 k.0), members_read ys k.1)

pair_given : (p : Tree × Tree) → BothAre IsReadMember p → IfOk (scoped_pair p) IsGiven
pair_given p h =
    next IsText IsGiven (string_of p.0) (λ code. scope_of (value_of p.1) >>= λ scope. Ok (values.ScopedCode code scope)) (string_text p.0 h.0.0)
    (λ code u. next IsScope IsGiven (scope_of (value_of p.1)) (λ scope. Ok (values.ScopedCode code scope)) (scope_given (value_of p.1) h.1.1)
    (λ scope s. given (Value-F.ScopedCode code scope) (values.ScopedCode code scope) (values.rolls-ScopedCode code scope) (u, s.names) s.formed s.plain s.inside))

-- ---- wrappers

wrappers_given : (ys : List (List ℕ × Proved)) → AreWellFormedFields (map on_tree ys) → IfOk (wrapper_value (parts_of (map on_tree ys))) IsGiven
unfolding wrapper_value
wrappers_given [] k = tt
wrappers_given (y ∷ []) k = wrapped_given y.0 y.1.0 k.0
wrappers_given (y ∷ z ∷ ys) k =
    let es = map on_tree (y ∷ z ∷ ys) in
    subst (λ (r : Read Value). IfOk r IsGiven) (sym (scoped_is es))
    (next (BothAre IsReadMember) IsGiven (both (codes "$code") (codes "$scope") es) scoped_pair (both_of IsReadMember (codes "$code") (codes "$scope") es (members_read (y ∷ z ∷ ys) k)) pair_given)

object_given : (ys : List (List ℕ × Proved)) → AreNames (map on_tree ys) → AreWellFormedFields (map on_tree ys) → IfOk (object_value (parts_of (map on_tree ys))) IsGiven
object_given ys n k =
    let es = map on_tree ys in
    elim (cases_Bool (has_wrapper es)) [
      | inl h ↦ subst (λ (r : Read Value). IfOk r IsGiven) (sym (wrapper_object es h)) (wrappers_given ys k)
      | inr h ↦ subst (λ (r : Read Value). IfOk r IsGiven) (sym (plain_object es h)) (plain_given ys h n k)
    ]

read_as : (t : Tree) (r : Read Value) → value_of t ≡ r → IfOk r IsGiven → IfOk (value_of t) IsGiven
read_as t r e h = subst (λ (q : Read Value). IfOk q IsGiven) (sym e) h

one_level : (y : Tree-F Proved) → IsReadSo (roll-Tree (map-Tree Proved Tree tree_in y))
one_level Tree-F.Null = subst IsReadSo (sym trees.rolls-Null) (λ k. read_as _ _ value_null (given Value-F.Null values.Null values.rolls-Null tt tt tt tt))
one_level (Tree-F.Bool b) = subst IsReadSo (sym (trees.rolls-Bool b)) (λ k. read_as _ _ (value_bool b) (given (Value-F.Bool b) (values.Bool b) (values.rolls-Bool b) tt tt tt tt))
one_level (Tree-F.Str t) = subst IsReadSo (sym (trees.rolls-Str t)) (λ k. read_as _ _ (value_str t) (given (Value-F.Str t) (values.Str t) (values.rolls-Str t) (subst IsWellFormedLevel (trees.outs-Str t) (here_well (trees.Str t) k)) tt tt tt))
one_level (Tree-F.Number t) = subst IsReadSo (sym (trees.rolls-Number t)) (λ k. read_as _ _ (value_number t) (number_given t))
one_level (Tree-F.Items ys) = subst IsReadSo (sym (trees.rolls-Items _)) (λ k. read_as _ _ (value_items _) (array_given ys (subst HoldsWellFormed (trees.outs-Items _) (held_well (trees.Items _) k))))
one_level (Tree-F.Object ys) =
    subst IsReadSo (sym (trees.rolls-Object _)) (λ k. read_as _ _ (value_object _) (object_given ys (subst IsWellFormedLevel (trees.outs-Object _) (here_well (trees.Object _) k)) (subst HoldsWellFormed (trees.outs-Object _) (held_well (trees.Object _) k))))

step : (x : Tree-F Tree) (y : Tree-F Proved) → map-Tree Proved Tree (λ (p : Proved). p.0) y ≡ x → IsReadSo (roll-Tree x)
step x y e = subst (λ (z : Tree-F Tree). IsReadSo (roll-Tree z)) e (one_level y)

pub read_so : (t : Tree) → IsReadSo t
read_so t = ind-Tree IsReadSo step t

of_ok : (r : Read Value) (v : Value) → r ≡ Ok v → IfOk r IsGiven → IsGiven v
of_ok r v e h = subst (λ (q : Read Value). IfOk q IsGiven) e h

pub read_formed : ReadIsFormed
read_formed t v k e = (of_ok (value_of t) v e (read_so t k)).0

pub read_plain : ReadIsPlain
read_plain t v k e = (of_ok (value_of t) v e (read_so t k)).1
