-- What the types hold of a document holds of its keys.
use Rattle.std.proofs.Common.{◌≡◌, ℕ, zero, suc, ◌<◌, List, [], ◌∷◌, ◌++◌, map, Bool, true, false, cond, refl, sym, ◌∙◌, subst, Option, Some, None, arith}
use Rattle.std.specs.Prelude.{◌&&◌, Contains, T, length, slice_index_or}
use Rattle.std.specs.List.{flat_map, AllByRecursion}
use Rattle.std.specs.Ordering.{nat_cmp, is_lt}
use Rattle.std.specs.declared.cmp.Ordering.{Ordering}
use Rattle.std.specs.declared.cmp.Ordering.TheVariants.{Less, Equal, Greater}
use Rattle.std.specs.Cmp.{tied_itself}
use Rattle.std.specs.Cmp.Lexicographic.{slice_cmp, nat_list_cmp_total}
use Rattle.std.specs.FinMap.{entries, from_entries, entries_sorted, entries-insert}
use Rattle.std.specs.FinMap as map_of
use Rattle.std.specs.FinMap.Entries.{by_order, below_all, is_sorted}
use Rattle.std.specs.Str.{bytes_eq}
use Rattle.bson_value.specs.declared.value.Value.{Value, Value-F, Object, out-Value, roll-Value, out-roll-Value, fold-roll-Value, map-Value, ind-Value}
use Rattle.bson_value.specs.declared.value.Value.TheVariants.{rolls-Object, rolls-Array, rolls-ScopedCode}
use Rattle.containers.specs.Entries.{lookup, IsAbsent, AreDistinct, names_of}
use Rattle.bson_value.specs.Alike.{by_name, ordered_step, ordered}
use Rattle.bson_value.specs.WellFormed.{IsName}
use Rattle.bson_value.specs.WellFormed.{IsWellFormedLevel, IsWellFormed, AreWellFormedItems, AreWellFormedFields, IsWellFormedDocument}
use Rattle.bson_value.proofs.WellFormed.{IsHeldWellFormed, held_formed, here_formed, formed_object, formed_scoped, formed_array, formed_null}
use Rattle.index_keys.specs.Branches.{Path, Branch, Missing, Empty, Given, end_in, from_field, from_one, on_way, branches}
use Rattle.index_keys.specs.declared.plan.Plan.{Plan}
use Rattle.index_keys.specs.Keys.{Fields, Cell, Of, EmptyArray, Key, cell, cells, tuples, has_none, keys}

abbrev pub R : List ℕ → List ℕ → Ordering
R = slice_cmp nat_cmp

abbrev Entry : Type 0
Entry = List ℕ × Value

-- ---- fields in the order of their names

abbrev AreFormed : List Entry → Type 0
AreFormed es = AllByRecursion (λ (e : Entry). IsName e.0) es × AllByRecursion (λ (e : Entry). IsWellFormed e.1) es

formed_put : (k : List ℕ) (v : Value) (es : List Entry) → IsName k → IsWellFormed v → AreFormed es → AreFormed (map_of.put R k v es)
formed_put k v [] n a h = ((n, tt), (a, tt))
formed_put k v (e ∷ es) n a h =
    let rest = formed_put k v es n a (h.0.1, h.1.1) in
    elim (R k e.0) as (λ o. AreFormed (by_order o ((k, v) ∷ e ∷ es) ((e.0, v) ∷ es) (e ∷ map_of.put R k v es))) [
      | Less ↦ ((n, h.0), (a, h.1))
      | Equal ↦ ((h.0.0, h.0.1), (a, h.1.1))
      | Greater ↦ ((h.0.0, rest.0), (h.1.0, rest.1))
    ]

empty_list : (es : List Entry) → length es ≡ 0 → es ≡ []
empty_list [] e = refl
empty_list (x ∷ es) e = absurd (omega arith)

pub no_entries : entries (map_of.empty {X = Value} {R = R}) ≡ []
no_entries = empty_list _ (sym (map_of.len-entries (map_of.empty {X = Value} {R = R})) ∙ map_of.len-empty R Value)

formed_entries : (es : List Entry) → AreFormed es → AreFormed (entries (from_entries {R = R} es))
formed_entries [] h = subst AreFormed (sym no_entries) (tt, tt)
formed_entries (e ∷ es) h =
    subst AreFormed (sym (entries-insert nat_list_cmp_total (from_entries {R = R} es) e.0 e.1)) (formed_put e.0 e.1 _ h.0.0 h.1.0 (formed_entries es (h.0.1, h.1.1)))

pub formed_by_name : (es : List Entry) → AreFormed es → AreFormed (by_name es)
unfolding by_name
formed_by_name es h = formed_entries es h

split : (a b : Bool) → T (a && b) → T a × T b
split true b p = (tt, p)
split false b p = absurd p

less_differs : (o : Ordering) → T (is_lt o) → o ≡ Equal → ⊥
less_differs Less p e = cc
less_differs Equal p e = absurd p
less_differs Greater p e = absurd p

names_below : {A : Type 0} (x : List ℕ) (es : List (List ℕ × A)) → T (below_all R x es) → IsAbsent x (names_of es)
names_below x [] h = tt
names_below x (e ∷ es) h =
    let s = split (is_lt (R x e.0)) (below_all R x es) h in
    ((λ is. less_differs (R x e.0) s.0 (subst (λ (z : List ℕ). R x z ≡ Equal) is (tied_itself nat_list_cmp_total x))), names_below x es s.1)

pub distinct_sorted : {A : Type 0} (es : List (List ℕ × A)) → T (is_sorted R es) → AreDistinct (names_of es)
distinct_sorted [] h = tt
distinct_sorted (e ∷ es) h =
    let s = split (below_all R e.0 es) (is_sorted R es) h in
    (names_below e.0 es s.0, distinct_sorted es s.1)

distinct_by_name : (es : List Entry) → AreDistinct (names_of (by_name es))
unfolding by_name
distinct_by_name es = distinct_sorted _ (entries_sorted (from_entries {R = R} es))

document_by_name : (es : List Entry) → AreFormed es → IsWellFormedDocument (by_name es)
document_by_name es h = let k = formed_by_name es h in ((distinct_by_name es, k.0), k.1)

-- ---- the ordered value

abbrev Stays : Value → Type 0
Stays v = IsWellFormed v → IsWellFormed (ordered v)

abbrev Proved : Type 0
Proved = (v : Value) × Stays v

abbrev on_first : List ℕ × Proved → Entry
on_first e = (e.0, e.1.0)

abbrev in_order : Entry → Entry
in_order e = (e.0, ordered e.1)

items_stay : (ys : List Proved) → AreWellFormedItems (map (λ (y : Proved). y.0) ys) → AreWellFormedItems (map ordered (map (λ (y : Proved). y.0) ys))
items_stay [] k = tt
items_stay (y ∷ ys) k = (y.1 k.0, items_stay ys k.1)

fields_stay : (ys : List (List ℕ × Proved)) → AreWellFormedFields (map on_first ys) → AreWellFormedFields (map in_order (map on_first ys))
fields_stay [] k = tt
fields_stay (y ∷ ys) k = (y.1.1 k.0, fields_stay ys k.1)

names_stay : (es : List Entry) → AllByRecursion (λ (e : Entry). IsName e.0) es → AllByRecursion (λ (e : Entry). IsName e.0) (map in_order es)
names_stay [] k = tt
names_stay (e ∷ es) k = (k.0, names_stay es k.1)

abbrev made_of : Value-F Value → Value
made_of f = ordered_step (map-Value Value Value ordered f)

abbrev first_of : Value-F Proved → Value-F Value
first_of y = map-Value Proved Value (λ (p : Proved). p.0) y

one_level : (y : Value-F Proved) → IsWellFormed (roll-Value (first_of y)) → IsWellFormedLevel (first_of y) → IsHeldWellFormed (first_of y) → IsWellFormed (made_of (first_of y))
one_level (Value-F.Object ys) a k h = subst IsWellFormed (sym (rolls-Object _)) (formed_object _ (document_by_name _ (names_stay _ k.1, fields_stay ys h)))
one_level (Value-F.ScopedCode t ys) a k h = subst IsWellFormed (sym (rolls-ScopedCode t _)) (formed_scoped t _ k.0 (document_by_name _ (names_stay _ k.1.1, fields_stay ys h)))
one_level (Value-F.Array ys) a k h = subst IsWellFormed (sym (rolls-Array _)) (formed_array _ (items_stay ys h))
one_level _ a k h = a

stays_step : (x : Value-F Value) (y : Value-F Proved) → first_of y ≡ x → Stays (roll-Value x)
unfolding ordered
stays_step x y is a =
    let k : IsWellFormedLevel x = subst IsWellFormedLevel (out-roll-Value x) (here_formed (roll-Value x) a) in
    let h : IsHeldWellFormed x = subst IsHeldWellFormed (out-roll-Value x) (held_formed (roll-Value x) a) in
    subst IsWellFormed (sym (fold-roll-Value Value ordered_step x))
    (subst (λ (z : Value-F Value). IsWellFormed (roll-Value z) → IsWellFormedLevel z → IsHeldWellFormed z → IsWellFormed (made_of z)) is (one_level y) a k h)

pub formed_ordered : (v : Value) → IsWellFormed v → IsWellFormed (ordered v)
formed_ordered v = ind-Value Stays stays_step v

-- ---- branches

abbrev IsBranchFormed : Branch → Type 0
IsBranchFormed Missing = Unit {0}
IsBranchFormed Empty = Unit {0}
IsBranchFormed (Given v) = IsWellFormed v

abbrev AllBranches : List Branch → Type 0
AllBranches bs = AllByRecursion IsBranchFormed bs

abbrev IsOptionFormed : Option Value → Type 0
IsOptionFormed None = Unit {0}
IsOptionFormed (Some v) = IsWellFormed v

formed_lookup : (k : List ℕ) (fs : List Entry) → AreWellFormedFields fs → IsOptionFormed (lookup k fs)
formed_lookup k [] h = tt
formed_lookup k (e ∷ fs) h = elim (bytes_eq e.0 k) as (λ b. IsOptionFormed (cond b (Some e.1) (lookup k fs))) [ true ↦ h.0 | false ↦ formed_lookup k fs h.1 ]

both_formed : (a b : List Branch) → AllBranches a → AllBranches b → AllBranches (a ++ b)
both_formed [] b h k = k
both_formed (x ∷ a) b h k = (h.0, both_formed a b h.1 k)

given_formed : (vs : List Value) → AreWellFormedItems vs → AllBranches (map Given vs)
given_formed [] h = tt
given_formed (v ∷ vs) h = (h.0, given_formed vs h.1)

formed_end : (v : Value) (f : Value-F Value) → IsWellFormed v → IsHeldWellFormed f → AllBranches (end_in v f)
formed_end v (Value-F.Array []) a h = (tt, tt)
formed_end v (Value-F.Array (w ∷ ws)) a h = given_formed (w ∷ ws) h
formed_end v (Value-F.Object fs) a h = (a, tt)
formed_end v (Value-F.ScopedCode t fs) a h = (a, tt)
formed_end v _ a h = (a, tt)

abbrev Keeps : (Value → List Branch) → Type 0
Keeps go = (v : Value) → IsWellFormed v → AllBranches (go v)

formed_field : (go : Value → List Branch) → Keeps go → (o : Option Value) → IsOptionFormed o → AllBranches (from_field go o)
formed_field go g None h = (tt, tt)
formed_field go g (Some v) h = g v h

formed_element : (go : Value → List Branch) → Keeps go → (k : List ℕ) (f : Value-F Value) → IsHeldWellFormed f → AllBranches (from_one go k f)
formed_element go g k (Value-F.Object fs) h = formed_field go g (lookup k fs) (formed_lookup k fs h)
formed_element go g k (Value-F.Array vs) h = (tt, tt)
formed_element go g k (Value-F.ScopedCode t fs) h = (tt, tt)
formed_element go g k _ h = (tt, tt)

formed_elements : (go : Value → List Branch) → Keeps go → (k : List ℕ) (vs : List Value) → AreWellFormedItems vs → AllBranches (flat_map (λ v. from_one go k (out-Value v)) vs)
formed_elements go g k [] h = tt
formed_elements go g k (v ∷ vs) h = both_formed (from_one go k (out-Value v)) _ (formed_element go g k (out-Value v) (held_formed v h.0)) (formed_elements go g k vs h.1)

formed_way : (go : Value → List Branch) → Keeps go → (k : List ℕ) (f : Value-F Value) → IsHeldWellFormed f → AllBranches (on_way go k f)
formed_way go g k (Value-F.Object fs) h = formed_field go g (lookup k fs) (formed_lookup k fs h)
formed_way go g k (Value-F.Array []) h = (tt, tt)
formed_way go g k (Value-F.Array (w ∷ ws)) h = formed_elements go g k (w ∷ ws) h
formed_way go g k (Value-F.ScopedCode t fs) h = (tt, tt)
formed_way go g k _ h = (tt, tt)

formed_branches : (p : Path) → Keeps (branches p)
unfolding branches
formed_branches [] v a = formed_end v (out-Value v) a (held_formed v a)
formed_branches (k ∷ p) v a = formed_way (branches p) (formed_branches p) k (out-Value v) (held_formed v a)

-- ---- keys

abbrev pub IsCellFormed : Cell → Type 0
IsCellFormed EmptyArray = Unit {0}
IsCellFormed (Of v) = IsWellFormed v

abbrev pub IsKeyFormed : Key → Type 0
IsKeyFormed k = AllByRecursion IsCellFormed k

formed_cells : (bs : List Branch) → AllBranches bs → AllByRecursion IsCellFormed (map cell bs)
formed_cells [] h = tt
formed_cells (Missing ∷ bs) h = (formed_null, formed_cells bs h.1)
formed_cells (Empty ∷ bs) h = (tt, formed_cells bs h.1)
formed_cells (Given v ∷ bs) h = (formed_ordered v h.0, formed_cells bs h.1)

all_cells : (ps : List Path) (doc : Fields) → IsWellFormedDocument doc → AllByRecursion (AllByRecursion IsCellFormed) (cells ps doc)
all_cells [] doc k = tt
all_cells (p ∷ ps) doc k = (formed_cells _ (formed_branches p (Object doc) (formed_object doc k)), all_cells ps doc k)

abbrev AllKeys : List Key → Type 0
AllKeys ks = AllByRecursion IsKeyFormed ks

front_formed : (c : Cell) (ks : List Key) → IsCellFormed c → AllKeys ks → AllKeys (map (λ k. c ∷ k) ks)
front_formed c [] h all = tt
front_formed c (k ∷ ks) h all = ((h, all.0), front_formed c ks h all.1)

keys_both : (a b : List Key) → AllKeys a → AllKeys b → AllKeys (a ++ b)
keys_both [] b h k = k
keys_both (x ∷ a) b h k = (h.0, keys_both a b h.1 k)

each_formed : (cs : List Cell) (ks : List Key) → AllByRecursion IsCellFormed cs → AllKeys ks → AllKeys (flat_map (λ c. map (λ k. c ∷ k) ks) cs)
each_formed [] ks h all = tt
each_formed (c ∷ cs) ks h all = keys_both (map (λ k. c ∷ k) ks) _ (front_formed c ks h.0 all) (each_formed cs ks h.1 all)

formed_tuples : (css : List (List Cell)) → AllByRecursion (AllByRecursion IsCellFormed) css → AllKeys (tuples css)
formed_tuples [] h = (tt, tt)
formed_tuples (cs ∷ css) h = each_formed cs (tuples css) h.0 (formed_tuples css h.1)

formed_keys : (plan : Plan) (doc : Fields) → IsWellFormedDocument doc → AllKeys (keys plan doc)
formed_keys plan doc k =
    elim (plan.sparse && has_none plan.paths doc) as (λ b. AllKeys (cond b [] (tuples (cells plan.paths doc)))) [
      | true ↦ tt
      | false ↦ formed_tuples _ (all_cells plan.paths doc k)
    ]

at_place : {A : Type 0} (P : A → Type 0) (xs : List A) (i : ℕ) (x : A) → AllByRecursion P xs → i < length xs → slice_index_or xs i x ≡ x → P x
at_place P [] i x all lt e = absurd (omega arith)
at_place P (y ∷ xs) zero x all lt e = subst P e all.0
at_place P (y ∷ xs) (suc i) x all lt e = at_place P xs i x all.1 (omega arith) e

-- each key of a well-formed document is well-formed
pub formed_key : (plan : Plan) (doc : Fields) → IsWellFormedDocument doc → (k : Key) → Contains (keys plan doc) k → IsKeyFormed k
formed_key plan doc h k c = at_place IsKeyFormed (keys plan doc) c.0 k (formed_keys plan doc h) c.1 c.2
