-- Counted numbers stand by the names of their indexes, and a search finds them there.
use Rattle.std.proofs.Common.{◌≡◌, ℕ, List, [], ◌∷◌, map as each, Bool, true, false, cond, refl, sym, ap, ◌∙◌, subst, Option, Some, None}
use Rattle.std.specs.Prelude.{◌&&◌, option_map, T}
use Rattle.std.specs.Ordering.{is_lt}
use Rattle.std.specs.declared.cmp.Ordering.{Ordering}
use Rattle.std.specs.declared.cmp.Ordering.TheVariants.{Less, Equal, Greater}
use Rattle.std.specs.FinMap as map
use Rattle.std.specs.FinMap.Entries.{below_all}
use Rattle.bson_value.specs.declared.namespace.NsName.{NsName}
use Rattle.bson_value.specs.NamespaceOrder.{namespace_cmp}
use Rattle.json_tree.specs.declared.tree.Tree.{Tree}
use Rattle.state_model.specs.Keys.{Key, key_cmp, same_key, same_ns}
use Rattle.state_model.specs.States.{State, Collection}
use Rattle.state_model.proofs.Keys.{key_total, key_anti, key_turn, ns_total, ns_anti, ns_turn}
use Rattle.sorted_list.specs.Order.{AllAbove, Behind, IsOrdered, found}
use Rattle.coll_state.specs.Stock.{AllAfter, Rise, beside}
use Rattle.coll_state.proofs.Keyed.{rise_ordered}
use Rattle.index_build.specs.Documents.{documents}
use Rattle.index_build.specs.Numbers.{number, numbers_in, counts, joined, number_in, number_at}
use Rattle.index_build.specs.Sorted.{NumbersVec, numbers_told, index_name, space_name, AllRise, AreByName}
use Rattle.index_build.proofs.Built.{second}

-- ---- names that rise

pub less_of : (o : Ordering) → T (is_lt o) → o ≡ Less
less_of Less t = refl
less_of Equal t = absurd t
less_of Greater t = absurd t

pub first_of : (a b : Bool) → T (a && b) → T a
first_of true b t = tt
first_of false b t = t

module _ {K X Y : Type 0} (R : K → K → Ordering) (g : K × X → Y) where
  abbrev named_by : K × X → K × Y
  named_by e = (e.0, g e)

  abbrev name : K × Y → K
  name e = e.0

  after_all : (k : K) (es : List (K × X)) → T (below_all R k es) → AllAfter R name k (each named_by es)
  after_all k [] t = tt
  after_all k (e ∷ es) t = (less_of (R k e.0) (first_of (is_lt (R k e.0)) (below_all R k es) t), after_all k es (second (is_lt (R k e.0)) (below_all R k es) t))

  pub rise_all : (es : List (K × X)) → T (map.is_sorted R es) → Rise R name (each named_by es)
  rise_all [] t = tt
  rise_all (e ∷ es) t = (after_all e.0 es (first_of (below_all R e.0 es) (map.is_sorted R es) t), rise_all es (second (below_all R e.0 es) (map.is_sorted R es) t))

numbers_rise : (o : Option Collection) → Rise key_cmp index_name (numbers_in o)
numbers_rise None = tt
numbers_rise (Some c) = rise_all key_cmp (λ (e : Key × Tree). number e.1 (documents c)) (map.entries c.indexes) (map.entries_sorted c.indexes)

all_rise : (s : State) (ns : List NsName) → AllRise (each (λ n. (n, numbers_in (map.get s n))) ns)
all_rise s [] = tt
all_rise s (n ∷ ns) = (numbers_rise (map.get s n), all_rise s ns)

abbrev pub counted : State → NsName → NsName × List (Key × Option ℕ)
counted s n = (n, numbers_in (map.get s n))

over_keys : (s : State) (es : List (NsName × Collection)) → each (λ (e : NsName × Collection). counted s e.0) es ≡ each (counted s) (each (λ (e : NsName × Collection). e.0) es)
over_keys s [] = refl
over_keys s (e ∷ es) = ap (λ (l : List (NsName × List (Key × Option ℕ))). (e.0, numbers_in (map.get s e.0)) ∷ l) (over_keys s es)

pub counts_by_name : (s : State) → AreByName (counts s)
counts_by_name s = record {
  spaces = subst (Rise namespace_cmp space_name) (over_keys s (map.entries s)) (rise_all namespace_cmp (λ (e : NsName × Collection). numbers_in (map.get s e.0)) (map.entries s) (map.entries_sorted s));
  indexes = all_rise s (map.keys s);
}

-- ---- what a search finds

module _ {A B : Type 0} (g : A → B) (ord : B → Ordering) where
  above_told : (es : List A) → AllAbove ord (each g es) → AllAbove (λ e. ord (g e)) es
  above_told [] a = tt
  above_told (e ∷ es) a = (a.0, above_told es a.1)

  behind_told : (o : Ordering) (es : List A) → Behind ord o (each g es) → Behind (λ e. ord (g e)) o es
  behind_told Less es b = tt
  behind_told Equal es b = above_told es b
  behind_told Greater es b = above_told es b

  pub ordered_told : (es : List A) → IsOrdered ord (each g es) → IsOrdered (λ e. ord (g e)) es
  ordered_told [] o = tt
  ordered_told (e ∷ es) o = (behind_told (ord (g e)) es o.0, ordered_told es o.1)

flipped : {X : Type 0} (a b : Bool) (x : X) (o u : Option X) → a ≡ b → o ≡ u → cond a (Some x) o ≡ cond b (Some x) u
flipped true true x o u e f = refl
flipped false false x o u e f = f
flipped true false x o u e f = cc
flipped false true x o u e f = cc

value_of : {X Y : Type 0} (g : X → Y) (b : Bool) (x : X) (o : Option X) → cond b (Some (g x)) (option_map g o) ≡ option_map g (cond b (Some x) o)
value_of g true x o = refl
value_of g false x o = refl

abbrev pub at_space : NsName → NsName × NumbersVec → Ordering
at_space n e = namespace_cmp e.0 n

abbrev pub at_index : Key → Key × Option ℕ → Ordering
at_index i e = key_cmp e.0 i

pub spaces_ordered : (es : List (NsName × NumbersVec)) (n : NsName) → AreByName (numbers_told es) → IsOrdered (at_space n) es
spaces_ordered es n b = ordered_told (λ (e : NsName × NumbersVec). (e.0, e.1.items)) (beside namespace_cmp space_name n) es (rise_ordered namespace_cmp ns_total ns_anti space_name (numbers_told es) n b.spaces)

abbrev items_of : NsName × NumbersVec → List (Key × Option ℕ)
items_of e = e.1.items

pub find_space : (es : List (NsName × NumbersVec)) (n : NsName) → map.find namespace_cmp n (numbers_told es) ≡ option_map items_of (found (at_space n) es)
find_space [] n = refl
find_space (e ∷ es) n =
    flipped (same_ns n e.0) (same_ns e.0 n) e.1.items (map.find namespace_cmp n (numbers_told es)) (option_map items_of (found (at_space n) es)) (sym (ns_turn n e.0 (same_ns n e.0) refl)) (find_space es n)
    ∙ value_of items_of (same_ns e.0 n) e (found (at_space n) es)

pub find_index : (es : List (Key × Option ℕ)) (i : Key) → map.find key_cmp i es ≡ option_map (λ (e : Key × Option ℕ). e.1) (found (at_index i) es)
find_index [] i = refl
find_index (e ∷ es) i =
    flipped (same_key i e.0) (same_key e.0 i) e.1 (map.find key_cmp i es) (option_map (λ (e : Key × Option ℕ). e.1) (found (at_index i) es)) (sym (key_turn i e.0 (same_key i e.0) refl)) (find_index es i)
    ∙ value_of (λ (e : Key × Option ℕ). e.1) (same_key e.0 i) e (found (at_index i) es)

pub indexes_ordered : (es : List (Key × Option ℕ)) (i : Key) → Rise key_cmp index_name es → IsOrdered (at_index i) es
indexes_ordered es i r = rise_ordered key_cmp key_total key_anti index_name es i r

pub space_rises : (es : List (NsName × NumbersVec)) (n : NsName) (e : NsName × NumbersVec) → AllRise (numbers_told es) → Some e ≡ found (at_space n) es → Rise key_cmp index_name e.1.items
space_rises [] n e a f = cc
space_rises (x ∷ es) n e a f = by (same_ns x.0 n) (λ g. space_rises es n e a.1 g) f
  where
    by : (b : Bool) → (Some e ≡ found (at_space n) es → Rise key_cmp index_name e.1.items) → Some e ≡ cond b (Some x) (found (at_space n) es) → Rise key_cmp index_name e.1.items
    by true later g = let is : x ≡ e = cc in subst (λ (z : NsName × NumbersVec). Rise key_cmp index_name z.1.items) is a.0
    by false later g = later g

-- the number under two names
pub index_some : (es : List (Key × Option ℕ)) (i : Key) (e : Key × Option ℕ) → Some e ≡ found (at_index i) es → e.1 ≡ joined (map.find key_cmp i es)
index_some es i e f = sym (ap joined (find_index es i ∙ ap (option_map (λ (e : Key × Option ℕ). e.1)) (sym f)))

pub index_none : (es : List (Key × Option ℕ)) (i : Key) → None ≡ found (at_index i) es → None ≡ joined (map.find key_cmp i es)
index_none es i f = sym (ap joined (find_index es i ∙ ap (option_map (λ (e : Key × Option ℕ). e.1)) (sym f)))

pub space_some : (es : List (NsName × NumbersVec)) (n : NsName) (i : Key) (e : NsName × NumbersVec) → Some e ≡ found (at_space n) es → joined (map.find key_cmp i e.1.items) ≡ number_at (numbers_told es) n i
space_some es n i e f = sym (ap (number_in i) (find_space es n ∙ ap (option_map items_of) (sym f)))

pub space_none : (es : List (NsName × NumbersVec)) (n : NsName) (i : Key) → None ≡ found (at_space n) es → None ≡ number_at (numbers_told es) n i
space_none es n i f = sym (ap (number_in i) (find_space es n ∙ ap (option_map items_of) (sym f)))
