-- Entries by their keys are a finite map.
use Rattle.std.proofs.Common.{◌≡◌, ℕ, ◌+◌, ◌≤◌, List, [], ◌∷◌, Bool, true, false, cond, refl, sym, ap, ◌∙◌, subst, arith, Option, Some, None}
use Rattle.std.specs.Prelude.{option_map, is_some, T, min, if◌then◌else◌}
use Rattle.std.specs.FinMap as map
use Rattle.std.specs.FinMap.Entries.{below_all}
use Rattle.std.specs.declared.cmp.Ordering.{Ordering}
use Rattle.std.specs.declared.cmp.Ordering.TheVariants.{Equal}
use Rattle.state_model.specs.Keys.{Key, key_cmp, same_key}
use Rattle.state_model.proofs.Keys.{key_total, key_anti, key_turn, key_is}
use Rattle.state_model.proofs.Maps.{key_map_same, key_at_insert, key_at_remove, key_remove_here}
use Rattle.sorted_list.specs.Order.{AllAbove, Behind, IsOrdered, found, put_in, take_out}
use Rattle.coll_state.specs.Stock.{AllAfter, Rise, beside}
use Rattle.sorted_list.proofs.Order.{none_above}
use Rattle.coll_state.proofs.Keyed.{is_equal, rise_ordered, found_put, found_take, rise_put}
use Rattle.index_build.specs.declared.entry.Entry.{Entry}
use Rattle.index_build.specs.Entries.{entry_key, owned_of, owned_in}
use Rattle.index_build.specs.Owned.{Owned}
use Rattle.index_build.specs.Owners.{Texts}
use Rattle.coll_state.proofs.Parts.{and_T}

abbrev pub at_entry : Key → Entry → Ordering
at_entry k = beside key_cmp entry_key k

pub entries_ordered : (es : List Entry) (k : Key) → Rise key_cmp entry_key es → IsOrdered (at_entry k) es
entries_ordered es k r = rise_ordered key_cmp key_total key_anti entry_key es k r

abbrev keys_in : Option Entry → Option Texts
keys_in o = option_map (λ (e : Entry). e.keys) o

find_owned : (es : List Entry) (k : Key) → map.find key_cmp k (owned_of es) ≡ keys_in (found (at_entry k) es)
find_owned [] k = refl
find_owned (e ∷ es) k = by (same_key k e.key) (same_key e.key k) (sym (key_turn k e.key (same_key k e.key) refl)) (find_owned es k)
  where
    by : (a b : Bool) → a ≡ b → map.find key_cmp k (owned_of es) ≡ keys_in (found (at_entry k) es) → cond a (Some e.keys) (map.find key_cmp k (owned_of es)) ≡ keys_in (if b then Some e else found (at_entry k) es)
    by true true e h = refl
    by false false e h = h
    by true false e h = cc
    by false true e h = cc

pub get_owned : (es : List Entry) (k : Key) → map.get (owned_in es) k ≡ keys_in (found (at_entry k) es)
get_owned es k = map.get-from_entries key_total (owned_of es) k ∙ find_owned es k

-- what a search finds has the key
pub found_has_key : (es : List Entry) (k : Key) → option_map (λ (e : Entry). e.key) (found (at_entry k) es) ≡ option_map (λ (e : Entry). k) (found (at_entry k) es)
found_has_key [] k = refl
found_has_key (e ∷ es) k = by (same_key e.key k) refl (found_has_key es k)
  where
    by : (b : Bool) → same_key e.key k ≡ b → option_map (λ (x : Entry). x.key) (found (at_entry k) es) ≡ option_map (λ (x : Entry). k) (found (at_entry k) es) →
        option_map (λ (x : Entry). x.key) (if b then Some e else found (at_entry k) es) ≡ option_map (λ (x : Entry). k) (if b then Some e else found (at_entry k) es)
    by true s later = ap Some (key_is e.key k s)
    by false s later = later

below_owned : (k : Key) (es : List Entry) → AllAfter key_cmp entry_key k es → T (below_all key_cmp k (owned_of es))
below_owned k [] a = tt
below_owned k (e ∷ es) a = rw a.0 (below_owned k es a.1)

sorted_owned : (es : List Entry) → Rise key_cmp entry_key es → T (map.is_sorted key_cmp (owned_of es))
sorted_owned [] r = tt
sorted_owned (e ∷ es) r = and_T (below_all key_cmp e.key (owned_of es)) (map.is_sorted key_cmp (owned_of es)) (below_owned e.key es r.0) (sorted_owned es r.1)

pub entries_owned : (es : List Entry) → Rise key_cmp entry_key es → map.entries (owned_in es) ≡ owned_of es
entries_owned es r =
    let s = sorted_owned es r in
    let is : map.from_sorted {R = key_cmp} (owned_of es) ≡ owned_in es = key_map_same _ _ (λ k. map.get-from_sorted key_cmp (owned_of es) k s ∙ sym (map.get-from_entries key_total (owned_of es) k)) in
    sym (ap map.entries is) ∙ map.entries-from_sorted key_cmp (owned_of es) s

keys_if : (b : Bool) (y : Entry) (o : Option Entry) → keys_in (if b then Some y else o) ≡ cond b (Some y.keys) (keys_in o)
keys_if true y o = refl
keys_if false y o = refl

gone_if : (b : Bool) (o : Option Entry) → keys_in (if b then None else o) ≡ cond b None (keys_in o)
gone_if true o = refl
gone_if false o = refl

-- an entry with the key of the one before it stands no more behind it
pub absent_behind : (e : Entry) (es : List Entry) (q : Key) → Rise key_cmp entry_key (e ∷ es) → same_key q e.key ≡ true → map.find key_cmp q (owned_of es) ≡ None
absent_behind e es q r s =
    let equal : key_cmp e.key q ≡ Equal = is_equal (key_cmp e.key q) (key_turn q e.key true s) in
    let above : AllAbove (at_entry q) es = subst (λ (o : Ordering). Behind (at_entry q) o es) equal (entries_ordered (e ∷ es) q r).0 in
    find_owned es q ∙ ap keys_in (none_above (at_entry q) es above)

pub owned_empty : owned_in [] ≡ map.empty
owned_empty = key_map_same _ _ (λ q. get_owned [] q ∙ sym (map.get-empty key_cmp q))

-- ---- edits

pub owned_put : (es : List Entry) (y : Entry) → owned_in (put_in (at_entry y.key) y es) ≡ map.insert (owned_in es) y.key y.keys
owned_put es y = key_map_same _ _ (λ q. get_owned (put_in (at_entry y.key) y es) q
    ∙ (ap keys_in (found_put key_cmp key_total key_anti entry_key es y.key q y refl)
    ∙ (keys_if (same_key q y.key) y (found (at_entry q) es)
    ∙ (ap (cond (same_key q y.key) (Some y.keys)) (sym (get_owned es q)) ∙ sym (key_at_insert (owned_in es) y.key y.keys q)))))

pub owned_taken : (es : List Entry) (k : Key) → Rise key_cmp entry_key es → owned_in (take_out (at_entry k) es) ≡ map.remove (owned_in es) k
owned_taken es k r = key_map_same _ _ (λ q. get_owned (take_out (at_entry k) es) q
    ∙ (ap keys_in (found_take key_cmp key_total key_anti entry_key es k q r)
    ∙ (gone_if (same_key q k) (found (at_entry q) es)
    ∙ (ap (cond (same_key q k) None) (sym (get_owned es q)) ∙ sym (key_at_remove (owned_in es) k q)))))

pub owned_there : (es : List Entry) (k : Key) → is_some (found (at_entry k) es) ≡ map.contains_key (owned_in es) k
owned_there es k = some_keys (found (at_entry k) es) ∙ sym (ap is_some (get_owned es k))
  where
    some_keys : (o : Option Entry) → is_some o ≡ is_some (keys_in o)
    some_keys None = refl
    some_keys (Some e) = refl

found_none : (o : Option Entry) → keys_in o ≡ None → o ≡ None
found_none None e = refl
found_none (Some x) e = cc

-- an entry whose key isn't there comes in
pub rise_more : (es before : List Entry) (y : Entry) → owned_in es ≡ map.remove (owned_in before) y.key → Rise key_cmp entry_key es → Rise key_cmp entry_key (put_in (at_entry y.key) y es)
rise_more es before y is r =
    rise_put key_cmp key_total key_anti entry_key es y.key y refl (found_none (found (at_entry y.key) es) (sym (get_owned es y.key) ∙ (ap (λ (m : Owned). map.get m y.key) is ∙ key_remove_here (owned_in before) y.key))) r

-- what was there under a key makes no difference to what comes in under it
pub insert_over : (m : Owned) (k : Key) (ts : Texts) → map.insert (map.remove m k) k ts ≡ map.insert m k ts
insert_over m k ts = key_map_same _ _ (λ q. key_at_insert (map.remove m k) k ts q ∙ (ap (cond (same_key q k) (Some ts)) (key_at_remove m k q) ∙ (over (same_key q k) (map.get m q) ∙ sym (key_at_insert m k ts q))))
  where
    over : (b : Bool) (o : Option Texts) → cond b (Some ts) (cond b None o) ≡ cond b (Some ts) o
    over true o = refl
    over false o = refl

-- ---- numbers that stand still at their end

pub capped_step : (count n rest most : ℕ) → min (min (count + n) most + rest) most ≡ min (count + (n + rest)) most
capped_step count n rest most = omega arith

pub capped_end : (count whole most : ℕ) → count ≤ most → min (count + 0) most ≡ min whole most → count ≡ min whole most
capped_end count whole most le e = omega arith
