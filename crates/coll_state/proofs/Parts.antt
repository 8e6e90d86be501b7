-- The parts of a collection after a call.
use Rattle.std.proofs.Common.{◌≡◌, ◌≢◌, ℕ, zero, suc, ◌+◌, ◌-◌, ◌<◌, List, [], ◌∷◌, map as each, Bool, true, false, cond, refl, sym, ap, ◌∙◌, subst, arith, Option, Some, None, inl, inr, set, take, drop, length}
use Rattle.std.specs.Prelude.{◌⊎◌, ◌&&◌, option_map, if◌then◌else◌, is_some, T, nat_le, nat_lt, slice_index_or, min, Result, Ok, Err, OnOk, OnErr}
use Rattle.std.specs.List.{insert, remove}
use Rattle.std.specs.Ordering.{eq_by_cmp}
use Rattle.std.specs.FinMap as map
use Rattle.std.specs.FinMap.Entries.{below_all}
use Rattle.std.specs.declared.cmp.Ordering.{Ordering}
use Rattle.std.specs.declared.cmp.Ordering.TheVariants.{Less, Greater}
use Rattle.std.proofs.lemmas.Bool.{cases_Bool}
use Rattle.std.proofs.lemmas.Grind.{common_steps}
use Rattle.json_tree.specs.declared.tree.Tree.{Tree}
use Rattle.state_model.specs.Keys.{Key, key_cmp, same_key}
use Rattle.state_model.proofs.Keys.{key_total, key_anti, key_is, key_turn}
use Rattle.state_model.proofs.Maps.{key_map_same, key_at_insert, key_at_remove, key_remove_same}
use Rattle.coll_state.specs.declared.collection.NumberedKey.{NumberedKey}
use Rattle.coll_state.specs.declared.collection.Record.{Record}
use Rattle.coll_state.specs.Rows.{Document, Row, Table, row_of, Rising, last_no, scan}
use Rattle.coll_state.specs.Changes.{put_row, drop_row, next_after, put_table, drop_table}
use Rattle.coll_state.specs.Definitions.{definition_name}
use Rattle.sorted_list.specs.Order.{AllAbove, Behind, IsOrdered, found, place, put_in, put_new, set_in, take_out, IsFound, IsGap}
use Rattle.coll_state.specs.Stock.{AllAfter, Rise, beside, key_of_number, number_of, row_in, rows_in, named, indexes_in, Covers, AreParts}
use Rattle.sorted_list.proofs.Order.{put_at, set_at, take_at, new_there}
use Rattle.coll_state.proofs.Keyed.{rise_ordered, found_put, found_set, found_take, rise_put, rise_set, rise_take}
use Rattle.coll_state.proofs.RowLists.{no_in, row_found, row_absent, kept_no, fresh_no, row_put_else, row_drop_else, row_drop_here, rising_put, rising_drop, last_put, last_drop}

-- the order beside a key
abbrev pub at_key : Key → NumberedKey → Ordering
at_key k = beside key_cmp key_of_number k

abbrev pub at_name : Key → Tree → Ordering
at_name n = beside key_cmp definition_name n

pub numbers_ordered : (ns : List NumberedKey) (k : Key) → Rise key_cmp key_of_number ns → IsOrdered (at_key k) ns
numbers_ordered ns k r = rise_ordered key_cmp key_total key_anti key_of_number ns k r

pub names_ordered : (ds : List Tree) (n : Key) → Rise key_cmp definition_name ds → IsOrdered (at_name n) ds
names_ordered ds n r = rise_ordered key_cmp key_total key_anti definition_name ds n r

-- what the numbers tell of a key: the number of an element that was looked for
pub number_is : (ns : List NumberedKey) (rs : List Record) (k : Key) (n : Option ℕ) (o : Option NumberedKey) → Covers ns (rows_in rs) → n ≡ option_map (λ (z : NumberedKey). z.no) o → o ≡ found (at_key k) ns → n ≡ no_in (row_of (rows_in rs) k)
number_is ns rs k n o c e f = e ∙ (ap (option_map (λ (z : NumberedKey). z.no)) f ∙ c k)

pub absent_of : (rs : List Row) (k : Key) → None ≡ no_in (row_of rs k) → row_of rs k ≡ None
absent_of rs k e = row_absent rs k (row_of rs k) refl (sym e)

pub no_number : (ns : List NumberedKey) (k : Key) → number_of ns k ≡ None → found (at_key k) ns ≡ None
no_number ns k e = by (found (at_key k) ns) refl
  where
    by : (o : Option NumberedKey) → found (at_key k) ns ≡ o → found (at_key k) ns ≡ None
    by None p = p
    by (Some z) p = let f : None ≡ Some z.no = sym e ∙ ap (option_map (λ (z : NumberedKey). z.no)) p in cc

-- numbers among which a key has one already
pub numbers_kept : (ns : List NumberedKey) (k : Key) (n : ℕ) (y : NumberedKey) → Some n ≡ number_of ns k → put_new (at_key k) y ns ≡ ns
numbers_kept ns k n y e = by (found (at_key k) ns) refl
  where
    by : (o : Option NumberedKey) → found (at_key k) ns ≡ o → put_new (at_key k) y ns ≡ ns
    by None p = let f : Some n ≡ None = e ∙ ap (option_map (λ (z : NumberedKey). z.no)) p in cc
    by (Some z) p = sym (new_there (at_key k) ns z y (sym p))

-- a document in the place of another
pub next_kept : (next : ℕ) (o : Option Row) → o ≢ None → next_after next o ≡ next
next_kept next None h = absurd (h refl)
next_kept next (Some r) h = refl

pub next_fresh : (next : ℕ) (o : Option Row) → o ≡ None → next_after next o ≡ next + 1
next_fresh next None e = omega arith
next_fresh next (Some r) e = cc

pub parts_replaced : (defs : List Tree) (next n : ℕ) (ns : List NumberedKey) (rs rs' : List Record) (k : Key) (d : Document) → AreParts defs next ns rs → no_in (row_of (rows_in rs) k) ≡ Some n →
    rows_in rs' ≡ put_row next k d (rows_in rs) → AreParts defs next ns rs'
parts_replaced defs next n ns rs rs' k d p there put = record {
  definitions = p.definitions;
  keys = p.keys;
  covers = λ q. at q (cases_Bool (same_key q k));
  rising = subst (Rising 0) (sym put) (rising_put 0 (rows_in rs) next k d p.rising p.next_above);
  next_above = subst (λ (z : List Row). last_no 0 z < next) (sym put) (subst (λ (z : ℕ). last_no 0 (put_row next k d (rows_in rs)) < z) (next_kept next (row_of (rows_in rs) k) some) (last_put 0 (rows_in rs) next k d p.next_above));
}
  where
    some : row_of (rows_in rs) k ≢ None
    some = row_found (rows_in rs) k n (row_of (rows_in rs) k) refl there

    at : (q : Key) → (same_key q k ≡ true) ⊎ (same_key q k ≡ false) → number_of ns q ≡ no_in (row_of (rows_in rs') q)
    at q (inl s) = p.covers q ∙ (ap (λ (z : Key). no_in (row_of (rows_in rs) z)) (key_is q k s) ∙ (sym (kept_no (rows_in rs) next k d (row_of (rows_in rs) k) refl some)
        ∙ (ap (λ (z : Key). no_in (row_of (put_row next k d (rows_in rs)) z)) (sym (key_is q k s)) ∙ ap (λ (z : List Row). no_in (row_of z q)) (sym put))))
    at q (inr s) = p.covers q ∙ (ap no_in (sym (row_put_else (rows_in rs) next k q d s)) ∙ ap (λ (z : List Row). no_in (row_of z q)) (sym put))

-- a document behind all others
pub parts_added : (defs : List Tree) (next : ℕ) (ns ns' : List NumberedKey) (rs rs' : List Record) (k : Key) (d : Document) (y : NumberedKey) → AreParts defs next ns rs → row_of (rows_in rs) k ≡ None →
    y.key ≡ k → y.no ≡ next → ns' ≡ put_in (at_key k) y ns → rows_in rs' ≡ put_row next k d (rows_in rs) → AreParts defs (next + 1) ns' rs'
parts_added defs next ns ns' rs rs' k d y p none yk yn is put = record {
  definitions = p.definitions;
  keys = subst (Rise key_cmp key_of_number) (sym is) (rise_put key_cmp key_total key_anti key_of_number ns k y yk gap p.keys);
  covers = λ q. at q (cases_Bool (same_key q k));
  rising = subst (Rising 0) (sym put) (rising_put 0 (rows_in rs) next k d p.rising p.next_above);
  next_above = subst (λ (z : List Row). last_no 0 z < next + 1) (sym put) (subst (λ (z : ℕ). last_no 0 (put_row next k d (rows_in rs)) < z) (next_fresh next (row_of (rows_in rs) k) none) (last_put 0 (rows_in rs) next k d p.next_above));
}
  where
    gap : found (at_key k) ns ≡ None
    gap = no_number ns k (p.covers k ∙ ap no_in none)

    after : (q : Key) → number_of ns' q ≡ option_map (λ (z : NumberedKey). z.no) (if same_key q k then Some y else found (at_key q) ns)
    after q = ap (λ (z : List NumberedKey). number_of z q) is ∙ ap (option_map (λ (z : NumberedKey). z.no)) (found_put key_cmp key_total key_anti key_of_number ns k q y yk)

    at : (q : Key) → (same_key q k ≡ true) ⊎ (same_key q k ≡ false) → number_of ns' q ≡ no_in (row_of (rows_in rs') q)
    at q (inl s) = after q ∙ (ap (λ (b : Bool). option_map (λ (z : NumberedKey). z.no) (if b then Some y else found (at_key q) ns)) s
        ∙ (ap Some yn ∙ (sym (fresh_no (rows_in rs) next k d none) ∙ (ap (λ (z : Key). no_in (row_of (put_row next k d (rows_in rs)) z)) (sym (key_is q k s)) ∙ ap (λ (z : List Row). no_in (row_of z q)) (sym put)))))
    at q (inr s) = after q ∙ (ap (λ (b : Bool). option_map (λ (z : NumberedKey). z.no) (if b then Some y else found (at_key q) ns)) s
        ∙ (p.covers q ∙ (ap no_in (sym (row_put_else (rows_in rs) next k q d s)) ∙ ap (λ (z : List Row). no_in (row_of z q)) (sym put))))

-- a document taken out
pub parts_removed : (defs : List Tree) (next : ℕ) (ns ns' : List NumberedKey) (rs rs' : List Record) (k : Key) → AreParts defs next ns rs → ns' ≡ take_out (at_key k) ns → rows_in rs' ≡ drop_row k (rows_in rs) → AreParts defs next ns' rs'
parts_removed defs next ns ns' rs rs' k p is drop = record {
  definitions = p.definitions;
  keys = subst (Rise key_cmp key_of_number) (sym is) (rise_take key_cmp key_total key_anti key_of_number ns k p.keys);
  covers = λ q. at q (cases_Bool (same_key q k));
  rising = subst (Rising 0) (sym drop) (rising_drop 0 (rows_in rs) k p.rising);
  next_above = subst (λ (z : List Row). last_no 0 z < next) (sym drop) (let a = last_drop 0 (rows_in rs) k p.rising in let b = p.next_above in omega arith);
}
  where
    after : (q : Key) → number_of ns' q ≡ option_map (λ (z : NumberedKey). z.no) (if same_key q k then None else found (at_key q) ns)
    after q = ap (λ (z : List NumberedKey). number_of z q) is ∙ ap (option_map (λ (z : NumberedKey). z.no)) (found_take key_cmp key_total key_anti key_of_number ns k q p.keys)

    at : (q : Key) → (same_key q k ≡ true) ⊎ (same_key q k ≡ false) → number_of ns' q ≡ no_in (row_of (rows_in rs') q)
    at q (inl s) = after q ∙ (ap (λ (b : Bool). option_map (λ (z : NumberedKey). z.no) (if b then None else found (at_key q) ns)) s
        ∙ (ap no_in (sym (row_drop_here 0 (rows_in rs) k p.rising)) ∙ (ap (λ (z : Key). no_in (row_of (drop_row k (rows_in rs)) z)) (sym (key_is q k s)) ∙ ap (λ (z : List Row). no_in (row_of z q)) (sym drop))))
    at q (inr s) = after q ∙ (ap (λ (b : Bool). option_map (λ (z : NumberedKey). z.no) (if b then None else found (at_key q) ns)) s
        ∙ (p.covers q ∙ (ap no_in (sym (row_drop_else (rows_in rs) k q s)) ∙ ap (λ (z : List Row). no_in (row_of z q)) (sym drop))))

pub drop_absent : (rs : List Row) (k : Key) → row_of rs k ≡ None → drop_row k rs ≡ rs
drop_absent [] k e = refl
drop_absent (r ∷ rs) k e = by (same_key k r.key) e (drop_absent rs k)
  where
    by : (b : Bool) → (if b then Some r else row_of rs k) ≡ None → (row_of rs k ≡ None → drop_row k rs ≡ rs) → (if b then rs else r ∷ drop_row k rs) ≡ r ∷ rs
    by true f h = cc
    by false f h = ap (λ (z : List Row). r ∷ z) (h f)

-- definitions
find_named : (ds : List Tree) (n : Key) → map.find key_cmp n (named ds) ≡ found (at_name n) ds
find_named [] n = refl
find_named (d ∷ ds) n = by (eq_by_cmp key_cmp n (definition_name d)) (eq_by_cmp key_cmp (definition_name d) n) (flip (definition_name d)) (find_named ds n)
  where
    flip : (m : Key) → eq_by_cmp key_cmp n m ≡ eq_by_cmp key_cmp m n
    flip m = sym (key_turn n m (eq_by_cmp key_cmp n m) refl)

    by : (a b : Bool) → a ≡ b → map.find key_cmp n (named ds) ≡ found (at_name n) ds → cond a (Some d) (map.find key_cmp n (named ds)) ≡ (if b then Some d else found (at_name n) ds)
    by true true e h = refl
    by false false e h = h
    by true false e h = cc
    by false true e h = cc

pub get_named : (ds : List Tree) (n : Key) → map.get (indexes_in ds) n ≡ found (at_name n) ds
get_named ds n = map.get-from_entries key_total (named ds) n ∙ find_named ds n

below_named : (n : Key) (ds : List Tree) → AllAfter key_cmp definition_name n ds → T (below_all key_cmp n (named ds))
below_named n [] a = tt
below_named n (d ∷ ds) a = rw a.0 (below_named n ds a.1)

pub and_T : (a b : Bool) → T a → T b → T (a && b)
and_T true true x y = tt
and_T true false x y = y
and_T false b x y = x

sorted_named : (ds : List Tree) → Rise key_cmp definition_name ds → T (map.is_sorted key_cmp (named ds))
sorted_named [] r = tt
sorted_named (d ∷ ds) r = and_T (below_all key_cmp (definition_name d) (named ds)) (map.is_sorted key_cmp (named ds)) (below_named (definition_name d) ds r.0) (sorted_named ds r.1)

named_values : (ds : List Tree) → each (λ (e : Key × Tree). e.1) (named ds) ≡ ds
named_values [] = refl
named_values (d ∷ ds) = ap (λ (z : List Tree). d ∷ z) (named_values ds)

entries_named : (ds : List Tree) → Rise key_cmp definition_name ds → map.entries (indexes_in ds) ≡ named ds
entries_named ds r =
    let s = sorted_named ds r in
    let is : map.from_sorted {R = key_cmp} (named ds) ≡ indexes_in ds = key_map_same _ _ (λ q. map.get-from_sorted key_cmp (named ds) q s ∙ sym (map.get-from_entries key_total (named ds) q)) in
    sym (ap map.entries is) ∙ map.entries-from_sorted key_cmp (named ds) s

pub values_named : (ds : List Tree) → Rise key_cmp definition_name ds → ds ≡ map.values (indexes_in ds)
values_named ds r = sym (ap (each (λ (e : Key × Tree). e.1)) (entries_named ds r) ∙ named_values ds)

named_keys : (ds : List Tree) → each (λ (e : Key × Tree). e.0) (named ds) ≡ each definition_name ds
named_keys [] = refl
named_keys (d ∷ ds) = ap (λ (z : List Key). definition_name d ∷ z) (named_keys ds)

pub keys_named : (ds : List Tree) → Rise key_cmp definition_name ds → map.keys (indexes_in ds) ≡ each definition_name ds
keys_named ds r = ap (each (λ (e : Key × Tree). e.0)) (entries_named ds r) ∙ named_keys ds

cond_same : (a b : Bool) (x : Option Tree) (o u : Option Tree) → a ≡ b → o ≡ u → (if a then x else o) ≡ cond b x u
cond_same true true x o u e f = refl
cond_same false false x o u e f = f
cond_same true false x o u e f = cc
cond_same false true x o u e f = cc

pub named_added : (ds : List Tree) (d : Tree) (at : ℕ) → IsGap (at_name (definition_name d)) ds at → indexes_in (insert ds at d) ≡ map.insert (indexes_in ds) (definition_name d) d
named_added ds d at g = key_map_same _ _ (λ q. get_named (insert ds at d) q
    ∙ (ap (found (at_name q)) (ap (λ (n : ℕ). insert ds n d) (sym g.is_place) ∙ put_at (at_name (definition_name d)) ds d)
    ∙ (found_put key_cmp key_total key_anti definition_name ds (definition_name d) q d refl
    ∙ (cond_same (same_key q (definition_name d)) (same_key q (definition_name d)) (Some d) (found (at_name q) ds) (map.get (indexes_in ds) q) refl (sym (get_named ds q))
    ∙ sym (key_at_insert (indexes_in ds) (definition_name d) d q)))))

pub rise_added : (ds : List Tree) (d : Tree) (at : ℕ) → IsGap (at_name (definition_name d)) ds at → Rise key_cmp definition_name ds → Rise key_cmp definition_name (insert ds at d)
rise_added ds d at g r =
    subst (Rise key_cmp definition_name) (sym (ap (λ (n : ℕ). insert ds n d) (sym g.is_place) ∙ put_at (at_name (definition_name d)) ds d))
    (rise_put key_cmp key_total key_anti definition_name ds (definition_name d) d refl g.is_absent r)

set_is : (ds : List Tree) (n : Key) (d : Tree) (at : ℕ) → IsFound (at_name n) ds at → Rise key_cmp definition_name ds → set ds at d ≡ set_in (at_name n) d ds
set_is ds n d at f r = ap (λ (i : ℕ). set ds i d) (sym f.is_place) ∙ set_at (at_name n) ds d (slice_index_or ds at d) (names_ordered ds n r) (f.is_found d)

pub named_set : (ds : List Tree) (d : Tree) (at : ℕ) → IsFound (at_name (definition_name d)) ds at → Rise key_cmp definition_name ds → indexes_in (set ds at d) ≡ map.insert (indexes_in ds) (definition_name d) d
named_set ds d at f r = key_map_same _ _ (λ q. get_named (set ds at d) q
    ∙ (ap (found (at_name q)) (set_is ds (definition_name d) d at f r)
    ∙ (found_set key_cmp key_total key_anti definition_name ds (definition_name d) q d (slice_index_or ds at d) refl (f.is_found d)
    ∙ (cond_same (same_key q (definition_name d)) (same_key q (definition_name d)) (Some d) (found (at_name q) ds) (map.get (indexes_in ds) q) refl (sym (get_named ds q))
    ∙ sym (key_at_insert (indexes_in ds) (definition_name d) d q)))))

pub rise_was_set : (ds : List Tree) (d : Tree) (at : ℕ) → IsFound (at_name (definition_name d)) ds at → Rise key_cmp definition_name ds → Rise key_cmp definition_name (set ds at d)
rise_was_set ds d at f r =
    subst (Rise key_cmp definition_name) (sym (set_is ds (definition_name d) d at f r)) (rise_set key_cmp key_total key_anti definition_name ds (definition_name d) d refl r)

remove_is : (ds : List Tree) (n : Key) (d : Tree) (at : ℕ) → IsFound (at_name n) ds at → Rise key_cmp definition_name ds → remove ds at ≡ take_out (at_name n) ds
remove_is ds n d at f r = ap (λ (i : ℕ). remove ds i) (sym f.is_place) ∙ take_at (at_name n) ds (slice_index_or ds at d) (names_ordered ds n r) (f.is_found d)

pub named_removed : (ds : List Tree) (n : Key) (d : Tree) (at : ℕ) → IsFound (at_name n) ds at → Rise key_cmp definition_name ds → indexes_in (remove ds at) ≡ map.remove (indexes_in ds) n
named_removed ds n d at f r = key_map_same _ _ (λ q. get_named (remove ds at) q
    ∙ (ap (found (at_name q)) (remove_is ds n d at f r)
    ∙ (found_take key_cmp key_total key_anti definition_name ds n q r
    ∙ (cond_same (same_key q n) (same_key q n) None (found (at_name q) ds) (map.get (indexes_in ds) q) refl (sym (get_named ds q))
    ∙ sym (key_at_remove (indexes_in ds) n q)))))

pub rise_removed : (ds : List Tree) (n : Key) (d : Tree) (at : ℕ) → IsFound (at_name n) ds at → Rise key_cmp definition_name ds → Rise key_cmp definition_name (remove ds at)
rise_removed ds n d at f r = subst (Rise key_cmp definition_name) (sym (remove_is ds n d at f r)) (rise_take key_cmp key_total key_anti definition_name ds n r)

pub named_there : (ds : List Tree) (n : Key) (d : Tree) (at : ℕ) → IsFound (at_name n) ds at → map.contains_key (indexes_in ds) n ≡ true
named_there ds n d at f = ap is_some (get_named ds n ∙ f.is_found d)

pub named_absent : (ds : List Tree) (n : Key) (at : ℕ) → IsGap (at_name n) ds at → map.contains_key (indexes_in ds) n ≡ false
named_absent ds n at g = ap is_some (get_named ds n ∙ g.is_absent)

pub named_stays : (ds : List Tree) (n : Key) (at : ℕ) → IsGap (at_name n) ds at → map.remove (indexes_in ds) n ≡ indexes_in ds
named_stays ds n at g = key_remove_same (indexes_in ds) n (get_named ds n ∙ g.is_absent)

-- the records behind a number
abbrev pub up_to : ℕ → Record → Ordering
up_to n r = if nat_le r.no n then Less else Greater

all_behind : (n low : ℕ) (rs : List Record) → n < low → Rising low (rows_in rs) → AllAbove (up_to n) rs
all_behind n low [] l up = tt
all_behind n low (r ∷ rs) l up = let a = up.0 in (above (nat_le r.no n) refl, all_behind n r.no rs (omega arith) up.2)
  where
    above : (b : Bool) → nat_le r.no n ≡ b → (if b then Less else Greater) ≡ Greater
    above true e = let a = up.0 in absurd (grind (arith, common_steps))
    above false e = refl

pub up_to_ordered : (n low : ℕ) (rs : List Record) → Rising low (rows_in rs) → IsOrdered (up_to n) rs
up_to_ordered n low [] up = tt
up_to_ordered n low (r ∷ rs) up = (by (nat_le r.no n) refl, up_to_ordered n r.no rs up.2)
  where
    by : (b : Bool) → nat_le r.no n ≡ b → Behind (up_to n) (if b then Less else Greater) rs
    by true e = tt
    by false e = all_behind n r.no rs (grind (arith, common_steps)) up.2

scan_all : (n k low : ℕ) (rs : List Record) → n < low → Rising low (rows_in rs) → scan n k (rows_in rs) ≡ rows_in (take k rs)
scan_all n zero low [] l up = refl
scan_all n zero low (r ∷ rs) l up = refl
scan_all n (suc k) low [] l up = refl
scan_all n (suc k) low (r ∷ rs) l up =
    let a = up.0 in
    let b : nat_lt n r.no ≡ true = grind (arith, common_steps) in
    rw b (ap (λ (z : List Row). row_in r ∷ z) (scan_all n k r.no rs (omega arith) up.2))

scan_none : (n : ℕ) (rs : List Row) → scan n zero rs ≡ []
scan_none n [] = refl
scan_none n (r ∷ rs) = refl

take_none : (rs : List Record) → take zero rs ≡ []
take_none [] = refl
take_none (r ∷ rs) = refl

pub scanned : (n k low : ℕ) (rs : List Record) → Rising low (rows_in rs) → scan n k (rows_in rs) ≡ rows_in (take k (drop (place (up_to n) rs) rs))
scanned n zero low rs up = scan_none n (rows_in rs) ∙ sym (ap rows_in (take_none (drop (place (up_to n) rs) rs)))
scanned n (suc k) low [] up = refl
scanned n (suc k) low (r ∷ rs) up = by (nat_le r.no n) refl (scanned n (suc k) r.no rs up.2)
  where
    by : (b : Bool) → nat_le r.no n ≡ b → scan n (suc k) (rows_in rs) ≡ rows_in (take (suc k) (drop (place (up_to n) rs) rs)) →
        scan n (suc k) (rows_in (r ∷ rs)) ≡ rows_in (take (suc k) (drop (place (up_to n) (r ∷ rs)) (r ∷ rs)))
    by true e h = let b : nat_lt n r.no ≡ false = grind (arith, common_steps) in rw (e, b) h
    by false e h =
        let b : nat_lt n r.no ≡ true = grind (arith, common_steps) in
        rw (e, b) (ap (λ (z : List Row). row_in r ∷ z) (scan_all n k r.no rs (grind (arith, common_steps)) up.2))

pub take_most : (k : ℕ) (rs : List Record) → take (min k (length rs)) rs ≡ take k rs
take_most zero rs = let m : min zero (length rs) ≡ zero = omega arith in ap (λ (n : ℕ). take n rs) m
take_most (suc k) [] = let m : min (suc k) 0 ≡ zero = omega arith in rw m refl
take_most (suc k) (r ∷ rs) = let m : min (suc k) (length (r ∷ rs)) ≡ suc (min k (length rs)) = omega arith in rw m (ap (λ (z : List Record). r ∷ z) (take_most k rs))

-- tables
pub table_put : (t : Table) (k : Key) (d : Document) (next : ℕ) (rows : List Row) → next ≡ next_after t.next (row_of t.rows k) → rows ≡ put_row t.next k d t.rows →
    ◌≡◌ {A = Table} (record { options = t.options; indexes = t.indexes; incarnation = t.incarnation; next = next; rows = rows }) (put_table k d t)
table_put t k d next rows e f = λ i. record { options = t.options; indexes = t.indexes; incarnation = t.incarnation; next = e i; rows = f i }

pub table_drop : (t : Table) (k : Key) (rows : List Row) → rows ≡ drop_row k t.rows →
    ◌≡◌ {A = Table} (record { options = t.options; indexes = t.indexes; incarnation = t.incarnation; next = t.next; rows = rows }) (drop_table k t)
table_drop t k rows f = λ i. record { options = t.options; indexes = t.indexes; incarnation = t.incarnation; next = t.next; rows = f i }

pub table_indexes : (t : Table) (m n : map.FinMap key_cmp Tree) → m ≡ n →
    ◌≡◌ {A = Table} (record { options = t.options; indexes = m; incarnation = t.incarnation; next = t.next; rows = t.rows }) (record { options = t.options; indexes = n; incarnation = t.incarnation; next = t.next; rows = t.rows })
table_indexes t m n f = λ i. record { options = t.options; indexes = f i; incarnation = t.incarnation; next = t.next; rows = t.rows }

pub with_definitions : (defs defs' : List Tree) (next : ℕ) (ns : List NumberedKey) (rs : List Record) → AreParts defs next ns rs → Rise key_cmp definition_name defs' → AreParts defs' next ns rs
with_definitions defs defs' next ns rs p r = record { definitions = r; keys = p.keys; covers = p.covers; rising = p.rising; next_above = p.next_above }

some_there : (o : Option Row) (n : ℕ) → no_in o ≡ Some n → is_some o ≡ true
some_there None n e = cc
some_there (Some r) n e = refl

pub is_there : (o : Option Row) (n : ℕ) → no_in o ≡ Some n → true ≡ is_some o
is_there o n e = sym (some_there o n e)

pub is_absent : (o : Option Row) → o ≡ None → false ≡ is_some o
is_absent o e = ap is_some (sym e)

-- where a definition was found, or wasn't
pub placed_ok : (ds slice : List Tree) (name n : Key) (at : ℕ) → slice ≡ ds → name ≡ n → Rise key_cmp definition_name ds → (Rise key_cmp definition_name slice → IsFound (at_name name) slice at) → IsFound (at_name n) ds at
placed_ok ds slice name n at e f r h = subst (λ (z : Key). IsFound (at_name z) ds at) f (subst (λ (z : List Tree). IsFound (at_name name) z at) e (h (subst (Rise key_cmp definition_name) (sym e) r)))

pub placed_err : (ds slice : List Tree) (name n : Key) (at : ℕ) → slice ≡ ds → name ≡ n → Rise key_cmp definition_name ds → (Rise key_cmp definition_name slice → IsGap (at_name name) slice at) → IsGap (at_name n) ds at
placed_err ds slice name n at e f r h = subst (λ (z : Key). IsGap (at_name z) ds at) f (subst (λ (z : List Tree). IsGap (at_name name) z at) e (h (subst (Rise key_cmp definition_name) (sym e) r)))

-- the records of a slice behind a number
take_whole : (xs : List Record) → take (length xs) xs ≡ xs
take_whole [] = refl
take_whole (x ∷ xs) = ap (λ (z : List Record). x ∷ z) (take_whole xs)

length_behind : (n : ℕ) (xs : List Record) → length (drop n xs) ≡ length xs - n
length_behind zero xs = omega arith
length_behind (suc n) [] = omega arith
length_behind (suc n) (x ∷ xs) = let h = length_behind n xs in omega arith

pub behind_is : (number n start most : ℕ) (rs slice : List Record) → Rising 0 (rows_in rs) → slice ≡ rs → start ≡ place (up_to number) rs → most ≡ min n (length slice - start) →
    rows_in (take most (take (length slice - start) (drop start slice))) ≡ scan number n (rows_in rs)
behind_is number n start most rs slice up e s m =
    let behind = drop start slice in
    let whole : take (length slice - start) behind ≡ behind = ap (λ (z : ℕ). take z behind) (sym (length_behind start slice)) ∙ take_whole behind in
    let few : take most behind ≡ take n behind = ap (λ (z : ℕ). take z behind) (m ∙ ap (min n) (sym (length_behind start slice))) ∙ take_most n behind in
    ap (λ (z : List Record). rows_in (take most z)) whole ∙ (ap rows_in few ∙ (ap (λ (z : List Record). rows_in (take n (drop start z))) e
    ∙ (ap (λ (z : ℕ). rows_in (take n (drop z rs))) s ∙ sym (scanned number n 0 rs up))))

pub on_ok : {A B : Type 0} {P Q : Type 0} (r : Result A B) → (P → Q) → OnOk r P → OnOk r Q
on_ok (Ok a) f h = f h
on_ok (Err b) f h = tt

pub rise_tried : {A B : Type 0} (r : Result A B) (ds new : List Tree) (d : Tree) (at : ℕ) → IsGap (at_name (definition_name d)) ds at → Rise key_cmp definition_name ds → OnOk r (new ≡ insert ds at d) → OnErr r (new ≡ ds) → Rise key_cmp definition_name new
rise_tried (Ok a) ds new d at g r ok err = subst (Rise key_cmp definition_name) (sym ok) (rise_added ds d at g r)
rise_tried (Err b) ds new d at g r ok err = subst (Rise key_cmp definition_name) (sym err) r
