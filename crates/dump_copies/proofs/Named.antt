-- Copies by their names.
use Rattle.std.proofs.Common.{◌≡◌, ℕ, zero, suc, ◌+◌, ◌<◌, List, [], ◌∷◌, length, get_or, Bool, true, false, cond, Option, Some, refl, sym, ap, ◌∙◌, subst, arith, set, eqb, map as each}
use Rattle.std.specs.Prelude.{◌&&◌, T, option_map, slice_index_or, if◌then◌else◌}
use Rattle.std.specs.List.{list_all}
use Rattle.std.specs.FinMap as map
use Rattle.std.specs.FinMap.Entries.{below_all}
use Rattle.std.proofs.lemmas.Bool.{ne_eqb}
use Rattle.bson_value.specs.declared.namespace.NsName.{NsName}
use Rattle.bson_value.specs.NamespaceOrder.{namespace_cmp}
use Rattle.state_model.specs.Keys.{same_ns}
use Rattle.state_model.proofs.Keys.{ns_total, ns_anti, ns_turn}
use Rattle.state_model.proofs.Maps.{ns_map_same, ns_at_insert}
use Rattle.sorted_list.specs.Order.{IsFound, IsOrdered, found, set_in}
use Rattle.sorted_list.proofs.Order.{set_at}
use Rattle.coll_state.specs.Stock.{AllAfter, Rise}
use Rattle.coll_state.proofs.Keyed.{rise_ordered, found_set, rise_set}
use Rattle.copy_model.specs.Cursors.{Cursor}
use Rattle.history_model.specs.Runs.{all_ended}
use Rattle.dump_copies.specs.Places.{name_of, open_count, cursor_in, at_name, copies_in}
use Rattle.dump_copies.specs.declared.copies.CollectionCopy.{CollectionCopy}

pub ordered : (cs : List CollectionCopy) (n : NsName) → Rise namespace_cmp name_of cs → IsOrdered (at_name n) cs
ordered cs n r = rise_ordered namespace_cmp ns_total ns_anti name_of cs n r

pub set_is : (cs : List CollectionCopy) (n : NsName) (y : CollectionCopy) (at : ℕ) → IsFound (at_name n) cs at → Rise namespace_cmp name_of cs → set cs at y ≡ set_in (at_name n) y cs
set_is cs n y at f r = ap (λ (i : ℕ). set cs i y) (sym f.is_place) ∙ set_at (at_name n) cs y (slice_index_or cs at y) (ordered cs n r) (f.is_found y)

pub rise_was_set : (cs : List CollectionCopy) (n : NsName) (y : CollectionCopy) (at : ℕ) → IsFound (at_name n) cs at → name_of y ≡ n → Rise namespace_cmp name_of cs → Rise namespace_cmp name_of (set cs at y)
rise_was_set cs n y at f e r = subst (Rise namespace_cmp name_of) (sym (set_is cs n y at f r)) (rise_set namespace_cmp ns_total ns_anti name_of cs n y e r)

cond_map : {A B : Type 0} (f : A → B) (b : Bool) (y : A) (o : Option A) → option_map f (cond b (Some y) o) ≡ cond b (Some (f y)) (option_map f o)
cond_map f true y o = refl
cond_map f false y o = refl

module _ {X : Type 0} (f : CollectionCopy → X) where
  abbrev pub entry : CollectionCopy → NsName × X
  entry c = (name_of c, f c)

  find_entry : (cs : List CollectionCopy) (n : NsName) → map.find namespace_cmp n (each entry cs) ≡ option_map f (found (at_name n) cs)
  find_entry [] n = refl
  find_entry (c ∷ cs) n = by (same_ns n (name_of c)) (same_ns (name_of c) n) (sym (ns_turn n (name_of c) (same_ns n (name_of c)) refl)) (find_entry cs n)
    where
      by : (a b : Bool) → a ≡ b → map.find namespace_cmp n (each entry cs) ≡ option_map f (found (at_name n) cs) → cond a (Some (f c)) (map.find namespace_cmp n (each entry cs)) ≡ option_map f (cond b (Some c) (found (at_name n) cs))
      by true true e h = refl
      by false false e h = h
      by true false e h = cc
      by false true e h = cc

  pub get_entry : (cs : List CollectionCopy) (n : NsName) → map.get (map.from_entries {R = namespace_cmp} (each entry cs)) n ≡ option_map f (found (at_name n) cs)
  get_entry cs n = map.get-from_entries ns_total (each entry cs) n ∙ find_entry cs n

  pub entry_set : (cs : List CollectionCopy) (n : NsName) (y : CollectionCopy) (at : ℕ) → IsFound (at_name n) cs at → name_of y ≡ n → Rise namespace_cmp name_of cs →
      map.from_entries {R = namespace_cmp} (each entry (set cs at y)) ≡ map.insert (map.from_entries (each entry cs)) n (f y)
  entry_set cs n y at w e r = ns_map_same _ _ (λ q. get_entry (set cs at y) q
      ∙ (ap (λ (z : List CollectionCopy). option_map f (found (at_name q) z)) (set_is cs n y at w r)
      ∙ (ap (option_map f) (found_set namespace_cmp ns_total ns_anti name_of cs n q y (slice_index_or cs at y) e (w.is_found y))
      ∙ (cond_map f (same_ns q n) y (found (at_name q) cs)
      ∙ (ap (cond (same_ns q n) (Some (f y))) (sym (get_entry cs q))
      ∙ sym (ns_at_insert (map.from_entries (each entry cs)) n (f y) q))))))

  and_T : (a b : Bool) → T a → T b → T (a && b)
  and_T true true x y = tt
  and_T true false x y = y
  and_T false b x y = x

  below_entries : (n : NsName) (cs : List CollectionCopy) → AllAfter namespace_cmp name_of n cs → T (below_all namespace_cmp n (each entry cs))
  below_entries n [] a = tt
  below_entries n (c ∷ cs) a = rw a.0 (below_entries n cs a.1)

  sorted_entries : (cs : List CollectionCopy) → Rise namespace_cmp name_of cs → T (map.is_sorted namespace_cmp (each entry cs))
  sorted_entries [] r = tt
  sorted_entries (c ∷ cs) r = and_T (below_all namespace_cmp (name_of c) (each entry cs)) (map.is_sorted namespace_cmp (each entry cs)) (below_entries (name_of c) cs r.0) (sorted_entries cs r.1)

  pub entries_are : (cs : List CollectionCopy) → Rise namespace_cmp name_of cs → map.entries (map.from_entries {R = namespace_cmp} (each entry cs)) ≡ each entry cs
  entries_are cs r =
      let s = sorted_entries cs r in
      let is : map.from_sorted {R = namespace_cmp} (each entry cs) ≡ map.from_entries (each entry cs) = ns_map_same _ _ (λ q. map.get-from_sorted namespace_cmp (each entry cs) q s ∙ sym (map.get-from_entries ns_total (each entry cs) q)) in
      ap map.entries (sym is) ∙ map.entries-from_sorted namespace_cmp (each entry cs) s

-- ---- how many are open

none_open : (cs : List CollectionCopy) → eqb (open_count cs) 0 ≡ list_all (λ (e : NsName × Cursor). e.1.ended) (each cursor_in cs)
none_open [] = refl
none_open (c ∷ cs) = by c.cursor.cursor.ended (none_open cs)
  where
    by : (b : Bool) → eqb (open_count cs) 0 ≡ list_all (λ (e : NsName × Cursor). e.1.ended) (each cursor_in cs) → eqb (if b then open_count cs else suc (open_count cs)) 0 ≡ (b && list_all (λ (e : NsName × Cursor). e.1.ended) (each cursor_in cs))
    by true h = h
    by false h = ne_eqb (suc (open_count cs)) 0 (λ e. omega (arith, e))

pub all_have_ended : (cs : List CollectionCopy) → Rise namespace_cmp name_of cs → eqb (open_count cs) 0 ≡ all_ended (copies_in cs).cursors
all_have_ended cs r = none_open cs ∙ ap (list_all (λ (e : NsName × Cursor). e.1.ended)) (sym (entries_are (λ (c : CollectionCopy). c.cursor.cursor) cs r))

count_set : (cs : List CollectionCopy) (at : ℕ) (y d : CollectionCopy) → at < length cs → (get_or cs at d).cursor.cursor.ended ≡ false → open_count (set cs at y) + 1 ≡ (if y.cursor.cursor.ended then open_count cs else open_count cs + 1)
count_set [] at y d l e = absurd (omega arith)
count_set (c ∷ cs) zero y d l e = rw e (by y.cursor.cursor.ended)
  where
    by : (b : Bool) → (if b then open_count cs else suc (open_count cs)) + 1 ≡ (if b then suc (open_count cs) else suc (open_count cs) + 1)
    by true = omega arith
    by false = refl
count_set (c ∷ cs) (suc at) y d l e = by c.cursor.cursor.ended y.cursor.cursor.ended (count_set cs at y d (omega arith) e)
  where
    by : (a b : Bool) → open_count (set cs at y) + 1 ≡ (if b then open_count cs else open_count cs + 1) →
        (if a then open_count (set cs at y) else suc (open_count (set cs at y))) + 1 ≡ (if b then (if a then open_count cs else suc (open_count cs)) else (if a then open_count cs else suc (open_count cs)) + 1)
    by true b h = h
    by false true h = omega (arith, h)
    by false false h = omega (arith, h)

pub count_ended : (cs : List CollectionCopy) (at : ℕ) (y d : CollectionCopy) → at < length cs → (get_or cs at d).cursor.cursor.ended ≡ false → y.cursor.cursor.ended ≡ true → open_count (set cs at y) + 1 ≡ open_count cs
count_ended cs at y d l e f = count_set cs at y d l e ∙ ap (λ (b : Bool). if b then open_count cs else open_count cs + 1) f

pub count_same : (cs : List CollectionCopy) (at : ℕ) (y d : CollectionCopy) → at < length cs → (get_or cs at d).cursor.cursor.ended ≡ false → y.cursor.cursor.ended ≡ false → open_count (set cs at y) ≡ open_count cs
count_same cs at y d l e f = (let g = count_set cs at y d l e ∙ ap (λ (b : Bool). if b then open_count cs else open_count cs + 1) f in omega (arith, g))
