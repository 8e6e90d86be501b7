-- Documents under the numbers of their keys are those of the collection, in the order of their keys.
use Rattle.std.proofs.Common.{◌≡◌, ℕ, List, [], ◌∷◌, map as each, Bool, true, false, cond, refl, sym, ap, ◌∙◌, subst, Option, Some, None, inl, inr}
use Rattle.std.specs.Prelude.{⊤, option_map, is_some, T}
use Rattle.std.specs.FinMap as map
use Rattle.std.specs.FinMap.Entries.{below_all}
use Rattle.std.specs.declared.cmp.Ordering.{Ordering}
use Rattle.std.specs.declared.cmp.Ordering.TheVariants.{Equal}
use Rattle.std.proofs.lemmas.Bool.{cases_Bool}
use Rattle.bson_value.specs.declared.value.Value.{Value, Object}
use Rattle.json_tree.specs.declared.tree.Tree.{Tree}
use Rattle.state_model.specs.Keys.{Key, key_cmp, same_key}
use Rattle.state_model.proofs.Keys.{key_is, key_refl, key_turn}
use Rattle.state_model.proofs.Maps.{key_map_same}
use Rattle.coll_state.specs.declared.collection.NumberedKey.{NumberedKey}
use Rattle.coll_state.specs.declared.collection.Record.{Record}
use Rattle.coll_state.specs.Rows.{Row, Table, row_of, Rising, collection_of}
use Rattle.coll_state.specs.Documents.{under, put_value, values_under, AllThere, AreNumbered}
use Rattle.sorted_list.specs.Order.{Behind, found}
use Rattle.coll_state.specs.Stock.{AllAfter, Rise, key_of_number, number_of, row_in, rows_in, table_in, Covers, AreParts}
use Rattle.sorted_list.proofs.Order.{none_above}
use Rattle.coll_state.proofs.Keyed.{is_equal}
use Rattle.coll_state.proofs.RowLists.{no_in, row_absent}
use Rattle.coll_state.proofs.Records.{found_row}
use Rattle.coll_state.proofs.Parts.{at_key, numbers_ordered, and_T as both}
use Rattle.coll_state.proofs.Links.{get_document}

-- each number is that of its key's row
abbrev Tell : List NumberedKey → List Record → Type 0
Tell [] rs = ⊤
Tell (e ∷ es) rs = (no_in (row_of (rows_in rs) e.key) ≡ Some e.no) × Tell es rs

Tells : List NumberedKey → List Record → Type 0
Tells ns rs = (k : Key) (n : ℕ) → number_of ns k ≡ Some n → no_in (row_of (rows_in rs) k) ≡ Some n

none_behind : (o : Ordering) (k : Key) (es : List NumberedKey) → o ≡ Equal → Behind (at_key k) o es → found (at_key k) es ≡ None
none_behind o k es e b = let f = subst (λ (z : Ordering). Behind (at_key k) z es) e b in none_above (at_key k) es f

tells : (ns : List NumberedKey) (rs : List Record) → Rise key_cmp key_of_number ns → Tells ns rs → Tell ns rs
unfolding Tells
tells [] rs r h = tt
tells (e ∷ es) rs r h = (h e.key e.no here, tells es rs r.1 (λ k n f. h k n (later k n f)))
  where
    here : number_of (e ∷ es) e.key ≡ Some e.no
    here = rw (key_refl e.key) refl

    gone : (k : Key) → same_key e.key k ≡ true → number_of es k ≡ None
    gone k s = ap (option_map (λ (z : NumberedKey). z.no)) (none_behind (key_cmp e.key k) k es (is_equal (key_cmp e.key k) s) (numbers_ordered (e ∷ es) k r).0)

    no_some : (o : Option ℕ) (n : ℕ) → o ≡ None → o ≡ Some n → ⊥
    no_some o n a b = cc

    later : (k : Key) (n : ℕ) → number_of es k ≡ Some n → number_of (e ∷ es) k ≡ Some n
    later k n f = elim (cases_Bool (same_key e.key k)) [
      | inl s ↦ absurd (no_some (number_of es k) n (gone k s) f)
      | inr s ↦ rw s f
    ]

covered : (ns : List NumberedKey) (rs : List Record) → Covers ns (rows_in rs) → Tells ns rs
unfolding Tells
covered ns rs c k n e = sym (c k) ∙ e

-- ---- entries

abbrev put_entry : Key → Option Record → List (Key × Value) → List (Key × Value)
put_entry k None es = es
put_entry k (Some r) es = (k, Object r.document) ∷ es

abbrev entries_under : List NumberedKey → List Record → List (Key × Value)
entries_under [] rs = []
entries_under (e ∷ es) rs = put_entry e.key (under rs e.no) (entries_under es rs)

below_under : (k : Key) (es : List NumberedKey) (rs : List Record) → AllAfter key_cmp key_of_number k es → T (below_all key_cmp k (entries_under es rs))
below_under k [] rs a = tt
below_under k (e ∷ es) rs a = by (under rs e.no) (below_under k es rs a.1)
  where
    by : (o : Option Record) → T (below_all key_cmp k (entries_under es rs)) → T (below_all key_cmp k (put_entry e.key o (entries_under es rs)))
    by None h = h
    by (Some r) h = rw a.0 h

sorted_under : (ns : List NumberedKey) (rs : List Record) → Rise key_cmp key_of_number ns → T (map.is_sorted key_cmp (entries_under ns rs))
sorted_under [] rs r = tt
sorted_under (e ∷ es) rs r = by (under rs e.no) (sorted_under es rs r.1)
  where
    by : (o : Option Record) → T (map.is_sorted key_cmp (entries_under es rs)) → T (map.is_sorted key_cmp (put_entry e.key o (entries_under es rs)))
    by None h = h
    by (Some x) h = both (below_all key_cmp e.key (entries_under es rs)) (map.is_sorted key_cmp (entries_under es rs)) (below_under e.key es rs r.0) h

values_of : (ns : List NumberedKey) (rs : List Record) → each (λ (e : Key × Value). e.1) (entries_under ns rs) ≡ values_under ns rs
values_of [] rs = refl
values_of (e ∷ es) rs = by (under rs e.no) (values_of es rs)
  where
    by : (o : Option Record) → each (λ (e : Key × Value). e.1) (entries_under es rs) ≡ values_under es rs → each (λ (e : Key × Value). e.1) (put_entry e.key o (entries_under es rs)) ≡ put_value o (values_under es rs)
    by None h = h
    by (Some r) h = ap (λ (l : List Value). Object r.document ∷ l) h

-- ---- what is found in them

abbrev value_in : Option Row → Option Value
value_in o = option_map (λ (r : Row). Object r.document) o

abbrev value_there : Option NumberedKey → Option Row → Option Value
value_there None o = None
value_there (Some e) o = value_in o

find_under : (ns : List NumberedKey) (rs : List Record) (k : Key) → Rising 0 (rows_in rs) → Tell ns rs → map.find key_cmp k (entries_under ns rs) ≡ value_there (found (at_key k) ns) (row_of (rows_in rs) k)
find_under [] rs k up t = refl
find_under (e ∷ es) rs k up t = by (under rs e.no) (found_row 0 rs e.key e.no up t.0) (find_under es rs k up t.1)
  where
    no_row : (o : Option Row) → None ≡ o → no_in o ≡ Some e.no → ⊥
    no_row o a b = cc

    here : (r : Record) → Some (row_in r) ≡ row_of (rows_in rs) e.key → map.find key_cmp k (entries_under es rs) ≡ value_there (found (at_key k) es) (row_of (rows_in rs) k) → (b : Bool) → same_key k e.key ≡ b →
        cond b (Some (Object r.document)) (map.find key_cmp k (entries_under es rs)) ≡ value_there (cond b (Some e) (found (at_key k) es)) (row_of (rows_in rs) k)
    here r i h true s = ap value_in i ∙ ap (λ (z : Key). value_in (row_of (rows_in rs) z)) (sym (key_is k e.key s))
    here r i h false s = h

    turned : (b : Bool) → same_key k e.key ≡ b → same_key e.key k ≡ b
    turned b s = key_turn k e.key b s

    by : (o : Option Record) → option_map row_in o ≡ row_of (rows_in rs) e.key → map.find key_cmp k (entries_under es rs) ≡ value_there (found (at_key k) es) (row_of (rows_in rs) k) →
        map.find key_cmp k (put_entry e.key o (entries_under es rs)) ≡ value_there (found (at_key k) (e ∷ es)) (row_of (rows_in rs) k)
    by None i h = absurd (no_row (row_of (rows_in rs) e.key) i t.0)
    by (Some r) i h = here r i h (same_key k e.key) refl ∙ ap (λ (b : Bool). value_there (cond b (Some e) (found (at_key k) es)) (row_of (rows_in rs) k)) (sym (turned (same_key k e.key) refl))

all_found : (ns : List NumberedKey) (rs : List Record) (k : Key) → Covers ns (rows_in rs) → value_there (found (at_key k) ns) (row_of (rows_in rs) k) ≡ value_in (row_of (rows_in rs) k)
all_found ns rs k c = by (found (at_key k) ns) refl
  where
    by : (o : Option NumberedKey) → found (at_key k) ns ≡ o → value_there o (row_of (rows_in rs) k) ≡ value_in (row_of (rows_in rs) k)
    by None e = sym (ap value_in (row_absent (rows_in rs) k (row_of (rows_in rs) k) refl (sym (c k) ∙ ap (option_map (λ (z : NumberedKey). z.no)) e)))
    by (Some z) e = refl

pub values_by_key : (options : Tree) (defs : List Tree) (incarnation next : ℕ) (ns : List NumberedKey) (rs : List Record) → AreParts defs next ns rs →
    values_under ns rs ≡ map.values (collection_of (table_in options defs incarnation next rs)).documents
values_by_key options defs incarnation next ns rs p =
    let t : Table = table_in options defs incarnation next rs in
    let told : Tell ns rs = tells ns rs p.keys (covered ns rs p.covers) in
    let s = sorted_under ns rs p.keys in
    let is : map.from_sorted {R = key_cmp} (entries_under ns rs) ≡ (collection_of t).documents = key_map_same _ _ (λ k. map.get-from_sorted key_cmp (entries_under ns rs) k s
    ∙ (find_under ns rs k p.rising told ∙ (all_found ns rs k p.covers ∙ sym (get_document t k)))) in
    sym (values_of ns rs) ∙ ap (each (λ (e : Key × Value). e.1)) (sym (map.entries-from_sorted key_cmp (entries_under ns rs) s) ∙ ap map.entries is)

-- ---- each number has a record

all_there : (ns : List NumberedKey) (rs : List Record) → Rising 0 (rows_in rs) → Tell ns rs → AllThere ns rs
all_there [] rs up t = tt
all_there (e ∷ es) rs up t = (by (under rs e.no) (found_row 0 rs e.key e.no up t.0), all_there es rs up t.1)
  where
    no_row : (o : Option Row) → None ≡ o → no_in o ≡ Some e.no → ⊥
    no_row o a b = cc

    by : (o : Option Record) → option_map row_in o ≡ row_of (rows_in rs) e.key → is_some o ≡ true
    by None i = absurd (no_row (row_of (rows_in rs) e.key) i t.0)
    by (Some r) i = refl

pub are_numbered : (defs : List Tree) (next : ℕ) (ns : List NumberedKey) (rs : List Record) → AreParts defs next ns rs → AreNumbered ns rs
are_numbered defs next ns rs p = record { rising = p.rising; there = all_there ns rs p.rising (tells ns rs p.keys (covered ns rs p.covers)) }
