-- The first document of a collection that is missing.
use Rattle.std.proofs.Common.{◌≡◌, ℕ, ◌+◌, Bool, true, false, cond, refl, sym, ap, ◌∙◌, arith, Option, Some, None}
use Rattle.std.specs.Prelude.{is_some}
use Rattle.std.specs.FinMap as map
use Rattle.bson_value.specs.declared.namespace.NsName.{NsName}
use Rattle.state_model.specs.Keys.{Key, same_ns}
use Rattle.state_model.specs.States.{no_options}
use Rattle.state_model.proofs.Maps.{ns_at_insert, ns_insert_here, ns_map_same}
use Rattle.coll_state.specs.Rows.{Document, Table, Rows}
use Rattle.coll_state.specs.Changes.{Tables, put_table, fresh_table, or_fresh, put_under, create}

insert_twice : (ts : Tables) (n : NsName) (u v : Table) → map.insert (map.insert ts n u) n v ≡ map.insert ts n v
insert_twice ts n u v =
    ns_map_same (map.insert (map.insert ts n u) n v) (map.insert ts n v)
    (λ q. ns_at_insert (map.insert ts n u) n v q ∙ (by (same_ns q n) (map.get (map.insert ts n u) q) (map.get ts q) (ns_at_insert ts n u q) ∙ sym (ns_at_insert ts n v q)))
  where
    by : (b : Bool) (x y : Option Table) → x ≡ cond b (Some u) y → cond b (Some v) x ≡ cond b (Some v) y
    by true x y e = refl
    by false x y e = e

missing_fresh : (c : ℕ) (o : Option Table) → is_some o ≡ false → or_fresh c o ≡ fresh_table c no_options
missing_fresh c None e = refl
missing_fresh c (Some t) e = cc

two_more : (c : ℕ) → c + 1 + 1 ≡ c + 2
two_more c = omega arith

-- what a missing collection is with its first document
abbrev pub with_first : NsName → Key → Document → Rows → Rows
with_first n k d s = record { tables = map.insert s.tables n (put_table k d (or_fresh s.count (map.get s.tables n))); count = s.count + 2 }

pub first_put : (s : Rows) (n : NsName) (k : Key) (d : Document) → map.contains_key s.tables n ≡ false → put_under n k d (create n no_options s) ≡ with_first n k d s
first_put s n k d e =
    (let t = fresh_table s.count no_options in
    let made : map.insert (map.insert s.tables n t) n (put_table k d (or_fresh (s.count + 1) (map.get (map.insert s.tables n t) n))) ≡ map.insert s.tables n (put_table k d (or_fresh s.count (map.get s.tables n))) =
    ap (λ (o : Option Table). map.insert (map.insert s.tables n t) n (put_table k d (or_fresh (s.count + 1) o))) (ns_insert_here s.tables n t)
    ∙ (insert_twice s.tables n t (put_table k d t)
    ∙ ap (λ (u : Table). map.insert s.tables n (put_table k d u)) (sym (missing_fresh s.count (map.get s.tables n) e))) in
    λ i. record { tables = made i; count = two_more s.count i })
