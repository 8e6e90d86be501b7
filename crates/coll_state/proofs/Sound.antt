-- What holds of all collections holds after each call.
use Rattle.std.proofs.Common.{◌≡◌, ℕ, ◌+◌, ◌<◌, ◌≤◌, Bool, true, false, cond, refl, sym, ap, ◌∙◌, subst, arith, Option, Some, None}
use Rattle.std.specs.Prelude.{Result, Ok, Err, OnOk, OnErr}
use Rattle.std.specs.FinMap as map
use Rattle.bson_value.specs.declared.namespace.NsName.{NsName}
use Rattle.json_tree.specs.declared.tree.Tree.{Tree}
use Rattle.state_model.specs.Keys.{Key, key_cmp, same_ns}
use Rattle.state_model.specs.States.{no_options}
use Rattle.state_model.proofs.Keys.{ns_anti}
use Rattle.state_model.proofs.Maps.{ns_at_insert, ns_at_remove}
use Rattle.coll_state.specs.Rows.{Document, Row, Table, row_of, IsSound}
use Rattle.coll_state.specs.Changes.{Tables, put_table, drop_table, next_after, fresh_table, or_fresh, with_incarnation, described, put_index, take_index, on_found, on_there, renamed_in}
use Rattle.coll_state.proofs.RowLists.{rising_put, rising_drop, last_put, last_drop}

-- what holds of a collection while so many calls were counted
abbrev pub IsKeptWell : ℕ → Table → Type 0
IsKeptWell count t = IsSound t × (t.next ≤ count + 1) × (t.incarnation < count)

abbrev pub AreKeptWell : ℕ → Tables → Type 0
AreKeptWell count ts = (n : NsName) (t : Table) → map.get ts n ≡ Some t → IsKeptWell count t

pub later : (count : ℕ) (ts : Tables) → AreKeptWell count ts → AreKeptWell (count + 1) ts
later count ts h n t e = let w = h n t e in (w.0, (let a = w.1 in omega arith), (let a = w.2 in omega arith))

pub some_table : (a b : Table) → Some a ≡ Some b → a ≡ b
some_table a b e = cc

pub no_table : (t : Table) → None ≡ Some t → ⊥
no_table t e = cc

pub kept_insert : (count : ℕ) (ts : Tables) (k : NsName) (u : Table) → AreKeptWell count ts → IsKeptWell count u → AreKeptWell count (map.insert ts k u)
kept_insert count ts k u h w n t e = by (same_ns n k) (sym (ns_at_insert ts k u n) ∙ e)
  where
    by : (b : Bool) → cond b (Some u) (map.get ts n) ≡ Some t → IsKeptWell count t
    by true f = subst (IsKeptWell count) (some_table u t f) w
    by false f = h n t f

pub kept_remove : (count : ℕ) (ts : Tables) (k : NsName) → AreKeptWell count ts → AreKeptWell count (map.remove ts k)
kept_remove count ts k h n t e = by (same_ns n k) (sym (ns_at_remove ts k n) ∙ e)
  where
    by : (b : Bool) → cond b None (map.get ts n) ≡ Some t → IsKeptWell count t
    by true f = absurd (no_table t f)
    by false f = h n t f

pub kept_retain : (count : ℕ) (ts : Tables) (p : NsName → Bool) → AreKeptWell count ts → AreKeptWell count (map.retain_keys ts p)
kept_retain count ts p h n t e = by (p n) (sym (map.get-retain_keys ts p n (λ x f. ap p (sym (ns_anti n x f)))) ∙ e)
  where
    by : (b : Bool) → cond b (map.get ts n) None ≡ Some t → IsKeptWell count t
    by true f = h n t f
    by false f = absurd (no_table t f)

pub kept_there : (count : ℕ) (ts : Tables) (k : NsName) (g : Table → Table) → ((t : Table) → IsKeptWell count t → IsKeptWell count (g t)) → AreKeptWell count ts → AreKeptWell count (on_there g k ts)
kept_there count ts k g keeps h = by (map.get ts k) refl
  where
    by : (o : Option Table) → map.get ts k ≡ o → AreKeptWell count (on_found g k o ts)
    by None e = h
    by (Some t) e = kept_insert count ts k (g t) h (keeps t (h k t e))

-- tables
pub drop_keeps : (count : ℕ) (k : Key) (t : Table) → IsKeptWell count t → IsKeptWell count (drop_table k t)
drop_keeps count k t w =
    ((rising_drop 0 t.rows k w.0.0, (let a = last_drop 0 t.rows k w.0.0 in let b = w.0.1 in omega arith)), w.1, w.2)

pub index_keeps : (count : ℕ) (i : Key) (d : Tree) (t : Table) → IsKeptWell count t → IsKeptWell count (put_index i d t)
index_keeps count i d t w = w

pub no_index_keeps : (count : ℕ) (i : Key) (t : Table) → IsKeptWell count t → IsKeptWell count (take_index i t)
no_index_keeps count i t w = w

next_at_most : (next : ℕ) (o : Option Row) → next_after next o ≤ next + 1
next_at_most next None = omega arith
next_at_most next (Some r) = omega arith

pub put_keeps : (count : ℕ) (k : Key) (d : Document) (t : Table) → IsSound t → t.next ≤ count + 1 → t.incarnation ≤ count → IsKeptWell (count + 1) (put_table k d t)
put_keeps count k d t s n i =
    ((rising_put 0 t.rows t.next k d s.0 s.1, last_put 0 t.rows t.next k d s.1), (let a = next_at_most t.next (row_of t.rows k) in omega arith), omega arith)

fresh_sound : (inc : ℕ) (o : Tree) → IsSound (fresh_table inc o)
fresh_sound inc o = (tt, omega arith)

pub fresh_keeps : (count : ℕ) (o : Tree) → IsKeptWell (count + 1) (fresh_table count o)
fresh_keeps count o = (fresh_sound count o, omega arith, omega arith)

pub kept_put : (count : ℕ) (ts : Tables) (n : NsName) (k : Key) (d : Document) → AreKeptWell count ts → AreKeptWell (count + 1) (map.insert ts n (put_table k d (or_fresh count (map.get ts n))))
kept_put count ts n k d h = kept_insert (count + 1) ts n _ (later count ts h) (by (map.get ts n) refl)
  where
    by : (o : Option Table) → map.get ts n ≡ o → IsKeptWell (count + 1) (put_table k d (or_fresh count o))
    by None e = put_keeps count k d (fresh_table count no_options) (fresh_sound count no_options) (omega arith) (omega arith)
    by (Some t) e = let w = h n t e in put_keeps count k d t w.0 w.1 (let a = w.2 in omega arith)

-- after a call that may fail
pub tried : {A B : Type 0} (r : Result A B) (count : ℕ) (old good new : Tables) → AreKeptWell count old → AreKeptWell count good → OnOk r (new ≡ good) → OnErr r (new ≡ old) → AreKeptWell count new
tried (Ok a) count old good new h g ok err = subst (AreKeptWell count) (sym ok) g
tried (Err b) count old good new h g ok err = subst (AreKeptWell count) (sym err) h

pub kept_renamed : (count : ℕ) (ts : Tables) (from to : NsName) → AreKeptWell count ts → AreKeptWell (count + 1) (renamed_in from (map.get ts from) to count ts)
kept_renamed count ts from to h = by (map.get ts from) refl
  where
    by : (o : Option Table) → map.get ts from ≡ o → AreKeptWell (count + 1) (renamed_in from o to count ts)
    by None e = later count ts h
    by (Some t) e =
        let w = h from t e in
        kept_insert (count + 1) (map.remove ts from) to (with_incarnation count t) (kept_remove (count + 1) ts from (later count ts h)) (w.0, (let a = w.1 in omega arith), omega arith)

pub kept_described : (count : ℕ) (ts : Tables) (n : NsName) (o : Tree) (defs : map.FinMap key_cmp Tree) → AreKeptWell count ts → AreKeptWell (count + 1) (map.insert ts n (described o defs (or_fresh count (map.get ts n))))
kept_described count ts n o defs h = kept_insert (count + 1) ts n _ (later count ts h) (by (map.get ts n) refl)
  where
    by : (x : Option Table) → map.get ts n ≡ x → IsKeptWell (count + 1) (described o defs (or_fresh count x))
    by None e = fresh_keeps count no_options
    by (Some t) e = let w = h n t e in (w.0, (let a = w.1 in omega arith), (let a = w.2 in omega arith))
