-- How many writes there are in what is made, and how much they add to a state and to rows.
use Rattle.std.proofs.Common.{◌≡◌, ℕ, suc, ◌+◌, ◌≤◌, List, [], ◌∷◌, ◌++◌, length, Bool, true, false, cond, not, refl, sym, ◌∙◌, arith, Option, Some, None}
use Rattle.std.specs.Prelude.{filter}
use Rattle.std.specs.FinMap as map
use Rattle.bson_value.specs.declared.namespace.NsName.{NsName}
use Rattle.bson_value.specs.declared.value.Ts.{Ts}
use Rattle.bson_value.specs.NamespaceOrder.{namespace_cmp}
use Rattle.json_tree.specs.declared.tree.Tree.{Tree}
use Rattle.state_model.specs.Keys.{Key, same_key}
use Rattle.state_model.specs.States.{State, Collection, no_options}
use Rattle.state_model.specs.Replay.{on_there, remove_document, add_index, drop_index}
use Rattle.coll_state.specs.Rows.{Document as Fields, Table, Rows}
use Rattle.coll_state.specs.Changes.{put_table, drop_table, fresh_table, with_incarnation, no_rows, put_index, take_index}
use Rattle.coll_state.specs.Changes as rows
use Rattle.coll_state.specs.Definitions.{definition_name}
use Rattle.copy_model.specs.Writes.{SingleWrite, Put, Remove, Create, DropColl, DropDb, AddIndex, DropIndex, change, change_rows}
use Rattle.history_model.specs.Stages.{Write, Single, Rename, Txn, change_all, moved, changed_by, rows_all, rows_by, Made}
use Rattle.history_model.specs.Histories.{history_of, state_from, state}
use Rattle.history_model.specs.Recordings.{rows_of_made}
use Rattle.archive_length.proofs.Totals.{Weight, total, at, sum, inserted_sum, removed_sum, retained_sum, replaced_sum}

-- a transaction counts as one write more than it has
abbrev pub work : Write → ℕ
work (Single w) = 1
work (Rename a b) = 1
work (Txn ws) = suc (length ws)

abbrev pub work_in : List (Ts × Write) → ℕ
work_in [] = 0
work_in (e ∷ es) = work e.1 + work_in es

abbrev pub work_made : List Made → ℕ
work_made [] = 0
work_made (m ∷ ms) = work m.write + work_made ms

work_some : (w : Write) → 1 ≤ work w
work_some (Single w) = omega arith
work_some (Rename a b) = omega arith
work_some (Txn ws) = omega arith

pub made_few : (ms : List Made) → length ms ≤ work_made ms
made_few [] = omega arith
made_few (m ∷ ms) = omega (arith, work_some m.write, made_few ms)

pub work_join : (ms ns : List Made) → work_made (ms ++ ns) ≡ work_made ms + work_made ns
work_join [] ns = omega arith
work_join (m ∷ ms) ns = omega (arith, work_join ms ns)

work_history : (ms : List Made) → work_in (history_of ms) ≡ work_made ms
work_history [] = omega arith
work_history (m ∷ ms) = omega (arith, work_history ms)

work_filter : (p : Ts × Write → Bool) (es : List (Ts × Write)) → work_in (filter p es) ≤ work_in es
work_filter p [] = omega arith
work_filter p (e ∷ es) = by (p e) (work_filter p es)
  where
    by : (b : Bool) → work_in (filter p es) ≤ work_in es → work_in (cond b (e ∷ filter p es) (filter p es)) ≤ work e.1 + work_in es
    by true h = omega (arith, h)
    by false h = omega (arith, h)

-- ---- collections of a state

abbrev pub one : {X : Type 0} → Weight X
one n x = 1

there_few : (g : Collection → Collection) (n : NsName) (o : Option Collection) (s : State) → sum one (on_there g n o s) ≤ sum one s + 1
there_few g n None s = omega arith
there_few g n (Some c) s = inserted_sum one s n (g c)

removed_few : (s : State) (n : NsName) → sum one (map.remove s n) ≤ sum one s
removed_few s n = omega (arith, removed_sum one s n)

change_few : (w : SingleWrite) (s : State) → sum one (change w s) ≤ sum one s + 1
change_few (Put n k d) s = inserted_sum one s n _
change_few (Remove n k) s = there_few (remove_document k) n (map.get s n) s
change_few (Create n o) s = inserted_sum one s n _
change_few (DropColl n) s = omega (arith, removed_few s n)
change_few (DropDb d) s = omega (arith, retained_sum one s (λ n. not (same_key n.db d)))
change_few (AddIndex n d) s = there_few (add_index (definition_name d) d) n (map.get s n) s
change_few (DropIndex n i) s = there_few (drop_index i) n (map.get s n) s

all_few : (ws : List SingleWrite) (s : State) → sum one (change_all ws s) ≤ sum one s + length ws
all_few [] s = omega arith
all_few (w ∷ ws) s = omega (arith, change_few w s, all_few ws (change w s))

moved_few : (a b : NsName) (o : Option Collection) (s : State) → sum one (moved a b o s) ≤ sum one s + 1
moved_few a b None s = omega arith
moved_few a b (Some c) s = omega (arith, inserted_sum one (map.remove s a) b c, removed_few s a)

write_few : (w : Write) (s : State) → sum one (changed_by w s) ≤ sum one s + work w
write_few (Single w) s = change_few w s
write_few (Rename a b) s = moved_few a b (map.get s a) s
write_few (Txn ws) s = omega (arith, all_few ws s)

from_few : (h : List (Ts × Write)) (s : State) → sum one (state_from s h) ≤ sum one s + work_in h
from_few [] s = omega arith
from_few (e ∷ es) s = omega (arith, write_few e.1 s, from_few es (changed_by e.1 s))

-- the sum of a map that has no entries
pub nothing_sum : {X : Type 0} (w : Weight X) → sum w map.empty ≡ 0
nothing_sum w = by (map.entries map.empty) (sym (map.len-entries map.empty) ∙ map.len-empty namespace_cmp _)
  where
    by : (es : List _) → length es ≡ 0 → total w es ≡ 0
    by [] e = refl
    by (x ∷ es) e = absurd (omega (arith, e))

-- as many collections as writes at most, also where only some of them were made
pub state_few : (p : Ts × Write → Bool) (ms : List Made) → sum one (state (filter p (history_of ms))) ≤ work_made ms
state_few p ms = omega (arith, from_few (filter p (history_of ms)) map.empty, nothing_sum {X = Collection} one, work_filter p (history_of ms), work_history ms)

-- ---- rows

-- what a collection weighs on rows of this count: a new document is one more, nothing else adds to it, and under a new name, with its new incarnation, it weighs no more
pub record IsWeight (count : ℕ) (w : Weight Table) : Type 0 where
  pub document : (n : NsName) (k : Key) (d : Fields) (t : Table) → w n (put_table k d t) ≤ w n t + 1
  pub taken : (n : NsName) (k : Key) (t : Table) → w n (drop_table k t) ≤ w n t
  pub fresh : (n : NsName) (i : ℕ) (o : Tree) → w n (fresh_table i o) ≡ 0
  pub index : (n : NsName) (i : Key) (d : Tree) (t : Table) → w n (put_index i d t) ≤ w n t
  pub no_index : (n : NsName) (i : Key) (t : Table) → w n (take_index i t) ≤ w n t
  pub renamed : (a b : NsName) (i : ℕ) (t : Table) → count ≤ i → w b (with_incarnation i t) ≤ w a t

pub later_weight : (count more : ℕ) (w : Weight Table) → count ≤ more → IsWeight count w → IsWeight more w
later_weight count more w l h = record { document = h.document; taken = h.taken; fresh = h.fresh; index = h.index; no_index = h.no_index; renamed = λ a b i t g. h.renamed a b i t (omega arith) }

abbrev pub rows_sum : Weight Table → Rows → ℕ
rows_sum w r = sum w r.tables

put_sum : (count : ℕ) (w : Weight Table) (n : NsName) (k : Key) (d : Fields) (m : rows.Tables) (c : ℕ) → IsWeight count w → sum w (map.insert m n (put_table k d (rows.or_fresh c (map.get m n)))) ≤ sum w m + 1
put_sum count w n k d m c h = by (map.get m n) (replaced_sum w m n (put_table k d (rows.or_fresh c (map.get m n))))
  where
    by : (o : Option Table) → sum w (map.insert m n (put_table k d (rows.or_fresh c (map.get m n)))) + at w n o ≤ sum w m + w n (put_table k d (rows.or_fresh c o)) → sum w (map.insert m n (put_table k d (rows.or_fresh c (map.get m n)))) ≤ sum w m + 1
    by None g = omega (arith, g, h.document n k d (rows.or_fresh c None), h.fresh n c no_options)
    by (Some t) g = omega (arith, g, h.document n k d t)

there_sum : (w : Weight Table) (g : Table → Table) (n : NsName) (m : rows.Tables) → ((t : Table) → w n (g t) ≤ w n t) → sum w (rows.on_there g n m) ≤ sum w m
there_sum w g n m h = by (map.get m n) (λ v. replaced_sum w m n v)
  where
    by : (o : Option Table) → ((v : Table) → sum w (map.insert m n v) + at w n o ≤ sum w m + w n v) → sum w (rows.on_found g n o m) ≤ sum w m
    by None f = omega arith
    by (Some t) f = omega (arith, f (g t), h t)

change_adds : (x : SingleWrite) (r : Rows) (w : Weight Table) → IsWeight r.count w → (rows_sum w (change_rows x r) ≤ rows_sum w r + 1) × (r.count ≤ (change_rows x r).count)
change_adds (Put n k d) r w h = (put_sum r.count w n k d r.tables r.count h, omega arith)
change_adds (Remove n k) r w h = (omega (arith, there_sum w (drop_table k) n r.tables (h.taken n k)), omega arith)
change_adds (Create n o) r w h = (omega (arith, inserted_sum w r.tables n (fresh_table r.count o), h.fresh n r.count o), omega arith)
change_adds (DropColl n) r w h = (omega (arith, removed_sum w r.tables n), omega arith)
change_adds (DropDb d) r w h = (omega (arith, retained_sum w r.tables (λ n. not (same_key n.db d))), omega arith)
change_adds (AddIndex n d) r w h = (omega (arith, there_sum w (put_index (definition_name d) d) n r.tables (h.index n (definition_name d) d)), omega arith)
change_adds (DropIndex n i) r w h = (omega (arith, there_sum w (take_index i) n r.tables (h.no_index n i)), omega arith)

abbrev Adds : Weight Table → Rows → Rows → ℕ → Type 0
Adds w r s n = (rows_sum w s ≤ rows_sum w r + n) × (r.count ≤ s.count)

all_add : (xs : List SingleWrite) (r : Rows) (w : Weight Table) → IsWeight r.count w → Adds w r (rows_all xs r) (length xs)
all_add [] r w h = (omega arith, omega arith)
all_add (x ∷ xs) r w h =
    let a = change_adds x r w h in
    let b = all_add xs (change_rows x r) w (later_weight r.count (change_rows x r).count w a.1 h) in
    (omega (arith, a.0, b.0), omega (arith, a.1, b.1))

rename_adds : (a b : NsName) (r : Rows) (w : Weight Table) → IsWeight r.count w → Adds w r (rows.rename a b r) 1
rename_adds a b r w h = (by (map.get r.tables a) (removed_sum w r.tables a), omega arith)
  where
    by : (o : Option Table) → sum w (map.remove r.tables a) + at w a o ≤ sum w r.tables → sum w (rows.renamed_in a o b r.count r.tables) ≤ sum w r.tables + 1
    by None g = omega arith
    by (Some t) g = omega (arith, g, inserted_sum w (map.remove r.tables a) b (with_incarnation r.count t), h.renamed a b r.count t (omega arith))

write_adds : (x : Write) (r : Rows) (w : Weight Table) → IsWeight r.count w → Adds w r (rows_by x r) (work x)
write_adds (Single x) r w h = change_adds x r w h
write_adds (Rename a b) r w h = rename_adds a b r w h
write_adds (Txn xs) r w h = let a = all_add xs r w h in (omega (arith, a.0), a.1)

pub made_add : (ms : List Made) (r : Rows) (w : Weight Table) → IsWeight r.count w → Adds w r (rows_of_made ms r) (work_made ms)
made_add [] r w h = (omega arith, omega arith)
made_add (m ∷ ms) r w h =
    let a = write_adds m.write r w h in
    let b = made_add ms (rows_by m.write r) w (later_weight r.count (rows_by m.write r).count w a.1 h) in
    (omega (arith, a.0, b.0), omega (arith, a.1, b.1))
