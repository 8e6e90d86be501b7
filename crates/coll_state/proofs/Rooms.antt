-- Room for changes, and changes made where there is room.
use Rattle.std.proofs.Common.{◌≡◌, ℕ, zero, suc, ◌+◌, ◌<◌, ◌≤◌, List, [], ◌∷◌, ◌++◌, length, take, Bool, true, false, cond, refl, sym, ap, ◌∙◌, subst, arith, Option, Some, None, inl, inr}
use Rattle.std.specs.Prelude.{◌⊎◌, if◌then◌else◌, slice_index_or}
use Rattle.std.specs.BTreeMap.{UpdatesBy}
use Rattle.std.specs.FinMap as map
use Rattle.std.proofs.lemmas.Bool.{cases_Bool}
use Rattle.bson_value.specs.declared.namespace.NsName.{NsName}
use Rattle.bson_value.specs.NamespaceOrder.{namespace_cmp}
use Rattle.state_model.specs.Keys.{Key, same_ns}
use Rattle.state_model.proofs.Keys.{ns_is, ns_refl}
use Rattle.coll_state.specs.declared.change.Change.{Change}
use Rattle.coll_state.specs.declared.prepared_change.PreparedChange.{PreparedChange}
use Rattle.coll_state.specs.Rows.{Document, Table, Rows, AreSound}
use Rattle.coll_state.specs.Changes.{Tables, put_table, drop_table, or_fresh}
use Rattle.coll_state.specs.ChangeAll.{changed_by, AreThere, HasId, HaveIds}
use Rattle.coll_state.specs.PreparedChange.{change_of, changes_of, HasRoom, one_of, changes_in, RoomFor, Gains, Loses, AllGain, AllLose}
use Rattle.coll_state.specs.Stock.{Stock}
use Rattle.coll_state.specs.Tables.{Stocks, tables_in, stock_at}
use Rattle.coll_state.proofs.Named.{get_there, updated, written}
use Rattle.coll_state.proofs.Sound.{kept_put, kept_there, drop_keeps}

one_same : (k q : NsName) → same_ns k q ≡ true → one_of k q ≡ 1
one_same k q s = ap (λ (b : Bool). if b then 1 else 0) s

one_other : (k q : NsName) → same_ns k q ≡ false → one_of k q ≡ 0
one_other k q s = ap (λ (b : Bool). if b then 1 else 0) s

-- what a collection that was written leaves of room
gains_itself : (o : Option Stock) → Gains 0 o o
gains_itself None = refl
gains_itself (Some s) = omega arith

loses_itself : (o : Option Stock) → Loses 0 o o
loses_itself None = tt
loses_itself (Some s) = omega arith

pub gain_written : (m n : Stocks) (k : NsName) (old w : Stock) → stock_at m k ≡ Some old → UpdatesBy namespace_cmp (namespace_cmp k) m n (Some w) → old.room + 1 ≤ w.room → AllGain k m n
gain_written m n k old w e up r q = by (cases_Bool (same_ns k q))
  where
    by : (same_ns k q ≡ true) ⊎ (same_ns k q ≡ false) → Gains (one_of k q) (stock_at m q) (stock_at n q)
    by (inl s) =
        let old_is : stock_at m q ≡ Some old = subst (λ (z : NsName). stock_at m z ≡ Some old) (ns_is k q s) e in
        let new_is : stock_at n q ≡ Some w = up.0 q ∙ ap (λ (b : Bool). cond b (Some w) (stock_at m q)) s in
        subst (λ (i : ℕ). Gains i (stock_at m q) (stock_at n q)) (sym (one_same k q s))
        (subst (λ (o : Option Stock). Gains 1 o (stock_at n q)) (sym old_is) (subst (λ (o : Option Stock). Gains 1 (Some old) o) (sym new_is) r))
    by (inr s) =
        subst (λ (i : ℕ). Gains i (stock_at m q) (stock_at n q)) (sym (one_other k q s))
        (subst (λ (o : Option Stock). Gains 0 (stock_at m q) o) (sym (up.0 q ∙ ap (λ (b : Bool). cond b (Some w) (stock_at m q)) s)) (gains_itself (stock_at m q)))

pub lose_written : (m n : Stocks) (k : NsName) (old w : Stock) → stock_at m k ≡ Some old → UpdatesBy namespace_cmp (namespace_cmp k) m n (Some w) → old.room ≤ w.room + 1 → AllLose k m n
lose_written m n k old w e up r q = by (cases_Bool (same_ns k q))
  where
    by : (same_ns k q ≡ true) ⊎ (same_ns k q ≡ false) → Loses (one_of k q) (stock_at m q) (stock_at n q)
    by (inl s) =
        let old_is : stock_at m q ≡ Some old = subst (λ (z : NsName). stock_at m z ≡ Some old) (ns_is k q s) e in
        let new_is : stock_at n q ≡ Some w = up.0 q ∙ ap (λ (b : Bool). cond b (Some w) (stock_at m q)) s in
        subst (λ (i : ℕ). Loses i (stock_at m q) (stock_at n q)) (sym (one_same k q s))
        (subst (λ (o : Option Stock). Loses 1 o (stock_at n q)) (sym old_is) (subst (λ (o : Option Stock). Loses 1 (Some old) o) (sym new_is) r))
    by (inr s) =
        subst (λ (i : ℕ). Loses i (stock_at m q) (stock_at n q)) (sym (one_other k q s))
        (subst (λ (o : Option Stock). Loses 0 (stock_at m q) o) (sym (up.0 q ∙ ap (λ (b : Bool). cond b (Some w) (stock_at m q)) s)) (loses_itself (stock_at m q)))

has_gained : (room one : ℕ) (o u : Option Stock) → HasRoom room o → Gains one o u → HasRoom (room + one) u
has_gained room one None None h k = omega (arith, h, k)
has_gained room one None (Some t) h k = absurd k
has_gained room one (Some s) None h k = absurd k
has_gained room one (Some s) (Some t) h k = omega (arith, h, k)

has_lost : (room one : ℕ) (o u : Option Stock) → HasRoom (one + room) o → Loses one o u → HasRoom room u
has_lost room one None None h k = omega (arith, h)
has_lost room one None (Some t) h k = absurd k
has_lost room one (Some s) None h k = absurd k
has_lost room one (Some s) (Some t) h k = omega (arith, h, k)

-- for no change there is room
pub room_nothing : (ps : List PreparedChange) (m : Stocks) → RoomFor (take zero ps) m
room_nothing ps m q = subst (λ (i : ℕ). HasRoom i (stock_at m q)) (sym (none ps)) (by (stock_at m q))
  where
    none : (ps : List PreparedChange) → changes_in q (take zero ps) ≡ 0
    none [] = refl
    none (p ∷ ps) = refl

    by : (o : Option Stock) → HasRoom 0 o
    by None = refl
    by (Some s) = omega arith

-- one more of a list has room
pub room_next : (i : ℕ) (ps : List PreparedChange) (p : PreparedChange) (m n : Stocks) → i < length ps → p ≡ slice_index_or ps i p → RoomFor (take i ps) m → AllGain p.ns m n → RoomFor (take (i + 1) ps) n
room_next i ps p m n l e h k q =
    subst (λ (j : ℕ). HasRoom (changes_in q (take j ps)) (stock_at n q)) {x = suc i} (omega arith)
    (subst (λ (c : ℕ). HasRoom c (stock_at n q)) (sym (more i ps l e)) (has_gained (changes_in q (take i ps)) (one_of p.ns q) (stock_at m q) (stock_at n q) (h q) (k q)))
  where
    first : (ps : List PreparedChange) (c : ℕ) → c + changes_in q (take zero ps) ≡ 0 + c
    first [] c = omega arith
    first (s ∷ ps) c = omega arith

    more : (i : ℕ) (ps : List PreparedChange) → i < length ps → p ≡ slice_index_or ps i p → changes_in q (take (suc i) ps) ≡ changes_in q (take i ps) + one_of p.ns q
    more i [] l e = absurd (omega (arith, l))
    more zero (r ∷ ps) l e = ap (λ (z : PreparedChange). one_of z.ns q + changes_in q (take zero ps)) (sym e) ∙ first ps (one_of p.ns q)
    more (suc i) (r ∷ ps) l e = omega (arith, more i ps (omega (arith, l)) e)

pub room_now : (p : PreparedChange) (ps : List PreparedChange) (m : Stocks) → RoomFor (p ∷ ps) m → HasRoom 1 (stock_at m p.ns)
room_now p ps m h = by (stock_at m p.ns) (h p.ns)
  where
    by : (o : Option Stock) → HasRoom (one_of p.ns p.ns + changes_in p.ns ps) o → HasRoom 1 o
    by None k = absurd (omega (arith, k, one_same p.ns p.ns (ns_refl p.ns)))
    by (Some s) k = omega (arith, k, one_same p.ns p.ns (ns_refl p.ns))

pub room_later : (p : PreparedChange) (ps : List PreparedChange) (m n : Stocks) → AllLose p.ns m n → RoomFor (p ∷ ps) m → RoomFor ps n
room_later p ps m n k h q = has_lost (changes_in q ps) (one_of p.ns q) (stock_at m q) (stock_at n q) (h q) (k q)

pub there_at : (i : ℕ) (ps : List PreparedChange) (p : PreparedChange) (ts : Tables) → i < length ps → p ≡ slice_index_or ps i p → AreThere (changes_of ps) ts → map.contains_key ts p.ns ≡ true
there_at i [] p ts l e h = absurd (omega arith)
there_at zero (q ∷ ps) p ts l e h = subst (λ (z : PreparedChange). map.contains_key ts z.ns ≡ true) (sym e) h.0
there_at (suc i) (q ∷ ps) p ts l e h = there_at i ps p ts (omega arith) e h.1

pub take_whole : (ps : List PreparedChange) → take (length ps) ps ≡ ps
take_whole [] = refl
take_whole (p ∷ ps) = ap (λ (z : List PreparedChange). p ∷ z) (take_whole ps)

-- a change that was made
pub put_is : (m n : Stocks) (count : ℕ) (k : NsName) (old w : Stock) (i : Key) (d : Document) → stock_at m k ≡ Some old → UpdatesBy namespace_cmp (namespace_cmp k) m n (Some w) → w.table ≡ put_table i d old.table →
    ◌≡◌ {A = Rows} (record { tables = tables_in n; count = count + 1 }) (changed_by k i (Some d) (record { tables = tables_in m; count = count }))
put_is m n count k old w i d e up t = λ j. record {
  tables = (updated m n k w (put_table i d old.table) up.0 t ∙ ap (λ (o : Option Table). map.insert (tables_in m) k (put_table i d (or_fresh count o))) (sym (get_there m k old e))) j;
  count = count + 1;
}

pub remove_is : (m n : Stocks) (count : ℕ) (k : NsName) (old w : Stock) (i : Key) → stock_at m k ≡ Some old → UpdatesBy namespace_cmp (namespace_cmp k) m n (Some w) → w.table ≡ drop_table i old.table →
    ◌≡◌ {A = Rows} (record { tables = tables_in n; count = count }) (changed_by k i None (record { tables = tables_in m; count = count }))
remove_is m n count k old w i e up t = λ j. record { tables = written m n k old w (drop_table i) e (λ s. up) t j; count = count }

pub change_sound : (k : NsName) (i : Key) (o : Option Document) (s : Rows) → AreSound s → AreSound (changed_by k i o s)
change_sound k i None s h = kept_there s.count s.tables k (drop_table i) (drop_keeps s.count i) h
change_sound k i (Some d) s h = kept_put s.count s.tables k i d h

pub change_counts : (k : NsName) (i : Key) (o : Option Document) (s : Rows) → (changed_by k i o s).count ≤ s.count + 1
change_counts k i None s = omega arith
change_counts k i (Some d) s = omega arith

-- changes that are made ready, one after the other
append_assoc : (xs bs cs : List Change) → (xs ++ bs) ++ cs ≡ xs ++ (bs ++ cs)
append_assoc [] bs cs = refl
append_assoc (a ∷ xs) bs cs = ap (λ (z : List Change). a ∷ z) (append_assoc xs bs cs)

changes_append : (ps qs : List PreparedChange) → changes_of (ps ++ qs) ≡ changes_of ps ++ changes_of qs
changes_append [] qs = refl
changes_append (p ∷ ps) qs = ap (λ (z : List Change). change_of p ∷ z) (changes_append ps qs)

pub listed : (ps : List PreparedChange) (p : PreparedChange) (c : Change) (cs all : List Change) → change_of p ≡ c → changes_of ps ++ (c ∷ cs) ≡ all → changes_of (ps ++ p ∷ []) ++ cs ≡ all
listed ps p c cs all e h =
    ap (λ (z : List Change). z ++ cs) (changes_append ps (p ∷ [])) ∙ (append_assoc (changes_of ps) (change_of p ∷ []) cs ∙ (ap (λ (z : Change). changes_of ps ++ (z ∷ cs)) e ∙ h))

pub ids_now : (rest : List Change) (c : Change) (cs : List Change) → rest ≡ c ∷ cs → HaveIds rest → HasId c.id c.doc
ids_now rest c cs e h = (subst HaveIds e h).0

pub ids_later : (rest : List Change) (c : Change) (cs : List Change) → rest ≡ c ∷ cs → HaveIds rest → HaveIds cs
ids_later rest c cs e h = (subst HaveIds e h).1

pub nothing_behind : (cs : List Change) → cs ++ [] ≡ cs
nothing_behind [] = refl
nothing_behind (c ∷ cs) = ap (λ (z : List Change). c ∷ z) (nothing_behind cs)

pub length_of : (ps : List PreparedChange) → length (changes_of ps) ≡ length ps
length_of [] = refl
length_of (p ∷ ps) = ap suc (length_of ps)

pub nothing_left : {A : Type 0} (xs : List A) (n : ℕ) → n ≡ length xs → n ≡ 0 → xs ≡ []
nothing_left [] n e z = refl
nothing_left (x ∷ xs) n e z = absurd (omega arith)
