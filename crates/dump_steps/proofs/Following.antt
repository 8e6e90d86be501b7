-- What holds of the steps of a dump at each moment.
use Rattle.std.proofs.Common.{◌≡◌, ◌≢◌, ℕ, zero, suc, List, [], ◌∷◌, ◌++◌, Bool, true, false, cond, refl, sym, ap, ◌∙◌, subst, Option, Some, None, inl, inr}
use Rattle.std.specs.Prelude.{⊤, ◌⊎◌, ◌||◌, ◌==◌, nat_lt, is_some, option_map, if◌then◌else◌}
use Rattle.std.specs.List.{list_any}
use Rattle.std.specs.FinMap as map
use Rattle.bson_value.specs.declared.namespace.NsName.{NsName}
use Rattle.bson_value.specs.NamespaceOrder.{namespace_cmp}
use Rattle.state_model.specs.Keys.{Key, same_ns}
use Rattle.state_model.proofs.Keys.{ns_is, ns_from}
use Rattle.state_model.proofs.Maps.{ns_at_insert, ns_insert_here}
use Rattle.coll_state.specs.Rows.{Row, Table, Rows, row_of, scan, Rising, AreSound}
use Rattle.copy_model.specs.Cursors.{Cursor, moved_on, ended_now}
use Rattle.copy_model.specs.Copies.{cursors_of, begin, begun}
use Rattle.copy_model.proofs.Agreed.{get_cursor}
use Rattle.copy_model.proofs.Scan.{scan_from}
use Rattle.archive_content.specs.Pieces.{Piece, is_end, is_of, has_ended}
use Rattle.history_model.specs.Entries.{OplogEntry, entry_bytes}
use Rattle.history_model.specs.Runs.{Step, Documents, Entries, seen, looked}
use Rattle.dump_model.specs.Archives.{oplog, document_texts, pieces_of, all_pieces}
use Rattle.recorded_entries.specs.Good.{IsGoodName}
use Rattle.recorded_entries.specs.Kept.{AreKeptRows, AreKept}
use Rattle.dump_steps.specs.Steps.{AreOnce, AreStepsOf, AllStand}
use Rattle.dump_steps.proofs.Pieces.{any_append, pieces_more, stand_append, good_named, oplog_named, good_apart, own_ended, else_ended, of_own, stands}
use Rattle.std.specs.Prelude.{map as each}

abbrev pub Cursors : Type 0
Cursors = map.FinMap namespace_cmp Cursor

pub record Following (r0 : Rows) (cs : Cursors) (closed marked : Bool) (steps : List Step) : Type 0 where
  pub there : (n : NsName) (c : Cursor) → map.get cs n ≡ Some c → map.get r0.tables n ≢ None
  pub read : AreStepsOf r0 steps
  pub stand : AllStand [] (all_pieces steps)
  pub ended : (n : NsName) (c : Cursor) → map.get cs n ≡ Some c → has_ended n (all_pieces steps) ≡ c.ended
  pub of : (n : NsName) → list_any (is_of n) (all_pieces steps) ≡ true → (n ≡ oplog) ⊎ (map.get cs n ≢ None)
  pub closed_is : has_ended oplog (all_pieces steps) ≡ closed
  pub all : marked ≡ true → (n : NsName) (c : Cursor) → map.get cs n ≡ Some c → c.ended ≡ true

-- ---- what a step reads

kept_scan : (at n : ℕ) (rs : List Row) → AreKeptRows rs → AreKeptRows (scan at n rs)
kept_scan at n [] h = tt
kept_scan at zero (r ∷ rs) h = tt
kept_scan at (suc n) (r ∷ rs) h = by (nat_lt at r.no) (kept_scan at n rs h.1) (kept_scan at (suc n) rs h.1)
  where
    by : (b : Bool) → AreKeptRows (scan at n rs) → AreKeptRows (scan at (suc n) rs) → AreKeptRows (if b then r ∷ scan at n rs else scan at (suc n) rs)
    by true x y = (h.0, x)
    by false x y = y

not_in : (at n low : ℕ) (rs : List Row) (k : Key) → Rising low rs → row_of rs k ≡ None → row_of (scan at n rs) k ≡ None
not_in at n low rs k h e = by (row_of (scan at n rs) k) refl
  where
    by : (o : Option Row) → row_of (scan at n rs) k ≡ o → o ≡ None
    by None f = refl
    by (Some r) f = let g = scan_from at n low rs k r h f in cc

once_scan : (at n low : ℕ) (rs : List Row) → Rising low rs → AreOnce (scan at n rs)
once_scan at n low [] h = tt
once_scan at zero low (r ∷ rs) h = tt
once_scan at (suc n) low (r ∷ rs) h = by (nat_lt at r.no) (once_scan at n r.no rs h.2) (once_scan at (suc n) r.no rs h.2)
  where
    by : (b : Bool) → AreOnce (scan at n rs) → AreOnce (scan at (suc n) rs) → AreOnce (if b then r ∷ scan at n rs else scan at (suc n) rs)
    by true x y = (not_in at n r.no rs r.key h.2 h.1, x)
    by false x y = y

pub looked_good : (r : Rows) (n : NsName) (k : ℕ) (c : Cursor) → AreKept r → AreSound r → AreKeptRows (looked k c (map.get r.tables n)).0 × AreOnce (looked k c (map.get r.tables n)).0
looked_good r n k c h s = by (map.get r.tables n) refl
  where
    on : (t : Table) (b : Bool) → AreKeptRows (scan c.position k t.rows) × AreOnce (scan c.position k t.rows) → AreKeptRows (seen k c b (scan c.position k t.rows)).0 × AreOnce (seen k c b (scan c.position k t.rows)).0
    on t true g = g
    on t false g = (tt, tt)

    by : (o : Option Table) → map.get r.tables n ≡ o → AreKeptRows (looked k c o).0 × AreOnce (looked k c o).0
    by None e = (tt, tt)
    by (Some t) e = on t (t.incarnation == c.incarnation) (kept_scan c.position k t.rows (h n t e).1.rows, once_scan c.position k 0 t.rows (s n t e).0.0)

-- ---- the start

none_begun : (o : Option Table) (c : Cursor) → option_map begun o ≡ Some c → (o ≢ None) × (c.ended ≡ false)
none_begun None c e = cc
none_begun (Some t) c e = ((λ f. cc), let q : begun t ≡ c = cc in ap (λ (x : Cursor). x.ended) (sym q))

pub begins : (r : Rows) → Following r (map.from_entries (cursors_of (map.entries r.tables))) false false []
begins r = record {
  there = λ n c e. (none_begun (map.get r.tables n) c (sym (get_cursor r n) ∙ e)).0;
  read = tt;
  stand = tt;
  ended = λ n c e. sym (none_begun (map.get r.tables n) c (sym (get_cursor r n) ∙ e)).1;
  of = λ n e. cc;
  closed_is = refl;
  all = λ e n c f. cc;
}

-- ---- a step more

steps_more : (r : Rows) (ss : List Step) (s : Step) → AreStepsOf r ss → AreStepsOf r (s ∷ []) → AreStepsOf r (ss ++ (s ∷ []))
steps_more r [] s a b = b
steps_more r (Documents n rs ended ∷ ss) s a b = (a.0, a.1, a.2, steps_more r ss s a.3 b)
steps_more r (Entries es last ∷ ss) s a b = steps_more r ss s a b

there_name : (r : Rows) (n : NsName) → AreKept r → map.get r.tables n ≢ None → IsGoodName n
there_name r n h t = by (map.get r.tables n) refl t
  where
    by : (o : Option Table) → map.get r.tables n ≡ o → o ≢ None → IsGoodName n
    by None e f = absurd (f refl)
    by (Some x) e f = (h n x e).0

some_there : (o : Option Cursor) (c : Cursor) → o ≡ Some c → o ≢ None
some_there o c e f = cc

or_none : (a b : Bool) → b ≡ false → (a || b) ≡ a
or_none true b e = refl
or_none false b e = e

more_ended : (n : NsName) (ss : List Step) (s : Step) → has_ended n (all_pieces (ss ++ (s ∷ []))) ≡ (has_ended n (all_pieces ss) || has_ended n (pieces_of s))
more_ended n ss s = ap (has_ended n) (pieces_more ss s) ∙ any_append (is_end n) (all_pieces ss) (pieces_of s)

more_of : (n : NsName) (ss : List Step) (s : Step) → list_any (is_of n) (all_pieces (ss ++ (s ∷ []))) ≡ true → (list_any (is_of n) (all_pieces ss) ≡ true) ⊎ (list_any (is_of n) (pieces_of s) ≡ true)
more_of n ss s e = by (list_any (is_of n) (all_pieces ss)) refl (sym (ap (list_any (is_of n)) (pieces_more ss s) ∙ any_append (is_of n) (all_pieces ss) (pieces_of s)) ∙ e)
  where
    by : (b : Bool) → list_any (is_of n) (all_pieces ss) ≡ b → (b || list_any (is_of n) (pieces_of s)) ≡ true → (list_any (is_of n) (all_pieces ss) ≡ true) ⊎ (list_any (is_of n) (pieces_of s) ≡ true)
    by true f g = inl f
    by false f g = inr g

more_stand : (ss : List Step) (s : Step) → AllStand [] (all_pieces ss) → AllStand (all_pieces ss) (pieces_of s) → AllStand [] (all_pieces (ss ++ (s ∷ [])))
more_stand ss s a b = subst (λ (z : List Piece). AllStand [] z) (sym (pieces_more ss s)) (stand_append [] (all_pieces ss) (pieces_of s) a b)

pub documents_more : (r0 : Rows) (cs : Cursors) (closed marked : Bool) (ss : List Step) (n : NsName) (c d : Cursor) (rs : List Row) → AreKept r0 → Following r0 cs closed marked ss → map.get cs n ≡ Some c → c.ended ≡ false → AreKeptRows rs → AreOnce rs →
    Following r0 (map.insert cs n d) closed marked (ss ++ (Documents n rs d.ended ∷ []))
documents_more r0 cs closed marked ss n c d rs kept f e o k u = record {
  there = λ m x g. there m x (same_ns m n) refl (sym (ns_at_insert cs n d m) ∙ g);
  read = steps_more r0 ss step f.read (here, k, u, tt);
  stand = more_stand ss step f.stand (stands n (document_texts rs) d.ended (all_pieces ss) (good_named n name) (f.ended n c e ∙ o));
  ended = λ m x g. ended m x (same_ns m n) refl (sym (ns_at_insert cs n d m) ∙ g);
  of = λ m g. (of m (more_of m ss step g));
  closed_is = more_ended oplog ss step ∙ (or_none (has_ended oplog (all_pieces ss)) (has_ended oplog (pieces_of step)) (else_ended n (document_texts rs) d.ended oplog (good_apart n name)) ∙ f.closed_is);
  all = λ m. absurd (both_ways m);
}
  where
    step : Step
    step = Documents n rs d.ended

    here : map.get r0.tables n ≢ None
    here = f.there n c e

    name : IsGoodName n
    name = there_name r0 n kept here

    both_ways : marked ≡ true → ⊥
    both_ways m = let g = f.all m n c e in cc

    there : (m : NsName) (x : Cursor) (b : Bool) → same_ns m n ≡ b → cond b (Some d) (map.get cs m) ≡ Some x → map.get r0.tables m ≢ None
    there m x true q g = subst (λ (z : NsName). map.get r0.tables z ≢ None) (sym (ns_is m n q)) here
    there m x false q g = f.there m x g

    own : has_ended n (all_pieces (ss ++ (step ∷ []))) ≡ d.ended
    own = more_ended n ss step ∙ (ap (λ (b : Bool). b || has_ended n (pieces_of step)) (f.ended n c e ∙ o) ∙ own_ended n (document_texts rs) d.ended)

    apart : (m : NsName) → same_ns m n ≡ false → n ≡ m → ⊥
    apart m q p = let g = ns_from m n (sym p) in cc

    ended : (m : NsName) (x : Cursor) (b : Bool) → same_ns m n ≡ b → cond b (Some d) (map.get cs m) ≡ Some x → has_ended m (all_pieces (ss ++ (step ∷ []))) ≡ x.ended
    ended m x true q g = (let p : d ≡ x = cc in subst (λ (z : NsName). has_ended z (all_pieces (ss ++ (step ∷ []))) ≡ x.ended) (sym (ns_is m n q)) (own ∙ ap (λ (z : Cursor). z.ended) p))
    ended m x false q g = more_ended m ss step ∙ (or_none (has_ended m (all_pieces ss)) (has_ended m (pieces_of step)) (else_ended n (document_texts rs) d.ended m (apart m q)) ∙ f.ended m x g)

    still : (m : NsName) → map.get cs m ≢ None → map.get (map.insert cs n d) m ≢ None
    still m h = subst (λ (o : Option Cursor). o ≢ None) (sym (ns_at_insert cs n d m)) (by (same_ns m n))
      where
        by : (b : Bool) → cond b (Some d) (map.get cs m) ≢ None
        by true = λ g. cc
        by false = h

    of : (m : NsName) → (list_any (is_of m) (all_pieces ss) ≡ true) ⊎ (list_any (is_of m) (pieces_of step) ≡ true) → (m ≡ oplog) ⊎ (map.get (map.insert cs n d) m ≢ None)
    of m (inl g) = old (f.of m g)
      where
        old : (m ≡ oplog) ⊎ (map.get cs m ≢ None) → (m ≡ oplog) ⊎ (map.get (map.insert cs n d) m ≢ None)
        old (inl x) = inl x
        old (inr x) = inr (still m x)
    of m (inr g) = inr (still m (subst (λ (z : NsName). map.get cs z ≢ None) (of_own n (document_texts rs) d.ended m g) (some_there (map.get cs n) c e)))

pub entries_more : (r0 : Rows) (cs : Cursors) (marked : Bool) (ss : List Step) (es : List OplogEntry) (last : Bool) → AreKept r0 → Following r0 cs false marked ss → Following r0 cs last marked (ss ++ (Entries es last ∷ []))
entries_more r0 cs marked ss es last kept f = record {
  there = f.there;
  read = steps_more r0 ss step f.read tt;
  stand = more_stand ss step f.stand (stands oplog (each entry_bytes es) last (all_pieces ss) oplog_named f.closed_is);
  ended = λ m x g. more_ended m ss step ∙ (or_none (has_ended m (all_pieces ss)) (has_ended m (pieces_of step)) (else_ended oplog (each entry_bytes es) last m (λ q. good_apart m (there_name r0 m kept (f.there m x g)) (sym q))) ∙ f.ended m x g);
  of = λ m g. of m (more_of m ss step g);
  closed_is = more_ended oplog ss step ∙ (ap (λ (b : Bool). b || has_ended oplog (pieces_of step)) f.closed_is ∙ own_ended oplog (each entry_bytes es) last);
  all = f.all;
}
  where
    step : Step
    step = Entries es last

    of : (m : NsName) → (list_any (is_of m) (all_pieces ss) ≡ true) ⊎ (list_any (is_of m) (pieces_of step) ≡ true) → (m ≡ oplog) ⊎ (map.get cs m ≢ None)
    of m (inl g) = f.of m g
    of m (inr g) = inl (sym (of_own oplog (each entry_bytes es) last m g))
