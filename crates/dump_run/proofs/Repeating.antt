-- Steps of a dump that are repeated until none has a place any more.
use Rattle.std.proofs.Common.{◌≡◌, ℕ, zero, suc, ◌+◌, List, [], ◌∷◌, ◌++◌, length, take, drop, Bool, true, false, not, refl, sym, ap, ◌∙◌, subst, append_assoc, append-nil, Option, Some, None, Result, Ok, Err, inl, inr}
use Rattle.std.specs.Prelude.{⊤, ◌⊎◌, ◌&&◌, ◌||◌, is_some, nat_le}
use Rattle.std.proofs.lemmas.Bool.{and_left}
use Rattle.std.specs.FinMap as map
use Rattle.bson_value.specs.declared.namespace.NsName.{NsName}
use Rattle.bson_value.specs.declared.value.Ts.{Ts}
use Rattle.state_model.specs.Keys.{same_ns}
use Rattle.state_model.proofs.Keys.{ns_refl}
use Rattle.copy_model.specs.Cursors.{Cursor}
use Rattle.schedule_model.specs.declared.line.Line.{Line}
use Rattle.schedule_model.specs.declared.line.Line.TheVariants as lines
use Rattle.history_model.specs.Stages.{Caps, Made, not_later}
use Rattle.history_model.specs.Recordings.{OfRename}
use Rattle.history_model.specs.Invariants.{UpTo, NoRename, DumpOk, RunOk}
use Rattle.history_model.specs.Laws.{Whole}
use Rattle.history_model.specs.Runs.{Run, Step, Documents, Entries, DumpState, Outcome, Done, Renamed, Rolled, Refusal, NotNow, NoCursor, on_line, in_dump, still, copied, copied_by, looked, read_on, all_ended, marked, marked_by, renamed_since, is_gone, oldest, rolled, rolled_or, tailed, tailed_to, sent_on, window, entries_from, repeated, last_step, rows_left, copied_out}
use Rattle.history_model.proofs.Order.{earlier_not}
use Rattle.history_model.proofs.Inductive.{each_map, of_rename}
use Rattle.history_model.proofs.Runs.{noted_before}
use Rattle.history_model.proofs.CopiedOut.{copy_all}
use Rattle.dump_model.specs.Archives.{all_pieces, pieces_of}
use Rattle.archive_content.specs.Pieces.{pieces_text}
use Rattle.dump_copies.specs.Steps.{IsClosed}
use Rattle.dump_run.specs.Calls.{steps_text}
use Rattle.dump_run.proofs.Lines.{text_push, tail_closed}
use Rattle.dump_run.proofs.Reading.{closed_line}

-- the steps write more
abbrev pub Grows : Run → Run → Type 0
Grows r s = (text : List ℕ) × (steps_text s.steps ≡ steps_text r.steps ++ text)

pub grows_same : (r s : Run) → s.steps ≡ r.steps → Grows r s
grows_same r s e = ([], ap steps_text e ∙ sym (append-nil (steps_text r.steps)))

grows_push : (r s : Run) (x : Step) → s.steps ≡ r.steps ++ (x ∷ []) → Grows r s
grows_push r s x e = (pieces_text (all_pieces r.steps) (pieces_of x), ap steps_text e ∙ text_push r.steps x)

-- a run behind others: what holds of it still holds, and one that has failed stays as it is
pub record Later (c : Caps) (r s : Run) : Type 0 where
  pub good : RunOk c r → RunOk c s
  pub stage : s.stage ≡ r.stage
  pub grows : Grows r s
  pub same : (r.outcome ≡ Done) ⊎ (s ≡ r)

pub later_refl : (c : Caps) (r : Run) → Later c r r
later_refl c r = record { good = λ h. h; stage = refl; grows = grows_same r r refl; same = inr refl }

pub later_trans : (c : Caps) (r s t : Run) → Later c r s → Later c s t → Later c r t
later_trans c r s t a b = record {
  good = λ h. b.good (a.good h);
  stage = b.stage ∙ a.stage;
  grows = (a.grows.0 ++ b.grows.0, b.grows.1 ∙ (ap (λ (z : List ℕ). z ++ b.grows.0) a.grows.1 ∙ append_assoc (steps_text r.steps) a.grows.0 b.grows.0));
  same = by a.same b.same;
}
  where
    by : (r.outcome ≡ Done) ⊎ (s ≡ r) → (s.outcome ≡ Done) ⊎ (t ≡ s) → (r.outcome ≡ Done) ⊎ (t ≡ r)
    by (inl x) y = inl x
    by (inr x) (inl y) = inl (subst (λ (z : Run). z.outcome ≡ Done) x y)
    by (inr x) (inr y) = inr (y ∙ x)

-- one step
pub record Next (c : Caps) (r s : Run) : Type 0 where
  pub later : Later c r s
  pub quiet : (s.outcome ≡ Done) ⊎ (s.steps ≡ r.steps)

abbrev pub IfTaken : Caps → Run → Result Run Refusal → Type 0
IfTaken c r (Ok s) = Next c r s
IfTaken c r (Err x) = ⊤

-- a line that is a step of a dump that has started
abbrev pub IsTurn : Line → Type 0
IsTurn (lines.Copy n k) = ⊤
IsTurn lines.Mark = ⊤
IsTurn (lines.Tail n) = ⊤
IsTurn lines.Dump = ⊥
IsTurn (lines.Cmd k) = ⊥

module _ (c : Caps) (d : DumpState) (r : Run) (there : r.dump ≡ Some d) (done : r.outcome ≡ Done) where
  same_mark : RunOk c r → DumpOk (Some d) r.stage r.made
  same_mark h = subst (λ (o : Option DumpState). DumpOk o r.stage r.made) there h.1

  fails : (o : Outcome) → Next c r (record r { outcome = o })
  fails o = record { later = record { good = λ h. h; stage = refl; grows = grows_same r (record r { outcome = o }) refl; same = inl done }; quiet = inr refl }

  copy_next : (n : NsName) (k : ℕ) → IfTaken c r (copied n k d r)
  copy_next n k = by (map.get d.cursors n)
    where
      by : (o : Option Cursor) → IfTaken c r (copied_by n k o d r)
      by None = tt
      by (Some x) = elim x.ended as (λ b. IfTaken c r (elim b [ true ↦ Err NoCursor | false ↦ Ok (read_on n (looked k x (map.get r.stage.rows.tables n)) d r) ])) [
        | true ↦ tt
        | false ↦ record {
          later = record { good = λ h. (h.0, same_mark h); stage = refl; grows = grows_push r (read_on n (looked k x (map.get r.stage.rows.tables n)) d r) (Documents n (looked k x (map.get r.stage.rows.tables n)).0 (looked k x (map.get r.stage.rows.tables n)).1.ended) refl; same = inl done };
          quiet = inl done;
        }
      ]

  mark_next : IfTaken c r (marked d r)
  mark_next =
      elim (is_some d.mark || not (all_ended d.cursors)) as (λ b. IfTaken c r (elim b [ true ↦ Err NotNow | false ↦ Ok (marked_by (renamed_since d.start r.stage.renamed) d r) ])) [
        | true ↦ tt
        | false ↦ by (renamed_since d.start r.stage.renamed) refl
      ]
    where
      free : RunOk c r → renamed_since d.start r.stage.renamed ≡ None → NoRename d.start r.stage.newest r.made
      free h e = each_map (λ (x : Made). OfRename x.write (UpTo r.stage.renamed x.ts)) (λ (x : Made). OfRename x.write ((not_later d.start x.ts && not_later x.ts r.stage.newest) ≡ false))
          (λ x k. of_rename x.write (UpTo r.stage.renamed x.ts) ((not_later d.start x.ts && not_later x.ts r.stage.newest) ≡ false)
          (λ u. and_left (not_later d.start x.ts) (not_later x.ts r.stage.newest) (ap not (noted_before d.start r.stage.renamed x.ts e u))) k) r.made h.0.renamed

      by : (o : Option Ts) → renamed_since d.start r.stage.renamed ≡ o → Next c r (marked_by o d r)
      by (Some ts) e = fails (Renamed ts)
      by None e =
          elim (is_gone d.start r.stage.oplog) as (λ b. Next c r (elim b [ true ↦ rolled d.start r | false ↦ record r { dump = Some (record d { mark = Some r.stage.newest }) } ])) [
            | true ↦ fails (Rolled d.start (oldest d.start r.stage.oplog))
            | false ↦ record { later = record { good = λ h. (h.0, (free h e, earlier_not r.stage.newest)); stage = refl; grows = grows_same r (record r { dump = Some (record d { mark = Some r.stage.newest }) }) refl; same = inl done }; quiet = inr refl }
          ]

  tail_next : (n : ℕ) → IfTaken c r (tailed n d r)
  tail_next n = by d.mark refl
    where
      by : (o : Option Ts) → d.mark ≡ o → IfTaken c r (tailed_to n o d r)
      by None e = tt
      by (Some b) e =
          elim d.closed as (λ t. IfTaken c r (elim t [ true ↦ Err NotNow | false ↦ Ok (rolled_or d.start r.stage.oplog (rolled d.start r) (sent_on n (window d.start b (entries_from r)) d r)) ])) [
            | true ↦ tt
            | false ↦ elim (is_gone d.start r.stage.oplog) as (λ t. Next c r (elim t [ true ↦ rolled d.start r | false ↦ sent_on n (window d.start b (entries_from r)) d r ])) [
              | true ↦ fails (Rolled d.start (oldest d.start r.stage.oplog))
              | false ↦ record {
                later = record {
                  good = λ h. (h.0, same_mark h);
                  stage = refl;
                  grows = grows_push r (sent_on n (window d.start b (entries_from r)) d r) (Entries (take n (drop d.sent (window d.start b (entries_from r)))) (nat_le (length (window d.start b (entries_from r))) (d.sent + n))) refl;
                  same = inl done;
                };
                quiet = inl done;
              }
            ]
          ]

step_next : (c : Caps) (g : DumpState → Run → Result Run Refusal) (r : Run) → ((d : DumpState) → r.dump ≡ Some d → r.outcome ≡ Done → IfTaken c r (g d r)) → IfTaken c r (in_dump g r.dump r)
step_next c g r k = by r.dump refl
  where
    by : (o : Option DumpState) → r.dump ≡ o → IfTaken c r (in_dump g o r)
    by None e = tt
    by (Some d) e = on r.outcome refl
      where
        on : (x : Outcome) → r.outcome ≡ x → IfTaken c r (still x g d r)
        on Done f = k d e f
        on (Renamed ts) f = record { later = later_refl c r; quiet = inr refl }
        on (Rolled a b) f = record { later = later_refl c r; quiet = inr refl }

line_next : (c : Caps) (l : Line) (r : Run) → IsTurn l → IfTaken c r (on_line l r)
line_next c (lines.Cmd k) r h = absurd h
line_next c lines.Dump r h = absurd h
line_next c (lines.Copy n k) r h = step_next c (copied n k) r (λ d e f. copy_next c d r e f n k)
line_next c lines.Mark r h = step_next c marked r (λ d e f. mark_next c d r e f)
line_next c (lines.Tail n) r h = step_next c (tailed n) r (λ d e f. tail_next c d r e f n)

pub taken : (c : Caps) (l : Line) (r s : Run) → IsTurn l → on_line l r ≡ Ok s → Next c r s
taken c l r s h e = subst (IfTaken c r) e (line_next c l r h)

pub stays : (m : ℕ) (g : Run → Result Run Refusal) (r : Run) (x : Refusal) → g r ≡ Err x → repeated m g r ≡ r
stays zero g r x e = refl
stays (suc m) g r x e = ap (λ (y : Result Run Refusal). elim y as (λ _. Run) [ Ok s ↦ repeated m g s | Err z ↦ r ]) e

pub goes : (m : ℕ) (g : Run → Result Run Refusal) (r s : Run) → g r ≡ Ok s → repeated (suc m) g r ≡ repeated m g s
goes m g r s e = ap (λ (y : Result Run Refusal). elim y as (λ _. Run) [ Ok s ↦ repeated m g s | Err z ↦ r ]) e

pub repeated_later : (c : Caps) (l : Line) (n : ℕ) (r : Run) → IsTurn l → Later c r (repeated n (on_line l) r)
repeated_later c l zero r h = later_refl c r
repeated_later c l (suc n) r h = by (on_line l r) (line_next c l r h) (λ s. repeated_later c l n s h)
  where
    by : (x : Result Run Refusal) → IfTaken c r x → ((s : Run) → Later c s (repeated n (on_line l) s)) → Later c r (elim x as (λ _. Run) [ Ok s ↦ repeated n (on_line l) s | Err y ↦ r ])
    by (Ok s) g rest = later_trans c r s (repeated n (on_line l) s) g.later (rest s)
    by (Err y) g rest = later_refl c r

pub copied_later : (c : Caps) (ns : List NsName) (r : Run) → Later c r (copied_out ns r)
copied_later c [] r = later_refl c r
copied_later c (n ∷ ns) r =
    (let s = repeated (suc (rows_left (map.get r.stage.rows.tables n))) (on_line (lines.Copy n last_step)) r in
    later_trans c r s (copied_out ns s) (repeated_later c (lines.Copy n last_step) (suc (rows_left (map.get r.stage.rows.tables n))) r tt) (copied_later c ns s))

-- ---- where repeating ends

true_false : (b : Bool) → b ≡ true → b ≡ false → ⊥
true_false b e f = cc

err_ok : (x : Refusal) (s : Run) → Err x ≡ Ok s → ⊥
err_ok x s e = cc

pub copy_stops : (c : Caps) (r : Run) (n : NsName) (d : DumpState) → RunOk c r → r.dump ≡ Some d → r.outcome ≡ Done → (s : Run) → on_line (lines.Copy n last_step) (repeated (suc (rows_left (map.get r.stage.rows.tables n))) (on_line (lines.Copy n last_step)) r) ≡ Ok s → ⊥
copy_stops c r n d h e f s g =
    (let k = copy_all (n ∷ []) d r h.0.sound e f in
    let t = repeated (suc (rows_left (map.get r.stage.rows.tables n))) (on_line (lines.Copy n last_step)) r in
    err_ok NoCursor s (sym (closed_line t k.after n last_step k.there k.live (closed k.after k.aside)) ∙ g))
  where
    closed : (a : DumpState) → ((x : NsName) (y : Cursor) → map.get a.cursors x ≡ Some y → (y.ended ≡ true) ⊎ (((same_ns x n ≡ false) × ⊤) × (map.get d.cursors x ≡ Some y))) → IsClosed (map.get a.cursors n)
    closed a aside = by (map.get a.cursors n) refl
      where
        ended : (y : Cursor) → (y.ended ≡ true) ⊎ (((same_ns n n ≡ false) × ⊤) × (map.get d.cursors n ≡ Some y)) → y.ended ≡ true
        ended y (inl v) = v
        ended y (inr v) = absurd (true_false (same_ns n n) (ns_refl n) v.0.0)

        by : (o : Option Cursor) → map.get a.cursors n ≡ o → IsClosed o
        by None p = tt
        by (Some y) p = ended y (aside n y p)

pub tail_stops : (r : Run) → Whole r → r.outcome ≡ Done → (s : Run) → on_line (lines.Tail last_step) r ≡ Ok s → ⊥
tail_stops r w f s g = err_ok NotNow s (sym (tail_closed r w.copy w.there f last_step w.last w.marked w.closed) ∙ g)
