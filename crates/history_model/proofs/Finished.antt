-- Where Outcome is Done, all that was still to do is done.
use Rattle.std.proofs.Common.{◌≡◌, ℕ, zero, suc, ◌<◌, ◌≤◌, ◌+◌, List, [], ◌∷◌, Bool, true, false, cond, not, refl, sym, ap, ◌∙◌, subst, arith, length, filter, Option, Some, None, Result, Ok, Err, inl, inr}
use Rattle.std.specs.Prelude.{◌⊎◌, ◌&&◌, ◌||◌, is_some, nat_le, map as each}
use Rattle.std.proofs.lemmas.Bool.{cases_Bool, leb-false}
use Rattle.bson_value.specs.declared.value.Ts.{Ts}
use Rattle.coll_state.specs.Rows.{AreSound}
use Rattle.schedule_model.specs.declared.line.Line.{Line}
use Rattle.schedule_model.specs.declared.line.Line.TheVariants.{Mark, Tail}
use Rattle.history_model.specs.Entries.{OplogEntry}
use Rattle.history_model.specs.Stages.{not_later, Caps, Made, entry_of}
use Rattle.history_model.specs.Runs.{Schedule, Refusal, NotNow, DumpState, Outcome, Done, Run, first_run, entries_from, window, is_gone, oldest, first_dump_state, started, all_ended, renamed_since, rolled_or, rolled, marked_by, marked, sent_on, tailed_to, tailed, still, in_dump, on_line, after_lines, repeated, last_step, names_in, copied_out, begun, tailed_out, marked_out, finished, run}
use Rattle.history_model.specs.Invariants.{RunOk}
use Rattle.update_records.specs.Laws.{UpdatesRecord}
use Rattle.history_model.specs.WellFormed.{IsWellFormedLine, AreWellFormedLines}
use Rattle.history_model.specs.Laws.{Whole}
use Rattle.history_model.proofs.CopiedOut.{copy_all, all_out, all_said}
use Rattle.history_model.proofs.Mirrored.{lines_stay}
use Rattle.history_model.proofs.WholeRun.{repeated_lines, finished_lines}
use Rattle.history_model.proofs.Runs.{lines_good}
use Rattle.history_model.proofs.Inductive.{first_holds}
use Rattle.history_model.proofs.AtTheMark.{not_done as not_renamed, not_failed as not_rolled}

pub record HasMark (r : Run) : Type 0 where
  pub copy : DumpState
  pub last : Ts
  pub there : r.dump ≡ Some copy
  pub marked : copy.mark ≡ Some last

mark_by : (d : DumpState) (t : Run) (o : Option Ts) → (marked_by o d t).outcome ≡ Done → HasMark (marked_by o d t)
mark_by d t (Some ts) h = absurd (not_renamed ts h)
mark_by d t None h = by (is_gone d.start t.stage.oplog) h
  where
    by : (b : Bool) → (elim b as (λ b. Run) [ true ↦ rolled d.start t | false ↦ record t { dump = Some (record d { mark = Some t.stage.newest }) } ]).outcome ≡ Done →
        HasMark (elim b as (λ b. Run) [ true ↦ rolled d.start t | false ↦ record t { dump = Some (record d { mark = Some t.stage.newest }) } ])
    by true g = absurd (not_rolled d.start (oldest d.start t.stage.oplog) g)
    by false g = record { copy = record d { mark = Some t.stage.newest }; last = t.stage.newest; there = refl; marked = refl }

mark_out : (d : DumpState) (t : Run) → t.dump ≡ Some d → t.outcome ≡ Done → all_ended d.cursors ≡ true → (marked_out t).outcome ≡ Done → HasMark (marked_out t)
mark_out d t e l all h = by d.mark refl
  where
    step : on_line Mark t ≡ marked d t
    step = ap (λ (o : Option DumpState). in_dump marked o t) e ∙ ap (λ (x : Outcome). still x marked d t) l

    next : Result Run Refusal → Run
    next y = elim y as (λ y. Run) [ Ok s ↦ s | Err z ↦ t ]

    choose : Bool → Result Run Refusal
    choose b = elim b as (λ b. Result Run Refusal) [ true ↦ Err NotNow | false ↦ Ok (marked_by (renamed_since d.start t.stage.renamed) d t) ]

    by : (o : Option Ts) → d.mark ≡ o → HasMark (marked_out t)
    by (Some ts) g =
        subst (λ (u : Run). HasMark u) (sym (ap next step ∙ ap (λ (b : Bool). next (choose b)) (ap (λ (o : Option Ts). is_some o || not (all_ended d.cursors)) g)))
        (record { copy = d; last = ts; there = e; marked = g })
    by None g =
        (let way : marked_out t ≡ marked_by (renamed_since d.start t.stage.renamed) d t =
        ap next step ∙ ap (λ (b : Bool). next (choose b)) (ap (λ (o : Option Ts). is_some o || not (all_ended d.cursors)) g ∙ ap not all) in
        subst (λ (u : Run). HasMark u) (sym way) (mark_by d t (renamed_since d.start t.stage.renamed) (ap (λ (u : Run). u.outcome) (sym way) ∙ h)))

live_before : (l : Line) (m : ℕ) (u : Run) → IsWellFormedLine l → (repeated m (on_line l) u).outcome ≡ Done → u.outcome ≡ Done
live_before l m u w h = (let g = repeated_lines l m u w in lines_stay g.0 u (ap (λ (x : Run). x.outcome) (sym g.1) ∙ h))

tail_out : (m k : ℕ) (u : Run) (d : DumpState) (e : Ts) → u.dump ≡ Some d → d.mark ≡ Some e → length (window d.start e (entries_from u)) ≤ d.sent + m → (d.closed ≡ true) ⊎ (0 < m) →
    (repeated m (on_line (Tail (suc k))) u).outcome ≡ Done → Whole (repeated m (on_line (Tail (suc k))) u)
tail_out zero k u d e i f h (inl g) done = record { copy = d; last = e; there = i; marked = f; closed = g }
tail_out zero k u d e i f h (inr g) done = absurd (omega arith)
tail_out (suc m) k u d e i f h g done =
    by (cases_Bool d.closed) (cases_Bool (is_gone d.start u.stage.oplog))
    (λ q. tail_out m k (sent_on (suc k) (window d.start e (entries_from u)) d u) (record d { sent = d.sent + suc k; closed = nat_le (length (window d.start e (entries_from u))) (d.sent + suc k) }) e refl f (omega arith)
    (last (cases_Bool (nat_le (length (window d.start e (entries_from u))) (d.sent + suc k)))) q)
  where
    last : (nat_le (length (window d.start e (entries_from u))) (d.sent + suc k) ≡ true) ⊎ (nat_le (length (window d.start e (entries_from u))) (d.sent + suc k) ≡ false) →
        (nat_le (length (window d.start e (entries_from u))) (d.sent + suc k) ≡ true) ⊎ (0 < m)
    last (inl s) = inl s
    last (inr s) = (let x = leb-false (length (window d.start e (entries_from u))) (d.sent + suc k) s in inr (omega arith))

    live : u.outcome ≡ Done
    live = live_before (Tail (suc k)) (suc m) u tt done

    loop : Result Run Refusal → Run
    loop y = elim y as (λ y. Run) [ Ok s ↦ repeated m (on_line (Tail (suc k))) s | Err z ↦ u ]

    roll : Bool → Run
    roll b = elim b as (λ b. Run) [ true ↦ rolled d.start u | false ↦ sent_on (suc k) (window d.start e (entries_from u)) d u ]

    close : Bool → Result Run Refusal
    close b = elim b as (λ b. Result Run Refusal) [ true ↦ Err NotNow | false ↦ Ok (rolled_or d.start u.stage.oplog (rolled d.start u) (sent_on (suc k) (window d.start e (entries_from u)) d u)) ]

    step : on_line (Tail (suc k)) u ≡ close d.closed
    step = ap (λ (o : Option DumpState). in_dump (tailed (suc k)) o u) i ∙ (ap (λ (x : Outcome). still x (tailed (suc k)) d u) live ∙ ap (λ (o : Option Ts). tailed_to (suc k) o d u) f)

    by : (d.closed ≡ true) ⊎ (d.closed ≡ false) → (is_gone d.start u.stage.oplog ≡ true) ⊎ (is_gone d.start u.stage.oplog ≡ false) →
        ((repeated m (on_line (Tail (suc k))) (sent_on (suc k) (window d.start e (entries_from u)) d u)).outcome ≡ Done → Whole (repeated m (on_line (Tail (suc k))) (sent_on (suc k) (window d.start e (entries_from u)) d u))) →
        Whole (repeated (suc m) (on_line (Tail (suc k))) u)
    by (inl s) z rest = subst (λ (x : Run). Whole x) (sym (ap loop step ∙ ap (λ (b : Bool). loop (close b)) s)) (record { copy = d; last = e; there = i; marked = f; closed = s })
    by (inr s) (inl z) rest =
        (let way : repeated (suc m) (on_line (Tail (suc k))) u ≡ repeated m (on_line (Tail (suc k))) (rolled d.start u) = ap loop step ∙ (ap (λ (b : Bool). loop (close b)) s ∙ ap (λ (b : Bool). loop (Ok (roll b))) z) in
        absurd (not_rolled d.start (oldest d.start u.stage.oplog) (live_before (Tail (suc k)) m (rolled d.start u) tt (ap (λ (x : Run). x.outcome) (sym way) ∙ done))))
    by (inr s) (inr z) rest =
        (let way : repeated (suc m) (on_line (Tail (suc k))) u ≡ repeated m (on_line (Tail (suc k))) (sent_on (suc k) (window d.start e (entries_from u)) d u) =
        ap loop step ∙ (ap (λ (b : Bool). loop (close b)) s ∙ ap (λ (b : Bool). loop (Ok (roll b))) z) in
        subst (λ (x : Run). Whole x) (sym way) (rest (ap (λ (x : Run). x.outcome) (sym way) ∙ done)))

filter_length : (t : OplogEntry → Bool) (es : List OplogEntry) → length (filter t es) ≤ length es
filter_length t [] = omega arith
filter_length t (e ∷ es) = by (t e) (filter_length t es)
  where
    by : (b : Bool) → length (filter t es) ≤ length es → length (cond b (e ∷ filter t es) (filter t es)) ≤ suc (length es)
    by true h = omega arith
    by false h = omega arith

each_length : (ms : List Made) → length (each entry_of ms) ≡ length ms
each_length [] = refl
each_length (m ∷ ms) = ap suc (each_length ms)

few_entries : (u : Run) (a b : Ts) → length (window a b (entries_from u)) ≤ suc (length u.made)
few_entries u a b = (let x = filter_length (λ (e : OplogEntry). not_later a e.ts && not_later e.ts b) (entries_from u) in let y = each_length u.made in omega arith)

finish_from : (d : DumpState) (s : Run) → AreSound s.stage.rows → s.dump ≡ Some d → s.outcome ≡ Done → (tailed_out (marked_out (copied_out (names_in (Some d)) s))).outcome ≡ Done →
    Whole (tailed_out (marked_out (copied_out (names_in (Some d)) s)))
finish_from d s good e l done =
    (let t = copied_out (names_in (Some d)) s in
    let k = copy_all (names_in (Some d)) d s good e l in
    let all = all_said k.after.cursors (all_out d t s k) in
    let u = marked_out t in
    let m = mark_out k.after t k.there k.live all (live_before (Tail last_step) (suc (length u.made)) u tt done) in
    let few = few_entries u m.copy.start m.last in
    tail_out (suc (length u.made)) 999 u m.copy m.last m.there m.marked (omega arith) (inr (omega arith)) done)

pub finish_whole : (c : Caps) (r : Run) → RunOk c r → (finished r).outcome ≡ Done → Whole (finished r)
finish_whole c r h done = by r.dump refl
  where
    live : (begun r.dump r).outcome ≡ Done
    live = (let g = finished_lines r in lines_stay g.0 (begun r.dump r) (ap (λ (x : Run). x.outcome) (sym g.1) ∙ done))

    from : (s : Run) (d : DumpState) → AreSound s.stage.rows → s.outcome ≡ Done → (o : Option DumpState) → s.dump ≡ o → o ≡ Some d → (tailed_out (marked_out (copied_out (names_in s.dump) s))).outcome ≡ Done → Whole (tailed_out (marked_out (copied_out (names_in s.dump) s)))
    from s d good l o e g k =
        (let f : s.dump ≡ Some d = e ∙ g in
        subst (λ (z : Option DumpState). Whole (tailed_out (marked_out (copied_out (names_in z) s)))) (sym f)
        (finish_from d s good f l (subst (λ (z : Option DumpState). (tailed_out (marked_out (copied_out (names_in z) s))).outcome ≡ Done) f k)))

    by : (o : Option DumpState) → r.dump ≡ o → Whole (finished r)
    by None e =
        (let way : begun r.dump r ≡ started r = ap (λ (o : Option DumpState). begun o r) e in
        let all : (s : Run) → Type 0 = (λ s. Whole (tailed_out (marked_out (copied_out (names_in s.dump) s)))) in
        subst all (sym way) (from (started r) (first_dump_state r.stage) h.0.sound (subst (λ (x : Run). x.outcome ≡ Done) way live) (Some (first_dump_state r.stage)) refl refl
        (subst (λ (s : Run). (tailed_out (marked_out (copied_out (names_in s.dump) s))).outcome ≡ Done) way done)))
    by (Some d) e =
        (let way : begun r.dump r ≡ r = ap (λ (o : Option DumpState). begun o r) e in
        let all : (s : Run) → Type 0 = (λ s. Whole (tailed_out (marked_out (copied_out (names_in s.dump) s)))) in
        subst all (sym way) (from r d h.0.sound (subst (λ (x : Run). x.outcome ≡ Done) way live) (Some d) e refl
        (subst (λ (s : Run). (tailed_out (marked_out (copied_out (names_in s.dump) s))).outcome ≡ Done) way done)))

pub run_whole : UpdatesRecord → (s : Schedule) → AreWellFormedLines s.lines → (run s).outcome ≡ Done → Whole (run s)
run_whole sound s w done = finish_whole s.caps (after_lines s.lines (first_run s.caps)) (lines_good sound s.caps s.lines (first_run s.caps) w (first_holds s.caps, tt)) done
