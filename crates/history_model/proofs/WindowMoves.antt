-- The window's entries are the last one before the dump and those made up to the mark.
use Rattle.std.proofs.Common.{◌≡◌, ℕ, List, [], ◌∷◌, ◌++◌, Bool, true, false, cond, not, refl, sym, ap, ◌∙◌, subst, Option, Some, None, Result, Ok, Err, inl, inr, filter, append_assoc}
use Rattle.std.specs.Prelude.{◌⊎◌, ◌&&◌, map as each, is_some, ◌||◌}
use Rattle.std.proofs.lemmas.Bool.{and_left, and_from}
use Rattle.bson_value.specs.declared.value.Ts.{Ts}
use Rattle.state_model.specs.Moves.{Move}
use Rattle.state_model.specs.Replay.{replay_all}
use Rattle.state_model.specs.Agreement.{SameStates}
use Rattle.coll_state.specs.Rows.{state_of}
use Rattle.schedule_model.specs.declared.line.Line.{Line}
use Rattle.schedule_model.specs.declared.line.Line.TheVariants.{Mark}
use Rattle.copy_model.specs.Copies.{copy_of}
use Rattle.history_model.specs.Entries.{OplogEntry, content_moves}
use Rattle.history_model.specs.Stages.{earlier, not_later, first_ts, Caps, Stage, Made, entry_of}
use Rattle.history_model.specs.Runs.{Refusal, NotNow, DumpState, Outcome, Done, Renamed, Rolled, Step, Run, first_entry, entries_from, window, is_gone, started, all_ended, renamed_since, rolled, marked_by, marked, still, in_dump, on_line, after_lines}
use Rattle.history_model.specs.Recordings.{moves_made, moves_recorded, EachMade, made_by, reads_in}
use Rattle.history_model.specs.Invariants.{RisesTo, RunOk}
use Rattle.update_records.specs.Laws.{UpdatesRecord}
use Rattle.history_model.specs.WellFormed.{AreWellFormedLines}
use Rattle.copy_model.specs.Laws.{CopyHeals}
use Rattle.history_model.proofs.Order.{earlier_turn, earlier_not}
use Rattle.history_model.proofs.Inductive.{each_both, rises_on, none_above, all_above}
use Rattle.history_model.proofs.Modelled.{SameBase, line_same}
use Rattle.history_model.proofs.AtTheMark.{lines_made, lines_rise, torn_at_mark, last_made}
use Rattle.history_model.proofs.Torn.{moves_join as made_join}

-- a list whose entries all pass, or of which none does
abbrev pub AllTell : (OplogEntry → Bool) → Bool → List Made → Type 0
AllTell t b ms = EachMade (λ (m : Made). t (entry_of m) ≡ b) ms

passing : (t : OplogEntry → Bool) (ms : List Made) → AllTell t true ms → filter t (each entry_of ms) ≡ each entry_of ms
passing t [] h = refl
passing t (m ∷ ms) h = ap (λ (b : Bool). cond b (entry_of m ∷ filter t (each entry_of ms)) (filter t (each entry_of ms))) h.0 ∙ ap (λ (z : List OplogEntry). entry_of m ∷ z) (passing t ms h.1)

failing : (t : OplogEntry → Bool) (ms : List Made) → AllTell t false ms → filter t (each entry_of ms) ≡ []
failing t [] h = refl
failing t (m ∷ ms) h = ap (λ (b : Bool). cond b (entry_of m ∷ filter t (each entry_of ms)) (filter t (each entry_of ms))) h.0 ∙ failing t ms h.1

pub each_append : (xs ys : List Made) → each entry_of (xs ++ ys) ≡ each entry_of xs ++ each entry_of ys
each_append [] ys = refl
each_append (x ∷ xs) ys = ap (λ (z : List OplogEntry). entry_of x ∷ z) (each_append xs ys)

pub filter_join : (t : OplogEntry → Bool) (xs ys : List OplogEntry) → filter t (xs ++ ys) ≡ filter t xs ++ filter t ys
filter_join t [] ys = refl
filter_join t (x ∷ xs) ys = by (t x) (filter_join t xs ys)
  where
    by : (b : Bool) → filter t (xs ++ ys) ≡ filter t xs ++ filter t ys → cond b (x ∷ filter t (xs ++ ys)) (filter t (xs ++ ys)) ≡ cond b (x ∷ filter t xs) (filter t xs) ++ filter t ys
    by true h = ap (λ (z : List OplogEntry). x ∷ z) h
    by false h = h

moves_same : (ms : List Made) → moves_recorded (each entry_of ms) ≡ moves_made ms
moves_same [] = refl
moves_same (m ∷ ms) = ap (λ (z : List Move). content_moves m.content ++ z) (moves_same ms)

kept_join : (xs ys : List OplogEntry) → moves_recorded (xs ++ ys) ≡ moves_recorded xs ++ moves_recorded ys
kept_join [] ys = refl
kept_join (x ∷ xs) ys = ap (λ (z : List Move). content_moves x.content ++ z) (kept_join xs ys) ∙ sym (append_assoc (content_moves x.content) (moves_recorded xs) (moves_recorded ys))

abbrev pub inside : Ts → Ts → OplogEntry → Bool
inside a b e = not_later a e.ts && not_later e.ts b

-- what was made before the dump: of it the last is in the window, unless nothing was made
before_start : (ms : List Made) (low start end : Ts) → RisesTo low ms start → earlier end start ≡ false → moves_recorded (filter (inside start end) (each entry_of ms)) ≡ moves_made (last_made ms)
before_start [] low start end h e = refl
before_start (m ∷ []) low start end h e =
    ap (λ (b : Bool). moves_recorded (cond b (entry_of m ∷ []) [])) (and_from (not_later start m.ts) (not_later m.ts end)
    (subst (λ (z : Ts). not_later start z ≡ true) (sym h.1) (ap not (earlier_not start))) (subst (λ (z : Ts). not_later z end ≡ true) (sym h.1) (ap not e)))
before_start (m ∷ n ∷ ms) low start end h e =
    ap (λ (b : Bool). moves_recorded (cond b (entry_of m ∷ filter (inside start end) (each entry_of (n ∷ ms))) (filter (inside start end) (each entry_of (n ∷ ms)))))
    (and_left (not_later start m.ts) (not_later m.ts end) (ap not (late (rises_on (n ∷ ms) m.ts start h.1)))) ∙ before_start (n ∷ ms) m.ts start end h.1 e
  where
    late : (m.ts ≡ start) ⊎ (earlier m.ts start ≡ true) → earlier m.ts start ≡ true
    late (inl g) = absurd (never (rises_on ms n.ts start h.1.1) g)
      where
        never : (n.ts ≡ start) ⊎ (earlier n.ts start ≡ true) → m.ts ≡ start → ⊥
        never (inl k) g = (let a : earlier start start ≡ true = subst (λ (z : Ts). earlier z start ≡ true) g (subst (λ (z : Ts). earlier m.ts z ≡ true) k h.1.0) in let b = earlier_not start in cc)
        never (inr k) g = (let a : earlier start n.ts ≡ true = subst (λ (z : Ts). earlier z n.ts ≡ true) g h.1.0 in let b = earlier_turn start n.ts a in cc)
    late (inr g) = g

pub window_moves : (earlier_made later : List Made) (start end : Ts) → RisesTo first_ts earlier_made start → RisesTo start later end →
    moves_recorded (filter (inside start end) (first_entry ∷ each entry_of (earlier_made ++ later))) ≡ moves_made (last_made earlier_made ++ later)
window_moves xs ys start end h g =
    head (inside start end (first_entry)) (filter (inside start end) (each entry_of (xs ++ ys)))
    ∙ (ap (λ (z : List OplogEntry). moves_recorded (filter (inside start end) z)) (each_append xs ys)
    ∙ (ap moves_recorded (filter_join (inside start end) (each entry_of xs) (each entry_of ys))
    ∙ (kept_join (filter (inside start end) (each entry_of xs)) (filter (inside start end) (each entry_of ys))
    ∙ (ap (λ (z : List Move). z ++ moves_recorded (filter (inside start end) (each entry_of ys))) (before_start xs first_ts start end h over)
    ∙ (ap (λ (z : List Move). moves_made (last_made xs) ++ z) (ap moves_recorded (passing (inside start end) ys all) ∙ moves_same ys)
    ∙ sym (made_join (last_made xs) ys))))))
  where
    head : (b : Bool) (es : List OplogEntry) → moves_recorded (cond b (first_entry ∷ es) es) ≡ moves_recorded es
    head true es = refl
    head false es = refl

    up : (start ≡ end) ⊎ (earlier start end ≡ true) → earlier end start ≡ false
    up (inl e) = subst (λ (z : Ts). earlier z start ≡ false) e (earlier_not start)
    up (inr e) = earlier_turn start end e

    over : earlier end start ≡ false
    over = up (rises_on ys start end g)

    all : EachMade (λ (m : Made). inside start end (entry_of m) ≡ true) ys
    all = each_both (λ (m : Made). earlier start m.ts ≡ true) (λ (m : Made). earlier end m.ts ≡ false) (λ (m : Made). inside start end (entry_of m) ≡ true)
        (λ m a b. and_from (not_later start m.ts) (not_later m.ts end) (ap not (earlier_turn start m.ts a)) (ap not b)) ys (all_above ys start end g) (none_above ys start end g)

-- a mark reads nothing
mark_steps : (r s : Run) → in_dump marked r.dump r ≡ Ok s → s.steps ≡ r.steps
mark_steps r s h = by r.dump h
  where
    same_run : (a b : Run) → ◌≡◌ {A = Result Run Refusal} (Ok a) (Ok b) → a ≡ b
    same_run a b e = cc

    on : (d : DumpState) (o : Option Ts) → (marked_by o d r).steps ≡ r.steps
    on d (Some ts) = refl
    on d None = elim (is_gone d.start r.stage.oplog) as (λ b. SameSteps (elim b [ true ↦ rolled d.start r | false ↦ record r { dump = Some (record d { mark = Some r.stage.newest }) } ])) [ true ↦ refl | false ↦ refl ]
      where
        SameSteps : Run → Type 0
        SameSteps z = z.steps ≡ r.steps

    at : (d : DumpState) (b : Bool) → elim b as (λ b. Result Run Refusal) [ true ↦ Err NotNow | false ↦ Ok (marked_by (renamed_since d.start r.stage.renamed) d r) ] ≡ Ok s → s.steps ≡ r.steps
    at d true g = cc
    at d false g = sym (ap (λ (z : Run). z.steps) (same_run (marked_by (renamed_since d.start r.stage.renamed) d r) s g)) ∙ on d (renamed_since d.start r.stage.renamed)

    live : (d : DumpState) (x : Outcome) → still x marked d r ≡ Ok s → s.steps ≡ r.steps
    live d Done g = at d (is_some d.mark || not (all_ended d.cursors)) g
    live d (Renamed ts) g = sym (ap (λ (z : Run). z.steps) (same_run r s g))
    live d (Rolled a b) g = sym (ap (λ (z : Run). z.steps) (same_run r s g))

    by : (o : Option DumpState) → in_dump marked o r ≡ Ok s → s.steps ≡ r.steps
    by None g = cc
    by (Some d) g = live d r.outcome g

pub torn_window : CopyHeals → UpdatesRecord → (c : Caps) (r s : Run) (ls : List (ℕ × Line)) → AreWellFormedLines ls → RunOk c r → r.steps ≡ [] → on_line Mark (after_lines ls (started r)) ≡ Ok s → s.outcome ≡ Done →
    SameStates (replay_all (moves_recorded (window r.stage.newest s.stage.newest (entries_from s))) (copy_of r.stage.rows (reads_in s.steps []))) (state_of s.stage.rows)
torn_window heals sound c r s ls w h none e done =
    (let end = after_lines ls (started r) in
    let base : (s.stage ≡ end.stage) × (s.made ≡ end.made) = subst (λ (x : Result Run Refusal). SameBase end x) e (line_same Mark end tt) in
    let out = torn_at_mark heals sound c r s ls w h none e done in
    let moves : moves_recorded (window r.stage.newest s.stage.newest (entries_from s)) ≡ moves_made (last_made r.made ++ made_by ls (started r)) =
    ap (λ (z : Stage). moves_recorded (window r.stage.newest z.newest (entries_from s))) base.0
    ∙ (ap (λ (z : List Made). moves_recorded (window r.stage.newest end.stage.newest (first_entry ∷ each entry_of z))) (base.1 ∙ lines_made ls (started r))
    ∙ window_moves r.made (made_by ls (started r)) r.stage.newest end.stage.newest h.0.rises (lines_rise ls (started r))) in
    subst (λ (z : List Move). SameStates (replay_all z (copy_of r.stage.rows (reads_in s.steps []))) (state_of s.stage.rows)) (sym moves)
    (subst (λ (z : Stage). SameStates (replay_all (moves_made (last_made r.made ++ made_by ls (started r))) (copy_of r.stage.rows (reads_in s.steps []))) (state_of z.rows)) (sym base.0)
    (subst (λ (z : List Step). SameStates (replay_all (moves_made (last_made r.made ++ made_by ls (started r))) (copy_of r.stage.rows (reads_in z []))) (state_of end.stage.rows)) (sym (mark_steps end s e)) out)))
