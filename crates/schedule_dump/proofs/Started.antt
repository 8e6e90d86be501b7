-- The state on which a dump starts is the one that the schedule's dump is said to start on.
use Rattle.std.proofs.Common.{◌≡◌, ℕ, List, ◌++◌, true, false, not, refl, sym, ap, ◌∙◌, subst, Option, Some, None}
use Rattle.std.specs.Prelude.{filter}
use Rattle.bson_value.specs.declared.value.Ts.{Ts}
use Rattle.schedule_model.specs.declared.line.Line.{Line}
use Rattle.coll_state.specs.Rows.{state_of}
use Rattle.history_model.specs.Stages.{Caps, Write, Made, first_ts, earlier, not_later}
use Rattle.history_model.specs.Invariants.{RunOk}
use Rattle.history_model.specs.Recordings.{made_by}
use Rattle.history_model.specs.Runs.{Schedule, Run, DumpState, started, after_lines, finished, run}
use Rattle.history_model.specs.Histories.{history_of, history, state, moments_of, moments}
use Rattle.history_model.proofs.Inductive.{each_map, none_above, all_above}
use Rattle.history_model.proofs.AtTheMark.{StartIs, lines_start, lines_made, lines_rise}
use Rattle.history_model.proofs.WholeRun.{lines_append, finished_lines, is_begun as begun_is}
use Rattle.history_model.proofs.Limited.{history_front}
use Rattle.dump_model.specs.Archives.{state_at}
use Rattle.schedule_dump.specs.Progress.{start_state}

start_is : (ts : Ts) (o : Option DumpState) → StartIs ts o → (moments_of o).start ≡ Some ts
start_is ts None h = absurd h
start_is ts (Some d) h = ap Some h

-- what was made up to the start is the history that isn't later
module _ (c : Caps) (on : Run) (all : List (ℕ × Line)) (good : RunOk c on) where
  abbrev end : Run
  end = after_lines all (started on)

  abbrev since : List Made
  since = made_by all (started on)

  up_to : state_of on.stage.rows ≡ state (filter (λ (e : Ts × Write). not_later e.0 on.stage.newest) (history_of (after_lines all (started on)).made))
  up_to =
      good.0.state ∙ ap state (sym (ap (λ (z : List Made). filter (λ (e : Ts × Write). not_later e.0 on.stage.newest) (history_of z)) (lines_made all (started on))
      ∙ history_front (λ (ts : Ts). not_later ts on.stage.newest) on.made since
      (each_map (λ (m : Made). earlier on.stage.newest m.ts ≡ false) (λ (m : Made). not_later m.ts on.stage.newest ≡ true) (λ m f. ap not f) on.made (none_above on.made first_ts on.stage.newest good.0.rises))
      (each_map (λ (m : Made). earlier on.stage.newest m.ts ≡ true) (λ (m : Made). not_later m.ts on.stage.newest ≡ false) (λ m f. ap not f) since (all_above since on.stage.newest end.stage.newest (lines_rise all (started on))))))

pub starts_on : (s : Schedule) (on : Run) (rest : List (ℕ × Line)) → RunOk s.caps on → run s ≡ finished (after_lines rest (started on)) → state_of on.stage.rows ≡ start_state s
starts_on s on rest ok whole =
    (let x = after_lines rest (started on) in
    let f = finished_lines x in
    let all = rest ++ f.0 in
    let is : run s ≡ after_lines all (started on) =
    whole ∙ (f.1 ∙ (ap (after_lines f.0) (begun_is on.stage.newest x.dump x (lines_start on.stage.newest rest (started on) refl)) ∙ sym (lines_append rest f.0 (started on)))) in
    let starts : (moments s).start ≡ Some on.stage.newest = start_is on.stage.newest (run s).dump (subst (λ (z : Run). StartIs on.stage.newest z.dump) (sym is) (lines_start on.stage.newest all (started on) refl)) in
    up_to s.caps on all ok ∙ (ap (λ (z : Run). state (filter (λ (e : Ts × Write). not_later e.0 on.stage.newest) (history_of z.made))) (sym is) ∙ ap (λ (o : Option Ts). state_at o (history s)) (sym starts)))
