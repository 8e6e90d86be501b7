-- Writes behind the last read.
use Rattle.std.proofs.Common.{◌≡◌, ℕ, List, [], ◌++◌, refl, sym, ap, ◌∙◌, subst, Some}
use Rattle.std.specs.FinMap as map
use Rattle.bson_value.specs.NamespaceOrder.{namespace_cmp}
use Rattle.state_model.specs.Moves.{Move}
use Rattle.state_model.specs.Replay.{replay_all}
use Rattle.state_model.specs.Agreement.{SameStates}
use Rattle.coll_state.specs.Rows.{Rows, state_of}
use Rattle.coll_state.specs.Changes.{no_rows}
use Rattle.schedule_model.specs.declared.line.Line.{Line}
use Rattle.copy_model.specs.Cursors.{Cursor, Read, Copy as Reading}
use Rattle.copy_model.specs.Copies.{after, rows_after, AllRecorded, moves_of, begin, AllEnded, copy_of}
use Rattle.history_model.specs.Stages.{earlier, Caps, Made}
use Rattle.history_model.specs.Runs.{Done, Step, Run, started, after_lines}
use Rattle.history_model.specs.Recordings.{AllMade, rows_of_made, moves_made, NoRenames, events_of_made, made_by, events_of_lines, reads_in}
use Rattle.history_model.specs.Invariants.{RunOk, CopiedOut}
use Rattle.update_records.specs.Laws.{UpdatesRecord}
use Rattle.history_model.specs.WellFormed.{AreWellFormedLines}
use Rattle.copy_model.specs.Laws.{CopyHeals, Follow}
use Rattle.history_model.proofs.Inductive.{nothing_sound}
use Rattle.history_model.proofs.Modelled.{made_leading, leading_join, lines_leading}
use Rattle.history_model.proofs.Mirrored.{after_join, written_world, made_writes, lines_mirror}
use Rattle.history_model.proofs.Torn.{made_parted, rows_parted, made_sound, made_moves, moves_of_join, moves_join, lines_moves}

-- behind the lines, of which the last cursor ended, writes may follow
pub torn_more : CopyHeals → UpdatesRecord → (c : Caps) (r : Run) (earlier first : List Made) (ls : List (ℕ × Line)) (xs : List Made) → AreWellFormedLines ls → RunOk c r → r.steps ≡ [] → r.made ≡ earlier ++ first →
    NoRenames first → NoRenames (made_by ls (started r)) → (after_lines ls (started r)).outcome ≡ Done → CopiedOut (after_lines ls (started r)) →
    AllMade xs (after_lines ls (started r)).stage.rows → NoRenames xs →
    SameStates (replay_all (moves_made (first ++ (made_by ls (started r) ++ xs))) (copy_of r.stage.rows (reads_in (after_lines ls (started r)).steps []))) (state_of (rows_of_made xs (after_lines ls (started r)).stage.rows))
torn_more heals sound c r earlier first ls xs f h none made nf nl live out all nx =
    (let ok : RunOk c (started r) = (h.0, tt) in
    let end = after_lines ls (started r) in
    let es = events_of_lines ls (started r) in
    let more = events_of_made xs in
    let before = rows_of_made earlier no_rows in
    let parts = made_parted earlier first no_rows (subst (λ (z : List Made). AllMade z no_rows) made h.0.recorded) in
    let led = made_leading first before parts.1 nf in
    let now : rows_after (events_of_made first) before ≡ r.stage.rows = led.1 ∙ (sym (rows_parted earlier first no_rows) ∙ (ap (λ (z : List Made). rows_of_made z no_rows) (sym made) ∙ h.0.rows)) in
    let lines = lines_leading sound c ls (started r) f ok nl in
    let m = lines_mirror sound c ls (started r) (begin r.stage.rows) f ok nl (record { copy = _; there = refl; rows = refl; cursors = refl; reads = ap (λ (z : List Step). reads_in z []) (sym none) }) live in
    let behind = made_leading xs end.stage.rows all nx in
    let both = leading_join es more r.stage.rows end.stage.rows (rows_of_made xs end.stage.rows) lines behind in
    let w = after es (begin r.stage.rows) in
    let v = written_world more end.stage.rows w (made_writes xs) m.rows in
    let way : after (es ++ more) (begin r.stage.rows) ≡ after more w = after_join es more (begin r.stage.rows) in
    let ended : AllEnded (after (es ++ more) (begin r.stage.rows)) =
    (λ n x e. out m.copy m.there n x (subst (λ (z : map.FinMap namespace_cmp Cursor). map.get z n ≡ Some x) (ap (λ (z : Reading). z.cursors) way ∙ (v.1 ∙ m.cursors)) e)) in
    let follow : Follow before (events_of_made first) (es ++ more) = record {
      sound = made_sound earlier no_rows nothing_sound;
      before_start = led.0;
      since = subst (λ (z : Rows). AllRecorded (es ++ more) z) (sym now) both.0;
    } in
    let healed = heals before (events_of_made first) (es ++ more) follow (subst (λ (z : Rows). AllEnded (after (es ++ more) (begin z))) (sym now) ended) in
    let moves : moves_of (events_of_made first) ++ moves_of (es ++ more) ≡ moves_made (first ++ (made_by ls (started r) ++ xs)) =
    ap (λ (z : List Move). z ++ moves_of (es ++ more)) (made_moves first before parts.1)
    ∙ (ap (λ (z : List Move). moves_made first ++ z) (moves_of_join es more
    ∙ (ap (λ (z : List Move). z ++ moves_of more) (lines_moves sound c ls (started r) f ok)
    ∙ (ap (λ (z : List Move). moves_made (made_by ls (started r)) ++ z) (made_moves xs end.stage.rows all) ∙ sym (moves_join (made_by ls (started r)) xs))))
    ∙ sym (moves_join first (made_by ls (started r) ++ xs))) in
    let step1 = subst (λ (z : Rows). SameStates (replay_all (moves_of (events_of_made first) ++ moves_of (es ++ more)) (copy_of z (after (es ++ more) (begin z)).reads)) (state_of (after (es ++ more) (begin z)).rows)) now healed in
    let step2 = subst (λ (g : List Read). SameStates (replay_all (moves_of (events_of_made first) ++ moves_of (es ++ more)) (copy_of r.stage.rows g)) (state_of (after (es ++ more) (begin r.stage.rows)).rows)) (ap (λ (z : Reading). z.reads) way ∙ (v.2 ∙ m.reads)) step1 in
    let step3 = subst (λ (z : Rows). SameStates (replay_all (moves_of (events_of_made first) ++ moves_of (es ++ more)) (copy_of r.stage.rows (reads_in end.steps []))) (state_of z)) (ap (λ (z : Reading). z.rows) way ∙ (v.0 ∙ behind.1)) step2 in
    subst (λ (z : List Move). SameStates (replay_all z (copy_of r.stage.rows (reads_in end.steps []))) (state_of (rows_of_made xs end.stage.rows))) moves step3)
