-- The torn copy of a run: the entries from the one at Start on, replayed over what was read, make the state.
use Rattle.std.proofs.Common.{◌≡◌, ℕ, List, [], ◌∷◌, ◌++◌, refl, sym, ap, ◌∙◌, subst, append_assoc, Some, Result, Ok, Err}
use Rattle.std.specs.FinMap as map
use Rattle.bson_value.specs.NamespaceOrder.{namespace_cmp}
use Rattle.state_model.specs.Moves.{Move}
use Rattle.state_model.specs.Replay.{replay_all}
use Rattle.state_model.specs.Agreement.{SameStates}
use Rattle.state_model.specs.Windows.{joined}
use Rattle.coll_state.specs.Rows.{Rows, AreSound, state_of}
use Rattle.coll_state.specs.Changes.{no_rows}
use Rattle.schedule_model.specs.declared.line.Line.{Line}
use Rattle.schedule_model.specs.declared.line.Line.TheVariants.{Cmd, Dump, Copy, Mark, Tail}
use Rattle.schedule_model.specs.declared.refused.Refused.{Refused}
use Rattle.copy_model.specs.Writes.{SingleWrite, change_rows}
use Rattle.copy_model.specs.Cursors.{Cursor, Read}
use Rattle.copy_model.specs.Copies.{Event, Wrote, Copied, after, rows_after, AllRecorded, moves_of, begin, AllEnded, copy_of}
use Rattle.history_model.specs.Entries.{Item, Content, Nothing, One, Group, item_moves, content_moves}
use Rattle.history_model.specs.Entries as entries
use Rattle.history_model.specs.Stages.{Write, Single, Rename, Txn, rows_by, earlier, Caps, Stage, Made}
use Rattle.history_model.specs.Commands.{applied}
use Rattle.history_model.specs.Runs.{Step, Run, started, after_line, after_lines}
use Rattle.history_model.specs.Recordings.{EachRecorded, IsRecordedBy, AllMade, rows_of_made, moves_made, events_of_singles, events_of_write, events_of_made, made_of_answer, made_by_line, made_by, events_of_line, events_of_lines, reads_in}
use Rattle.history_model.specs.Invariants.{RunOk}
use Rattle.update_records.specs.Laws.{UpdatesRecord}
use Rattle.history_model.specs.WellFormed.{IsWellFormedLine, AreWellFormedLines}
use Rattle.std.specs.Prelude.{map as each}
use Rattle.copy_model.specs.Laws.{CopyHeals, Follow}
use Rattle.history_model.specs.Laws.{LinesHeal}
use Rattle.history_model.proofs.Tables.{write_sound}
use Rattle.history_model.proofs.Inductive.{nothing_sound}
use Rattle.history_model.proofs.Modelled.{taken_made, made_leading, lines_leading}
use Rattle.history_model.proofs.Mirrored.{lines_mirror}
use Rattle.history_model.proofs.Runs.{lines_good}

pub moves_of_join : (xs ys : List Event) → moves_of (xs ++ ys) ≡ moves_of xs ++ moves_of ys
moves_of_join [] ys = refl
moves_of_join (Wrote w ms ∷ xs) ys = ap (λ (z : List Move). ms ++ z) (moves_of_join xs ys) ∙ sym (append_assoc ms (moves_of xs) (moves_of ys))
moves_of_join (Copied n k ∷ xs) ys = moves_of_join xs ys

pub append_none : (xs : List Move) → xs ++ [] ≡ xs
append_none [] = refl
append_none (x ∷ xs) = ap (λ (z : List Move). x ∷ z) (append_none xs)

single_moves : (ws : List SingleWrite) (is : List Item) (r : Rows) → EachRecorded ws is r → moves_of (events_of_singles ws is) ≡ joined (each item_moves is)
single_moves [] [] r h = refl
single_moves [] (i ∷ is) r h = absurd h
single_moves (w ∷ ws) [] r h = absurd h
single_moves (w ∷ ws) (i ∷ is) r h = ap (λ (z : List Move). item_moves i ++ z) (single_moves ws is (change_rows w r) h.1)

write_moves : (w : Write) (e : Content) (r : Rows) → IsRecordedBy w e r → moves_of (events_of_write w e) ≡ content_moves e
write_moves (Single w) (One i) r h = append_none (item_moves i)
write_moves (Single w) Nothing r h = absurd h
write_moves (Single w) (entries.Rename d x) r h = absurd h
write_moves (Single w) (Group is) r h = absurd h
write_moves (Rename a b) (entries.Rename d x) r h = refl
write_moves (Rename a b) Nothing r h = absurd h
write_moves (Rename a b) (One i) r h = absurd h
write_moves (Rename a b) (Group is) r h = absurd h
write_moves (Txn ws) (Group is) r h = single_moves ws is r h
write_moves (Txn ws) Nothing r h = absurd h
write_moves (Txn ws) (entries.Rename d x) r h = absurd h
write_moves (Txn ws) (One i) r h = absurd h

pub made_moves : (ms : List Made) (r : Rows) → AllMade ms r → moves_of (events_of_made ms) ≡ moves_made ms
made_moves [] r h = refl
made_moves (m ∷ ms) r h =
    moves_of_join (events_of_write m.write m.content) (events_of_made ms)
    ∙ (ap (λ (z : List Move). z ++ moves_of (events_of_made ms)) (write_moves m.write m.content r h.0)
    ∙ ap (λ (z : List Move). content_moves m.content ++ z) (made_moves ms (rows_by m.write r) h.1))

pub moves_join : (xs ys : List Made) → moves_made (xs ++ ys) ≡ moves_made xs ++ moves_made ys
moves_join [] ys = refl
moves_join (m ∷ xs) ys = ap (λ (z : List Move). content_moves m.content ++ z) (moves_join xs ys) ∙ sym (append_assoc (content_moves m.content) (moves_made xs) (moves_made ys))

line_moves : UpdatesRecord → (c : Caps) (l : Line) (r : Run) → IsWellFormedLine l → RunOk c r → moves_of (events_of_line l r) ≡ moves_made (made_by_line l r)
line_moves sound c (Cmd k) r w h = by (applied k r.stage) refl
  where
    by : (y : Result (Stage × List Made) Refused) → applied k r.stage ≡ y → moves_of (events_of_made (made_of_answer y)) ≡ moves_made (made_of_answer y)
    by (Err x) e = refl
    by (Ok x) e = made_moves x.1 r.stage.rows (taken_made sound k r.stage x w h.0.formed e).0
line_moves sound c Dump r w h = refl
line_moves sound c (Copy n k) r w h = refl
line_moves sound c Mark r w h = refl
line_moves sound c (Tail n) r w h = refl

pub lines_moves : UpdatesRecord → (c : Caps) (ls : List (ℕ × Line)) (r : Run) → AreWellFormedLines ls → RunOk c r → moves_of (events_of_lines ls r) ≡ moves_made (made_by ls r)
lines_moves sound c [] r w h = refl
lines_moves sound c (l ∷ ls) r w h =
    moves_of_join (events_of_line l.1 r) (events_of_lines ls (after_line l r))
    ∙ (ap (λ (z : List Move). z ++ moves_of (events_of_lines ls (after_line l r))) (line_moves sound c l.1 r w.0 h)
    ∙ (ap (λ (z : List Move). moves_made (made_by_line l.1 r) ++ z) (lines_moves sound c ls (after_line l r) w.1 (lines_good sound c (l ∷ []) r (w.0, tt) h))
    ∙ sym (moves_join (made_by_line l.1 r) (made_by ls (after_line l r)))))

-- a history cut in two
pub made_parted : (xs ys : List Made) (r : Rows) → AllMade (xs ++ ys) r → AllMade xs r × AllMade ys (rows_of_made xs r)
made_parted [] ys r h = (tt, h)
made_parted (m ∷ xs) ys r h = (let g = made_parted xs ys (rows_by m.write r) h.1 in ((h.0, g.0), g.1))

pub rows_parted : (xs ys : List Made) (r : Rows) → rows_of_made (xs ++ ys) r ≡ rows_of_made ys (rows_of_made xs r)
rows_parted [] ys r = refl
rows_parted (m ∷ xs) ys r = rows_parted xs ys (rows_by m.write r)

pub made_sound : (ms : List Made) (r : Rows) → AreSound r → AreSound (rows_of_made ms r)
made_sound [] r ok = ok
made_sound (m ∷ ms) r ok = made_sound ms (rows_by m.write r) (write_sound m.write r ok)

-- the dump starts on r, whose last writes are first; behind the lines that follow every cursor has ended and nothing failed
pub torn_run : CopyHeals → UpdatesRecord → LinesHeal
torn_run heals sound c r earlier first ls w h none made nf nl live out =
    (let ok : RunOk c (started r) = (h.0, tt) in
    let before = rows_of_made earlier no_rows in
    let parts = made_parted earlier first no_rows (subst (λ (z : List Made). AllMade z no_rows) made h.0.recorded) in
    let led = made_leading first before parts.1 nf in
    let now : rows_after (events_of_made first) before ≡ r.stage.rows = led.1 ∙ (sym (rows_parted earlier first no_rows) ∙ (ap (λ (z : List Made). rows_of_made z no_rows) (sym made) ∙ h.0.rows)) in
    let lines = lines_leading sound c ls (started r) w ok nl in
    let m = lines_mirror sound c ls (started r) (begin r.stage.rows) w ok nl (record { copy = _; there = refl; rows = refl; cursors = refl; reads = ap (λ (z : List Step). reads_in z []) (sym none) }) live in
    let ended : AllEnded (after (events_of_lines ls (started r)) (begin r.stage.rows)) = (λ n x e. out m.copy m.there n x (subst (λ (z : map.FinMap namespace_cmp Cursor). map.get z n ≡ Some x) m.cursors e)) in
    let follow : Follow before (events_of_made first) (events_of_lines ls (started r)) = record {
      sound = made_sound earlier no_rows nothing_sound;
      before_start = led.0;
      since = subst (λ (z : Rows). AllRecorded (events_of_lines ls (started r)) z) (sym now) lines.0;
    } in
    let healed = heals before (events_of_made first) (events_of_lines ls (started r)) follow (subst (λ (z : Rows). AllEnded (after (events_of_lines ls (started r)) (begin z))) (sym now) ended) in
    let moves : moves_of (events_of_made first) ++ moves_of (events_of_lines ls (started r)) ≡ moves_made (first ++ made_by ls (started r)) =
    ap (λ (z : List Move). z ++ moves_of (events_of_lines ls (started r))) (made_moves first before parts.1)
    ∙ (ap (λ (z : List Move). moves_made first ++ z) (lines_moves sound c ls (started r) w ok) ∙ sym (moves_join first (made_by ls (started r)))) in
    let step1 = subst (λ (z : Rows). SameStates (replay_all (moves_of (events_of_made first) ++ moves_of (events_of_lines ls (started r))) (copy_of z (after (events_of_lines ls (started r)) (begin z)).reads)) (state_of (after (events_of_lines ls (started r)) (begin z)).rows)) now healed in
    let step2 = subst (λ (g : List Read). SameStates (replay_all (moves_of (events_of_made first) ++ moves_of (events_of_lines ls (started r))) (copy_of r.stage.rows g)) (state_of (after (events_of_lines ls (started r)) (begin r.stage.rows)).rows)) m.reads step1 in
    let step3 = subst (λ (z : Rows). SameStates (replay_all (moves_of (events_of_made first) ++ moves_of (events_of_lines ls (started r))) (copy_of r.stage.rows (reads_in (after_lines ls (started r)).steps []))) (state_of z)) m.rows step2 in
    subst (λ (z : List Move). SameStates (replay_all z (copy_of r.stage.rows (reads_in (after_lines ls (started r)).steps []))) (state_of (after_lines ls (started r)).stage.rows)) moves step3)
