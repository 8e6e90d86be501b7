-- The steps of a dump, at each moment of a run.
use Rattle.std.proofs.Common.{◌≡◌, ◌≢◌, ℕ, zero, suc, List, [], ◌∷◌, ◌++◌, length, Bool, true, false, not, refl, sym, ap, ◌∙◌, subst, append_assoc, Option, Some, None, Result, Ok, Err, inl, inr}
use Rattle.std.specs.Prelude.{⊤, ◌⊎◌, ◌||◌, is_some, nat_le, ◌+◌, take, drop, filter}
use Rattle.std.specs.FinMap as map
use Rattle.bson_value.specs.declared.namespace.NsName.{NsName}
use Rattle.bson_value.specs.declared.value.Ts.{Ts}
use Rattle.bson_check.proofs.Whole.{spelled_once}
use Rattle.bson_encode.proofs.Grammar.{spelling_spells}
use Rattle.entry_model.proofs.Touched.{written_is_read, written_is_document}
use Rattle.delta_laws.proofs.Deltas.{delta_read}
use Rattle.update_records.specs.Laws.{UpdatesRecord}
use Rattle.update_records.proofs.Records.{updates_record}
use Rattle.coll_state.specs.Rows.{Rows, state_of}
use Rattle.copy_model.specs.Cursors.{Cursor}
use Rattle.copy_model.specs.Copies.{cursors_of}
use Rattle.schedule_model.specs.declared.command.DocumentCommand.{DocumentCommand}
use Rattle.schedule_model.specs.declared.command.DocumentCommand.TheVariants.{Insert, Replace, Update, Delete}
use Rattle.schedule_model.specs.declared.command.Command.{Command}
use Rattle.schedule_model.specs.declared.command.Command.TheVariants as commands
use Rattle.schedule_model.specs.declared.line.Line.{Line}
use Rattle.schedule_model.specs.declared.line.Line.TheVariants.{Cmd, Dump, Copy, Mark, Tail}
use Rattle.schedule_model.specs.declared.refused.Refused.{Refused}
use Rattle.archive_content.specs.Pieces.{has_ended, AreEnded}
use Rattle.history_model.specs.Stages.{Write, earlier, not_later, first_ts, Caps, Stage, Made}
use Rattle.history_model.specs.Commands.{applied}
use Rattle.history_model.specs.Entries.{OplogEntry}
use Rattle.history_model.specs.Runs.{Schedule, Run, Refusal, NotNow, NoCursor, DumpState, Outcome, Done, Renamed, Rolled, Step, started, looked, all_ended, read_on, copied_by, copied, renamed_since, rolled_or, rolled, marked_by, marked, window, entries_from, is_gone, sent_on, tailed_to, tailed, still, in_dump, dumped, commanded, on_line, or_refused, after_line, after_lines, begun, first_run, repeated, last_step, names_in, rows_left, copied_out, marked_out, run}
use Rattle.history_model.specs.Histories.{history_of, history, state, moments_of, outcome}
use Rattle.history_model.specs.Invariants.{RisesTo, RunOk}
use Rattle.history_model.specs.WellFormed.{IsWellFormedChange, AreWellFormedChanges, IsWellFormedCommand, IsWellFormedLine, AreWellFormedLines}
use Rattle.history_model.proofs.Inductive.{each_map, none_above, all_above, first_holds}
use Rattle.history_model.proofs.Modelled.{SameBase, IsStep, line_same}
use Rattle.history_model.proofs.Runs.{GoodAfter, line_good, taken_rises}
use Rattle.history_model.proofs.AtTheMark.{all_have_ended, rises_join, split_false}
use Rattle.history_model.proofs.Limited.{append_none, history_front}
use Rattle.history_model.proofs.Finished.{run_whole}
use Rattle.dump_model.specs.Archives.{state_at, all_pieces}
use Rattle.dump_model.specs.Archives as archives
use Rattle.recorded_entries.specs.Given.{IsGivenChange, AreGivenChanges, IsGivenCommand, IsGivenLine, AreGivenLines}
use Rattle.recorded_entries.specs.Kept.{AreKept}
use Rattle.recorded_entries.proofs.RunGood.{IsKeptRun, line_kept, step_kept, first_kept}
use Rattle.dump_steps.specs.Laws.{Followed, StepsFollow}
use Rattle.dump_steps.proofs.Following.{Following, looked_good, begins, documents_more, entries_more}

pub are_recorded : UpdatesRecord
are_recorded = updates_record spelling_spells spelled_once written_is_document (delta_read written_is_read)

-- ---- given lines are well-formed

change_formed : (d : DocumentCommand) → IsGivenChange d → IsWellFormedChange d
change_formed (Insert n d) h = h
change_formed (Replace n d) h = h
change_formed (Update n id ops) h = h.1
change_formed (Delete n id) h = tt

changes_formed : (ds : List DocumentCommand) → AreGivenChanges ds → AreWellFormedChanges ds
changes_formed [] h = tt
changes_formed (d ∷ ds) h = (change_formed d h.0, changes_formed ds h.1)

command_formed : (k : Command) → IsGivenCommand k → IsWellFormedCommand k
command_formed (commands.At s) h = tt
command_formed (commands.Recording f) h = tt
command_formed (commands.Create n o) h = tt
command_formed (commands.DropColl n) h = tt
command_formed (commands.DropDatabase db) h = tt
command_formed (commands.Rename a b) h = tt
command_formed (commands.Document d) h = change_formed d h
command_formed (commands.CreateIndex n d) h = tt
command_formed (commands.DropIndex n k) h = tt
command_formed (commands.Txn ds) h = changes_formed ds h

line_formed : (l : Line) → IsGivenLine l → IsWellFormedLine l
line_formed (Cmd k) h = command_formed k h
line_formed Dump h = tt
line_formed (Copy n k) h = tt
line_formed Mark h = tt
line_formed (Tail n) h = tt

pub lines_formed : (ls : List (ℕ × Line)) → AreGivenLines ls → AreWellFormedLines ls
lines_formed [] h = tt
lines_formed (l ∷ ls) h = (line_formed l.1 h.0, lines_formed ls h.1)

-- ---- a dump that has started

pub record Started (r0 : Rows) (d : DumpState) (r : Run) : Type 0 where
  pub kept : AreKept r0
  pub follow : Following r0 d.cursors d.closed (is_some d.mark) r.steps
  pub first : List Made
  pub more : List Made
  pub made : r.made ≡ first ++ more
  pub at_start : state_of r0 ≡ state (history_of first)
  pub rises : RisesTo first_ts first d.start
  pub later : RisesTo d.start more r.stage.newest

abbrev pub InDump : Option DumpState → Run → Type 0
InDump None r = r.steps ≡ []
InDump (Some d) r = (r0 : Rows) × Started r0 d r

abbrev pub AfterDump : Result Run Refusal → Type 0
AfterDump (Ok s) = InDump s.dump s
AfterDump (Err x) = ⊤

-- of a run
pub record Full (c : Caps) (r : Run) : Type 0 where
  pub kept : IsKeptRun r
  pub ok : RunOk c r
  pub dump : InDump r.dump r

abbrev FullAfter : Caps → Result Run Refusal → Type 0
FullAfter c (Ok s) = Full c s
FullAfter c (Err x) = ⊤

-- ---- steps

-- what a step makes of a dump that has started, where nothing else changes
changed : (r0 : Rows) (d e : DumpState) (r s : Run) → Started r0 d r → e.start ≡ d.start → s.made ≡ r.made → s.stage ≡ r.stage → Following r0 e.cursors e.closed (is_some e.mark) s.steps → Started r0 e s
changed r0 d e r s h a b c f = record {
  kept = h.kept;
  follow = f;
  first = h.first;
  more = h.more;
  made = b ∙ h.made;
  at_start = h.at_start;
  rises = subst (λ (ts : Ts). RisesTo first_ts h.first ts) (sym a) h.rises;
  later = subst (λ (ts : Ts). RisesTo ts h.more s.stage.newest) (sym a) (subst (λ (st : Stage). RisesTo d.start h.more st.newest) (sym c) h.later);
}

copied_dump : (c : Caps) (n : NsName) (k : ℕ) (d : DumpState) (r : Run) → Full c r → (r0 : Rows) × Started r0 d r → AfterDump (copied n k d r)
copied_dump c n k d r h (r0, st) = by (map.get d.cursors n) refl
  where
    on : (x : Cursor) → map.get d.cursors n ≡ Some x → (b : Bool) → x.ended ≡ b → AfterDump (elim b [ true ↦ Err NoCursor | false ↦ Ok (read_on n (looked k x (map.get r.stage.rows.tables n)) d r) ])
    on x e true f = tt
    on x e false f =
        (let y = looked k x (map.get r.stage.rows.tables n) in
        let g = looked_good r.stage.rows n k x h.kept.rows h.ok.0.sound in
        (r0, changed r0 d _ r (read_on n y d r) st refl refl refl (documents_more r0 d.cursors d.closed (is_some d.mark) r.steps n x y.1 y.0 st.kept st.follow e f g.0 g.1)))

    by : (o : Option Cursor) → map.get d.cursors n ≡ o → AfterDump (copied_by n k o d r)
    by None e = tt
    by (Some x) e = on x e x.ended refl

marked_dump : (c : Caps) (d : DumpState) (r : Run) → Full c r → r.dump ≡ Some d → (r0 : Rows) × Started r0 d r → AfterDump (marked d r)
marked_dump c d r h there (r0, st) = by (is_some d.mark || not (all_ended d.cursors)) refl
  where
    same : (x : Outcome) → InDump r.dump (record r { outcome = x })
    same x = subst (λ (o : Option DumpState). InDump o (record r { outcome = x })) (sym there) (r0, changed r0 d d r (record r { outcome = x }) st refl refl refl st.follow)

    on : all_ended d.cursors ≡ true → (o : Option Ts) → AfterDump (Ok (marked_by o d r))
    on e (Some ts) = same (Renamed ts)
    on e None =
        elim (is_gone d.start r.stage.oplog) as (λ b. AfterDump (Ok (elim b [ true ↦ rolled d.start r | false ↦ record r { dump = Some (record d { mark = Some r.stage.newest }) } ]))) [
          | true ↦ same (rolled d.start r).outcome
          | false ↦ (
            r0,
            changed r0 d (record d { mark = Some r.stage.newest }) r (record r { dump = Some (record d { mark = Some r.stage.newest }) }) st refl refl refl
                (record { there = st.follow.there; read = st.follow.read; stand = st.follow.stand; ended = st.follow.ended; of = st.follow.of; closed_is = st.follow.closed_is; all = λ m. all_have_ended d.cursors e }),
          )
        ]

    by : (b : Bool) → (is_some d.mark || not (all_ended d.cursors)) ≡ b → AfterDump (elim b [ true ↦ Err NotNow | false ↦ Ok (marked_by (renamed_since d.start r.stage.renamed) d r) ])
    by true e = tt
    by false e = on (split_false (is_some d.mark) (all_ended d.cursors) e) (renamed_since d.start r.stage.renamed)

tailed_dump : (c : Caps) (n : ℕ) (d : DumpState) (r : Run) → Full c r → r.dump ≡ Some d → (r0 : Rows) × Started r0 d r → AfterDump (tailed n d r)
tailed_dump c n d r h there (r0, st) = by d.mark
  where
    same : InDump r.dump (rolled d.start r)
    same = subst (λ (o : Option DumpState). InDump o (rolled d.start r)) (sym there) (r0, changed r0 d d r (rolled d.start r) st refl refl refl st.follow)

    on : (all : List OplogEntry) (b : Bool) → d.closed ≡ b → AfterDump (elim b [ true ↦ Err NotNow | false ↦ Ok (rolled_or d.start r.stage.oplog (rolled d.start r) (sent_on n all d r)) ])
    on all true e = tt
    on all false e =
        elim (is_gone d.start r.stage.oplog) as (λ b. AfterDump (Ok (elim b [ true ↦ rolled d.start r | false ↦ sent_on n all d r ]))) [
          | true ↦ same
          | false ↦ (
            r0,
            changed r0 d _ r (sent_on n all d r) st refl refl refl
                (entries_more r0 d.cursors (is_some d.mark) r.steps (take n (drop d.sent all)) (nat_le (length all) (d.sent + n)) st.kept (subst (λ (x : Bool). Following r0 d.cursors x (is_some d.mark) r.steps) e st.follow)),
          )
        ]

    by : (o : Option Ts) → AfterDump (tailed_to n o d r)
    by None = tt
    by (Some e) = on (window d.start e (entries_from r)) d.closed refl

in_dump_after : (g : DumpState → Run → Result Run Refusal) (r : Run) → InDump r.dump r → ((d : DumpState) → r.dump ≡ Some d → (r0 : Rows) × Started r0 d r → AfterDump (g d r)) → AfterDump (in_dump g r.dump r)
in_dump_after g r h step = by r.dump refl h
  where
    on : (d : DumpState) → r.dump ≡ Some d → (r0 : Rows) × Started r0 d r → (x : Outcome) → AfterDump (still x g d r)
    on d e s Done = step d e s
    on d e s (Renamed ts) = h
    on d e s (Rolled a b) = h

    by : (o : Option DumpState) → r.dump ≡ o → InDump o r → AfterDump (in_dump g o r)
    by None e s = tt
    by (Some d) e s = on d e s r.outcome

begun_dump : (c : Caps) (r : Run) → Full c r → r.steps ≡ [] → InDump (started r).dump (started r)
begun_dump c r h e = (
  r.stage.rows,
  record {
    kept = h.kept.rows;
    follow = subst (λ (ss : List Step). Following r.stage.rows (map.from_entries (cursors_of (map.entries r.stage.rows.tables))) false false ss) (sym e) (begins r.stage.rows);
    first = r.made;
    more = [];
    made = sym (append_none r.made);
    at_start = h.ok.0.state;
    rises = h.ok.0.rises;
    later = refl;
  },
)

started_dump : (c : Caps) (r : Run) → Full c r → AfterDump (dumped r.dump r)
started_dump c r h = by r.dump h.dump
  where
    by : (o : Option DumpState) → InDump o r → AfterDump (dumped o r)
    by None e = begun_dump c r h e
    by (Some d) e = tt

step_dump : (c : Caps) (l : Line) (r : Run) → IsStep l → Full c r → AfterDump (on_line l r)
step_dump c (Cmd k) r s h = absurd s
step_dump c Dump r s h = started_dump c r h
step_dump c (Copy n k) r s h = in_dump_after (copied n k) r h.dump (λ d e st. copied_dump c n k d r h st)
step_dump c Mark r s h = in_dump_after marked r h.dump (λ d e st. marked_dump c d r h e st)
step_dump c (Tail n) r s h = in_dump_after (tailed n) r h.dump (λ d e st. tailed_dump c n d r h e st)

step_formed : (l : Line) → IsStep l → IsWellFormedLine l
step_formed (Cmd k) s = absurd s
step_formed Dump s = tt
step_formed (Copy n k) s = tt
step_formed Mark s = tt
step_formed (Tail n) s = tt

step_full : (c : Caps) (l : Line) (r : Run) → IsStep l → Full c r → FullAfter c (on_line l r)
step_full c l r s h = by (on_line l r) (line_same l r s) (line_good are_recorded c l r (step_formed l s) h.ok) (step_dump c l r s h)
  where
    by : (x : Result Run Refusal) → SameBase r x → GoodAfter c x → AfterDump x → FullAfter c x
    by (Ok y) a b d = record { kept = step_kept r y a h.kept; ok = b; dump = d }
    by (Err z) a b d = tt

-- ---- commands

command_dump : (k : Command) (r : Run) (x : Stage × List Made) → applied k r.stage ≡ Ok x → InDump r.dump r → InDump r.dump (record r { stage = x.0; made = r.made ++ x.1 })
command_dump k r x e h = by r.dump h
  where
    by : (o : Option DumpState) → InDump o r → InDump o (record r { stage = x.0; made = r.made ++ x.1 })
    by None g = g
    by (Some d) (r0, st) = (
      r0,
      record {
        kept = st.kept;
        follow = st.follow;
        first = st.first;
        more = st.more ++ x.1;
        made = ap (λ (z : List Made). z ++ x.1) st.made ∙ append_assoc st.first st.more x.1;
        at_start = st.at_start;
        rises = st.rises;
        later = rises_join st.more x.1 d.start r.stage.newest x.0.newest st.later (taken_rises k r.stage x e);
      },
    )

refused_dump : (r : Run) (refused : List (ℕ × Refusal)) → InDump r.dump r → InDump r.dump (record r { refused = refused })
refused_dump r refused h = by r.dump h
  where
    by : (o : Option DumpState) → InDump o r → InDump o (record r { refused = refused })
    by None g = g
    by (Some d) (r0, st) = (r0, changed r0 d d r (record r { refused = refused }) st refl refl refl st.follow)

refused_full : (c : Caps) (r : Run) (refused : List (ℕ × Refusal)) → Full c r → Full c (record r { refused = refused })
refused_full c r refused h = record { kept = record { rows = h.kept.rows; made = h.kept.made }; ok = h.ok; dump = refused_dump r refused h.dump }

told : (c : Caps) (i : ℕ) (l : Line) (r : Run) → IsStep l → Full c r → Full c (after_line (i, l) r)
told c i l r s h = by (on_line l r) (step_full c l r s h)
  where
    by : (x : Result Run Refusal) → FullAfter c x → Full c (or_refused i x r)
    by (Ok y) f = f
    by (Err z) f = refused_full c r _ h

line_full : (c : Caps) (i : ℕ) (l : Line) (r : Run) → IsGivenLine l → Full c r → Full c (after_line (i, l) r)
line_full c i (Cmd k) r w h = by (applied k r.stage) refl (line_kept i (Cmd k) r w h.kept) (line_good are_recorded c (Cmd k) r (line_formed (Cmd k) w) h.ok)
  where
    by : (y : Result (Stage × List Made) Refused) → applied k r.stage ≡ y → IsKeptRun (or_refused i (commanded y r) r) → GoodAfter c (commanded y r) → Full c (or_refused i (commanded y r) r)
    by (Err x) e a b = refused_full c r _ h
    by (Ok x) e a b = record { kept = a; ok = b; dump = command_dump k r x e h.dump }
line_full c i Dump r w h = told c i Dump r tt h
line_full c i (Copy n k) r w h = told c i (Copy n k) r tt h
line_full c i Mark r w h = told c i Mark r tt h
line_full c i (Tail n) r w h = told c i (Tail n) r tt h

lines_full : (c : Caps) (ls : List (ℕ × Line)) (r : Run) → AreGivenLines ls → Full c r → Full c (after_lines ls r)
lines_full c [] r w h = h
lines_full c (l ∷ ls) r w h = lines_full c ls (after_line l r) w.1 (line_full c l.0 l.1 r w.0 h)

first_full : (s : Schedule) → Full s.caps (first_run s.caps)
first_full s = record { kept = first_kept s; ok = (first_holds s.caps, tt); dump = refl }

-- ---- behind the last line

repeated_full : (c : Caps) (l : Line) (n : ℕ) (r : Run) → IsStep l → Full c r → Full c (repeated n (on_line l) r)
repeated_full c l zero r s h = h
repeated_full c l (suc n) r s h = by (on_line l r) (step_full c l r s h) (λ x g. repeated_full c l n x s g)
  where
    by : (x : Result Run Refusal) → FullAfter c x → ((y : Run) → Full c y → Full c (repeated n (on_line l) y)) → Full c (elim x [ Ok y ↦ repeated n (on_line l) y | Err z ↦ r ])
    by (Ok y) f more = more y f
    by (Err z) f more = h

copied_full : (c : Caps) (ns : List NsName) (r : Run) → Full c r → Full c (copied_out ns r)
copied_full c [] r h = h
copied_full c (n ∷ ns) r h =
    let k = suc (rows_left (map.get r.stage.rows.tables n)) in
    copied_full c ns (repeated k (on_line (Copy n last_step)) r) (repeated_full c (Copy n last_step) k r tt h)

begun_full : (c : Caps) (r : Run) → Full c r → Full c (begun r.dump r)
begun_full c r h = by r.dump h.dump
  where
    by : (o : Option DumpState) → InDump o r → Full c (begun o r)
    by None e = record { kept = record { rows = h.kept.rows; made = h.kept.made }; ok = (h.ok.0, tt); dump = begun_dump c r h e }
    by (Some d) e = h

pub run_full : (s : Schedule) → AreGivenLines s.lines → Full s.caps (run s)
run_full s w =
    let r = after_lines s.lines (first_run s.caps) in
    let a = begun r.dump r in
    let b = copied_out (names_in a.dump) a in
    let c = marked_out b in
    repeated_full s.caps (Tail last_step) (suc (length c.made)) c tt (repeated_full s.caps Mark 1 b tt (copied_full s.caps (names_in a.dump) a (begun_full s.caps r (lines_full s.caps s.lines (first_run s.caps) w (first_full s)))))

-- ---- a dump that came to its end

up_to_start : (first more : List Made) (start newest : Ts) → RisesTo first_ts first start → RisesTo start more newest → filter (λ (e : Ts × Write). not_later e.0 start) (history_of (first ++ more)) ≡ history_of first
up_to_start first more start newest a b =
    history_front (λ (ts : Ts). not_later ts start) first more
    (each_map (λ (m : Made). earlier start m.ts ≡ false) (λ (m : Made). not_later m.ts start ≡ true) (λ m f. ap not f) first (none_above first first_ts start a))
    (each_map (λ (m : Made). earlier start m.ts ≡ true) (λ (m : Made). not_later m.ts start ≡ false) (λ m f. ap not f) more (all_above more start newest b))

some_cursor : (o : Option Cursor) → o ≢ None → (c : Cursor) × (o ≡ Some c)
some_cursor None h = absurd (h refl)
some_cursor (Some c) h = (c, refl)

all_are_ended : (r0 : Rows) (d : DumpState) (ss : List Step) (last : Ts) → d.mark ≡ Some last → d.closed ≡ true → Following r0 d.cursors d.closed (is_some d.mark) ss → AreEnded (all_pieces ss)
all_are_ended r0 d ss last m c f n e = by (f.of n e)
  where
    by : (n ≡ archives.oplog) ⊎ (map.get d.cursors n ≢ None) → has_ended n (all_pieces ss) ≡ true
    by (inl q) = ap (λ (z : NsName). has_ended z (all_pieces ss)) q ∙ (f.closed_is ∙ c)
    by (inr q) = (let x = some_cursor (map.get d.cursors n) q in f.ended n x.0 x.1 ∙ f.all (ap is_some m) n x.0 x.1)

followed : (s : Schedule) (d : DumpState) → (run s).dump ≡ Some d → (last : Ts) → d.mark ≡ Some last → d.closed ≡ true → (r0 : Rows) × Started r0 d (run s) → Followed s
followed s d e last m c (r0, st) = record {
  rows = r0;
  kept = st.kept;
  at_start = st.at_start ∙ (ap state (sym (ap (λ (ms : List Made). filter (λ (x : Ts × Write). not_later x.0 d.start) (history_of ms)) st.made ∙ up_to_start st.first st.more d.start (run s).stage.newest st.rises st.later))
      ∙ ap (λ (o : Option Ts). state_at o (history s)) (sym (ap (λ (o : Option DumpState). (moments_of o).start) e)));
  steps = st.follow.read;
  stand = st.follow.stand;
  ended = all_are_ended r0 d (run s).steps last m c st.follow;
}

pub steps_follow : StepsFollow
steps_follow s w done =
    let h = run_whole are_recorded s (lines_formed s.lines w) done in
    followed s h.copy h.there h.last h.marked h.closed (subst (λ (o : Option DumpState). InDump o (run s)) h.there (run_full s w).dump)
