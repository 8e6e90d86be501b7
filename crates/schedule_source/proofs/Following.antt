-- A run over the lines of an input is a run of the schedule that the input is.
use Rattle.std.proofs.Common.{◌≡◌, ℕ, List, [], ◌∷◌, ◌++◌, map as each, refl, sym, ap, ◌∙◌, subst, arith}
use Rattle.std.specs.Prelude.{◌<◌, Option, Some, None, Result, Ok, Err, IfSome, IfOk, IfErr, OnOk}
use Rattle.std.proofs.lemmas.List.{map-append}
use Rattle.bson_value.specs.declared.value.Ts.{Ts}
use Rattle.schedule_model.specs.declared.line.Line.{Line}
use Rattle.history_model.specs.Stages.{Caps}
use Rattle.history_model.specs.Runs.{Schedule as Model}
use Rattle.history_model.specs.Histories.{before, history_of, state, source}
use Rattle.tool_io.specs.Ends.{End}
use Rattle.schedule_text.specs.declared.schedule.NumberedLine.{NumberedLine}
use Rattle.schedule_text.specs.Reading.{KeepsCap}
use Rattle.schedule_input.specs.declared.fault.InputFault.{InputFault}
use Rattle.schedule_input.specs.declared.fault.InputFault.TheVariants as faults
use Rattle.schedule_input.specs.Inputs.{Fails, Gives, Led, NextIsFurther, schedule_so_far}
use Rattle.schedule_input.specs.Places.{Place}
use Rattle.schedule_input.proofs.Following.{led_first, led_more, led_over, led_bad}
use Rattle.schedule_report.specs.Schedules.{numbered}
use Rattle.schedule_source.specs.declared.run.SourceRun.{SourceRun}
use Rattle.schedule_source.specs.Progress.{Advances, RunsTo, at_first, behind_line, behind_lines}
use Rattle.schedule_source.specs.Reading.{IsUnread, Next, AreRun, Behind, bytes_left, caps_in}
use Rattle.schedule_source.specs.Inputs.{FailsLater, RunsInput}
use Rattle.schedule_source.proofs.Progresses.{behind_more, makes_all}

-- the next line, or the end, behind lines that were read
comes : (lines : List NumberedLine) (p q : Place) (next : Option NumberedLine) (all b c : Option (List ℕ)) (before after : End) → before.bytes ≡ b → after.bytes ≡ c → Led lines p all b → Gives p q (Ok next) before after → NextIsFurther p q next → Next next lines q all c
comes lines p q (Some line) all b c before after e f led gives further =
    let leads = subst (λ (x : Option (List ℕ)). Led lines p all x) (sym e) led in
    record {
      led = subst (λ (x : Option (List ℕ)). Led (lines ++ line ∷ []) q all x) f (led_more lines (line ∷ []) p q all before.bytes after.bytes leads gives);
      begun = further.1;
      few = further.0.few;
    }
comes lines p q None all b c before after e f led gives further =
    let over = led_over lines p q all before.bytes after.bytes (subst (λ (x : Option (List ℕ)). Led lines p all x) (sym e) led) gives in
    record {
      is = over.0;
      whole = subst (λ (x : Option (List ℕ)). IfSome all (λ a. x ≡ Some [])) f over.1;
    }

-- ---- the first line

unread_led : (p : Place) (a : Option (List ℕ)) → IsUnread p → Led [] p a a
unread_led p a u = led_first p a u.reader u.number u.end u.left

pub begins : (l : Option Ts) (p q : Place) (next : Option NumberedLine) (r : SourceRun) (before after : End) → IsUnread p → Gives p q (Ok next) before after → NextIsFurther p q next → RunsTo r (at_first (caps_in q.reader)) → Behind l before.bytes next q r after.bytes
unfolding Behind
begins l p q next r before after u gives further runs =
    record {
      lines = [];
      runs = runs;
      reads = comes [] p q next before.bytes before.bytes after.bytes before after refl refl (unread_led p before.bytes u) gives further;
    }

fails : (lines : List NumberedLine) (p : Place) (fault : InputFault) (all : Option (List ℕ)) (before after : End) → Led lines p all before.bytes → Fails p fault before after → FailsLater fault all before.faults after.faults
fails lines p (faults.Bad number kind) all before after led f = led_bad lines p all before.bytes (number, kind) led f
fails lines p faults.ReadFault all before after led f = f
fails lines p faults.NoMemory all before after led f = tt

pub begins_not : (p : Place) (fault : InputFault) (before after : End) → IsUnread p → Fails p fault before after → FailsLater fault before.bytes before.faults after.faults
begins_not p fault before after u f = fails [] p fault before.bytes before after (unread_led p before.bytes u) f

-- ---- a line, and the next one

module _ (l : Option Ts) (p q : Place) (line : NumberedLine) (old new : SourceRun) (all : Option (List ℕ)) (before after : End) (w : AreRun l all (Some line) p old before.bytes) where
  more_lines : List NumberedLine
  more_lines = w.lines ++ line ∷ []

  goes_on : (next : Option NumberedLine) → Advances l (numbered line) old new → Gives p q (Ok next) before after → NextIsFurther p q next → KeepsCap p.reader q.reader → AreRun l all next q new after.bytes
  unfolding more_lines Advances
  goes_on next f gives further keeps =
      let caps : caps_in p.reader ≡ caps_in q.reader = ap (λ (n : ℕ). record { entries = n; bytes = p.reader.bytes }) (sym (keeps.cap w.reads.begun)) ∙ ap (λ (n : Option ℕ). record { entries = q.reader.cap; bytes = n }) (sym (keeps.bytes w.reads.begun)) in
      let first = at_first (caps_in p.reader) in
      let one = behind_line l (numbered line) (behind_lines l (each numbered w.lines) first) in
      let is : one ≡ behind_lines l (each numbered more_lines) first =
      sym (ap (λ (xs : List (ℕ × Line)). behind_lines l xs first) (map-append numbered w.lines (line ∷ [])) ∙ behind_more l (each numbered w.lines) (numbered line) first) in
      let all_is : one ≡ behind_lines l (each numbered more_lines) (at_first (caps_in q.reader)) = is ∙ ap (λ (c : Caps). behind_lines l (each numbered more_lines) (at_first c)) caps in
      record {
        lines = more_lines;
        runs = subst (RunsTo new) all_is (f (behind_lines l (each numbered w.lines) first) w.runs);
        reads = comes more_lines p q next all before.bytes after.bytes before after refl refl w.reads.led gives further;
      }

  stops : (fault : InputFault) → Fails p fault before after → FailsLater fault all before.faults after.faults
  stops fault f = fails (w.lines ++ line ∷ []) p fault all before after w.reads.led f

pub advances : (l : Option Ts) (p q : Place) (line : NumberedLine) (old new : SourceRun) (all : Option (List ℕ)) (before after : End) → Behind l all (Some line) p old before.bytes → (next : Option NumberedLine) → Advances l (numbered line) old new → Gives p q (Ok next) before after → NextIsFurther p q next → KeepsCap p.reader q.reader → Behind l all next q new after.bytes
unfolding Behind
advances l p q line old new all before after w next f gives further keeps = goes_on l p q line old new all before after w next f gives further keeps

pub advances_not : (l : Option Ts) (p : Place) (line : NumberedLine) (old : SourceRun) (all : Option (List ℕ)) (before after : End) → Behind l all (Some line) p old before.bytes → (fault : InputFault) → Fails p fault before after → FailsLater fault all before.faults after.faults
unfolding Behind
advances_not l p line old all before after w fault f = stops l p p line old old all before after w fault f

module _ (l : Option Ts) (p q : Place) (line : NumberedLine) (old new : SourceRun) (before after : End) where
  pub advances_by : (r : Result (Option NumberedLine) InputFault) → Advances l (numbered line) old new → Gives p q r before after → IfOk r (NextIsFurther p q) → OnOk r (KeepsCap p.reader q.reader) → IfOk r (λ next. (all : Option (List ℕ)) → Behind l all (Some line) p old before.bytes → Behind l all next q new after.bytes)
  advances_by (Ok next) f gives further keeps = λ all w. advances l p q line old new all before after w next f gives further keeps
  advances_by (Err fault) f gives further keeps = tt

  pub advances_not_by : (r : Result (Option NumberedLine) InputFault) → Gives p q r before after → IfErr r (λ e. (all : Option (List ℕ)) → Behind l all (Some line) p old before.bytes → FailsLater e all before.faults after.faults)
  advances_not_by (Ok next) gives = tt
  advances_not_by (Err fault) gives = λ all w. advances_not l p line old all before after w fault gives

pub lessens : (l : Option Ts) (all now : Option (List ℕ)) (line : NumberedLine) (p q : Place) (r : SourceRun) (next : Option NumberedLine) → Behind l all (Some line) p r now → NextIsFurther p q next → bytes_left next q < bytes_left (Some line) p
unfolding Behind
lessens l all now line p q r None w further = omega (arith, w.reads.few)
lessens l all now line p q r (Some more) w further = omega (arith, w.reads.few, further.0.longer, further.0.few)

-- ---- the end

pub none_left : (next : Option NumberedLine) → ((line : NumberedLine) → next ≡ Some line → ⊥) → next ≡ None
none_left None f = refl
none_left (Some line) f = absurd (f line refl)

pub ends : (l : Option Ts) (p : Place) (r : SourceRun) (all now : Option (List ℕ)) → ((k : Option Ts) (t : Model) → state (history_of (source k t).made) ≡ before t k) → Behind l all None p r now → RunsInput l r all now
unfolding Behind
ends l p r all now law w =
    let s = schedule_so_far p.reader w.lines in
    record {
      schedule = s;
      is = w.reads.is;
      whole = w.reads.whole;
      makes = makes_all l (record { caps = caps_in p.reader; lines = each numbered w.lines }) r law w.runs;
    }
