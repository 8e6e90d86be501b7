use Rattle.std.proofs.Common.{◌≡◌, List, ℕ, map as each, get_or, take, ap, ◌∙◌, subst, arith, rules}
use Rattle.std.specs.Prelude.{flat_map}
use Rattle.std.specs.Io.KnownBytes.{Appends}
use Rattle.std.proofs.lemmas.List.{take_all, get_or_default}
use Rattle.tool_io.specs.Causes.{AppendsFront}
use Rattle.tool_io.proofs.Writes.{pieces_front, whatever_err}
use Rattle.schedule_model.specs.declared.refused.Refused.TheVariants as rows
use Rattle.schedule_report.specs.Lines.{refusals_text}
use Rattle.schedule_source.specs.declared.run.RefusedLine.{RefusedLine}
use Rattle.schedule_source.specs.Progress.{refusal_in}
use Rattle.schedule_source.proofs.Telling.{told_line, told_lines}
use Rattle.schedule_source.proofs.run.SourceRun.tell.Goals as goal

pub returns-in_err-tell-clause-err : goal.returns-in_err-tell-clause-err
returns-in_err-tell-clause-err g c =
    let a = (g.R.Sink.end c.args.report.now).bytes in
    let b = (g.R.Sink.end c.loop-line.report).bytes in
    let d = (g.R.Sink.end c.tell.new.report).bytes in
    let items = c.as_slice-line-items.result.now in
    let i = c.loop-line.line-index in
    let line = get_or items i (record { number = 0; row = rows.NoSuchNamespace }) in
    let all = told_lines items ∙ ap (λ (xs : List RefusedLine). refusals_text (each refusal_in xs)) c.as_slice-line-items.ensures in
    whatever_err c.from_residual.result (subst (λ (z : List ℕ). AppendsFront a d z) all (pieces_front told_line a b d items i line (omega arith) (get_or_default items i (record { number = 0; row = rows.NoSuchNamespace }) line (omega arith)) c.loop-line.invariant.appends (search rules)))

pub returns-clause-ok : goal.returns-clause-ok
returns-clause-ok g c =
    let a = (g.R.Sink.end c.args.report.now).bytes in
    let b = (g.R.Sink.end c.loop-line.report).bytes in
    let items = c.as_slice-line-items.result.now in
    let n = c.loop-line.line-index in
    let all : flat_map told_line (take n items) ≡ refusals_text (each refusal_in c.args.self.now.refused) =
    ap (flat_map told_line) (take_all n items (omega (arith, c.loop-line-test.false))) ∙ (told_lines items ∙ ap (λ (xs : List RefusedLine). refusals_text (each refusal_in xs)) c.as_slice-line-items.ensures) in
    subst (λ (z : List ℕ). Appends a b z) all c.loop-line.invariant.appends
