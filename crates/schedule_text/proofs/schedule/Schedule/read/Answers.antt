use Rattle.std.proofs.Common.{arith}
use Rattle.std.proofs.lemmas.Result.{err_from_is_err_and}
use Rattle.schedule_text.proofs.ReadLoop.{nothing_read, line_read, line_fails, all_read, nothing_more}
use Rattle.schedule_text.proofs.schedule.Schedule.read.Goals as goal

pub lines-init : goal.lines-init
lines-init c = record { read = nothing_read c.args.text.now c.new-reader.result c.new-lines.result c.new-reader.ensures c.new-lines.ensures; within = omega arith; low = omega arith }

pub returns-in_err-read : goal.returns-in_err-read
returns-in_err-read c =
    let p = err_from_is_err_and c.from_residual.result c.from_residual.ensures.1 in
    rw (p.1, p.2) (line_fails _ c.args.text.now c.lines.rest.now _ _ c.lines.reader c.lines.number c.lines.lines c.lines.invariant.within c.first_line.ensures.lines c.first_line.ensures.joined c.in_err-read.ensures.gives c.lines.invariant.read)

pub lines-preserved : goal.lines-preserved
lines-preserved c = record {
  read = rw c.in_ok-push.ensures (line_read c.args.text.now c.lines.rest.now _ _ c.lines.reader _ c.lines.number c.lines.lines _ c.lines.invariant.within c.first_line.ensures.lines c.first_line.ensures.joined c.in_ok-read.ensures.gives c.lines.invariant.read);
  within = omega (arith, c.lines.invariant.within, c.first_line.ensures.shorter);
  low = omega (arith, c.in_ok-read.ensures.few_lines);
}

pub returns : goal.returns
returns c = all_read c.args.text.now c.lines.rest.now c.lines.reader c.lines.number c.lines.lines (nothing_more c.lines.rest.now _ c.is_empty.ensures c.lines-test.false) c.lines.invariant.read
