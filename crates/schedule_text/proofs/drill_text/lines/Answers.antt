use Rattle.schedule_text.proofs.DrillRows.{all_rows, row_put, rows_done}
use Rattle.schedule_text.proofs.drill_text.lines.Goals as goal

pub loop-i-init : goal.loop-i-init
loop-i-init c = all_rows c.args.n c.in_ok-text.text.items c.in_ok-text.ensures.items

pub loop-i-preserved : goal.loop-i-preserved
loop-i-preserved c = row_put c.args.n c.loop-i.i c.loop-i.generator.state _ _ _ _ c.loop-i-test.true c.in_ok-put_lines.ensures.text c.in_ok-put_lines.ensures.state c.loop-i.invariant

pub returns : goal.returns
returns c = rows_done c.args.n c.loop-i.i c.loop-i.text.items c.loop-i.generator.state c.loop-i-test.false c.loop-i.invariant
