use Rattle.std.proofs.lemmas.Fn.{FoldsTo-push}
use Rattle.std.proofs.lemmas.List.{map-append}
use Rattle.std.proofs.lemmas.Iterator.Splits.{YieldsList-from_lines}
use Rattle.std.proofs.lemmas.Iterator.Consumers.{YieldsList-end}
use Rattle.row_script.specs.Runs.{Takes}
use Rattle.row_script.proofs.Taken.{whole}
use Rattle.row_script.proofs.tally_of.Goals as goal

pub loop-line-preserved : goal.loop-line-preserved
loop-line-preserved g c = record {
  next = tt;
  ends = tt;
  taken = rw map-append (FoldsTo-push (Takes g.A.Respondent.gives) _ _ _ _ _ c.loop-line.invariant.taken c.in_ok-tally.ensures);
}

pub returns : goal.returns
returns g c =
    let y = YieldsList-from_lines c.args.script.now (rw c.into_iter-line-iterator.ensures.into_iter_gives c.lines-line-items.ensures.rest) in
    let t = YieldsList-end y c.loop-line.yielded _ c.loop-line.yielded_by _ _ c.in-None.is c.next.ensures.steps in
    whole g.A.Respondent.gives _ _ _ c.args.script.now t.0 c.loop-line.invariant.taken
