use Rattle.std.proofs.Common.{map}
use Rattle.std.specs.List.{FoldsTo}
use Rattle.row_script.specs.Runs.{Takes}
use Rattle.row_script.specs.Tallies.{no_rows}
use Rattle.row_script.proofs.tally_of.Given as goal

abbrev pub invariant-loop-line : goal.invariant-loop-line
invariant-loop-line g l = record {
  next : (goal.iterator-loop-line g).can_next l.line-iterator;
  ends : (goal.iterator-loop-line g).is_finite l.line-iterator;
  taken : FoldsTo (Takes g.A.Respondent.gives)
      (record { respondent = l.fn.respondent; tally = no_rows; written = g.W.Write.contents l.fn.out })
      (map (λ x. x.now) l.yielded)
      (record { respondent = l.respondent; tally = l.tally; written = g.W.Write.contents l.out });
}
