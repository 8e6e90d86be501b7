use Rattle.std.proofs.Common.{sym, ap, ◌∙◌}
use Rattle.std.specs.Prelude.{Ok}
use Rattle.oplog_entry.proofs.Parts.{group_partial, left_partial, right_partial}
use Rattle.oplog_entry.proofs.reading.group.Goals as goal
use Rattle.oplog_entry.proofs.reading.group.Goals.{then-is_true-via-then-is_true, then-is_true-via-else-is_true+then-is_true-2}

pub returns-then-is_true : goal.returns-then-is_true
returns-then-is_true c =
    group_partial c.args.ts c.args.db.now c.args.value.now c.args.o.now c.requires
    (elim c.then-is_true.branch [
      | then-is_true-via-then-is_true w ↦ left_partial c.args.o.now c.is_true.result c.is_true.ensures w.if-is_true.true
      | then-is_true-via-else-is_true+then-is_true-2 w ↦ right_partial c.args.o.now w.is_true-else-is_true.result w.is_true-else-is_true.ensures w.if-is_true-2.true
    ])
    ∙ ap Ok (sym c.in_ok-other.ensures)
