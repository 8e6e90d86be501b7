use Rattle.std.proofs.Common.{Some, Err, ap, ◌∙◌}
use Rattle.drill_run.proofs.Refusing.{never_format, never_fails}
use Rattle.drill_run.proofs.run.restore_from_memory.Goals as goal

pub unreachable-requires-in-Err-Format : goal.unreachable-requires-in-Err-Format
unreachable-requires-in-Err-Format c =
    never_format c.one_outcome.ensures c.refused_is_outcome.ensures c.whole_plan.result c.new-source.result c.args.archive.now c.whole_plan.ensures c.new-source.ensures c.requires
    (Some c.restore_archive.new.source) c.in-Err-Format.field-0-0 (c.restore_archive.ensures.format c.in-Err-Format.field-0-0 (c.in-Err-Format.is ∙ ap Err c.in-Err-Format.field-0-is))

pub unreachable-requires-in-Err-Restore : goal.unreachable-requires-in-Err-Restore
unreachable-requires-in-Err-Restore c =
    never_fails c.one_outcome.ensures c.refused_is_outcome.ensures c.whole_plan.result c.new-source.result c.args.archive.now c.whole_plan.ensures c.new-source.ensures c.requires
    (Some c.restore_archive.new.source) c.in-Err-Restore.field-0-0 (c.restore_archive.ensures.fails c.in-Err-Restore.field-0-0 (c.in-Err-Restore.is ∙ ap Err c.in-Err-Restore.field-0-is))
