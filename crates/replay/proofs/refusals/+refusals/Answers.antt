use Rattle.std.proofs.Common.{sym, ap, ◌∙◌, subst, map, List, Option}
use Rattle.entry_model.specs.declared.entry.Entry.{Entry}
use Rattle.replay.specs.declared.fault.ReplayFault.{ReplayFault}
use Rattle.replay.specs.declared.fault.ReplayFault.TheVariants.{OtherCommand}
use Rattle.replay.specs.Refusals.{first, first_refused, Answers}
use Rattle.replay.proofs.Folds.{refused_config, refused_rename, refused_other, refused_group, refused_none}
use Rattle.replay.proofs.Faults.{fault_answers}
use Rattle.replay.proofs.refusals.+refusals.Goals as goal

pub check-returns-then-is_config : goal.check-returns-then-is_config
check-returns-then-is_config t c = refused_config c.args.entry.now (sym c.is_config.ensures ∙ c.if-is_config.true)

pub check-returns-in-Rename : goal.check-returns-in-Rename
check-returns-in-Rename t c = refused_rename c.args.entry.now c.in-Rename.from c.in-Rename.to (sym c.is_config.ensures ∙ c.if-is_config.false) c.in-Rename.is

pub check-returns-in-Other : goal.check-returns-in-Other
check-returns-in-Other t c =
    fault_answers c.other_command.result (OtherCommand c.args.entry.now.ts c.in-Other.name) (first_refused c.args.entry.now) c.other_command.ensures
    (refused_other c.args.entry.now c.in-Other.name (sym c.is_config.ensures ∙ c.if-is_config.false) c.in-Other.is)

pub check-returns-in-Group : goal.check-returns-in-Group
check-returns-in-Group t c =
    subst (λ (o : Option ReplayFault). Answers c.check_all.result o)
    (ap (λ (es : List Entry). first (map first_refused es)) c.as_slice.ensures ∙ sym (refused_group c.args.entry.now c.in-Group.entries (sym c.is_config.ensures ∙ c.if-is_config.false) c.in-Group.is))
    c.check_all.ensures

pub check-returns-in_default : goal.check-returns-in_default
check-returns-in_default t c = refused_none c.args.entry.now (sym c.is_config.ensures ∙ c.if-is_config.false) c.in_default.not-Rename c.in_default.not-Group c.in_default.not-Other
