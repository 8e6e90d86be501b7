use Rattle.std.proofs.Common.{◌≡◌, true, sym, subst, rules}
use Rattle.bson_view.specs.Views.{document}
use Rattle.entry_model.specs.Written.{Fields}
use Rattle.restore_entries.specs.Oplog.{reading_of}
use Rattle.restore_plan.specs.Base.{document_taken}
use Rattle.restore_plan.specs.Taken.{IsTakenAs, contents_of}
use Rattle.restore_plan.proofs.Steps.{taken_as_read}
use Rattle.restore_plan.proofs.restore.Restore.read_or_take.Goals as goal

pub returns-then-branch-clause-taken : goal.returns-then-branch-clause-taken
returns-then-branch-clause-taken c =
    let self = c.args.self.now in
    let replaying : self.plan.replaying ≡ true = search rules in
    let done : c.in_ok-take_field.field-0 ≡ true = search rules in
    taken_as_read self.plan (contents_of self) (contents_of c.take_field.new.self) c.args.bytes.now replaying
    (subst (λ (fs : Fields). IsTakenAs (contents_of self) (reading_of self.plan.filter self.plan.limit fs) (contents_of c.take_field.new.self)) c.view_of-view.ensures
    (c.in_ok-take_field.ensures.taken done (document c.view_of-view.result) c.of-entry.ensures))
