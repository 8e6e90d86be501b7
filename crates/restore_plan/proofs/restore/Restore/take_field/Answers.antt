use Rattle.std.proofs.Common.{◌≡◌, true, refl, rules, length}
use Rattle.std.specs.Prelude.{◌==◌}
use Rattle.coll_state.specs.Rows.{state_of}
use Rattle.entry_reader.specs.Entries.{AreFieldsOf}
use Rattle.restore_entries.specs.Oplog.{reading_of}
use Rattle.restore_plan.specs.Taken.{Contents, contents_of, is_ended}
use Rattle.restore_plan.proofs.Steps.{field_taken_if}
use Rattle.restore_plan.proofs.restore.Restore.take_field.Goals as goal

pub returns-clause-taken : goal.returns-clause-taken
returns-clause-taken c =
    let self = c.args.self.now in
    let d : Contents = record { state = state_of c.replay_field.new.state; entries = self.entries; ended = self.ended.keys } in
    let none : (length self.entries == 0) ≡ true = search rules in
    let ended : is_ended c.in-Some.ns self.ended.keys ≡ true = search rules in
    field_taken_if c.replay_field.result (contents_of self) d c.in_ok-ns.field-0 c.in-Some.ns c.in-Some.delta (AreFieldsOf c.args.entry.now) (reading_of self.plan.filter self.plan.limit)
    c.in-Some.is none ended refl refl c.in_ok-ns.ensures c.replay_field.ensures.made
