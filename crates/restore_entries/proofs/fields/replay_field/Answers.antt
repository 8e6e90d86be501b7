use Rattle.std.proofs.Common.{rules, ◌≡◌, false}
use Rattle.replay.specs.Moves.{is_config}
use Rattle.restore_entries.proofs.FieldDeltas.{made_of_entry}
use Rattle.restore_entries.proofs.fields.replay_field.Goals as goal

pub returns-clause-made : goal.returns-clause-made
returns-clause-made c =
    let other : is_config c.args.ns.now ≡ false = search rules in
    made_of_entry c.replay_at.result c.args.state.now c.replay_at.new.state c.args.ns.now c.args.delta.now c.in_ok-id.id c.as_ref.result other c.in_ok-id.ensures c.as_ref.ensures.value c.replay_at.ensures.made
