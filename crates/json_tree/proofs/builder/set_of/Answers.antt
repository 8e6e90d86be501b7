use Rattle.std.proofs.Common.{◌∙◌}
use Rattle.json_tree.proofs.Names.{covers_none, set_step}
use Rattle.json_tree.proofs.builder.set_of.Goals as goal

pub loop-entry-init : goal.loop-entry-init
loop-entry-init g c = covers_none _ c.new-names.ensures.empty

pub loop-entry-preserved : goal.loop-entry-preserved
loop-entry-preserved g c =
    set_step c.loop-entry.names c.insert.new.self c.args.entries.now c.loop-entry.entry-index c.entry-item.result _ c.loop-entry-test.true c.entry-item.is (c.in_ok-from_str.ensures.ok ∙ c.as_str.ensures) c.in_ok-insert.ensures.updates c.loop-entry.invariant
