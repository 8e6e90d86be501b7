use Rattle.entry_writer.proofs.PathTexts.{dotted_more}
use Rattle.entry_writer.proofs.names.push_dotted.Goals as goal

pub loop-part-preserved : goal.loop-part-preserved
loop-part-preserved c =
    dotted_more c.args.parts.now c.loop-part.part-index c.part-item.result c.args.text.now c.loop-part.text c.push_str.new.self c.push_key.new.text c.loop-part-test.true c.part-item.is c.loop-part.invariant
    c.in_ok-push_str.ensures.ok c.in_ok-push_key.ensures
