use Rattle.bson_check.proofs.Marks.{itself_set, others_still}
use Rattle.bson_check.proofs.slots.put_slot.Goals as goal

pub returns-clause-itself : goal.returns-clause-itself
returns-clause-itself c = itself_set c.args.words.now c.word-at.result c.args.slot c.mask.result c.word-at.ensures.within c.mask.ensures c.word-at.ensures.value

pub returns-clause-others : goal.returns-clause-others
returns-clause-others c = others_still c.args.words.now c.word-at.result c.args.slot c.mask.result c.word-at.ensures.within c.mask.ensures
