use Rattle.std.proofs.Common.{eq-eqb}
use Rattle.bson_check.proofs.Marks.{mask_is_set}
use Rattle.bson_check.proofs.slots.has_bits.Goals as goal

pub returns : goal.returns
returns c = λ h. eq-eqb _ _ (mask_is_set c.args.words.now c.word.result c.args.slot c.mask-mask.result c.word.ensures.value c.mask-mask.ensures h)
