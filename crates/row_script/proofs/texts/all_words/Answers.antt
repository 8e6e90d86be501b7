use Rattle.std.proofs.Common.{◌∙◌, lit<}
use Rattle.std.proofs.lemmas.Iterator.Splits.{YieldsList-from_str_split}
use Rattle.std.proofs.lemmas.Iterator.Consumers.{YieldsList-end}
use Rattle.row_script.proofs.texts.all_words.Goals as goal

pub returns : goal.returns
returns c =
    let y = YieldsList-from_str_split 32 c.args.text.now (lit< tt) (rw c.into_iter-word-iterator.ensures.into_iter_gives c.split-word-items.ensures.text) (rw c.into_iter-word-iterator.ensures.into_iter_gives c.split-word-items.ensures.has_more) (rw c.into_iter-word-iterator.ensures.into_iter_gives c.split-word-items.ensures.pattern) in
    let t = YieldsList-end y c.loop-word.yielded _ c.loop-word.yielded_by _ _ c.in-None.is c.next.ensures.steps in
    c.loop-word.invariant.read ∙ t.0
