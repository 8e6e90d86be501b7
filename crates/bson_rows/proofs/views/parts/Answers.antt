use Rattle.std.proofs.Common.{◌∙◌, [], ◌∷◌, ◌++◌, lit<}
use Rattle.std.proofs.lemmas.List.{map-append}
use Rattle.std.proofs.lemmas.Iterator.Splits.{YieldsList-from_str_split}
use Rattle.std.proofs.lemmas.Iterator.Consumers.{YieldsList-end}
use Rattle.bson_rows.proofs.views.parts.Goals as goal

pub loop-word-preserved : goal.loop-word-preserved
loop-word-preserved c = record {
  next = tt;
  ends = tt;
  named = rw map-append (c.in_ok-put_name.ensures ∙ (λ i. c.loop-word.invariant.named i ++ (c.in-Some.word.now ∷ [])));
}

pub returns : goal.returns
returns c =
    let y = YieldsList-from_str_split 46 c.args.text.now (lit< tt) (rw c.into_iter-word-iterator.ensures.into_iter_gives c.split-word-items.ensures.text) (rw c.into_iter-word-iterator.ensures.into_iter_gives c.split-word-items.ensures.has_more) (rw c.into_iter-word-iterator.ensures.into_iter_gives c.split-word-items.ensures.pattern) in
    let t = YieldsList-end y c.loop-word.yielded _ c.loop-word.yielded_by _ _ c.in-None.is c.next.ensures.steps in
    c.loop-word.invariant.named ∙ t.0
