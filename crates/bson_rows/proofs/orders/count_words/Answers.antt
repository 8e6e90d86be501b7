use Rattle.std.proofs.Common.{List, ℕ, map, subst, lit<, rules}
use Rattle.std.specs.List.{FoldsTo}
use Rattle.std.proofs.lemmas.Fn.{FoldsTo-push}
use Rattle.std.proofs.lemmas.List.{map-append}
use Rattle.std.proofs.lemmas.Iterator.Splits.{YieldsList-from_str_split}
use Rattle.std.proofs.lemmas.Iterator.Consumers.{YieldsList-end}
use Rattle.bson_rows.specs.Rows.{IsPlaced}
use Rattle.bson_rows.proofs.orders.count_words.Goals as goal

pub loop-word-preserved : goal.loop-word-preserved
loop-word-preserved c = record {
  next = tt;
  ends = tt;
  counted = rw map-append (FoldsTo-push IsPlaced _ (map (λ x. x.now) c.loop-word.yielded) _ c.in-Some.word.now _ c.loop-word.invariant.counted (c.in_ok-count.ensures.0, c.in_ok-count.ensures.1, (search rules), c.in_ok-count.ensures.2));
}

pub returns : goal.returns
returns c =
    let y = YieldsList-from_str_split 32 c.args.text.now (lit< tt) (rw c.into_iter-word-iterator.ensures.into_iter_gives c.split-word-items.ensures.text) (rw c.into_iter-word-iterator.ensures.into_iter_gives c.split-word-items.ensures.has_more) (rw c.into_iter-word-iterator.ensures.into_iter_gives c.split-word-items.ensures.pattern) in
    let t = YieldsList-end y c.loop-word.yielded _ c.loop-word.yielded_by _ _ c.in-None.is c.next.ensures.steps in
    (c.loop-word.place, subst (λ (words : List (List ℕ)). FoldsTo IsPlaced (c.args.counts.now.entries, 0) words (c.loop-word.counts.entries, c.loop-word.place)) t.0 c.loop-word.invariant.counted)
