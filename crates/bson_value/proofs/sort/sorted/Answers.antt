use Rattle.std.proofs.Common.{◌∙◌, rules}
use Rattle.std.proofs.lemmas.List.Sorted.{ranks_by, answers_always}
use Rattle.std.specs.Cmp.Lexicographic.{nat_list_cmp_total}
use Rattle.bson_value.proofs.Sorted.{lt, still_distinct, sorted_is}
use Rattle.bson_value.proofs.sort.sorted.Goals as goal

pub of_distinct-requires : goal.of_distinct-requires
of_distinct-requires c = still_distinct _ _ c.sort_unstable_by.ensures.permutation c.requires

pub returns : goal.returns
returns c =
    c.of_distinct.ensures ∙ sorted_is _ _ c.sort_unstable_by.ensures.permutation c.requires
    (c.sort_unstable_by.ensures.sorted lt (ranks_by nat_list_cmp_total (λ e. e.0)) (answers_always _ _ _ (λ f a r g h. search rules)))
