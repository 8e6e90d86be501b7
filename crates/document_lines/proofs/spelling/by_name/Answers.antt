use Rattle.std.proofs.Common.{rules}
use Rattle.std.proofs.lemmas.List.Sorted.{ranks_by, answers_always}
use Rattle.std.specs.Cmp.Lexicographic.{nat_list_cmp_total}
use Rattle.document_lines.proofs.Fields.{name_lt, sorted_elems}
use Rattle.document_lines.proofs.spelling.by_name.Goals as goal

pub returns-clause-order : goal.returns-clause-order
returns-clause-order c =
    sorted_elems _ _ c.sort_unstable_by.ensures.permutation c.requires
    (c.sort_unstable_by.ensures.sorted name_lt (ranks_by nat_list_cmp_total (λ e. e.name.now)) (answers_always _ _ _ (λ f a r g h. search rules)))
