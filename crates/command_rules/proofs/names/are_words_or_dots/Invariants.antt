use Rattle.std.proofs.Common.{◌≡◌, length}
use Rattle.std.specs.Prelude.{◌||◌}
use Rattle.std.specs.List.{list_all}
use Rattle.history_model.specs.Documents.{is_word, is_dot}
use Rattle.command_rules.proofs.names.are_words_or_dots.Given as goal

abbrev pub invariant-bytes : goal.invariant-bytes
invariant-bytes l = list_all (λ c. is_word c || is_dot c) l.initial.left ≡ list_all (λ c. is_word c || is_dot c) l.left

abbrev pub decreases-bytes : goal.decreases-bytes
decreases-bytes l = length l.left
