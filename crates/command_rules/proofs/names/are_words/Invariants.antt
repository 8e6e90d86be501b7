use Rattle.std.proofs.Common.{◌≡◌, length}
use Rattle.std.specs.List.{list_all}
use Rattle.history_model.specs.Documents.{is_word}
use Rattle.command_rules.proofs.names.are_words.Given as goal

abbrev pub invariant-bytes : goal.invariant-bytes
invariant-bytes l = list_all is_word l.initial.left ≡ list_all is_word l.left

abbrev pub decreases-bytes : goal.decreases-bytes
decreases-bytes l = length l.left
