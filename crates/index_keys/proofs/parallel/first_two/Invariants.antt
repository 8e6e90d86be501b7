use Rattle.std.proofs.Common.{◌≡◌, filter, take}
use Rattle.std.specs.Option.{option_copied}
use Rattle.bson_value.specs.declared.value.Value.{Object}
use Rattle.bson_view.specs.Held.{held_document}
use Rattle.index_keys.specs.Branches.{meets_array}
use Rattle.index_keys.proofs.Meeting.{listed}
use Rattle.index_keys.proofs.parallel.first_two.Given as goal

abbrev pub invariant-loop-path : goal.invariant-loop-path
invariant-loop-path l = listed (option_copied l.first) ≡ filter (λ p. meets_array p (Object (held_document l.doc))) (take l.path-index l.paths)
