use Rattle.std.proofs.Common.{◌≡◌, take, true}
use Rattle.std.specs.List.{list_all}
use Rattle.index_keys.specs.Definition.{is_plain_field, paths_of}
use Rattle.index_keys.proofs.plan.paths.Given as goal

abbrev pub invariant-loop-field : goal.invariant-loop-field
invariant-loop-field l = (l.paths ≡ paths_of (take l.field-index l.key)) × (list_all is_plain_field (take l.field-index l.key) ≡ true)
