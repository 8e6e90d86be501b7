use Rattle.std.proofs.Common.{◌≡◌, ◌+◌, ◌*◌, ◌++◌, take}
use Rattle.bson_value.specs.Spelling.{elements_of}
use Rattle.entry_model.specs.Edits.{mapped, gathered}
use Rattle.entry_writer.specs.Groups.{groups_in, field_below, fields_at}
use Rattle.entry_writer.proofs.diff.+diff.Given as goal

abbrev pub invariant-put_parts_below-loop-group : goal.invariant-put_parts_below-loop-group
invariant-put_parts_below-loop-group l = l.out.items ≡ l.initial.out.items ++ elements_of (mapped (field_below l.levels) (groups_in (take l.group-index l.group-items)))

abbrev pub invariant-put_array_diff-loop-group : goal.invariant-put_array_diff-loop-group
invariant-put_array_diff-loop-group l = l.out.items ≡ l.initial.out.items ++ elements_of (gathered (fields_at l.levels) (groups_in (take l.group-index l.group-items)))

abbrev pub decreases-put_diff : goal.decreases-put_diff
decreases-put_diff l = 5 * l.levels

abbrev pub decreases-put_below : goal.decreases-put_below
decreases-put_below l = 5 * l.levels + 1

abbrev pub decreases-put_field_below : goal.decreases-put_field_below
decreases-put_field_below l = 5 * l.levels + 2

abbrev pub decreases-put_at_part : goal.decreases-put_at_part
decreases-put_at_part l = 5 * l.levels + 2

abbrev pub decreases-put_alone : goal.decreases-put_alone
decreases-put_alone l = 5 * l.levels + 2

abbrev pub decreases-put_parts_below : goal.decreases-put_parts_below
decreases-put_parts_below l = 5 * l.levels + 3

abbrev pub decreases-put_array_diff : goal.decreases-put_array_diff
decreases-put_array_diff l = 5 * l.levels + 3

abbrev pub decreases-put_document_diff : goal.decreases-put_document_diff
decreases-put_document_diff l = 5 * l.levels + 4
