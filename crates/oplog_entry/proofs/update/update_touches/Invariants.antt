use Rattle.std.proofs.Common.{[], take}
use Rattle.entry_model.specs.Reads.{all_read}
use Rattle.oplog_entry.specs.DiffFields.{Adds}
use Rattle.oplog_entry.specs.PathTouches.{form_field}
use Rattle.oplog_entry.proofs.update.update_touches.Given as goal

abbrev pub invariant-loop-name : goal.invariant-loop-name
invariant-loop-name l = Adds [] (all_read (λ f. form_field l.form f.0 f.1) (take l.name-index l.name-items)) [] l.touches
