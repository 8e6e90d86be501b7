use Rattle.std.proofs.Common.{◌-◌, take}
use Rattle.entry_model.specs.Reads.{all_read, diff_read}
use Rattle.oplog_entry.specs.DiffFields.{kind_in, by_name, Adds}
use Rattle.oplog_entry.proofs.delta.+diff.Given as goal

abbrev pub invariant-diff-loop-name : goal.invariant-diff-loop-name
invariant-diff-loop-name l = Adds l.front (all_read (λ f. by_name (diff_read (l.levels - 1)) (kind_in l.array f.0) f.1) (take l.name-index l.name-items)) l.initial.touches l.touches
