use Rattle.std.proofs.Common.{◌≡◌, ◌++◌, take}
use Rattle.entry_model.specs.Edits.{mapped}
use Rattle.entry_model.specs.Reads.{unset_of}
use Rattle.oplog_entry.specs.DiffFields.{at_front}
use Rattle.oplog_entry.proofs.delta.push_unsets.Given as goal

abbrev pub invariant-loop-name : goal.invariant-loop-name
invariant-loop-name l = l.touches ≡ l.initial.touches ++ mapped (λ f. at_front l.front (unset_of f)) (take l.name-index l.name-items)
