use Rattle.std.proofs.Common.{◌≡◌, take}
use Rattle.index_build.specs.Holders.{held_by}
use Rattle.index_build.proofs.index.holders_of.Given as goal

abbrev pub invariant-loop-key : goal.invariant-loop-key
invariant-loop-key l = l.holders.items ≡ held_by l.id (take l.key-index l.keys)
