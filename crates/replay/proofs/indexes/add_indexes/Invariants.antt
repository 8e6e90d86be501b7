use Rattle.std.proofs.Common.{◌≡◌, map, take}
use Rattle.replay.specs.Moves.{definition_moves, normal_of}
use Rattle.replay.specs.Steps.{Made}
use Rattle.replay.proofs.indexes.add_indexes.Given as goal

abbrev pub invariant-loop-def : goal.invariant-loop-def
invariant-loop-def l = Made (map (λ d. definition_moves l.ns (normal_of d)) (take l.def-index l.defs)) l.fn.state l.state × (l.state.count ≡ l.fn.state.count)
