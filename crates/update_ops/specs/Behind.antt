-- The first fault behind paths that are kept as texts.
use Rattle.std.specs.Prelude.{◌≡◌, List, [], ◌∷◌, ◌++◌, Option, Some, None, if◌then◌else◌}
use Rattle.std.specs.List.{list_any}
use Rattle.std.specs.Ordering.{nat_cmp}
use Rattle.std.specs.Cmp.Lexicographic.{slice_cmp}
use Rattle.std.specs.BTreeSet.{insert_key}
use Rattle.update_model.specs.declared.fault.OpsFault.{OpsFault}
use Rattle.update_model.specs.declared.fault.OpsFault.TheVariants as faults
use Rattle.update_model.specs.Reading.{Met, Taken, Refused, IsFault}
use Rattle.update_ops.specs.Prefixes.{Text, clash}
use Rattle.update_ops.specs.Keys.{key}

-- with the text in its place
abbrev pub with_text : List Text → Text → List Text
with_text ts t = insert_key (slice_cmp nat_cmp) ts t

abbrev pub fault_behind : List Text → List Met → Option OpsFault
fault_behind ts [] = None
fault_behind ts (Refused e ∷ ms) = Some e
fault_behind ts (Taken p ∷ ms) = if list_any (clash (key p)) ts then Some faults.Conflict else fault_behind (with_text ts (key p)) ms

-- nothing of what is met is a fault, and the paths are put in
abbrev pub Goes : List Met → List Text → List Text → Type 0
Goes ms old new = (rest : List Met) → fault_behind old (ms ++ rest) ≡ fault_behind new rest

-- some of what is met is a fault, the first of which is this, unless memory ran out
abbrev pub Stops : List Met → List Text → OpsFault → Type 0
Stops ms old e = (rest : List Met) → IsFault e (fault_behind old (ms ++ rest))

-- what is met is this fault, unless memory ran out
abbrev pub IsMet : OpsFault → Met → Type 0
IsMet faults.NoMemory m = Unit {0}
IsMet e m = m ≡ Refused e
