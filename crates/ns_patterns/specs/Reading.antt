-- What reading a pattern answers, unless memory runs out.
use Rattle.std.specs.Prelude.{◌≡◌, Option, Some, None, Result, Ok, Err, ⊤}
use Rattle.ns_patterns.specs.Literals.{Literals}
use Rattle.ns_patterns.specs.declared.pattern.PatternFault.{PatternFault}
use Rattle.ns_patterns.specs.declared.pattern.PatternFault.TheVariants as faults

abbrev pub Gives : Result Literals PatternFault → Option Literals → Type 0
Gives (Ok p) o = o ≡ Some p
Gives (Err faults.LoneEscape) o = o ≡ None
Gives (Err faults.NoMemory) o = ⊤
