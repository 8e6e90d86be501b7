-- The laws of words.
use Rattle.std.specs.Prelude.{⊤, ◌≡◌, ◌≤◌, ℕ, List, Ok}
use Rattle.tools_words.specs.declared.order.Order.{Order}
use Rattle.tools_words.specs.declared.order.Order.TheVariants as orders
use Rattle.tools_words.specs.Words.{meaning_of}

-- what a drill must have so that it can run
abbrev pub MayRun : Order → Type 0
MayRun (orders.Drill n) = (1 ≤ n) × (n ≤ 100000)
MayRun (orders.Source order) = ⊤
MayRun orders.Dump = ⊤
MayRun (orders.Restore order) = ⊤
MayRun orders.Help = ⊤
MayRun orders.Version = ⊤

-- a drill that words mean has 1 to 100,000 rounds
abbrev pub RoundsAreFew : Type 0
RoundsAreFew = (words : List (List ℕ)) (order : Order) → meaning_of words ≡ Ok order → MayRun order
