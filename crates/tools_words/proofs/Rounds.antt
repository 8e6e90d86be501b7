-- How many rounds a drill has that words mean.
use Rattle.std.proofs.Common.{◌≡◌, ℕ, ◌+◌, ◌≤◌, Bool, true, false, List, [], ◌∷◌, length, refl, sym, subst, arith, Option, Some, None}
use Rattle.std.specs.Prelude.{◌&&◌, nat_le, fold, Result, Ok, Err, if◌then◌else◌}
use Rattle.std.proofs.lemmas.Bool.{and_parts, leb-true}
use Rattle.tools_words.specs.declared.order.Order.{Order}
use Rattle.tools_words.specs.declared.order.Order.TheVariants as orders
use Rattle.tools_words.specs.declared.table.Verb.{Verb}
use Rattle.tools_words.specs.declared.table.Verb.TheVariants as verbs
use Rattle.tools_words.specs.declared.words.Given.{Given}
use Rattle.tools_words.specs.declared.value.Value.{Value}
use Rattle.tools_words.specs.declared.value.Value.TheVariants as values
use Rattle.tools_words.specs.Values.{row_of, within, rounds_in}
use Rattle.tools_words.specs.Laws.{MayRun}
use Rattle.tools_words.specs.Words.{rounds_given, order_of, hold, step, ordered, commands, command_of, meaning_of}

abbrev IsFew : ℕ → Type 0
IsFew n = (1 ≤ n) × (n ≤ 100000)

within_few : (n m : ℕ) → within n ≡ Some m → IsFew m
within_few n m e = by (nat_le 1 n && nat_le n 100000) refl e
  where
    by : (b : Bool) → (nat_le 1 n && nat_le n 100000) ≡ b → (if b then Some n else None) ≡ Some m → IsFew m
    by false h f = cc
    by true h f =
        let k : (nat_le 1 n ≡ true) × (nat_le n 100000 ≡ true) = and_parts (nat_le 1 n) (nat_le n 100000) h in
        let same : n ≡ m = cc in
        (omega (leb-true 1 n k.0, same, arith), omega (leb-true n 100000 k.1, same, arith))

few_in : (v : Value) (m : ℕ) → rounds_in v ≡ Some m → IsFew m
few_in (values.Rounds n) m e = within_few n m e
few_in values.Nothing m e = cc
few_in (values.Moment ts) m e = cc
few_in (values.Form form) m e = cc
few_in (values.Pattern p) m e = cc

few_given : (gs : List Given) → IsFew (rounds_given gs)
few_given [] = (omega arith, omega arith)
few_given (g ∷ gs) = by (rounds_in g.value) refl (few_given gs)
  where
    by : (o : Option ℕ) → rounds_in g.value ≡ o → IsFew (rounds_given gs) → IsFew (elim o [ Some n ↦ n | None ↦ rounds_given gs ])
    by None e rest = rest
    by (Some n) e rest = few_in g.value n e

order_few : (verb : Verb) (gs : List Given) (n : ℕ) → order_of verb gs ≡ orders.Drill n → IsFew n
order_few verbs.Drill gs n e = let same : rounds_given gs ≡ n = cc in subst IsFew same (few_given gs)
order_few verbs.Source gs n e = cc
order_few verbs.Dump gs n e = cc
order_few verbs.Restore gs n e = cc
order_few verbs.Help gs n e = cc
order_few verbs.Version gs n e = cc

ordered_few : (verb : Verb) (r : Result (List Given) ℕ) (n : ℕ) → ordered verb r ≡ Ok (orders.Drill n) → IsFew n
ordered_few verb (Err at) n e = cc
ordered_few verb (Ok gs) n e = by (hold verb gs) e
  where
    by : (b : Bool) → (if b then Ok (order_of verb gs) else Err (1 + length gs)) ≡ Ok (orders.Drill n) → IsFew n
    by false f = cc
    by true f = (let g : order_of verb gs ≡ orders.Drill n = cc in order_few verb gs n g)

bounded : (words : List (List ℕ)) (n : ℕ) → meaning_of words ≡ Ok (orders.Drill n) → IsFew n
bounded [] n e = cc
bounded (w ∷ ws) n e = by (row_of commands w) e
  where
    by : (o : Option Verb) → command_of o ws ≡ Ok (orders.Drill n) → IsFew n
    by None f = cc
    by (Some verb) f = ordered_few verb (fold (step verb) (Ok []) ws) n f

pub may_run : (words : List (List ℕ)) (order : Order) → meaning_of words ≡ Ok order → MayRun order
may_run words (orders.Drill n) e = bounded words n e
may_run words (orders.Source order) e = tt
may_run words orders.Dump e = tt
may_run words (orders.Restore order) e = tt
may_run words orders.Help e = tt
may_run words orders.Version e = tt
