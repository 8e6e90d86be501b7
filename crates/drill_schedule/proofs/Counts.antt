-- How many lines a drill has.
use Rattle.std.proofs.Common.{◌≡◌, ℕ, zero, suc, ◌+◌, ◌/◌, ◌<◌, ◌≤◌, false, List, [], ◌∷◌, ◌++◌, length, inl, inr, arith}
use Rattle.std.specs.Prelude.{◌==◌}
use Rattle.std.proofs.lemmas.Bool.{cases_Bool, eqb-true, eqb-false, ne_eqb}
use Rattle.schedule_model.specs.declared.line.Line.{Line}
use Rattle.schedule_text.specs.DrillText.{next}
use Rattle.drill_schedule.specs.Drills.{creates, places, numbered_from, drill}
use Rattle.drill_schedule.specs.Laws.{DrillsHaveLines}

-- behind the start of the dump
lines_behind : (n left i g : ℕ) → n / 2 + 1 < i → length (places n left i g) ≡ left
unfolding places
lines_behind n zero i g l = omega arith
lines_behind n (suc left) i g l =
    let no : (i == n / 2 + 1) ≡ false = ne_eqb i (n / 2 + 1) (λ p. omega (arith, l, p)) in
    let rest = lines_behind n left (i + 1) (next (next (next g))) (omega (arith, l)) in
    rw no (omega (arith, rest))

-- the dump starts among them
lines_around : (n left i g : ℕ) → i ≤ n / 2 + 1 → n / 2 + 1 < i + left → length (places n left i g) ≡ left + 1
unfolding places
lines_around n zero i g le l = absurd (omega (arith, le, l))
lines_around n (suc left) i g le l =
    elim (cases_Bool (i == n / 2 + 1)) [
      | inl e ↦
          let here : i ≡ n / 2 + 1 = eqb-true i (n / 2 + 1) e in
          let rest = lines_behind n left (i + 1) (next (next (next g))) (omega (arith, here)) in
          rw e (omega (arith, rest))
      | inr e ↦
          let other = eqb-false i (n / 2 + 1) e in
          let le' : i + 1 ≤ n / 2 + 1 = omega (arith, le, other) in
          let rest = lines_around n left (i + 1) (next (next (next g))) le' (omega (arith, l)) in
          rw e (omega (arith, rest))
    ]

pub lines_counted : (n : ℕ) → 1 ≤ n → length (creates ++ places n n 1 n) ≡ n + 5
lines_counted n some = omega (arith, lines_around n n 1 n (omega arith) (omega (arith, some)))

same_count : (m : ℕ) (xs : List Line) → length (numbered_from m xs) ≡ length xs
same_count m [] = omega arith
same_count m (x ∷ xs) = omega (arith, same_count (m + 1) xs)

pub drill_counted : DrillsHaveLines
unfolding drill
drill_counted n some = omega (arith, same_count 2 (creates ++ places n n 1 n), lines_counted n some)
