-- What the lines of a drill are.
use Rattle.std.proofs.Common.{◌≡◌, ℕ, zero, suc, ◌+◌, ◌/◌, Bool as Truth, true, false, eqb, ltb, List, [], ◌∷◌, ◌++◌, refl, inl, inr}
use Rattle.std.specs.Prelude.{◌==◌}
use Rattle.std.specs.List.{AllByRecursion}
use Rattle.std.proofs.lemmas.Bool.{cases_Bool}
use Rattle.schedule_model.specs.declared.line.Line.{Line}
use Rattle.schedule_text.specs.DrillText.{next, drawn}
use Rattle.drill_schedule.specs.Drills.{line_of, starts, drawn_line, creates, places, numbered_from, drill}
use Rattle.drill_schedule.specs.Laws.{IsPlainLine, DrillsArePlain}

line_plain : (t j k i : ℕ) → IsPlainLine (line_of t j k i)
line_plain t j k i = by (ltb t 4) (eqb t 4) (eqb t 5) (eqb t 6) (eqb t 7) (eqb t 8) refl refl refl refl refl refl
  where
    by : (a b c d e f : Truth) → ltb t 4 ≡ a → eqb t 4 ≡ b → eqb t 5 ≡ c → eqb t 6 ≡ d → eqb t 7 ≡ e → eqb t 8 ≡ f → IsPlainLine (line_of t j k i)
    by true b c d e f p q r s u v = rw p tt
    by false true c d e f p q r s u v = rw (p, q) tt
    by false false true d e f p q r s u v = rw (p, q, r) tt
    by false false false true e f p q r s u v = rw (p, q, r, s) tt
    by false false false false true f p q r s u v = rw (p, q, r, s, u) tt
    by false false false false false true p q r s u v = rw (p, q, r, s, u, v) tt
    by false false false false false false p q r s u v = rw (p, q, r, s, u, v) tt

abbrev ArePlainLines : List Line → Type 0
ArePlainLines xs = AllByRecursion IsPlainLine xs

start_plain : (n i : ℕ) (xs : List Line) → ArePlainLines xs → ArePlainLines (starts n i ++ xs)
start_plain n i xs h =
    elim (cases_Bool (i == n / 2 + 1)) [
      | inl e ↦ rw e (tt, h)
      | inr e ↦ rw e h
    ]

places_plain : (n left i g : ℕ) → ArePlainLines (places n left i g)
unfolding places
places_plain n zero i g = tt
places_plain n (suc left) i g =
    let a = next g in
    let b = next a in
    let c = next b in
    start_plain n i (drawn_line n i a b c ∷ places n left (i + 1) c) (line_plain (drawn 10 a) (drawn 4 b) (drawn n c) i, places_plain n left (i + 1) c)

numbered_plain : (m : ℕ) (xs : List Line) → ArePlainLines xs → AllByRecursion (λ l. IsPlainLine l.line) (numbered_from m xs)
numbered_plain m [] h = tt
numbered_plain m (x ∷ xs) h = (h.0, numbered_plain (m + 1) xs h.1)

pub drill_plain : DrillsArePlain
unfolding drill
drill_plain n = numbered_plain 2 (creates ++ places n n 1 n) (refl, (refl, (refl, (refl, places_plain n n 1 n))))
