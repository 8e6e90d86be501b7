-- What a window over the input shows of the whole input.
use Rattle.std.proofs.Common.{◌≡◌, inl, inr, ℕ, ◌+◌, ◌-◌, ◌<◌, ◌≤◌, true, false, List, [], ◌++◌, length, take, drop, refl, sym, ap, subst, ◌∙◌, append_assoc, arith}
use Rattle.std.specs.Prelude.{Some, Option, nat_lt, flat_map}
use Rattle.std.proofs.lemmas.List.{take-append-le, drop-append-le, take-append-drop, take_all, length-append, length-take, append-nil}
use Rattle.std.proofs.Math.Seq.{take-append-add}
use Rattle.std.proofs.lemmas.Bool.{le-ltb, lt-ltb, cases_lt}
use Rattle.archive_format.specs.declared.fault.FormatFault.{FormatFault}
use Rattle.archive_format.specs.declared.fault.FormatFault.TheVariants.{TooLong}
use Rattle.archive_format.specs.Archive.{Taking, text_of, Stage, start, Clean, short, onward, wrong, next, limit, ending, closing, EndsOf}
use Rattle.demux.specs.Told.{Holds}
use Rattle.archive_format.proofs.Fronts.{item_met, item_found, met_length, wrong_grows}
use Rattle.archive_format.proofs.Fold.{clean_on, ends_join, ends_total}

-- what is cut behind a clean front leaves the front
clip : (s : Stage) (a : ℕ) (all : List ℕ) (t : Stage) (to : ℕ) (rest : List ℕ) (ts : List Taking) (k : ℕ) → Clean s a all t to rest ts → to ≤ a + k → Clean s a (take k all) t to (take (a + k - to) rest) ts
clip s a all t to rest ts k c le =
    let front = flat_map text_of c.items in
    let n : k ≡ length front + (a + k - to) = omega (arith, c.here) in
    record {
      items = c.items;
      text = ap (take k) c.text ∙ ap (λ j. take j (front ++ rest)) n ∙ take-append-add front rest (a + k - to);
      runs = c.runs;
      here = c.here;
    }

-- the front of two lists begins with the front of the first
record Begins (k : ℕ) (xs ys : List ℕ) : Type 0 where
  behind : List ℕ
  is : take k (xs ++ ys) ≡ take k xs ++ behind

begins : (k : ℕ) (xs ys : List ℕ) → Begins k xs ys
begins k xs ys = elim (cases_lt (length xs) k) [
  | inl lt ↦ (
      let n : k ≡ length xs + (k - length xs) = omega arith in
      record { behind = take (k - length xs) ys; is = ap (λ j. take j (xs ++ ys)) n ∙ take-append-add xs ys (k - length xs) ∙ ap (λ z. z ++ take (k - length xs) ys) (sym (take_all k xs (omega arith))) })
  | inr le ↦ record { behind = []; is = take-append-le k xs ys le ∙ sym (append-nil (take k xs)) }
]

module _ (all : List ℕ) (s : Stage) (at : ℕ) (held left : List ℕ) (given : List Taking) (h : Holds all s at held left given) where
  clipped : Clean start 0 (take limit all) s at (take (limit - at) (held ++ left)) given
  clipped = clip start 0 all s at (held ++ left) given limit h.clean (omega (arith, h.within))

  pub fault_found : (f : FormatFault) → next s at (take (limit - at) held) ≡ wrong f → EndsOf all given (Some f)
  fault_found f e =
      let b = begins (limit - at) held left in
      let w : next s at (take (limit - at) (held ++ left)) ≡ wrong f = ap (next s at) b.is ∙ wrong_grows s at (take (limit - at) held) b.behind f e in
      record { stage = s; to = at; rest = take (limit - at) (held ++ left); clean = clipped; stops = ap (closing (nat_lt limit (length all)) s at (take (limit - at) (held ++ left))) w }

  pub size : length all ≡ at + length held + length left
  size = omega (arith, ap length h.clean.text, h.clean.here, length-append (flat_map text_of h.clean.items) (held ++ left), length-append held left)

  pub too_long : next s at (take (limit - at) held) ≡ short → limit < at + length held → EndsOf all given (Some TooLong)
  unfolding ending
  too_long e far =
      let r : take (limit - at) (held ++ left) ≡ take (limit - at) held = take-append-le (limit - at) held left (omega (arith, far)) in
      let more : nat_lt limit (length all) ≡ true = lt-ltb limit (length all) (omega (arith, size, far)) in
      record { stage = s; to = at; rest = take (limit - at) (held ++ left); clean = clipped; stops = rw (more, r, e) refl }

  pub ends_short : next s at held ≡ short → at + length held ≤ limit → left ≡ [] → EndsOf all given (ending false s at held)
  ends_short e near none =
      let r : take (limit - at) (held ++ left) ≡ held = ap (λ z. take (limit - at) (held ++ z)) none ∙ ap (take (limit - at)) (append-nil held) ∙ take_all (limit - at) held (omega (arith, near)) in
      let more : nat_lt limit (length all) ≡ false = le-ltb limit (length all) (omega (arith, size, near, ap length none)) in
      record { stage = s; to = at; rest = take (limit - at) (held ++ left); clean = clipped; stops = rw (more, r, e) refl }

  -- whatever comes, the takings so far are the first of all
  pub first_of_all : (more : List Taking) × (e : Option FormatFault) × EndsOf all (given ++ more) e
  first_of_all =
      let k = ends_total s at (take (limit - at) (held ++ left)) (nat_lt limit (length all)) in
      (k.takings, k.fault, ends_join start 0 (take limit all) s at (take (limit - at) (held ++ left)) given (nat_lt limit (length all)) k.takings k.fault clipped k.ends)

  pub goes_on : (m : Stage) (one : List Taking) (n : ℕ) → next s at (take (limit - at) held) ≡ onward m one n → (n ≤ length held) × (4 ≤ n) × Holds all m (at + n) (drop n held) left (given ++ one)
  goes_on m one n e =
      let front = take (limit - at) held in
      let met = item_found s at front m one n e in
      let len = met_length s at front m one n met in
      let cut : held ≡ front ++ drop (limit - at) held = sym (take-append-drop (limit - at) held) in
      let le : n ≤ length held = omega (arith, len.1, length-take (limit - at) held) in
      let whole : held ++ left ≡ text_of met.item ++ (drop n front ++ (drop (limit - at) held ++ left)) =
      ap (λ z. z ++ left) cut ∙ append_assoc front (drop (limit - at) held) left ∙ ap (λ z. z ++ (drop (limit - at) held ++ left)) met.text ∙ append_assoc (text_of met.item) (drop n front) (drop (limit - at) held ++ left) in
      let on : next s at (held ++ left) ≡ onward m one n = ap (next s at) whole ∙ item_met s at met.item (drop n front ++ (drop (limit - at) held ++ left)) m one met.is met.steps ∙ ap (onward m one) met.size in
      let k = clean_on start 0 all s at (held ++ left) given m one n h.clean on in
      (le, len.0, record { clean = rw (← drop-append-le n held left le) k; within = omega (arith, len.1, length-take (limit - at) held, h.within) })

pub filled : (all : List ℕ) (s : Stage) (at : ℕ) (held bs left after : List ℕ) (given : List Taking) → Holds all s at held left given → left ≡ bs ++ after → Holds all s at (held ++ bs) after given
filled all s at held bs left after given h e =
    let k : held ++ left ≡ (held ++ bs) ++ after = ap (λ z. held ++ z) e ∙ sym (append_assoc held bs after) in
    record { clean = subst (λ z. Clean start 0 all s at z given) k h.clean; within = h.within }
