-- One line of the text.
use Rattle.std.proofs.Common.{◌≡◌, ℕ, ◌+◌, ◌<◌, ◌≤◌, List, [], ◌∷◌, ◌++◌, length, take, drop, refl, sym, ap, ◌∙◌, subst, arith, inl, inr, append_assoc, append-nil, length-append}
use Rattle.std.specs.Prelude.{◌⊎◌, Option, Some, None, Result, Ok, Err, IfOk, IfSome}
use Rattle.std.specs.Io.KnownBytes.{Consumes, IsAtEnd}
use Rattle.std.proofs.lemmas.Bool.{cases_lt}
use Rattle.tool_io.specs.Ends.{End}
use Rattle.std.proofs.lemmas.List.{length-take-le}
use Rattle.schedule_text.specs.declared.fault.LineKind.TheVariants as kinds
use Rattle.schedule_text.specs.declared.fault.LineKind.{LineKind}
use Rattle.schedule_text.specs.declared.fault.LineFault.{LineFault}
use Rattle.schedule_text.specs.declared.fault.LineFault.TheVariants as lines
use Rattle.schedule_text.specs.declared.reader.LineReader.{LineReader}
use Rattle.schedule_text.specs.declared.schedule.NumberedLine.{NumberedLine}
use Rattle.schedule_text.specs.Lines.{whole_lines, EndsAt}
use Rattle.schedule_text.specs.Reading.{Bad, Reader, after_line, with_lines, added, schedule_left, behind_lines}
use Rattle.schedule_text.proofs.LineEnds.{first_cut, no_feed, begins_first, end_within}
use Rattle.schedule_text.proofs.Left.{behind_none, left_behind, left_fails, none_left}
use Rattle.schedule_input.specs.Places.{Place}
use Rattle.schedule_input.specs.declared.fault.InputFault.{InputFault}
use Rattle.schedule_input.specs.declared.fault.InputFault.TheVariants as faults
use Rattle.schedule_input.specs.Inputs.{to_come, Leads, IsOver, IsLast, IsNext, IsFound, IsTold, Fails}
use Rattle.schedule_input.proofs.Cutting.{past_line}

abbrev pub place : LineReader → ℕ → ℕ → List ℕ → Place
place r n end left = record { reader = r; number = n; end = end; left = left }

nothing : (bytes : List ℕ) → length bytes ≡ 0 → bytes ≡ []
nothing [] e = refl
nothing (b ∷ bytes) e = absurd (omega (arith, e))

no_end : (bytes : List ℕ) → EndsAt 0 bytes → ⊥
no_end bytes k = omega (arith, k.end_is)

-- what is left with the rest of the input is what was read with what is left of it
grown_with : (old new bytes rest now : List ℕ) → new ≡ old ++ bytes → rest ≡ bytes ++ now → old ++ rest ≡ new ++ now
grown_with old new bytes rest now g c = ap (λ (x : List ℕ). old ++ x) c ∙ (sym (append_assoc old bytes now) ∙ ap (λ (x : List ℕ). x ++ now) (sym g))

-- the first line, where all of it was read
whole_first : (n end : ℕ) (new now : List ℕ) → 0 < n → EndsAt n new ⊎ IsLast n new end (Some now) → end + n ≤ 67108864 → whole_lines (new ++ now) ≡ take n new ∷ whole_lines (drop n new ++ now)
whole_first n end new now p (inl k) few = first_cut n new now k
whole_first n end new now p (inr k) few = by k.last
  where
    by : IsAtEnd (Some now) ⊎ (end + n ≡ 67108865) → whole_lines (new ++ now) ≡ take n new ∷ whole_lines (drop n new ++ now)
    by (inl e) =
        ap (λ (x : List ℕ). whole_lines (new ++ x)) e
        ∙ (ap whole_lines (append-nil new)
        ∙ (no_feed new k.lacks_feed (omega (arith, p, k.all))
        ∙ (ap (λ (m : ℕ). take m new ∷ whole_lines (drop m new)) (sym k.all)
        ∙ (ap (λ (x : List ℕ). take n new ∷ whole_lines x) (sym (append-nil (drop n new))) ∙ ap (λ (x : List ℕ). take n new ∷ whole_lines (drop n new ++ x)) (sym e)))))
    by (inr e) = absurd (omega (arith, e, few))

taken_length : (n end : ℕ) (new : List ℕ) (after : Option (List ℕ)) → EndsAt n new ⊎ IsLast n new end after → length (take n new) ≡ n
taken_length n end new after (inl k) = length-take-le n new (end_within n new k)
taken_length n end new after (inr k) = length-take-le n new (omega (arith, k.all))

-- a line was read
module _ (r q : LineReader) (number end n : ℕ) (old new : List ℕ) (out : Option NumberedLine) (some : 0 < n) (few : end + n ≤ 67108864) where
  pub line_leads : (before after : Option (List ℕ)) → IsNext n old new end before after → after_line (with_lines r []) number (end + n) (take n new) ≡ Ok (with_lines q (added out))
      → Leads (added out) (place r number end old) (place q (number + 1) (end + n) (drop n new)) before after
  line_leads None after k a = tt
  line_leads (Some rest) None k a = absurd k.read.consumed
  line_leads (Some rest) (Some now) k a =
      (let l = taken_length n end new (Some now) k.ends in
      let w = whole_first n end new now some k.ends few in
      let b : after_line (with_lines r []) number (end + length (take n new)) (take n new) ≡ Ok (with_lines q (added out)) = ap (λ (m : ℕ). after_line (with_lines r []) number (end + m) (take n new)) l ∙ a in
      ap (schedule_left r number end) (grown_with old new k.read.bytes rest now k.read.grown k.read.consumed)
      ∙ (left_behind r q number end (new ++ now) (take n new) (drop n new ++ now) out w b
      ∙ ap (λ (m : ℕ). behind_lines (added out) (schedule_left q (number + 1) (end + m) (drop n new ++ now))) l))

-- a line is none of a schedule
fails_in : (r : LineReader) (number end n : ℕ) (new now : List ℕ) (bad : Bad) → 0 < n → end + n ≤ 67108864 → EndsAt n new ⊎ IsLast n new end (Some now) → after_line (with_lines r []) number (end + n) (take n new) ≡ Err bad
    → schedule_left r number end (new ++ now) ≡ Err bad
fails_in r number end n new now bad some few k a =
    left_fails r number end (new ++ now) (take n new) (whole_lines (drop n new ++ now)) bad (whole_first n end new now some k few)
    (ap (λ (m : ℕ). after_line (with_lines r []) number (end + m) (take n new)) (taken_length n end new (Some now) k) ∙ a)

same_bad : (a b : Bad) → ◌≡◌ {A = Result Reader Bad} (Err a) (Err b) → a ≡ b
same_bad a b e = cc

-- a line that goes past the longest schedule
fails_past : (r : LineReader) (number end n : ℕ) (new now : List ℕ) (bad : Bad) → 67108864 < end + n → (more : List ℕ) (others : List (List ℕ)) → n ≤ length more → whole_lines (new ++ now) ≡ more ∷ others
    → after_line (with_lines r []) number (end + n) (take n new) ≡ Err bad → schedule_left r number end (new ++ now) ≡ Err bad
fails_past r number end n new now bad past more others long w a =
    let e : (number, kinds.Limit) ≡ bad = same_bad (number, kinds.Limit) bad (sym (past_line (with_lines r []) number (end + n) (take n new) past) ∙ a) in
    left_fails r number end (new ++ now) more others bad w (past_line (with_lines r []) number (end + length more) more (omega (arith, past, long)) ∙ ap Err e)

more_than : (w more : List ℕ) → length w ≤ length (w ++ more)
more_than w more = omega (arith, length-append w more)

fails_anyway : (r : LineReader) (number end n : ℕ) (new now : List ℕ) (bad : Bad) → 0 < n → 67108864 < end + n → EndsAt n new ⊎ IsLast n new end (Some now) → after_line (with_lines r []) number (end + n) (take n new) ≡ Err bad
    → schedule_left r number end (new ++ now) ≡ Err bad
fails_anyway r number end n new now bad some past (inl k) a =
    fails_past r number end n new now bad past (take n new) (whole_lines (drop n new ++ now)) (omega (arith, length-take-le n new (end_within n new k))) (first_cut n new now k) a
fails_anyway r number end n new now bad some past (inr k) a =
    let b = begins_first new now (λ e. let z : length new ≡ 0 = ap length e in omega (arith, z, k.all, some)) k.lacks_feed in
    fails_past r number end n new now bad past (new ++ b.more) b.others (omega (arith, k.all, more_than new b.more)) b.lines a

pub line_fails : (r : LineReader) (number end n : ℕ) (old new : List ℕ) (bad : Bad) (before after : Option (List ℕ)) → 0 < n → IsNext n old new end before after
    → after_line (with_lines r []) number (end + n) (take n new) ≡ Err bad → IfSome before (λ rest. to_come (place r number end old) rest ≡ Err bad)
line_fails r number end n old new bad None after some k a = tt
line_fails r number end n old new bad (Some rest) None some k a = absurd k.read.consumed
line_fails r number end n old new bad (Some rest) (Some now) some k a =
    ap (schedule_left r number end) (grown_with old new k.read.bytes rest now k.read.grown k.read.consumed) ∙ by (cases_lt 67108864 (end + n))
  where
    by : (67108864 < end + n) ⊎ (end + n ≤ 67108864) → schedule_left r number end (new ++ now) ≡ Err bad
    by (inl past) = fails_anyway r number end n new now bad some past k.ends a
    by (inr few) = fails_in r number end n new now bad some few k.ends a

-- there is no line any more
pub none_is_over : (r : LineReader) (number end : ℕ) (old new : List ℕ) (before after : Option (List ℕ)) → end ≤ 67108864 → IsNext 0 old new end before after → IsOver (place r number end old) (place r number end new) before after
none_is_over r number end old new None after few k = tt
none_is_over r number end old new (Some rest) None few k = absurd k.read.consumed
none_is_over r number end old new (Some rest) (Some now) few k = by k.ends
  where
    at_end : IsAtEnd (Some now) ⊎ (end + 0 ≡ 67108865) → now ≡ []
    at_end (inl e) = e
    at_end (inr e) = absurd (omega (arith, e, few))

    by : EndsAt 0 new ⊎ IsLast 0 new end (Some now) → IsOver (place r number end old) (place r number end new) (Some rest) (Some now)
    by (inl e) = absurd (no_end new e)
    by (inr l) =
        (let none = at_end l.last in
        let empty = nothing new (sym l.all) in
        (ap Some none, ap (schedule_left r number end) (grown_with old new k.read.bytes rest now k.read.grown k.read.consumed ∙ (ap (λ (x : List ℕ). x ++ now) empty ∙ none)) ∙ none_left r number end))

-- what is told where it wasn't read
pub fails_told : (p : Place) (fault : LineFault) (told : InputFault) (a b c : End) → ((number : ℕ) (kind : LineKind) → fault ≡ lines.Bad number kind → IfSome a.bytes (λ rest. to_come p rest ≡ Err (number, kind))) → IsTold fault told b.faults c.faults → a.faults ≤ b.faults → Fails p told a c
fails_told p fault (faults.Bad number kind) a b c h t later = h number kind t
fails_told p fault faults.ReadFault a b c h t later = omega (arith, later, t)
fails_told p fault faults.NoMemory a b c h t later = tt

-- ---- a line that was read and not yet taken

module _ (r : LineReader) (number end n : ℕ) (old new : List ℕ) where
  pub found_leads : (before after : Option (List ℕ)) → IsNext n old new end before after → Leads [] (place r number end old) (place r number end new) before after
  found_leads None after k = tt
  found_leads (Some rest) None k = absurd k.read.consumed
  found_leads (Some rest) (Some now) k =
      ap (schedule_left r number end) (grown_with old new k.read.bytes rest now k.read.grown k.read.consumed) ∙ sym (behind_none (schedule_left r number end (new ++ now)))

  pub found : (before after : Option (List ℕ)) → end ≤ 67108864 → n ≤ length new → IsNext n old new end before after → IsFound n (place r number end old) (place r number end new) before after
  found before after few within k = record {
    leads = found_leads before after k;
    over = λ e. none_is_over r number end old new before after few (subst (λ (m : ℕ). IsNext m old new end before after) e k);
    ends = k.ends;
    within = within;
    same = refl;
  }

pub found_ok : (r : LineReader) (number end : ℕ) (old new : List ℕ) (before after : Option (List ℕ)) (p : Place) (read : Result ℕ InputFault) → place r number end old ≡ p → end ≤ 67108864
    → IfOk read (λ n. IsNext n old new end before after) → IfOk read (λ n. n ≤ length new) → IfOk read (λ n. IsFound n p (place r number end new) before after)
found_ok r number end old new before after p (Ok n) e few k within =
    subst (λ (q : Place). IsFound n q (place r number end new) before after) e (found r number end n old new before after few within k)
found_ok r number end old new before after p (Err fault) e few k within = tt

consumes_none : (a : Option (List ℕ)) → Consumes a a []
consumes_none None = tt
consumes_none (Some xs) = refl

pub next_of : (n : ℕ) (bytes : List ℕ) (end : ℕ) (a : Option (List ℕ)) → EndsAt n bytes ⊎ IsLast n bytes end a → IsNext n bytes bytes end a a
next_of n bytes end a k = record { read = record { bytes = []; grown = sym (append-nil bytes); consumed = consumes_none a }; ends = k }
