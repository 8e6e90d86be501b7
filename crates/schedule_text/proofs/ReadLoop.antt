-- Reading on by one line.
use Rattle.std.proofs.Common.{◌≡◌, ℕ, ◌+◌, ◌-◌, ◌≤◌, List, [], ◌∷◌, ◌++◌, length, refl, sym, ap, ◌∙◌, arith, length-append, append-nil}
use Rattle.std.specs.Prelude.{◌==◌, Bool, true, false, Option, Result, Ok, Err}
use Rattle.std.proofs.lemmas.Bool.Decides.{nat_tests}
use Rattle.schedule_text.specs.declared.fault.LineFault.{LineFault}
use Rattle.schedule_text.specs.declared.fault.LineFault.TheVariants as faults
use Rattle.schedule_text.specs.declared.reader.LineReader.{LineReader}
use Rattle.schedule_text.specs.declared.schedule.NumberedLine.{NumberedLine}
use Rattle.schedule_text.specs.declared.schedule.Schedule.{Schedule}
use Rattle.schedule_text.specs.Lines.{whole_lines}
use Rattle.schedule_text.specs.Reading.{at_start, after_line, Bad, with_lines, added, schedule_of, schedule_left, behind_lines, Fails}
use Rattle.schedule_text.proofs.Left.{left_behind, left_fails, none_left, all_left, behind_none, behind_more}

-- these lines were read, and the rest is left
abbrev pub IsRead : List ℕ → List ℕ → LineReader → ℕ → List NumberedLine → Type 0
IsRead text rest r number lines = schedule_of text ≡ behind_lines lines (schedule_left r number (length text - length rest) rest)

pub nothing_read : (text : List ℕ) (r : LineReader) (lines : List NumberedLine) → with_lines r [] ≡ at_start → lines ≡ [] → IsRead text text r 1 lines
nothing_read text r lines e f =
    let z : length text - length text ≡ 0 = omega arith in
    all_left r text e
    ∙ (ap (λ (n : ℕ). schedule_left r 1 n text) (sym z)
    ∙ (sym (behind_none (schedule_left r 1 (length text - length text) text)) ∙ ap (λ (ls : List NumberedLine). behind_lines ls (schedule_left r 1 (length text - length text) text)) (sym f)))

end_of : (text rest line behind : List ℕ) → length rest ≤ length text → rest ≡ line ++ behind → length text - length rest + length line ≡ length text - length behind
end_of text rest line behind h j = omega (arith, ap length j, length-append line behind)

pub line_read : (text rest line behind : List ℕ) (r q : LineReader) (number : ℕ) (lines : List NumberedLine) (out : Option NumberedLine) → length rest ≤ length text → whole_lines rest ≡ line ∷ whole_lines behind → rest ≡ line ++ behind
    → after_line (with_lines r []) number (length text - length behind) line ≡ Ok (with_lines q (added out)) → IsRead text rest r number lines → IsRead text behind q (number + 1) (lines ++ added out)
line_read text rest line behind r q number lines out h w j a k =
    let e = end_of text rest line behind h j in
    let b : after_line (with_lines r []) number (length text - length rest + length line) line ≡ Ok (with_lines q (added out)) = ap (λ (n : ℕ). after_line (with_lines r []) number n line) e ∙ a in
    let step = left_behind r q number (length text - length rest) rest line behind out w b ∙ ap (λ (n : ℕ). behind_lines (added out) (schedule_left q (number + 1) n behind)) e in
    k ∙ (ap (behind_lines lines) step ∙ behind_more lines (added out) (schedule_left q (number + 1) (length text - length behind) behind))

pub line_fails : (f : LineFault) (text rest line behind : List ℕ) (r : LineReader) (number : ℕ) (lines : List NumberedLine) → length rest ≤ length text → whole_lines rest ≡ line ∷ whole_lines behind → rest ≡ line ++ behind
    → Fails f (after_line (with_lines r []) number (length text - length behind) line) → IsRead text rest r number lines → Fails f (schedule_of text)
line_fails faults.NoMemory text rest line behind r number lines h w j a k = tt
line_fails (faults.Bad n kind) text rest line behind r number lines h w j a k =
    let e = end_of text rest line behind h j in
    let b : after_line (with_lines r []) number (length text - length rest + length line) line ≡ Err (n, kind) = ap (λ (m : ℕ). after_line (with_lines r []) number m line) e ∙ a in
    k ∙ ap (behind_lines lines) (left_fails r number (length text - length rest) rest line (whole_lines behind) (n, kind) w b)

abbrev with_those : LineReader → List NumberedLine → Result Schedule Bad
with_those r lines = Ok (record { cap = r.cap; bytes = r.bytes; lines = lines })

pub all_read : (text rest : List ℕ) (r : LineReader) (number : ℕ) (lines : List NumberedLine) → rest ≡ [] → IsRead text rest r number lines → schedule_of text ≡ Ok (record { cap = r.cap; bytes = r.bytes; lines = lines })
all_read text rest r number lines e k =
    k
    ∙ (ap (λ (x : List ℕ). behind_lines lines (schedule_left r number (length text - length rest) x)) e
    ∙ (ap (behind_lines lines) (none_left r number (length text - length rest))
    ∙ ap (with_those r) (append-nil lines)))

pub nothing_more : (rest : List ℕ) (b : Bool) → b ≡ (length rest == 0) → b ≡ true → rest ≡ []
nothing_more [] b e f = refl
nothing_more (x ∷ rest) b e f =
    let z : (length (x ∷ rest) == 0) ≡ false = grind (arith, nat_tests) in
    let w : true ≡ false = sym f ∙ (e ∙ z) in
    absurd cc
