-- What the rest of a text is, line by line.
use Rattle.std.proofs.Common.{◌≡◌, ℕ, ◌+◌, List, [], ◌∷◌, ◌++◌, length, refl, sym, ap, ◌∙◌, append_assoc, append-nil}
use Rattle.std.specs.Prelude.{Bool, true, false, Option, Some, None, Result, Ok, Err, unwrap_or, if◌then◌else◌}
use Rattle.schedule_model.specs.declared.command.DocumentCommand.{DocumentCommand}
use Rattle.schedule_model.specs.declared.command.Command.TheVariants as commands
use Rattle.schedule_model.specs.declared.line.Line.{Line}
use Rattle.schedule_model.specs.declared.line.Line.TheVariants as lines
use Rattle.schedule_text.specs.declared.fault.LineKind.TheVariants as kinds
use Rattle.schedule_text.specs.declared.statement.Statement.{Statement}
use Rattle.schedule_text.specs.declared.statement.Statement.TheVariants as statements
use Rattle.schedule_text.specs.declared.reader.LineReader.{LineReader}
use Rattle.schedule_text.specs.declared.schedule.NumberedLine.{NumberedLine}
use Rattle.schedule_text.specs.declared.schedule.Schedule.{Schedule}
use Rattle.schedule_text.specs.Lines.{whole_lines, content}
use Rattle.schedule_text.specs.Operands.{Read}
use Rattle.schedule_text.specs.Reading.{Reader, at_start, with_line, with_document, behind, Bad, says, said, context_of, is_passed, is_past_limit, after_line, and_then, after_lines, read_schedule, schedule_of, with_lines, added, schedule_left, behind_lines}

-- ---- lines in front of those that are read

abbrev in_front : List NumberedLine → Reader → Reader
in_front before r = record r { lines = before ++ r.lines }

abbrev mapped : (Reader → Reader) → Result Reader Bad → Result Reader Bad
mapped f (Ok r) = Ok (f r)
mapped f (Err bad) = Err bad

line_behind : (before : List NumberedLine) (r : Reader) (n : ℕ) (x : Line) → with_line (in_front before r) n x ≡ in_front before (with_line r n x)
line_behind before r n x = ap (λ (ls : List NumberedLine). record r { lines = ls }) (append_assoc before r.lines ((record { number = n; line = x }) ∷ []))

document_behind : (before : List NumberedLine) (r : Reader) (n : ℕ) (d : DocumentCommand) (t : Option (List DocumentCommand)) → with_document (in_front before r) n d t ≡ in_front before (with_document r n d t)
document_behind before r n d None = line_behind before r n (lines.Cmd (commands.Document d))
document_behind before r n d (Some cs) = refl

statement_behind : (before : List NumberedLine) (r : Reader) (n : ℕ) (s : Statement) → behind (in_front before r) n s ≡ in_front before (behind r n s)
statement_behind before r n (statements.Cap entries bytes) = refl
statement_behind before r n (statements.Document d) = document_behind before r n d r.transaction
statement_behind before r n (statements.Line x) = line_behind before r n x
statement_behind before r n statements.Begin = refl
statement_behind before r n statements.Commit = line_behind before (record r { transaction = None }) n (lines.Cmd (commands.Txn (unwrap_or r.transaction [])))
statement_behind before r n statements.Abort = refl

says_behind : (before : List NumberedLine) (r : Reader) (n : ℕ) (o : Read Statement) → says (in_front before r) n o ≡ mapped (in_front before) (says r n o)
says_behind before r n (Ok s) = ap Ok (statement_behind before (record r { begun = true }) n s)
says_behind before r n (Err kind) = refl

one_behind : (before : List NumberedLine) (r : Reader) (n end : ℕ) (line : List ℕ) → after_line (in_front before r) n end line ≡ mapped (in_front before) (after_line r n end line)
unfolding after_line
one_behind before r n end line = by (is_past_limit n end) (is_passed (content line)) (says (in_front before r) n (said (context_of r) (content line))) (says r n (said (context_of r) (content line))) (says_behind before r n (said (context_of r) (content line)))
  where
    by : (past passed : Bool) (x y : Result Reader Bad) → x ≡ mapped (in_front before) y
        → (if past then Err (n, kinds.Limit) else (if passed then Ok (in_front before r) else x)) ≡ mapped (in_front before) (if past then Err (n, kinds.Limit) else (if passed then Ok r else y))
    by true passed x y e = refl
    by false true x y e = refl
    by false false x y e = e

onward : (before : List NumberedLine) (f : Reader → Result Reader Bad) → ((q : Reader) → f (in_front before q) ≡ mapped (in_front before) (f q)) → (x : Result Reader Bad) → and_then (mapped (in_front before) x) f ≡ mapped (in_front before) (and_then x f)
onward before f h (Ok q) = h q
onward before f h (Err bad) = refl

all_behind : (before : List NumberedLine) (ls : List (List ℕ)) (r : Reader) (n end : ℕ) → after_lines ls (in_front before r) n end ≡ mapped (in_front before) (after_lines ls r n end)
unfolding after_lines
all_behind before [] r n end = refl
all_behind before (line ∷ ls) r n end =
    ap (λ (x : Result Reader Bad). and_then x (λ q. after_lines ls q (n + 1) (end + length line))) (one_behind before r n (end + length line) line)
    ∙ onward before (λ q. after_lines ls q (n + 1) (end + length line)) (λ q. all_behind before ls q (n + 1) (end + length line)) (after_line r n (end + length line) line)

read_behind : (before : List NumberedLine) (x : Result Reader Bad) → read_schedule (mapped (in_front before) x) ≡ behind_lines before (read_schedule x)
read_behind before (Ok r) = refl
read_behind before (Err bad) = refl

-- ---- line by line

-- the lines of a text behind others
behind_those : (before : List NumberedLine) (q : LineReader) (n end : ℕ) (ls : List (List ℕ)) → read_schedule (after_lines ls (with_lines q before) n end) ≡ behind_lines before (read_schedule (after_lines ls (with_lines q []) n end))
behind_those before q n end ls =
    ap (λ (xs : List NumberedLine). read_schedule (after_lines ls (with_lines q xs) n end)) (sym (append-nil before))
    ∙ (ap read_schedule (all_behind before ls (with_lines q []) n end) ∙ read_behind before (after_lines ls (with_lines q []) n end))

-- one line was read
pub left_behind : (r q : LineReader) (n end : ℕ) (text line rest : List ℕ) (out : Option NumberedLine) → whole_lines text ≡ line ∷ whole_lines rest → after_line (with_lines r []) n (end + length line) line ≡ Ok (with_lines q (added out))
    → schedule_left r n end text ≡ behind_lines (added out) (schedule_left q (n + 1) (end + length line) rest)
unfolding schedule_left after_lines
left_behind r q n end text line rest out w a =
    ap (λ (ls : List (List ℕ)). read_schedule (after_lines ls (with_lines r []) n end)) w
    ∙ (ap (λ (x : Result Reader Bad). read_schedule (and_then x (λ s. after_lines (whole_lines rest) s (n + 1) (end + length line)))) a
    ∙ behind_those (added out) q (n + 1) (end + length line) (whole_lines rest))

-- a line is none of a schedule
pub left_fails : (r : LineReader) (n end : ℕ) (text line : List ℕ) (rest : List (List ℕ)) (bad : Bad) → whole_lines text ≡ line ∷ rest → after_line (with_lines r []) n (end + length line) line ≡ Err bad → schedule_left r n end text ≡ Err bad
unfolding schedule_left after_lines
left_fails r n end text line rest bad w a =
    ap (λ (ls : List (List ℕ)). read_schedule (after_lines ls (with_lines r []) n end)) w
    ∙ ap (λ (x : Result Reader Bad). read_schedule (and_then x (λ s. after_lines rest s (n + 1) (end + length line)))) a

-- no line is left
pub none_left : (r : LineReader) (n end : ℕ) → schedule_left r n end [] ≡ Ok (record { cap = r.cap; bytes = r.bytes; lines = [] })
unfolding schedule_left after_lines whole_lines
none_left r n end = refl

-- all lines are left
pub all_left : (r : LineReader) (text : List ℕ) → with_lines r [] ≡ at_start → schedule_of text ≡ schedule_left r 1 0 text
unfolding schedule_of schedule_left
all_left r text e = ap (λ (s : Reader). read_schedule (after_lines (whole_lines text) s 1 0)) (sym e)

-- ---- behind lines that were read

pub behind_none : (x : Result Schedule Bad) → behind_lines [] x ≡ x
behind_none (Ok s) = refl
behind_none (Err bad) = refl

pub behind_more : (before more : List NumberedLine) (x : Result Schedule Bad) → behind_lines before (behind_lines more x) ≡ behind_lines (before ++ more) x
behind_more before more (Ok s) = ap (λ (ls : List NumberedLine). Ok (record s { lines = ls })) (sym (append_assoc before more s.lines))
behind_more before more (Err bad) = refl
