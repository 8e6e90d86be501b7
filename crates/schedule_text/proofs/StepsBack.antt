-- The lines of the grammar are read.
use Rattle.std.proofs.Common.{◌≡◌, ℕ, ◌+◌, ◌≤◌, Bool, true, false, cond, List, [], ◌∷◌, ◌++◌, length, refl, sym, ap, ◌∙◌, arith, subst}
use Rattle.std.specs.Prelude.{nat_lt, map, Option, Some, None, Ok}
use Rattle.std.specs.Str.{is_utf8}
use Rattle.std.proofs.lemmas.Bool.Decides.{nat_tests}
use Rattle.json_text.specs.Grammar.{JsonIsRead}
use Rattle.schedule_model.specs.declared.command.Command.TheVariants as commands
use Rattle.schedule_model.specs.declared.line.Line.{Line}
use Rattle.schedule_model.specs.declared.line.Line.TheVariants as lines
use Rattle.schedule_text.specs.declared.verb.Verb.{Verb}
use Rattle.schedule_text.specs.declared.verb.Verb.TheVariants as verbs
use Rattle.schedule_text.specs.declared.verb.Context.{Context}
use Rattle.schedule_text.specs.declared.verb.Context.TheVariants as contexts
use Rattle.schedule_text.specs.declared.statement.Statement.{Statement}
use Rattle.schedule_text.specs.declared.statement.Statement.TheVariants as statements
use Rattle.schedule_text.specs.declared.schedule.NumberedLine.{NumberedLine}
use Rattle.schedule_text.specs.declared.schedule.Schedule.{Schedule}
use Rattle.schedule_text.specs.Lines.{whole_lines, content}
use Rattle.schedule_text.specs.Words.{words_of}
use Rattle.schedule_text.specs.Statements.{statement_of}
use Rattle.schedule_text.specs.Reading.{Reader, text_in, said, is_passed, at_start, context_in, context_of, behind, is_past_limit, after_line, after_lines, schedule_of}
use Rattle.schedule_text.specs.Grammar.{IsPassed, IsStep, numbered, at, AreSteps, ends, passed, outer, single, dumping, opens, inner, commits, aborts, IsRead, uncapped, skipped, capped, IsSchedule}
use Rattle.schedule_text.proofs.VerbWords.{verb_name, IsSpelled, are_words}
use Rattle.schedule_text.proofs.OperandTexts.{binds}
use Rattle.schedule_text.proofs.Said.{Says, stands_in}
use Rattle.schedule_text.proofs.SaidBack.{said_is}
use Rattle.schedule_text.proofs.LineEnds.{lines_are_read, total, total_is_length}
use Rattle.schedule_text.proofs.Steps.{Transaction, length-map}

-- ---- a line that says something isn't passed over

name_not_passed : (verb : Verb) (xs : List ℕ) → is_passed (verb_name verb ++ xs) ≡ false
name_not_passed verbs.Oplog xs = refl
name_not_passed verbs.Record xs = refl
name_not_passed verbs.At xs = refl
name_not_passed verbs.Create xs = refl
name_not_passed verbs.DropColl xs = refl
name_not_passed verbs.DropDatabase xs = refl
name_not_passed verbs.Rename xs = refl
name_not_passed verbs.Insert xs = refl
name_not_passed verbs.Replace xs = refl
name_not_passed verbs.Update xs = refl
name_not_passed verbs.Delete xs = refl
name_not_passed verbs.CreateIndex xs = refl
name_not_passed verbs.DropIndex xs = refl
name_not_passed verbs.Dump xs = refl
name_not_passed verbs.Copy xs = refl
name_not_passed verbs.Mark xs = refl
name_not_passed verbs.Tail xs = refl
name_not_passed verbs.Begin xs = refl
name_not_passed verbs.Commit xs = refl
name_not_passed verbs.Abort xs = refl

bare_not_passed : (verb : Verb) → is_passed (verb_name verb) ≡ false
bare_not_passed verbs.Oplog = refl
bare_not_passed verbs.Record = refl
bare_not_passed verbs.At = refl
bare_not_passed verbs.Create = refl
bare_not_passed verbs.DropColl = refl
bare_not_passed verbs.DropDatabase = refl
bare_not_passed verbs.Rename = refl
bare_not_passed verbs.Insert = refl
bare_not_passed verbs.Replace = refl
bare_not_passed verbs.Update = refl
bare_not_passed verbs.Delete = refl
bare_not_passed verbs.CreateIndex = refl
bare_not_passed verbs.DropIndex = refl
bare_not_passed verbs.Dump = refl
bare_not_passed verbs.Copy = refl
bare_not_passed verbs.Mark = refl
bare_not_passed verbs.Tail = refl
bare_not_passed verbs.Begin = refl
bare_not_passed verbs.Commit = refl
bare_not_passed verbs.Abort = refl

spelled_not_passed : (line : List ℕ) (verb : Verb) (operands : List (List ℕ)) → IsSpelled line verb operands → is_passed line ≡ false
spelled_not_passed line verb [] l = ap is_passed l ∙ bare_not_passed verb
spelled_not_passed line verb (a ∷ []) l = ap is_passed l ∙ name_not_passed verb (32 ∷ a)
spelled_not_passed line verb (a ∷ b ∷ rest) l = ap is_passed l ∙ name_not_passed verb (32 ∷ (a ++ 32 ∷ b))

said_not_passed : (context : Context) (line : List ℕ) (s : Statement) → is_utf8 line ≡ true → said context line ≡ Ok s → is_passed line ≡ false
unfolding said text_in
said_not_passed context line s u e =
    let b = binds (words_of context line) (λ words. statement_of words.0 words.1) s (rw u at e) in
    spelled_not_passed line b.value.0 b.value.1 (are_words context line b.value.0 b.value.1 b.first).spelled

-- ---- one line

-- a reader by its parts
abbrev reader : Bool → ℕ → Option ℕ → List NumberedLine → Transaction → Reader
reader g c b ls t = record { begun = g; cap = c; bytes = b; lines = ls; transaction = t }

past : (n end : ℕ) → end ≤ 67108864 → n ≤ 1048576 → is_past_limit n end ≡ false
past n end a b =
    let p : nat_lt 67108864 end ≡ false = grind (arith, nat_tests) in
    let q : nat_lt 1048576 n ≡ false = grind (arith, nat_tests) in
    rw (p, q) refl

is_passed_line : (line : List ℕ) → IsPassed line → is_passed line ≡ true
is_passed_line [] p = refl
is_passed_line (b ∷ line) p = rw p refl

after_passed : (r : Reader) (n end : ℕ) (line : List ℕ) → end ≤ 67108864 → n ≤ 1048576 → IsPassed (content line) → after_line r n end line ≡ Ok r
unfolding after_line
after_passed r n end line a b p = rw (past n end a b, is_passed_line (content line) p) refl

after_said : (r : Reader) (n end : ℕ) (line : List ℕ) (s : Statement) → end ≤ 67108864 → n ≤ 1048576 → is_utf8 (content line) ≡ true → said (context_of r) (content line) ≡ Ok s
    → after_line r n end line ≡ Ok (behind (record r { begun = true }) n s)
unfolding after_line
after_said r n end line s a b u e = rw (past n end a b, said_not_passed (context_of r) (content line) s u e, e) refl

-- ---- all lines

-- where a statement may stand that may stand in this transaction
abbrev Admits : Bool → Transaction → Type 0
Admits g t = (s : Statement) → stands_in s (context_in t) ≡ true → stands_in s (cond g (context_in t) contexts.Start) ≡ true

record Reads (ls : List (List ℕ)) (r : Reader) (n end c : ℕ) (b : Option ℕ) (steps : List NumberedLine) : Type 0 where
  pub last : Reader
  pub read : after_lines ls r n end ≡ Ok last
  pub cap : last.cap ≡ c
  pub bytes : last.bytes ≡ b
  pub lines : last.lines ≡ steps

reads_next : (line : List ℕ) (ls : List (List ℕ)) (r q : Reader) (n end c : ℕ) (b : Option ℕ) (steps : List NumberedLine) → after_line r n (end + length line) line ≡ Ok q → Reads ls q (n + 1) (end + length line) c b steps → Reads (line ∷ ls) r n end c b steps
unfolding after_lines
reads_next line ls r q n end c b steps e k = record { last = k.last; read = rw e k.read; cap = k.cap; bytes = k.bytes; lines = k.lines }

append_nothing : (xs : List NumberedLine) → xs ≡ xs ++ []
append_nothing [] = refl
append_nothing (x ∷ xs) = ap (λ (l : List NumberedLine). x ∷ l) (append_nothing xs)

one_more : (xs : List NumberedLine) (x : NumberedLine) (ys : List NumberedLine) → (xs ++ x ∷ []) ++ ys ≡ xs ++ x ∷ ys
one_more [] x ys = refl
one_more (y ∷ xs) x ys = ap (λ (l : List NumberedLine). y ∷ l) (one_more xs x ys)

parts : (i n : ℕ) (l m : List ℕ) (xs ys : List (ℕ × List ℕ)) → (i, l) ∷ xs ≡ (n, m) ∷ ys → (i ≡ n) × (l ≡ m) × (xs ≡ ys)
parts i n l m xs ys e =
    let h : ◌≡◌ {A = ℕ × List ℕ} (i, l) (n, m) = cc in
    let t : xs ≡ ys = cc in
    (ap (λ (p : ℕ × List ℕ). p.0) h, ap (λ (p : ℕ × List ℕ). p.1) h, t)

nothing_left : (r : Reader) (n end : ℕ) {steps : List NumberedLine} → r.lines ≡ steps → Reads [] r n end r.cap r.bytes steps
unfolding after_lines
nothing_left r n end e = record { last = r; read = refl; cap = refl; bytes = refl; lines = e }

reads_added : (line : List ℕ) (ls : List (List ℕ)) (r q : Reader) (n i end c : ℕ) (b : Option ℕ) (acc : List NumberedLine) (x : Line) (steps : List NumberedLine) → i ≡ n → after_line r n (end + length line) line ≡ Ok q
    → Reads ls q (n + 1) (end + length line) c b ((acc ++ at n x ∷ []) ++ steps) → Reads (line ∷ ls) r n end c b (acc ++ at i x ∷ steps)
reads_added line ls r q n i end c b acc x steps en e k =
    let same : (acc ++ at n x ∷ []) ++ steps ≡ acc ++ at i x ∷ steps = one_more acc (at n x) steps ∙ ap (λ (m : ℕ). acc ++ at m x ∷ steps) (sym en) in
    subst (λ (y : List NumberedLine). Reads (line ∷ ls) r n end c b y) same (reads_next line ls r q n end c b ((acc ++ at n x ∷ []) ++ steps) e k)

says_step : (line : List ℕ) (x : Line) → IsStep line x → Says line (statements.Line x)
says_step line (lines.Cmd c) h = absurd h
says_step line lines.Dump h = h
says_step line (lines.Copy ns n) h = h
says_step line lines.Mark h = h
says_step line (lines.Tail n) h = h

step_stands : (line : List ℕ) (x : Line) (context : Context) → IsStep line x → stands_in (statements.Line x) context ≡ true
step_stands line (lines.Cmd c) context h = absurd h
step_stands line lines.Dump context h = refl
step_stands line (lines.Copy ns n) context h = refl
step_stands line lines.Mark context h = refl
step_stands line (lines.Tail n) context h = refl

admits_start : (s : Statement) → stands_in s contexts.Outside ≡ true → stands_in s contexts.Start ≡ true
admits_start (statements.Cap c b) w = absurd cc
admits_start (statements.Document d) w = refl
admits_start (statements.Line (lines.Cmd x)) w = refl
admits_start (statements.Line lines.Dump) w = refl
admits_start (statements.Line (lines.Copy ns m)) w = refl
admits_start (statements.Line lines.Mark) w = refl
admits_start (statements.Line (lines.Tail m)) w = refl
admits_start statements.Begin w = refl
admits_start statements.Commit w = absurd cc
admits_start statements.Abort w = absurd cc

module _ (reads : JsonIsRead) where
  line_said : (g : Bool) (c : ℕ) (b : Option ℕ) (acc : List NumberedLine) (t : Transaction) (n end : ℕ) (line l : List ℕ) (s : Statement) → end ≤ 67108864 → n ≤ 1048576 → l ≡ content line
      → is_utf8 l ≡ true → Says l s → stands_in s (cond g (context_in t) contexts.Start) ≡ true → after_line (reader g c b acc t) n end line ≡ Ok (behind (reader true c b acc t) n s)
  line_said g c b acc t n end line l s a m e u h w =
      let u' : is_utf8 (content line) ≡ true = subst (λ (x : List ℕ). is_utf8 x ≡ true) e u in
      let h' : Says (content line) s = subst (λ (x : List ℕ). Says x s) e h in
      after_said (reader g c b acc t) n end line s a m u' (said_is reads (context_of (reader g c b acc t)) (content line) u' s h' w)

  steps_read : {t : Transaction} {xs : List (ℕ × List ℕ)} {steps : List NumberedLine} → AreSteps t xs steps → (ls : List (List ℕ)) (g : Bool) (c : ℕ) (b : Option ℕ) (acc : List NumberedLine) (n end : ℕ) → Admits g t
      → xs ≡ numbered n (map content ls) → end + total ls ≤ 67108864 → n + length ls ≤ 1048577 → Reads ls (reader g c b acc t) n end c b (acc ++ steps)
  steps_read (ends {t}) [] g c b acc n end adm e a m = nothing_left (reader g c b acc t) n end (append_nothing acc)
  steps_read ends (line ∷ ls) g c b acc n end adm e a m = absurd cc
  steps_read (passed p k) [] g c b acc n end adm e a m = absurd cc
  steps_read (passed {t} {n = i} {line = l} {rest} {steps} p k) (line ∷ ls) g c b acc n end adm e a m =
      let q = parts i n l (content line) rest (numbered (n + 1) (map content ls)) e in
      let el = q.1 in
      let er = q.2 in
      let r = reader g c b acc t in
      reads_next line ls r r n end c b (acc ++ steps) (after_passed r n (end + length line) line (omega arith) (omega arith) (subst IsPassed el p)) (steps_read k ls g c b acc (n + 1) (end + length line) adm er (omega arith) (omega arith))
  steps_read (outer u h k) [] g c b acc n end adm e a m = absurd cc
  steps_read (outer {n = i} {line = l} {d} {rest} {steps} u h k) (line ∷ ls) g c b acc n end adm e a m =
      let q = parts i n l (content line) rest (numbered (n + 1) (map content ls)) e in
      let en = q.0 in
      let el = q.1 in
      let er = q.2 in
      reads_added line ls (reader g c b acc None) (reader true c b (acc ++ at n (lines.Cmd (commands.Document d)) ∷ []) None) n i end c b acc (lines.Cmd (commands.Document d)) steps en
      (line_said g c b acc None n (end + length line) line l (statements.Document d) (omega arith) (omega arith) el u h (adm (statements.Document d) refl))
      (steps_read k ls true c b (acc ++ at n (lines.Cmd (commands.Document d)) ∷ []) (n + 1) (end + length line) (λ s w. w) er (omega arith) (omega arith))
  steps_read (single u h k) [] g c b acc n end adm e a m = absurd cc
  steps_read (single {n = i} {line = l} {c = x} {rest} {steps} u h k) (line ∷ ls) g c b acc n end adm e a m =
      let q = parts i n l (content line) rest (numbered (n + 1) (map content ls)) e in
      let en = q.0 in
      let el = q.1 in
      let er = q.2 in
      reads_added line ls (reader g c b acc None) (reader true c b (acc ++ at n (lines.Cmd x) ∷ []) None) n i end c b acc (lines.Cmd x) steps en
      (line_said g c b acc None n (end + length line) line l (statements.Line (lines.Cmd x)) (omega arith) (omega arith) el u h (adm (statements.Line (lines.Cmd x)) refl))
      (steps_read k ls true c b (acc ++ at n (lines.Cmd x) ∷ []) (n + 1) (end + length line) (λ s w. w) er (omega arith) (omega arith))
  steps_read (dumping u h k) [] g c b acc n end adm e a m = absurd cc
  steps_read (dumping {t} {n = i} {line = l} {x} {rest} {steps} u h k) (line ∷ ls) g c b acc n end adm e a m =
      let q = parts i n l (content line) rest (numbered (n + 1) (map content ls)) e in
      let en = q.0 in
      let el = q.1 in
      let er = q.2 in
      reads_added line ls (reader g c b acc t) (reader true c b (acc ++ at n x ∷ []) t) n i end c b acc x steps en
      (line_said g c b acc t n (end + length line) line l (statements.Line x) (omega arith) (omega arith) el u (says_step l x h) (adm (statements.Line x) (step_stands l x (context_in t) h)))
      (steps_read k ls true c b (acc ++ at n x ∷ []) (n + 1) (end + length line) (λ s w. w) er (omega arith) (omega arith))
  steps_read (opens u h k) [] g c b acc n end adm e a m = absurd cc
  steps_read (opens {n = i} {line = l} {rest} {steps} u h k) (line ∷ ls) g c b acc n end adm e a m =
      let q = parts i n l (content line) rest (numbered (n + 1) (map content ls)) e in
      let el = q.1 in
      let er = q.2 in
      reads_next line ls (reader g c b acc None) (reader true c b acc (Some [])) n end c b (acc ++ steps)
      (line_said g c b acc None n (end + length line) line l statements.Begin (omega arith) (omega arith) el u h (adm statements.Begin refl))
      (steps_read k ls true c b acc (n + 1) (end + length line) (λ s w. w) er (omega arith) (omega arith))
  steps_read (inner d u h k) [] g c b acc n end adm e a m = absurd cc
  steps_read (inner d {n = i} {line = l} {before} {rest} {steps} u h k) (line ∷ ls) g c b acc n end adm e a m =
      let q = parts i n l (content line) rest (numbered (n + 1) (map content ls)) e in
      let el = q.1 in
      let er = q.2 in
      reads_next line ls (reader g c b acc (Some before)) (reader true c b acc (Some (before ++ d ∷ []))) n end c b (acc ++ steps)
      (line_said g c b acc (Some before) n (end + length line) line l (statements.Document d) (omega arith) (omega arith) el u h (adm (statements.Document d) refl))
      (steps_read k ls true c b acc (n + 1) (end + length line) (λ s w. w) er (omega arith) (omega arith))
  steps_read (commits u h k) [] g c b acc n end adm e a m = absurd cc
  steps_read (commits {n = i} {line = l} {before} {rest} {steps} u h k) (line ∷ ls) g c b acc n end adm e a m =
      let q = parts i n l (content line) rest (numbered (n + 1) (map content ls)) e in
      let en = q.0 in
      let el = q.1 in
      let er = q.2 in
      let x = lines.Cmd (commands.Txn before) in
      reads_added line ls (reader g c b acc (Some before)) (reader true c b (acc ++ at n x ∷ []) None) n i end c b acc x steps en
      (line_said g c b acc (Some before) n (end + length line) line l statements.Commit (omega arith) (omega arith) el u h (adm statements.Commit refl))
      (steps_read k ls true c b (acc ++ at n x ∷ []) (n + 1) (end + length line) (λ s w. w) er (omega arith) (omega arith))
  steps_read (aborts u h k) [] g c b acc n end adm e a m = absurd cc
  steps_read (aborts {n = i} {line = l} {before} {rest} {steps} u h k) (line ∷ ls) g c b acc n end adm e a m =
      let q = parts i n l (content line) rest (numbered (n + 1) (map content ls)) e in
      let el = q.1 in
      let er = q.2 in
      reads_next line ls (reader g c b acc (Some before)) (reader true c b acc None) n end c b (acc ++ steps)
      (line_said g c b acc (Some before) n (end + length line) line l statements.Abort (omega arith) (omega arith) el u h (adm statements.Abort refl))
      (steps_read k ls true c b acc (n + 1) (end + length line) (λ s w. w) er (omega arith) (omega arith))

  start_read : {xs : List (ℕ × List ℕ)} {s : Schedule} → IsRead xs s → (ls : List (List ℕ)) (n end : ℕ) → xs ≡ numbered n (map content ls) → end + total ls ≤ 67108864 → n + length ls ≤ 1048577 → Reads ls at_start n end s.cap s.bytes s.lines
  start_read (uncapped k) ls n end e a m = steps_read k ls false 1000 None [] n end admits_start e a m
  start_read (skipped p k) [] n end e a m = absurd cc
  start_read (skipped {n = i} {line = l} {rest} {s} p k) (line ∷ ls) n end e a m =
      let q = parts i n l (content line) rest (numbered (n + 1) (map content ls)) e in
      let el = q.1 in
      let er = q.2 in
      reads_next line ls at_start at_start n end s.cap s.bytes s.lines (after_passed at_start n (end + length line) line (omega arith) (omega arith) (subst IsPassed el p)) (start_read k ls (n + 1) (end + length line) er (omega arith) (omega arith))
  start_read (capped u h k) [] n end e a m = absurd cc
  start_read (capped {n = i} {line = l} {entries} {bytes = most} {rest} {steps} u h k) (line ∷ ls) n end e a m =
      let q = parts i n l (content line) rest (numbered (n + 1) (map content ls)) e in
      let el = q.1 in
      let er = q.2 in
      reads_next line ls at_start (reader true entries most [] None) n end entries most steps
      (line_said false 1000 None [] None n (end + length line) line l (statements.Cap entries most) (omega arith) (omega arith) el u h refl)
      (steps_read k ls true entries most [] (n + 1) (end + length line) (λ s w. w) er (omega arith) (omega arith))

  pub schedules_are_read : (text : List ℕ) (s : Schedule) → IsSchedule text s → schedule_of text ≡ Ok s
  unfolding schedule_of
  schedules_are_read text s i =
      let e = lines_are_read i.are_lines in
      let few = length-map (whole_lines text) in
      let same = ap length e in
      let k = start_read i.are_read (whole_lines text) 1 0 (ap (λ (x : List (List ℕ)). numbered 1 x) (sym e)) (omega (arith, total_is_length text, i.few_bytes)) (omega (arith, few, same, i.few_lines)) in
      rw (k.read, k.cap, k.bytes, k.lines) refl
