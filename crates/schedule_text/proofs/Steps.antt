-- The lines that are read are those of the grammar.
use Rattle.std.proofs.Common.{◌≡◌, ℕ, suc, ◌+◌, ◌≤◌, Bool, true, cond, List, [], ◌∷◌, ◌++◌, length, refl, sym, ap, ◌∙◌, arith, inl, inr, subst, append_assoc, eqb-true}
use Rattle.std.specs.Prelude.{◌⊎◌, map, Option, Some, None, Result, Ok, Err}
use Rattle.std.specs.Str.{is_utf8}
use Rattle.std.proofs.lemmas.Bool.{cases_Bool}
use Rattle.std.proofs.lemmas.Bool.Decides.{nat_tests}
use Rattle.json_text.specs.Grammar.{ReadIsJson}
use Rattle.schedule_model.specs.declared.command.DocumentCommand.{DocumentCommand}
use Rattle.schedule_model.specs.declared.command.Command.TheVariants as commands
use Rattle.schedule_model.specs.declared.line.Line.{Line}
use Rattle.schedule_model.specs.declared.line.Line.TheVariants as lines
use Rattle.schedule_text.specs.declared.verb.Context.TheVariants as contexts
use Rattle.schedule_text.specs.declared.statement.Statement.{Statement}
use Rattle.schedule_text.specs.declared.statement.Statement.TheVariants as statements
use Rattle.schedule_text.specs.declared.schedule.NumberedLine.{NumberedLine}
use Rattle.schedule_text.specs.declared.schedule.Schedule.{Schedule}
use Rattle.schedule_text.specs.Lines.{whole_lines, content}
use Rattle.schedule_text.specs.Operands.{Read}
use Rattle.schedule_text.specs.Reading.{Reader, said, is_passed, at_start, context_in, context_of, behind, is_past_limit, Bad, says, after_line, and_then, after_lines, read_schedule, schedule_of}
use Rattle.schedule_text.specs.Grammar.{IsPassed, IsCap, numbered, at, AreSteps, ends, passed, outer, single, dumping, opens, inner, commits, aborts, IsRead, uncapped, skipped, capped, IsSchedule}
use Rattle.schedule_text.proofs.Said.{Says, stands_in, IsSaid, is_said}
use Rattle.schedule_text.proofs.LineEnds.{are_lines, total, total_is_length}

-- the commands of the open transaction, where there is one
abbrev pub Transaction : Type 0
Transaction = Option (List DocumentCommand)

-- a reader that has begun
abbrev pub begun_with : ℕ → Option ℕ → List NumberedLine → Transaction → Reader
begun_with c b ls t = record { begun = true; cap = c; bytes = b; lines = ls; transaction = t }

-- ---- what one line adds

pub record Adds (r q : Reader) (n : ℕ) (line : List ℕ) : Type 0 where
  pub added : List NumberedLine
  pub steps : (rest : List (ℕ × List ℕ)) (steps : List NumberedLine) → AreSteps q.transaction rest steps → AreSteps r.transaction ((n, line) ∷ rest) (added ++ steps)
  pub lines : q.lines ≡ r.lines ++ added
  pub cap : q.cap ≡ r.cap
  pub bytes : q.bytes ≡ r.bytes
  pub begun : q.begun ≡ true

append_none : {A : Type 0} (xs : List A) → xs ≡ xs ++ []
append_none [] = refl
append_none (x ∷ xs) = ap (λ (l : List _). x ∷ l) (append_none xs)

step_adds : (c : ℕ) (b : Option ℕ) (ls : List NumberedLine) (t : Transaction) (n : ℕ) (line : List ℕ) (x : Line) (s : Statement) → ((rest : List (ℕ × List ℕ)) (steps : List NumberedLine) → AreSteps t rest steps → AreSteps t ((n, line) ∷ rest) (at n x ∷ steps))
    → s ≡ statements.Line x → Adds (begun_with c b ls t) (behind (begun_with c b ls t) n s) n line
step_adds c b ls t n line x s f e = rw e (record { added = at n x ∷ []; steps = f; lines = refl; cap = refl; bytes = refl; begun = refl })

adds : (c : ℕ) (b : Option ℕ) (ls : List NumberedLine) (t : Transaction) (n : ℕ) (line : List ℕ) (s : Statement) → is_utf8 line ≡ true → Says line s → stands_in s (context_in t) ≡ true
    → Adds (begun_with c b ls t) (behind (begun_with c b ls t) n s) n line
adds c b ls None n line (statements.Cap e m) u h w = absurd cc
adds c b ls (Some before) n line (statements.Cap e m) u h w = absurd cc
adds c b ls None n line (statements.Document d) u h w = record { added = at n (lines.Cmd (commands.Document d)) ∷ []; steps = λ rest steps k. outer u h k; lines = refl; cap = refl; bytes = refl; begun = refl }
adds c b ls (Some before) n line (statements.Document d) u h w = record { added = []; steps = λ rest steps k. inner d u h k; lines = append_none ls; cap = refl; bytes = refl; begun = refl }
adds c b ls None n line (statements.Line (lines.Cmd x)) u h w = step_adds c b ls None n line (lines.Cmd x) (statements.Line (lines.Cmd x)) (λ rest steps k. single u h k) refl
adds c b ls (Some before) n line (statements.Line (lines.Cmd x)) u h w = absurd cc
adds c b ls t n line (statements.Line lines.Dump) u h w = step_adds c b ls t n line lines.Dump (statements.Line lines.Dump) (λ rest steps k. dumping u h k) refl
adds c b ls t n line (statements.Line (lines.Copy ns m)) u h w = step_adds c b ls t n line (lines.Copy ns m) (statements.Line (lines.Copy ns m)) (λ rest steps k. dumping u h k) refl
adds c b ls t n line (statements.Line lines.Mark) u h w = step_adds c b ls t n line lines.Mark (statements.Line lines.Mark) (λ rest steps k. dumping u h k) refl
adds c b ls t n line (statements.Line (lines.Tail m)) u h w = step_adds c b ls t n line (lines.Tail m) (statements.Line (lines.Tail m)) (λ rest steps k. dumping u h k) refl
adds c b ls None n line statements.Begin u h w = record { added = []; steps = λ rest steps k. opens u h k; lines = append_none ls; cap = refl; bytes = refl; begun = refl }
adds c b ls (Some before) n line statements.Begin u h w = absurd cc
adds c b ls None n line statements.Commit u h w = absurd cc
adds c b ls (Some before) n line statements.Commit u h w = record { added = at n (lines.Cmd (commands.Txn before)) ∷ []; steps = λ rest steps k. commits u h k; lines = refl; cap = refl; bytes = refl; begun = refl }
adds c b ls None n line statements.Abort u h w = absurd cc
adds c b ls (Some before) n line statements.Abort u h w = record { added = []; steps = λ rest steps k. aborts u h k; lines = append_none ls; cap = refl; bytes = refl; begun = refl }

-- ---- one line of those that are read

passed_is : (line : List ℕ) → is_passed line ≡ true → IsPassed line
passed_is [] e = tt
passed_is (b ∷ line) e = eqb-true b 35 e

-- behind a line the reader is as before, or behind what the line says
pub record IsBehind (r q : Reader) (n end : ℕ) (line : List ℕ) : Type 0 where
  pub bytes : end ≤ 67108864
  pub lines : n ≤ 1048576
  pub taken : (IsPassed (content line) × (q ≡ r)) ⊎ ((s : Statement) × (said (context_of r) (content line) ≡ Ok s) × (q ≡ behind (record r { begun = true }) n s))

pub says_is : (r q : Reader) (n : ℕ) (o : Read Statement) → says r n o ≡ Ok q → (s : Statement) × (o ≡ Ok s) × (q ≡ behind (record r { begun = true }) n s)
says_is r q n (Ok s) e = (s, refl, cc)
says_is r q n (Err k) e = absurd cc

pub is_behind : (r q : Reader) (n end : ℕ) (line : List ℕ) → after_line r n end line ≡ Ok q → IsBehind r q n end line
unfolding after_line
is_behind r q n end line e =
    elim (cases_Bool (is_past_limit n end)) [
      | inl t ↦ let f = rw t at e in absurd cc
      | inr t ↦ let few : end ≤ 67108864 = grind (arith, nat_tests) in
          let low : n ≤ 1048576 = grind (arith, nat_tests) in
          record {
            bytes = few;
            lines = low;
            taken =
                elim (cases_Bool (is_passed (content line))) [
                  | inl p ↦ let f = rw (t, p) at e in inl (passed_is (content line) p, cc)
                  | inr p ↦ inr (says_is r q n (said (context_of r) (content line)) (rw (t, p) at e))
                ];
          }
    ]

pub record Goes (r : Result Reader Bad) (f : Reader → Result Reader Bad) (s : Reader) : Type 0 where
  pub next : Reader
  pub first : r ≡ Ok next
  pub then_ : f next ≡ Ok s

pub goes : (r : Result Reader Bad) (f : Reader → Result Reader Bad) (s : Reader) → and_then r f ≡ Ok s → Goes r f s
goes (Ok q) f s e = record { next = q; first = refl; then_ = e }
goes (Err k) f s e = absurd cc

-- ---- all lines behind the first

abbrev contents : ℕ → List (List ℕ) → List (ℕ × List ℕ)
contents n ls = numbered n (map content ls)

pub record ReadsOn (r s : Reader) (n : ℕ) (ls : List (List ℕ)) : Type 0 where
  pub added : List NumberedLine
  pub steps : AreSteps r.transaction (contents n ls) added
  pub lines : s.lines ≡ r.lines ++ added
  pub cap : s.cap ≡ r.cap
  pub bytes : s.bytes ≡ r.bytes

-- a reader that has begun, by its parts
begins : (r : Reader) → r.begun ≡ true → r ≡ begun_with r.cap r.bytes r.lines r.transaction
begins r e = ap (λ (g : Bool). record r { begun = g }) e

taken_adds : (spells : ReadIsJson) (r q : Reader) (n : ℕ) (line : List ℕ) (s : Statement) → r.begun ≡ true → said (context_of r) line ≡ Ok s → q ≡ behind (record r { begun = true }) n s → Adds r q n line
taken_adds spells r q n line s g d e =
    let b = begins r g in
    let k = is_said spells (context_of r) line s d in
    let w : stands_in s (context_in r.transaction) ≡ true = subst (λ (x : Bool). stands_in s (cond x (context_in r.transaction) contexts.Start) ≡ true) g k.stands in
    subst (λ (y : Reader). Adds r y n line) (sym e)
    (subst (λ (x : Reader). Adds x (behind (begun_with r.cap r.bytes r.lines r.transaction) n s) n line) (sym b) (adds r.cap r.bytes r.lines r.transaction n line s k.utf8 k.says w))

pub reads_on : ReadIsJson → (ls : List (List ℕ)) (r s : Reader) (n end : ℕ) → r.begun ≡ true → after_lines ls r n end ≡ Ok s → ReadsOn r s n ls
unfolding after_lines
reads_on spells [] r s n end g e =
    let q : r ≡ s = cc in
    record { added = []; steps = ends; lines = sym (ap (λ (x : Reader). x.lines) q) ∙ append_none r.lines; cap = sym (ap (λ (x : Reader). x.cap) q); bytes = sym (ap (λ (x : Reader). x.bytes) q) }
reads_on spells (line ∷ ls) r s n end g e =
    let b = goes (after_line r n (end + length line) line) (λ q. after_lines ls q (n + 1) (end + length line)) s e in
    let k = is_behind r b.next n (end + length line) line b.first in
    elim k.taken [
      | inl p ↦
          let rest = reads_on spells ls r s (n + 1) (end + length line) g (subst (λ (x : Reader). after_lines ls x (n + 1) (end + length line) ≡ Ok s) p.1 b.then_) in
          record { added = rest.added; steps = passed p.0 rest.steps; lines = rest.lines; cap = rest.cap; bytes = rest.bytes }
      | inr p ↦
          let a = taken_adds spells r b.next n (content line) p.0 g p.1 p.2 in
          let rest = reads_on spells ls b.next s (n + 1) (end + length line) a.begun b.then_ in
          record {
            added = a.added ++ rest.added;
            steps = a.steps (contents (n + 1) ls) rest.added rest.steps;
            lines = rest.lines ∙ (ap (λ (x : List NumberedLine). x ++ rest.added) a.lines ∙ append_assoc r.lines a.added rest.added);
            cap = rest.cap ∙ a.cap;
            bytes = rest.bytes ∙ a.bytes;
          }
    ]

-- ---- the first line

uncapped_is : (xs : List (ℕ × List ℕ)) (s : Reader) (steps : List NumberedLine) → AreSteps None xs steps → s.lines ≡ steps → s.cap ≡ 1000 → s.bytes ≡ None → IsRead xs (record { cap = s.cap; bytes = s.bytes; lines = s.lines })
uncapped_is xs s steps a l c b = rw (l, c, b) (uncapped a)

capped_is : (n : ℕ) (line : List ℕ) (xs : List (ℕ × List ℕ)) (s : Reader) (entries : ℕ) (most : Option ℕ) (steps : List NumberedLine) → is_utf8 line ≡ true → IsCap line entries most → AreSteps None xs steps
    → s.lines ≡ steps → s.cap ≡ entries → s.bytes ≡ most → IsRead ((n, line) ∷ xs) (record { cap = s.cap; bytes = s.bytes; lines = s.lines })
capped_is n line xs s entries most steps u i a l c b = rw (l, c, b) (capped u i a)

-- what may stand in the first line may stand in a later one, but for the cap
later : (s : Statement) → stands_in s contexts.Start ≡ true → ((c : ℕ) × (b : Option ℕ) × (s ≡ statements.Cap c b)) ⊎ (stands_in s contexts.Outside ≡ true)
later (statements.Cap c b) w = inl (c, b, refl)
later (statements.Document d) w = inr refl
later (statements.Line (lines.Cmd x)) w = inr refl
later (statements.Line lines.Dump) w = inr refl
later (statements.Line (lines.Copy ns m)) w = inr refl
later (statements.Line lines.Mark) w = inr refl
later (statements.Line (lines.Tail m)) w = inr refl
later statements.Begin w = inr refl
later statements.Commit w = absurd cc
later statements.Abort w = absurd cc

first_said : ReadIsJson → (ls : List (List ℕ)) (s : Reader) (n end : ℕ) (line : List ℕ) (x : Statement) → IsSaid contexts.Start (content line) x
    → after_lines ls (behind (begun_with 1000 None [] None) n x) (n + 1) end ≡ Ok s → IsRead ((n, content line) ∷ contents (n + 1) ls) (record { cap = s.cap; bytes = s.bytes; lines = s.lines })
first_said spells ls s n end line x k e =
    elim (later x k.stands) [
      | inl p ↦
          let cap : IsCap (content line) p.0 p.1 = subst (λ (y : Statement). Says (content line) y) p.2 k.says in
          let rest = reads_on spells ls (begun_with p.0 p.1 [] None) s (n + 1) end refl (subst (λ (y : Statement). after_lines ls (behind (begun_with 1000 None [] None) n y) (n + 1) end ≡ Ok s) p.2 e) in
          capped_is n (content line) (contents (n + 1) ls) s p.0 p.1 rest.added k.utf8 cap rest.steps rest.lines rest.cap rest.bytes
      | inr w ↦
          let a = adds 1000 None [] None n (content line) x k.utf8 k.says w in
          let rest = reads_on spells ls (behind (begun_with 1000 None [] None) n x) s (n + 1) end a.begun e in
          uncapped_is ((n, content line) ∷ contents (n + 1) ls) s (a.added ++ rest.added) (a.steps (contents (n + 1) ls) rest.added rest.steps)
          (rest.lines ∙ ap (λ (y : List NumberedLine). y ++ rest.added) a.lines) (rest.cap ∙ a.cap) (rest.bytes ∙ a.bytes)
    ]

starts : ReadIsJson → (ls : List (List ℕ)) (s : Reader) (n end : ℕ) → after_lines ls at_start n end ≡ Ok s → IsRead (contents n ls) (record { cap = s.cap; bytes = s.bytes; lines = s.lines })
unfolding after_lines
starts spells [] s n end e =
    let q : at_start ≡ s = cc in
    subst (λ (x : Reader). IsRead [] (record { cap = x.cap; bytes = x.bytes; lines = x.lines })) q (uncapped ends)
starts spells (line ∷ ls) s n end e =
    let b = goes (after_line at_start n (end + length line) line) (λ q. after_lines ls q (n + 1) (end + length line)) s e in
    let k = is_behind at_start b.next n (end + length line) line b.first in
    elim k.taken [
      | inl p ↦ skipped p.0 (starts spells ls s (n + 1) (end + length line) (subst (λ (x : Reader). after_lines ls x (n + 1) (end + length line) ≡ Ok s) p.1 b.then_))
      | inr p ↦ first_said spells ls s n (end + length line) line p.0 (is_said spells contexts.Start (content line) p.0 p.1)
          (subst (λ (x : Reader). after_lines ls x (n + 1) (end + length line) ≡ Ok s) p.2 b.then_)
    ]

-- ---- the limits

within : (ls : List (List ℕ)) (r s : Reader) (n end : ℕ) → end ≤ 67108864 → n ≤ 1048577 → after_lines ls r n end ≡ Ok s → (end + total ls ≤ 67108864) × (n + length ls ≤ 1048577)
unfolding after_lines
within [] r s n end l m e = (omega arith, omega arith)
within (line ∷ ls) r s n end l m e =
    let b = goes (after_line r n (end + length line) line) (λ q. after_lines ls q (n + 1) (end + length line)) s e in
    let k = is_behind r b.next n (end + length line) line b.first in
    let rest = within ls b.next s (n + 1) (end + length line) k.bytes (omega (arith, k.lines)) b.then_ in
    (omega (arith, rest.0), omega (arith, rest.1))

pub length-map : (ls : List (List ℕ)) → length (map content ls) ≡ length ls
length-map [] = refl
length-map (l ∷ ls) = ap suc (length-map ls)

read_is : (r : Result Reader Bad) (s : Schedule) → read_schedule r ≡ Ok s → (q : Reader) × (r ≡ Ok q) × (record { cap = q.cap; bytes = q.bytes; lines = q.lines } ≡ s)
read_is (Ok q) s e = (q, refl, cc)
read_is (Err k) s e = absurd cc

pub read_is_schedule : ReadIsJson → (text : List ℕ) (s : Schedule) → schedule_of text ≡ Ok s → IsSchedule text s
unfolding schedule_of
read_is_schedule spells text s e =
    let r = read_is (after_lines (whole_lines text) at_start 1 0) s e in
    let w = within (whole_lines text) at_start r.0 1 0 (omega arith) (omega arith) r.1 in
    record {
      lines = map content (whole_lines text);
      are_lines = are_lines text;
      are_read = subst (λ (x : Schedule). IsRead (contents 1 (whole_lines text)) x) r.2 (starts spells (whole_lines text) r.0 1 0 r.1);
      few_bytes = omega (arith, w.0, total_is_length text);
      few_lines = omega (arith, w.1, length-map (whole_lines text));
    }
