-- All lines of a drill, and its text.
use Rattle.std.proofs.Common.{◌≡◌, ℕ, zero, suc, ◌+◌, ◌*◌, ◌/◌, ◌^◌, ◌<◌, ◌≤◌, List, [], ◌∷◌, ◌++◌, length, None, refl, sym, ap, ◌∙◌, subst, inl, inr, arith, append_assoc}
use Rattle.std.specs.Prelude.{codes, ◌==◌}
use Rattle.std.specs.Fmt.{decimal}
use Rattle.std.specs.Str.Parse.{digits_value}
use Rattle.std.proofs.lemmas.Bool.{cases_Bool}
use Rattle.std.proofs.lemmas.Fmt.{decimal_digit, decimal-digits_value}
use Rattle.std.proofs.lemmas.List.{length-append}
use Rattle.bson_value.specs.Digits.{digits}
use Rattle.bson_value.proofs.Digits.{digits-is_decimal}
use Rattle.extjson.proofs.Wholes.{own}
use Rattle.json_text.specs.Printing.{PrintIsJson}
use Rattle.schedule_model.specs.declared.line.Line.{Line}
use Rattle.schedule_model.specs.declared.line.Line.TheVariants as lines
use Rattle.schedule_text.specs.DrillText.{next, drawn, start, row_of, rows, creations, drill_text}
use Rattle.schedule_text.specs.Grammar.{AreLines, ended, IsCap, capped, IsSchedule}
use Rattle.schedule_text.specs.Laws.{SchedulesAreRead}
use Rattle.drill_schedule.specs.Drills.{create, creates, starts, drawn_line, places, drill}
use Rattle.drill_schedule.specs.Laws.{DrillsAreSchedules}
use Rattle.drill_schedule.proofs.Bytes.{plain_text, short_text, short_both, short_within, short_number}
use Rattle.drill_schedule.proofs.Counts.{lines_counted}
use Rattle.drill_schedule.proofs.Lines.{says_command, says_step, AreRows, no_rows, one_row, rows_lines, rows_steps, rows_bytes, rows_count}
use Rattle.drill_schedule.proofs.Rows.{named, is_name, IsLineOf, drawn_row}

-- the text has these lines of a schedule
record Has (text : List ℕ) (xs : List Line) : Type 0 where
  texts : List (List ℕ)
  rows : AreRows text texts xs

has_none : Has [] []
has_none = record { texts = []; rows = no_rows }

-- one line more in front
has_line : {text line : List ℕ} {x : Line} {xs : List Line} → IsLineOf line x → Has text xs → Has (line ++ text) (x ∷ xs)
has_line {text} {line} {x} {xs} l h =
    let e : l.bytes ++ 10 ∷ text ≡ line ++ text = sym (ap (λ (t : List ℕ). t ++ text) l.ends ∙ append_assoc l.bytes (10 ∷ []) text) in
    record { texts = l.bytes ∷ h.texts; rows = subst (λ (t : List ℕ). AreRows t (l.bytes ∷ h.texts) (x ∷ xs)) e (one_row l.row h.rows) }

dump_line : IsLineOf (codes "dump\n") lines.Dump
dump_line = record { bytes = codes "dump"; row = record { short = short_within (omega arith) (short_text (codes "dump") refl); some = λ p. cc; says = says_step refl }; ends = refl }

-- the start of the dump, where it stands here
has_start : {text : List ℕ} {xs : List Line} (n i : ℕ) → Has text xs → Has (start n i ++ text) (starts n i ++ xs)
has_start n i h =
    elim (cases_Bool (i == n / 2 + 1)) [
      | inl e ↦ rw e (has_line dump_line h)
      | inr e ↦ rw e h
    ]

module _ (json : PrintIsJson) (n : ℕ) (some : 1 ≤ n) (few : n ≤ 100000) where
  place_line : (i a b c : ℕ) → i ≤ n → IsLineOf (row_of n i a b c) (drawn_line n i a b c)
  place_line i a b c le = drawn_row json (drawn 4 b) (omega arith) (drawn 10 a) (drawn n c) i (omega (arith, some, few)) (omega (arith, le, few))

  has_places : (left i g : ℕ) → i + left ≤ n + 1 → Has (rows n left i g) (places n left i g)
  unfolding rows places
  has_places zero i g le = has_none
  has_places (suc left) i g le =
      let first = place_line i (next g) (next (next g)) (next (next (next g))) (omega (arith, le)) in
      let rest = has_places left (i + 1) (next (next (next g))) (omega (arith, le)) in
      subst (λ (t : List ℕ). Has t (places n (suc left) i g)) (sym (append_assoc (start n i) (row_of n i (next g) (next (next g)) (next (next (next g)))) (rows n left (i + 1) (next (next (next g)))))) (has_start n i (has_line first rest))

-- ---- the lines in front

create_line : (j : ℕ) → j ≤ 100000 → IsLineOf ((codes "create d.c" ++ decimal j) ++ codes "\n") (create j)
create_line j le = record {
  bytes = codes "create d.c" ++ decimal j;
  row = record {
    short = short_within (omega arith) (short_both (short_text (codes "create d.c") refl) (short_number j le));
    some = λ p. cc;
    says = says_command (inl ((named j, is_name j le, refl), refl));
  };
  ends = refl;
}

abbrev cap_line : List ℕ
cap_line = codes "oplog 1000000"

cap_digits : (n : ℕ) → n < 2 ^ 64 → digits_value 10 (codes "1000000") ≡ n → codes "1000000" ≡ digits n
cap_digits n l e =
    sym (digits-is_decimal n l ∙ ap decimal (sym e) ∙ decimal-digits_value own (codes "1000000") refl (omega arith) (λ p. absurd cc) (omega (arith, e, l)))

is_cap : IsCap cap_line 1000000 None
is_cap = (codes "1000000", (cap_digits 1000000 (omega arith) refl, omega arith, omega arith), refl)

abbrev creating : ℕ → List ℕ
creating j = (codes "create d.c" ++ decimal j) ++ codes "\n"

creations_are : (rest : List ℕ) → cap_line ++ 10 ∷ (creating 0 ++ (creating 1 ++ (creating 2 ++ (creating 3 ++ rest)))) ≡ creations ++ rest
creations_are rest = rw (decimal_digit 0 (omega arith), decimal_digit 1 (omega arith), decimal_digit 2 (omega arith), decimal_digit 3 (omega arith)) refl

has_creates : {text : List ℕ} {xs : List Line} → Has text xs → Has (creating 0 ++ (creating 1 ++ (creating 2 ++ (creating 3 ++ text)))) (creates ++ xs)
has_creates h = has_line (create_line 0 (omega arith)) (has_line (create_line 1 (omega arith)) (has_line (create_line 2 (omega arith)) (has_line (create_line 3 (omega arith)) h)))

-- ---- the schedule

drill_has : PrintIsJson → (n : ℕ) → 1 ≤ n → n ≤ 100000 → Has (creating 0 ++ (creating 1 ++ (creating 2 ++ (creating 3 ++ rows n n 1 n)))) (creates ++ places n n 1 n)
drill_has json n some few = has_creates (has_places json n some few n 1 n (omega arith))

drill_is : PrintIsJson → (n : ℕ) → 1 ≤ n → n ≤ 100000 → IsSchedule (drill_text n) (drill n)
unfolding drill_text drill
drill_is json n some few =
    let h = drill_has json n some few in
    let text : cap_line ++ 10 ∷ (creating 0 ++ (creating 1 ++ (creating 2 ++ (creating 3 ++ rows n n 1 n)))) ≡ drill_text n = creations_are (rows n n 1 n) in
    let bytes : length (drill_text n) ≤ 14 + 301 * length h.texts = omega (arith, ap length text, length-append cap_line (10 ∷ (creating 0 ++ (creating 1 ++ (creating 2 ++ (creating 3 ++ rows n n 1 n))))), rows_bytes h.rows) in
    let count : length h.texts ≡ n + 5 = rows_count h.rows ∙ lines_counted n some in
    record {
      lines = cap_line ∷ h.texts;
      are_lines = subst (λ (t : List ℕ). AreLines t (cap_line ∷ h.texts)) text (ended refl refl (rows_lines h.rows));
      are_read = capped (plain_text cap_line refl) is_cap (rows_steps 2 h.rows);
      few_bytes = omega (arith, bytes, count, few);
      few_lines = omega (arith, count, few);
    }

pub drill_read : PrintIsJson → SchedulesAreRead → DrillsAreSchedules
drill_read json read n some few = read (drill_text n) (drill n) (drill_is json n some few)
