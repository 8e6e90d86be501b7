-- The line of each action, and what it is in a schedule.
use Rattle.std.proofs.Common.{◌≡◌, ◌≢◌, ℕ, zero, suc, ◌+◌, ◌≤◌, Bool as Truth, true, false, eqb, ltb, List, [], ◌∷◌, ◌++◌, length, replicate, refl, sym, ap, ◌∙◌, arith, append_assoc}
use Rattle.std.specs.Prelude.{codes, Contains}
use Rattle.std.specs.Fmt.{decimal}
use Rattle.std.specs.Str.{bytes_eq}
use Rattle.std.proofs.lemmas.Fmt.{decimal_digit}
use Rattle.std.proofs.lemmas.List.{append-nil}
use Rattle.containers.specs.Entries.{without}
use Rattle.bson_value.specs.Digits.{digits, digits_in}
use Rattle.bson_value.specs.declared.value.Value.TheVariants as values
use Rattle.json_text.specs.Print.{escaped, quoted}
use Rattle.json_text.specs.Printing.{PrintIsJson}
use Rattle.extjson.specs.Values.{has_wrapper}
use Rattle.extjson.specs.Wrappers.{wrapper_of, outermost_names}
use Rattle.schedule_model.specs.declared.command.DocumentCommand.TheVariants as documents
use Rattle.schedule_model.specs.declared.line.Line.{Line}
use Rattle.schedule_text.specs.DrillText.{joined, action_of, row}
use Rattle.schedule_text.specs.Grammar.{IsName, IsNumber, IsDocumentCommand, two}
use Rattle.drill_schedule.specs.Drills.{collection, int, alone, stored, insert, update, replace, delete, copy, line_of}
use Rattle.drill_schedule.proofs.Bytes.{ArePlain, digits_lack, IsShort, short_none, short_text, short_both, short_within, short_number}
use Rattle.drill_schedule.proofs.Spellings.{label, Spells, number, string, no_items, one_item, no_fields, field, object, differ, document}
use Rattle.drill_schedule.proofs.Lines.{Says, says_change, says_step, IsRow}

-- ---- names

no_dot : Contains (codes "d") 46 → ⊥
no_dot (zero, lt, e) = absurd (omega (arith, e))
no_dot (suc i, lt, e) = absurd (omega (arith, lt))

abbrev pub named : ℕ → List ℕ
named j = codes "d.c" ++ decimal j

pub is_name : (j : ℕ) → j ≤ 100000 → IsName (named j) (collection j)
is_name j le = (((λ p. cc), digits_lack 32 j (omega arith) le), record { joined = refl; first_dot = no_dot; some_db = λ p. cc; some_coll = λ p. cc })

-- ---- documents

abbrev x_pieces : List ℕ → List (List ℕ)
x_pieces n = (123 ∷ label (codes "x")) ∷ n ∷ codes "}" ∷ []

x_spelled : (n : ℕ) → n ≤ 100000 → Spells 1 (x_pieces (decimal n)) (values.Object (alone (codes "x") (int n)))
unfolding has_wrapper wrapper_of outermost_names
x_spelled n le = object (codes "x") refl (number n le) no_fields (tt, tt) refl

abbrev inserted : List ℕ → List ℕ → List (List ℕ)
inserted k i = (123 ∷ label (codes "_id")) ∷ k ∷ (44 ∷ label (codes "a")) ∷ codes "[" ∷ i ∷ codes "]" ∷ (44 ∷ label (codes "b")) ∷ (x_pieces i ++ (44 ∷ label (codes "p")) ∷ quoted (replicate 100 120) ∷ codes "}" ∷ [])

inserted_spelled : (k i : ℕ) → k ≤ 100000 → i ≤ 100000 → Spells 2 (inserted (decimal k) (decimal i)) (values.Object (stored k (int i ∷ []) i (alone (codes "p") (values.Str (replicate 100 120)))))
unfolding has_wrapper wrapper_of outermost_names
inserted_spelled k i lk li =
    object (codes "_id") refl (number k lk)
    (field (codes "a") refl (one_item (number i li)) (field (codes "b") refl (x_spelled i li) (field (codes "p") refl (string (replicate 100 120) refl) no_fields)))
    ((differ _ _ refl, (differ _ _ refl, (differ _ _ refl, tt))), ((differ _ _ refl, (differ _ _ refl, tt)), ((differ _ _ refl, tt), (tt, tt))))
    refl

abbrev replacing : List ℕ → List ℕ → List (List ℕ)
replacing k n = (123 ∷ label (codes "_id")) ∷ k ∷ (44 ∷ label (codes "a")) ∷ codes "[]" ∷ (44 ∷ label (codes "b")) ∷ (x_pieces n ++ codes "}" ∷ [])

replacing_spelled : (k : ℕ) → k ≤ 100000 → Spells 2 (replacing (decimal k) (decimal 0)) (values.Object (stored k [] 0 []))
unfolding has_wrapper wrapper_of outermost_names
replacing_spelled k lk =
    object (codes "_id") refl (number k lk) (field (codes "a") refl no_items (field (codes "b") refl (x_spelled 0 (omega arith)) no_fields))
    ((differ _ _ refl, (differ _ _ refl, tt)), ((differ _ _ refl, tt), (tt, tt))) refl

-- an operator on one field of the document k
abbrev updating : List ℕ → List ℕ → List ℕ → List ℕ → List (List ℕ)
updating operator name k n = (123 ∷ label (codes "_id")) ∷ k ∷ (44 ∷ label operator) ∷ (123 ∷ label name) ∷ n ∷ codes "}" ∷ codes "}" ∷ []

-- names of an operator and a field, neither of which begins a wrapper
record AreOperands (operator name : List ℕ) : Type 0 where
  plain_operator : ArePlain operator
  plain_name : ArePlain name
  no_id : bytes_eq operator (codes "_id") ≡ false
  is_no_id : bytes_eq (codes "_id") operator ≡ false
  no_wrapper : has_wrapper ((codes "_id", int 0) ∷ alone operator (int 0)) ≡ false
  no_wrapper_name : has_wrapper (alone name (int 0)) ≡ false

updating_spelled : (operator name : List ℕ) → AreOperands operator name → (k n : ℕ) → k ≤ 100000 → n ≤ 100000
    → Spells 2 (updating operator name (decimal k) (decimal n)) (values.Object ((codes "_id", int k) ∷ alone operator (values.Object (alone name (int n)))))
unfolding has_wrapper
updating_spelled operator name o k n lk ln =
    object (codes "_id") refl (number k lk) (field operator o.plain_operator (object name o.plain_name (number n ln) no_fields (tt, tt) o.no_wrapper_name) no_fields)
    ((differ _ _ o.is_no_id, tt), (tt, tt)) o.no_wrapper

abbrev deleting : List ℕ → List (List ℕ)
deleting k = (123 ∷ label (codes "_id")) ∷ k ∷ codes "}" ∷ []

deleting_spelled : (k : ℕ) → k ≤ 100000 → Spells 1 (deleting (decimal k)) (values.Object (alone (codes "_id") (int k)))
unfolding has_wrapper wrapper_of outermost_names
deleting_spelled k lk = object (codes "_id") refl (number k lk) no_fields (tt, tt) refl

-- ---- lines

-- the text is a line, ended, and the line is this one of a schedule
pub record IsLineOf (text : List ℕ) (x : Line) : Type 0 where
  pub bytes : List ℕ
  pub row : IsRow bytes x
  pub ends : text ≡ bytes ++ 10 ∷ []

ends_last : (ps : List (List ℕ)) (last : List ℕ) → joined (ps ++ (last ++ 10 ∷ []) ∷ []) ≡ joined (ps ++ last ∷ []) ++ 10 ∷ []
ends_last [] last = append-nil (last ++ 10 ∷ []) ∙ ap (λ (t : List ℕ). t ++ 10 ∷ []) (sym (append-nil last))
ends_last (p ∷ ps) last = ap (λ (t : List ℕ). p ++ t) (ends_last ps last) ∙ sym (append_assoc p (joined (ps ++ last ∷ [])) (10 ∷ []))

-- a line whose last piece ends it
pub line_from : {most : ℕ} {x : Line} (ps : List (List ℕ)) (last : List ℕ) → most ≤ 300 → IsShort most (joined (ps ++ last ∷ [])) → joined (ps ++ last ∷ []) ≢ [] → Says (joined (ps ++ last ∷ [])) x → IsLineOf (joined (ps ++ (last ++ 10 ∷ []) ∷ [])) x
line_from ps last le short some says = record { bytes = joined (ps ++ last ∷ []); row = record { short = short_within le short; some = some; says = says }; ends = ends_last ps last }

-- the text of a piece, and what stands behind it
short_piece : {n : ℕ} {rest : List ℕ} (t : List ℕ) → ArePlain t → IsShort n rest → IsShort (length t + n) (t ++ rest)
short_piece t h g = short_both (short_text t h) g

module _ (json : PrintIsJson) (j : ℕ) (lj : j ≤ 100000) where
  -- the pieces up to the `_id`
  abbrev front : List ℕ → List ℕ → List (List ℕ) → List (List ℕ)
  front verb k rest = verb ∷ decimal j ∷ codes " {\"_id\":" ∷ k ∷ rest

  short_front : {n : ℕ} {rest : List ℕ} (verb : List ℕ) → ArePlain verb → (k : ℕ) → k ≤ 100000 → IsShort n rest → IsShort (length verb + (6 + (8 + (6 + n)))) (verb ++ (decimal j ++ (codes " {\"_id\":" ++ (decimal k ++ rest))))
  short_front verb h k lk g = short_piece verb h (short_both (short_number j lj) (short_piece (codes " {\"_id\":") refl (short_both (short_number k lk) g)))

  -- ---- insert

  insert_text : (k i : List ℕ)
      → joined (front (codes "insert d.c") k (codes ",\"a\":[" ∷ i ∷ codes "],\"b\":{\"x\":" ∷ i ∷ codes "},\"p\":\"" ∷ replicate 100 120 ∷ codes "\"}" ∷ [])) ≡ two (codes "insert") (named j) (joined (inserted k i))
  unfolding escaped
  insert_text k i = refl

  insert_line : (k i : ℕ) → k ≤ 100000 → i ≤ 100000 → IsLineOf (row (action_of 0) j k i) (insert j k i)
  insert_line k i lk li =
      let padded = short_piece (codes "},\"p\":\"") refl (short_piece (replicate 100 120) refl (short_piece (codes "\"}") refl short_none)) in
      let counted = short_piece (codes ",\"a\":[") refl (short_both (short_number i li) (short_piece (codes "],\"b\":{\"x\":") refl (short_both (short_number i li) padded))) in
      line_from (front (codes "insert d.c") (decimal k) (codes ",\"a\":[" ∷ decimal i ∷ codes "],\"b\":{\"x\":" ∷ decimal i ∷ codes "},\"p\":\"" ∷ replicate 100 120 ∷ [])) (codes "\"}") (omega arith)
      (short_front (codes "insert d.c") refl k lk counted) (λ p. cc)
      (says_change (named j, joined (inserted (decimal k) (decimal i)), is_name j lj, document json (omega arith) (inserted_spelled k i lk li), insert_text (decimal k) (decimal i)))

  -- ---- update

  update_said : (bytes operator name : List ℕ) → AreOperands operator name → (k n : ℕ) → k ≤ 100000 → n ≤ 100000 → bytes ≡ two (codes "update") (named j) (joined (updating operator name (decimal k) (decimal n)))
      → IsDocumentCommand bytes (documents.Update (collection j) (int k) (alone operator (values.Object (alone name (int n)))))
  update_said bytes operator name o k n lk ln e =
      let others : without (codes "_id") ((codes "_id", int k) ∷ alone operator (values.Object (alone name (int n)))) ≡ alone operator (values.Object (alone name (int n))) = rw o.no_id refl in
      (named j, joined (updating operator name (decimal k) (decimal n)), is_name j lj, (_, document json (omega arith) (updating_spelled operator name o k n lk ln), refl, others), e)

  set_operands : AreOperands (codes "$set") (codes "b.x")
  unfolding has_wrapper wrapper_of outermost_names
  set_operands = record { plain_operator = refl; plain_name = refl; no_id = refl; is_no_id = refl; no_wrapper = refl; no_wrapper_name = refl }

  push_operands : AreOperands (codes "$push") (codes "a")
  unfolding has_wrapper wrapper_of outermost_names
  push_operands = record { plain_operator = refl; plain_name = refl; no_id = refl; is_no_id = refl; no_wrapper = refl; no_wrapper_name = refl }

  pop_operands : AreOperands (codes "$pop") (codes "a")
  unfolding has_wrapper wrapper_of outermost_names
  pop_operands = record { plain_operator = refl; plain_name = refl; no_id = refl; is_no_id = refl; no_wrapper = refl; no_wrapper_name = refl }

  set_text : (k i : List ℕ) → joined (front (codes "update d.c") k (codes ",\"$set\":{\"b.x\":" ∷ i ∷ codes "}}" ∷ [])) ≡ two (codes "update") (named j) (joined (updating (codes "$set") (codes "b.x") k i))
  unfolding escaped
  set_text k i = refl

  push_text : (k i : List ℕ) → joined (front (codes "update d.c") k (codes ",\"$push\":{\"a\":" ∷ i ∷ codes "}}" ∷ [])) ≡ two (codes "update") (named j) (joined (updating (codes "$push") (codes "a") k i))
  unfolding escaped
  push_text k i = refl

  pop_text : (k n : List ℕ) → n ≡ codes "1" → joined (front (codes "update d.c") k (codes ",\"$pop\":{\"a\":1}}" ∷ [])) ≡ two (codes "update") (named j) (joined (updating (codes "$pop") (codes "a") k n))
  unfolding escaped
  pop_text k n e = rw e refl

  set_line : (k i : ℕ) → k ≤ 100000 → i ≤ 100000 → IsLineOf (row (action_of 4) j k i) (update j k (codes "$set") (codes "b.x") i)
  set_line k i lk li =
      line_from (front (codes "update d.c") (decimal k) (codes ",\"$set\":{\"b.x\":" ∷ decimal i ∷ [])) (codes "}}") (omega arith)
      (short_front (codes "update d.c") refl k lk (short_piece (codes ",\"$set\":{\"b.x\":") refl (short_both (short_number i li) (short_piece (codes "}}") refl short_none)))) (λ p. cc)
      (says_change (update_said _ (codes "$set") (codes "b.x") set_operands k i lk li (set_text (decimal k) (decimal i))))

  push_line : (k i : ℕ) → k ≤ 100000 → i ≤ 100000 → IsLineOf (row (action_of 5) j k i) (update j k (codes "$push") (codes "a") i)
  push_line k i lk li =
      line_from (front (codes "update d.c") (decimal k) (codes ",\"$push\":{\"a\":" ∷ decimal i ∷ [])) (codes "}}") (omega arith)
      (short_front (codes "update d.c") refl k lk (short_piece (codes ",\"$push\":{\"a\":") refl (short_both (short_number i li) (short_piece (codes "}}") refl short_none)))) (λ p. cc)
      (says_change (update_said _ (codes "$push") (codes "a") push_operands k i lk li (push_text (decimal k) (decimal i))))

  pop_line : (k i : ℕ) → k ≤ 100000 → IsLineOf (row (action_of 6) j k i) (update j k (codes "$pop") (codes "a") 1)
  pop_line k i lk =
      line_from (front (codes "update d.c") (decimal k) []) (codes ",\"$pop\":{\"a\":1}}") (omega arith)
      (short_front (codes "update d.c") refl k lk (short_piece (codes ",\"$pop\":{\"a\":1}}") refl short_none)) (λ p. cc)
      (says_change (update_said _ (codes "$pop") (codes "a") pop_operands k 1 lk (omega arith) (pop_text (decimal k) (decimal 1) (decimal_digit 1 (omega arith)))))

  -- ---- replace, delete and copy

  replace_text : (k n : List ℕ) → n ≡ codes "0" → joined (front (codes "replace d.c") k (codes ",\"a\":[],\"b\":{\"x\":0}}" ∷ [])) ≡ two (codes "replace") (named j) (joined (replacing k n))
  unfolding escaped
  replace_text k n e = rw e refl

  replace_line : (k i : ℕ) → k ≤ 100000 → IsLineOf (row (action_of 7) j k i) (replace j k)
  replace_line k i lk =
      line_from (front (codes "replace d.c") (decimal k) []) (codes ",\"a\":[],\"b\":{\"x\":0}}") (omega arith)
      (short_front (codes "replace d.c") refl k lk (short_piece (codes ",\"a\":[],\"b\":{\"x\":0}}") refl short_none)) (λ p. cc)
      (says_change (named j, joined (replacing (decimal k) (decimal 0)), is_name j lj, document json (omega arith) (replacing_spelled k lk), replace_text (decimal k) (decimal 0) (decimal_digit 0 (omega arith))))

  delete_text : (k : List ℕ) → joined (front (codes "delete d.c") k (codes "}" ∷ [])) ≡ two (codes "delete") (named j) (joined (deleting k))
  unfolding escaped
  delete_text k = refl

  delete_line : (k i : ℕ) → k ≤ 100000 → IsLineOf (row (action_of 8) j k i) (delete j k)
  delete_line k i lk =
      line_from (front (codes "delete d.c") (decimal k) []) (codes "}") (omega arith) (short_front (codes "delete d.c") refl k lk (short_piece (codes "}") refl short_none)) (λ p. cc)
      (says_change (named j, joined (deleting (decimal k)), is_name j lj, (_, document json (omega arith) (deleting_spelled k lk), refl, refl), delete_text (decimal k)))

  seven : IsNumber 1 1000000 (codes "7") 7
  unfolding digits digits_in
  seven = (refl, omega arith, omega arith)

  copy_line : (k i : ℕ) → IsLineOf (row (action_of 9) j k i) (copy j)
  copy_line k i =
      line_from (codes "copy d.c" ∷ decimal j ∷ []) (codes " 7") (omega arith) (short_piece (codes "copy d.c") refl (short_both (short_number j lj) (short_piece (codes " 7") refl short_none))) (λ p. cc)
      (says_step (named j, codes "7", is_name j lj, seven, refl))

  -- ---- each draw

  pub drawn_row : (t k i : ℕ) → k ≤ 100000 → i ≤ 100000 → IsLineOf (row (action_of t) j k i) (line_of t j k i)
  drawn_row t k i lk li = by (ltb t 4) (eqb t 4) (eqb t 5) (eqb t 6) (eqb t 7) (eqb t 8) refl refl refl refl refl refl
    where
      by : (a b c d e f : Truth) → ltb t 4 ≡ a → eqb t 4 ≡ b → eqb t 5 ≡ c → eqb t 6 ≡ d → eqb t 7 ≡ e → eqb t 8 ≡ f → IsLineOf (row (action_of t) j k i) (line_of t j k i)
      by true b c d e f p q r s u v = rw p (insert_line k i lk li)
      by false true c d e f p q r s u v = rw (p, q) (set_line k i lk li)
      by false false true d e f p q r s u v = rw (p, q, r) (push_line k i lk li)
      by false false false true e f p q r s u v = rw (p, q, r, s) (pop_line k i lk)
      by false false false false true f p q r s u v = rw (p, q, r, s, u) (replace_line k i lk)
      by false false false false false true p q r s u v = rw (p, q, r, s, u, v) (delete_line k i lk)
      by false false false false false false p q r s u v = rw (p, q, r, s, u, v) (copy_line k i)
