-- Lines and their ends, both ways.
use Rattle.std.proofs.Common.{◌≡◌, ℕ, zero, suc, ◌+◌, ◌-◌, ◌<◌, ◌≤◌, true, false, List, [], ◌∷◌, ◌++◌, length, take, drop, refl, sym, ap, ◌∙◌, arith, inl, inr, subst, length-append, append_assoc, append-nil, eqb-true, eq-eqb}
use Rattle.std.specs.Prelude.{◌==◌, ◌≢◌, Bool, if◌then◌else◌, not, nat_lt, map, slice_index, position, Option, Some, None}
use Rattle.std.specs.List.{position_or_len, before_first, after_first}
use Rattle.std.proofs.lemmas.Bool.{cases_Bool}
use Rattle.std.proofs.lemmas.Bool.Decides.{nat_tests}
use Rattle.std.proofs.lemmas.List.{take_at, drop_at, get_or_at}
use Rattle.std.proofs.lemmas.List.Folds.{list_all-append, length-prefix_len}
use Rattle.std.proofs.lemmas.List.Sums.{position_or_len_is}
use Rattle.memchr.specs.Find.{IsFirstByte, Passes}
use Rattle.schedule_text.specs.Lines.{onto_first, begun, whole_lines, EndsAt, front, ends_with, without_return, content}
use Rattle.schedule_text.specs.Words.{lacks}
use Rattle.schedule_text.specs.Grammar.{AreLines, no_lines, last_line, ended, returned}
use Rattle.schedule_text.proofs.Cuts.{is, both, not_true, none_first, lacks_before, sides}

append_one : (xs : List ℕ) (c : ℕ) (ys : List ℕ) → xs ++ c ∷ ys ≡ (xs ++ c ∷ []) ++ ys
append_one [] c ys = refl
append_one (x ∷ xs) c ys = ap (λ (l : List ℕ). x ∷ l) (append_one xs c ys)

-- ---- the last byte of a line

last_index : (w : List ℕ) (c : ℕ) → length (w ++ c ∷ []) - 1 ≡ length w
last_index w c = omega (arith, length-append w (c ∷ []))

pub ends_itself : (c : ℕ) (w : List ℕ) → ends_with c (w ++ c ∷ []) ≡ true
ends_itself c w = rw (last_index w c, get_or_at w c [] 0 (length w) refl) (eq-eqb c c refl)

pub front_is : (c : ℕ) (w : List ℕ) → front (w ++ c ∷ []) ≡ w
front_is c w = rw (last_index w c) (take_at w (c ∷ []) (length w) refl)

behind_first : (c b d : ℕ) (w : List ℕ) → ends_with c (b ∷ d ∷ w) ≡ ends_with c (d ∷ w)
behind_first c b d w =
    let i : length (b ∷ d ∷ w) - 1 ≡ suc (length (d ∷ w) - 1) = omega arith in
    ap (λ (k : ℕ). slice_index (b ∷ d ∷ w) k == c) i

front_first : (b d : ℕ) (w : List ℕ) → front (b ∷ d ∷ w) ≡ b ∷ front (d ∷ w)
front_first b d w =
    let i : length (b ∷ d ∷ w) - 1 ≡ suc (length (d ∷ w) - 1) = omega arith in
    ap (λ (k : ℕ). take k (b ∷ d ∷ w)) i

-- a line that has no such byte doesn't end with one
pub lacks_last : (c : ℕ) (w : List ℕ) → w ≢ [] → lacks c w ≡ true → ends_with c w ≡ false
lacks_last c [] n e = absurd (n refl)
lacks_last c (b ∷ []) n e = not_true (b == c) (both (not (b == c)) true e).0
lacks_last c (b ∷ d ∷ w) n e = behind_first c b d w ∙ lacks_last c (d ∷ w) (λ x. cc) (both (not (b == c)) (lacks c (d ∷ w)) e).1

-- what ends with a byte is what stands before it, and that byte
pub is_ended : (c : ℕ) (w : List ℕ) → 0 < c → ends_with c w ≡ true → w ≡ front w ++ c ∷ []
is_ended c [] l e = let z : 0 ≡ c = eqb-true 0 c e in absurd (omega arith)
is_ended c (b ∷ []) l e = ap (λ (x : ℕ). x ∷ []) (eqb-true b c e)
is_ended c (b ∷ d ∷ w) l e =
    ap (λ (x : List ℕ). b ∷ x) (is_ended c (d ∷ w) l (sym (behind_first c b d w) ∙ e)) ∙ ap (λ (x : List ℕ). x ++ c ∷ []) (sym (front_first b d w))

-- ---- the first line

pub first_ended : (w rest : List ℕ) → lacks 10 w ≡ true → whole_lines (w ++ 10 ∷ rest) ≡ (w ++ 10 ∷ []) ∷ whole_lines rest
unfolding whole_lines
first_ended [] rest e = refl
first_ended (b ∷ w) rest e =
    let p = both (not (b == 10)) (lacks 10 w) e in
    let f : (b == 10) ≡ false = not_true (b == 10) p.0 in
    rw (first_ended w rest p.1, f) refl

pub only_line : (w : List ℕ) → w ≢ [] → lacks 10 w ≡ true → whole_lines w ≡ w ∷ []
unfolding whole_lines
only_line [] n e = absurd (n refl)
only_line (b ∷ []) n e =
    let p = both (not (b == 10)) true e in
    let f : (b == 10) ≡ false = not_true (b == 10) p.0 in rw f refl
only_line (b ∷ d ∷ w) n e =
    let p = both (not (b == 10)) (lacks 10 (d ∷ w)) e in
    let f : (b == 10) ≡ false = not_true (b == 10) p.0 in
    rw (only_line (d ∷ w) (λ x. cc) p.1, f) refl

-- ---- what lines hold

lacks_more : (c d : ℕ) (w : List ℕ) → lacks c w ≡ true → (d == c) ≡ false → lacks c (w ++ d ∷ []) ≡ true
lacks_more c d w e f = rw (list_all-append (λ b. not (b == c)) w (d ∷ []), e, f) refl

content_ended : (w : List ℕ) → content (w ++ 10 ∷ []) ≡ without_return w
content_ended w = rw (ends_itself 10 w, front_is 10 w) refl

pub lines_are_read : {text : List ℕ} {lines : List (List ℕ)} → AreLines text lines → map content (whole_lines text) ≡ lines
unfolding whole_lines
lines_are_read no_lines = refl
lines_are_read (last_line {line} n e) = rw (only_line line n e, lacks_last 10 line n e) refl
lines_are_read (ended {line} {text} {lines} e f rest) = rw (first_ended line text e, content_ended line, f, lines_are_read rest) refl
lines_are_read (returned {line} {text} {lines} e rest) =
    rw (append_one line 13 (10 ∷ text), first_ended (line ++ 13 ∷ []) text (lacks_more 10 13 line e refl), content_ended (line ++ 13 ∷ []), ends_itself 13 line, front_is 13 line, lines_are_read rest) refl

-- ---- the lines of a text

-- a line feed stands behind the first line, or the text is one line
pub record IsFirst (text : List ℕ) : Type 0 where
  pub line : List ℕ
  pub rest : List ℕ
  pub joined : text ≡ line ++ 10 ∷ rest
  pub lacks_feed : lacks 10 line ≡ true

first_line_of : (text : List ℕ) → position_or_len (is 10) text < length text → IsFirst text
first_line_of text h = record { line = before_first (is 10) text; rest = after_first (is 10) text; joined = sides 10 text h; lacks_feed = lacks_before 10 text }

lacks_front : (w : List ℕ) → lacks 10 (w ++ 13 ∷ []) ≡ true → lacks 10 w ≡ true
lacks_front w e = let q = sym (list_all-append (λ b. not (b == 10)) w (13 ∷ [])) ∙ e in (both (lacks 10 w) (lacks 10 (13 ∷ [])) q).0

ended_line : (line rest : List ℕ) (lines : List (List ℕ)) → lacks 10 line ≡ true → AreLines rest lines → AreLines (line ++ 10 ∷ rest) (without_return line ∷ lines)
ended_line line rest lines e r =
    elim (cases_Bool (ends_with 13 line)) [
      | inl t ↦ let s = is_ended 13 line (omega arith) t in
          let l : lacks 10 (front line) ≡ true = lacks_front (front line) (subst (λ (x : List ℕ). lacks 10 x ≡ true) s e) in
          let text : front line ++ 13 ∷ 10 ∷ rest ≡ line ++ 10 ∷ rest = append_one (front line) 13 (10 ∷ rest) ∙ ap (λ (x : List ℕ). x ++ 10 ∷ rest) (sym s) in
          rw t (subst (λ (x : List ℕ). AreLines x (front line ∷ lines)) text (returned l r))
      | inr f ↦ rw f (ended e f r)
    ]

lines_within : (k : ℕ) (text : List ℕ) → length text ≤ k → AreLines text (map content (whole_lines text))
unfolding whole_lines
lines_within k [] h = no_lines
lines_within zero (b ∷ text) h = absurd (omega arith)
lines_within (suc k) (b ∷ text) h =
    elim (cases_Bool (nat_lt (position_or_len (is 10) (b ∷ text)) (length (b ∷ text)))) [
      | inl t ↦ let l : position_or_len (is 10) (b ∷ text) < length (b ∷ text) = grind (arith, nat_tests) in
          let f = first_line_of (b ∷ text) l in
          let short : length f.rest ≤ k = omega (arith, ap length f.joined, length-append f.line (10 ∷ f.rest)) in
          let whole : map content (whole_lines (b ∷ text)) ≡ without_return f.line ∷ map content (whole_lines f.rest) =
          ap (λ (x : List ℕ). map content (whole_lines x)) f.joined ∙ (ap (λ (x : List (List ℕ)). map content x) (first_ended f.line f.rest f.lacks_feed) ∙ ap (λ (x : List ℕ). x ∷ map content (whole_lines f.rest)) (content_ended f.line)) in
          subst (λ (x : List (List ℕ)). AreLines (b ∷ text) x) (sym whole) (subst (λ (x : List ℕ). AreLines x (without_return f.line ∷ map content (whole_lines f.rest))) (sym f.joined) (ended_line f.line f.rest (map content (whole_lines f.rest)) f.lacks_feed (lines_within k f.rest short)))
      | inr t ↦ let l : length (b ∷ text) ≤ position_or_len (is 10) (b ∷ text) = grind (arith, nat_tests) in
          let e = none_first 10 (b ∷ text) l in
          let some : b ∷ text ≢ [] = λ x. cc in
          let whole : map content (whole_lines (b ∷ text)) ≡ (b ∷ text) ∷ [] =
          ap (λ (x : List (List ℕ)). map content x) (only_line (b ∷ text) some e) ∙ (rw (lacks_last 10 (b ∷ text) some e) refl) in
          subst (λ (x : List (List ℕ)). AreLines (b ∷ text) x) (sym whole) (last_line some e)
    ]

pub are_lines : (text : List ℕ) → AreLines text (map content (whole_lines text))
are_lines text = lines_within (length text) text (omega arith)

-- ---- their lengths

abbrev pub total : List (List ℕ) → ℕ
total [] = 0
total (line ∷ lines) = length line + total lines

total_first : (b : ℕ) (lines : List (List ℕ)) → total (onto_first b lines) ≡ suc (total lines)
total_first b [] = refl
total_first b (line ∷ lines) = let e : suc (length line) + total lines ≡ suc (length line + total lines) = omega arith in e

total_onto : (b : ℕ) (lines : List (List ℕ)) → total (begun b lines) ≡ suc (total lines)
total_onto b lines =
    elim (cases_Bool (b == 10)) [
      | inl t ↦ let e : 1 + total lines ≡ suc (total lines) = omega arith in rw t e
      | inr f ↦ rw f (total_first b lines)
    ]

pub total_is_length : (text : List ℕ) → total (whole_lines text) ≡ length text
unfolding whole_lines
total_is_length [] = refl
total_is_length (b ∷ text) = total_onto b (whole_lines text) ∙ ap suc (total_is_length text)

-- ---- the first line of a text, by the place of its line feed

position_is : (bytes : List ℕ) (at : ℕ) → position (is 10) bytes ≡ Some at → (position_or_len (is 10) bytes ≡ at) × (at < length bytes)
position_is bytes at e =
    elim (cases_Bool (nat_lt (position_or_len (is 10) bytes) (length bytes))) [
      | inl t ↦ let f = rw t at e in let p : position_or_len (is 10) bytes ≡ at = cc in
          let l : position_or_len (is 10) bytes < length bytes = grind (arith, nat_tests) in (p, omega arith)
      | inr t ↦ let f = rw t at e in absurd cc
    ]

pub ends_at : (bytes : List ℕ) (at : ℕ) → position (is 10) bytes ≡ Some at → EndsAt (at + 1) bytes
ends_at bytes at e =
    let p = position_is bytes at e in
    record {
      line = before_first (is 10) bytes;
      rest = after_first (is 10) bytes;
      joined = sides 10 bytes (omega (arith, p.0, p.1));
      lacks_feed = lacks_before 10 bytes;
      end_is = omega (arith, p.0, length-prefix_len (λ b. not (is 10 b)) bytes);
    }

pub ends_nowhere : (bytes : List ℕ) → position (is 10) bytes ≡ None → lacks 10 bytes ≡ true
ends_nowhere bytes e =
    elim (cases_Bool (nat_lt (position_or_len (is 10) bytes) (length bytes))) [
      | inl t ↦ let f = rw t at e in absurd cc
      | inr t ↦ let l : length bytes ≤ position_or_len (is 10) bytes = grind (arith, nat_tests) in none_first 10 bytes l
    ]

pub end_within : (end : ℕ) (bytes : List ℕ) → EndsAt end bytes → end ≤ length bytes
end_within end bytes k = omega (arith, k.end_is, ap length k.joined, length-append k.line (10 ∷ k.rest))

-- the line and what is behind it
pub cut_line : (end : ℕ) (bytes : List ℕ) (k : EndsAt end bytes) → (take end bytes ≡ k.line ++ 10 ∷ []) × (drop end bytes ≡ k.rest)
cut_line end bytes k =
    let j : bytes ≡ (k.line ++ 10 ∷ []) ++ k.rest = k.joined ∙ append_one k.line 10 k.rest in
    let n : length (k.line ++ 10 ∷ []) ≡ end = omega (arith, k.end_is, length-append k.line (10 ∷ [])) in
    (ap (λ (x : List ℕ). take end x) j ∙ take_at (k.line ++ 10 ∷ []) k.rest end n, ap (λ (x : List ℕ). drop end x) j ∙ drop_at (k.line ++ 10 ∷ []) k.rest end n)

-- whatever comes behind the bytes
pub first_cut : (end : ℕ) (bytes more : List ℕ) → EndsAt end bytes → whole_lines (bytes ++ more) ≡ take end bytes ∷ whole_lines (drop end bytes ++ more)
first_cut end bytes more k =
    let c = cut_line end bytes k in
    let j : bytes ++ more ≡ k.line ++ 10 ∷ (k.rest ++ more) = ap (λ (x : List ℕ). x ++ more) k.joined ∙ append_assoc k.line (10 ∷ k.rest) more in
    ap whole_lines j
    ∙ (first_ended k.line (k.rest ++ more) k.lacks_feed
    ∙ (ap (λ (x : List ℕ). x ∷ whole_lines (k.rest ++ more)) (sym c.0) ∙ ap (λ (x : List ℕ). take end bytes ∷ whole_lines (x ++ more)) (sym c.1)))

pub first_line_cut : (end : ℕ) (bytes : List ℕ) → EndsAt end bytes → whole_lines bytes ≡ take end bytes ∷ whole_lines (drop end bytes)
first_line_cut end bytes k =
    ap whole_lines (sym (append-nil bytes)) ∙ (first_cut end bytes [] k ∙ ap (λ (x : List ℕ). take end bytes ∷ whole_lines x) (append-nil (drop end bytes)))

-- the only line
pub no_feed : (bytes : List ℕ) → lacks 10 bytes ≡ true → 0 < length bytes → whole_lines bytes ≡ take (length bytes) bytes ∷ whole_lines (drop (length bytes) bytes)
unfolding whole_lines
no_feed bytes e h =
    let some : bytes ≢ [] = λ x. let z : length bytes ≡ 0 = ap length x in omega (arith, z, h) in
    rw (take_all bytes, drop_all bytes) (only_line bytes some e)
  where
    take_all : (xs : List ℕ) → take (length xs) xs ≡ xs
    take_all [] = refl
    take_all (x ∷ xs) = ap (λ (l : List ℕ). x ∷ l) (take_all xs)

    drop_all : (xs : List ℕ) → drop (length xs) xs ≡ []
    drop_all [] = refl
    drop_all (x ∷ xs) = drop_all xs

-- a line that isn't ended begins the first line, whatever comes behind it
pub record BeginsFirst (w text : List ℕ) : Type 0 where
  pub more : List ℕ
  pub others : List (List ℕ)
  pub lines : whole_lines text ≡ (w ++ more) ∷ others

onto : (b : ℕ) (lines : List (List ℕ)) → (more : List ℕ) × (others : List (List ℕ)) × (onto_first b lines ≡ (b ∷ more) ∷ others)
onto b [] = ([], [], refl)
onto b (line ∷ lines) = (line, lines, refl)

begun_other : (b : ℕ) (lines : List (List ℕ)) → (b == 10) ≡ false → begun b lines ≡ onto_first b lines
begun_other b lines e = ap (λ (x : Bool). if x then (b ∷ []) ∷ lines else onto_first b lines) e

pub begins_first : (w more : List ℕ) → w ≢ [] → lacks 10 w ≡ true → BeginsFirst w (w ++ more)
unfolding whole_lines
begins_first [] more n e = absurd (n refl)
begins_first (b ∷ []) more n e =
    let f = not_true (b == 10) (both (not (b == 10)) true e).0 in
    let o = onto b (whole_lines more) in
    record { more = o.0; others = o.1; lines = begun_other b (whole_lines more) f ∙ o.2 }
begins_first (b ∷ d ∷ w) more n e =
    let p = both (not (b == 10)) (lacks 10 (d ∷ w)) e in
    let f = not_true (b == 10) p.0 in
    let k = begins_first (d ∷ w) more (λ x. cc) p.1 in
    record { more = k.more; others = k.others; lines = ap (begun b) k.lines ∙ begun_other b ((d ∷ (w ++ k.more)) ∷ k.others) f }

-- ---- the first place of a byte

module _ (test : ℕ → Bool) (hay : List ℕ) where
  fails : (k : ℕ) → (Passes test hay k → ⊥) → test (slice_index hay k) ≡ false
  fails k n = elim (cases_Bool (test (slice_index hay k))) [
    | inl t ↦ absurd (n t)
    | inr f ↦ f
  ]

  -- what a search for a byte answers
  pub first_place : (r : Option ℕ) → IsFirstByte test hay r → r ≡ position test hay
  first_place None h =
      let end = position_or_len_is test hay (length hay) 0 (omega arith) (λ k l. fails k (h k (omega arith) l)) (λ l. absurd (omega (arith, l))) in
      let past : nat_lt (position_or_len test hay) (length hay) ≡ false = rw end (grind (arith, nat_tests)) in
      rw past refl
  first_place (Some k) h =
      let at = position_or_len_is test hay k 0 (omega (arith, h.0.high)) (λ j l. fails j (h.0.before j (omega arith) l)) (λ l. h.1) in
      let within : nat_lt (position_or_len test hay) (length hay) ≡ true = rw at (let l = h.0.high in grind (arith, nat_tests)) in
      rw (within, at) refl
