-- Bytes of a string that stand for themselves.
use Rattle.std.proofs.Common.{◌≡◌, ℕ, suc, ◌+◌, Bool as Truth, true, false, cond, ◌||◌, eqb, ltb, List, [], ◌∷◌, ◌++◌, take, drop, Ok, refl, sym, ap, ◌∙◌, subst, append_assoc, arith}
use Rattle.std.specs.List.{prefix_len}
use Rattle.std.specs.Str.{is_utf8}
use Rattle.std.proofs.lemmas.Bool.{not-true, or_parts, ltb-false}
use Rattle.std.proofs.lemmas.List.{append-nil, take-append-drop}
use Rattle.json_text.specs.Reading.{Taken, piece_at, string_at}
use Rattle.json_text.specs.Grammar.{AreChars, none, plain}
use Rattle.json_text.specs.Pieces.{is_plain}
use Rattle.json_text.proofs.Loop.{Left, goes_on}
use Rattle.json_text.proofs.Strings.{string_read}
use Rattle.json_text.proofs.FoundStrings.{differs}

-- as many bytes as are plain
abbrev front : List ℕ → List ℕ
front bs = take (prefix_len is_plain bs) bs

abbrev back : List ℕ → List ℕ
back bs = drop (prefix_len is_plain bs) bs

tests : (b : ℕ) → is_plain b ≡ true → (eqb b 34 ≡ false) × (eqb b 92 ≡ false) × (ltb b 32 ≡ false)
tests b h =
    let no = or_parts (eqb b 34 || eqb b 92) (ltb b 32) (not-true (eqb b 34 || eqb b 92 || ltb b 32) h) in
    let marks = or_parts (eqb b 34) (eqb b 92) no.0 in
    (marks.0, marks.1, no.1)

one_more : (n : ℕ) → suc n ≡ 1 + n
one_more n = omega arith

plain_chars : (bs : List ℕ) → AreChars (front bs) (front bs)
plain_chars [] = none
plain_chars (b ∷ bs) = by (is_plain b) refl (plain_chars bs)
  where
    by : (t : Truth) → is_plain b ≡ t → AreChars (front bs) (front bs) → AreChars (take (cond t (1 + prefix_len is_plain bs) 0) (b ∷ bs)) (take (cond t (1 + prefix_len is_plain bs) 0) (b ∷ bs))
    by true h later =
        let t = tests b h in
        subst (λ n. AreChars (take n (b ∷ bs)) (take n (b ∷ bs))) (one_more (prefix_len is_plain bs)) (plain (ltb-false b 32 t.2) (differs b 34 t.0) (differs b 92 t.1) later)
    by false h later = none

whole : (end : ℕ) (bytes rest : List ℕ) → back bytes ≡ 34 ∷ rest → is_utf8 (front bytes) ≡ true → string_at end bytes ≡ Ok (front bytes, rest)
whole end bytes rest e utf8 =
    let parts : front bytes ++ 34 ∷ rest ≡ bytes = ap (λ (l : List ℕ). front bytes ++ l) (sym e) ∙ take-append-drop (prefix_len is_plain bytes) bytes in
    subst (λ (l : List ℕ). string_at end l ≡ Ok (front bytes, rest)) parts (string_read end (front bytes) (front bytes) rest (plain_chars bytes) utf8)

-- a string that is plain up to its closing quote
pub plain_string : (end : ℕ) (bytes : List ℕ) (n : ℕ) (text after rest : List ℕ) (b : ℕ) → n ≡ prefix_len is_plain bytes → text ≡ take n bytes → after ≡ drop n bytes → after ≡ b ∷ rest → b ≡ 34 → is_utf8 text ≡ true → string_at end bytes ≡ Ok (text, rest)
plain_string end bytes n text after rest b count before behind here quote utf8 =
    let is : text ≡ front bytes = before ∙ ap (λ (k : ℕ). take k bytes) count in
    let next : back bytes ≡ 34 ∷ rest = ap (λ (k : ℕ). drop k bytes) (sym count) ∙ sym behind ∙ here ∙ ap (λ (c : ℕ). c ∷ rest) quote in
    whole end bytes rest next (ap is_utf8 (sym is) ∙ utf8) ∙ ap (λ (l : List ℕ). Ok (l, rest)) (sym is)

-- the pieces may be read on behind the plain bytes
module _ (start end : ℕ) (total : Taken (List ℕ)) where
  abbrev From : List ℕ → List ℕ → Type 0
  From done rest = Left (piece_at start end) end done rest total

  plain_piece : (done bs : List ℕ) (b : ℕ) → is_plain b ≡ true → piece_at start end done (b ∷ bs) ≡ Ok ((b ∷ [], true), bs)
  unfolding piece_at
  plain_piece done bs b h = let t = tests b h in rw (t.0, t.1, t.2) refl

  pub behind_plain : (done bs : List ℕ) → From done bs → From (done ++ front bs) (back bs)
  behind_plain done [] left = subst (λ (l : List ℕ). From l []) (sym (append-nil done)) left
  behind_plain done (b ∷ bs) left = by (is_plain b) refl (behind_plain (done ++ b ∷ []) bs)
    where
      by : (t : Truth) → is_plain b ≡ t → (From (done ++ b ∷ []) bs → From ((done ++ b ∷ []) ++ front bs) (back bs)) → From (done ++ take (cond t (1 + prefix_len is_plain bs) 0) (b ∷ bs)) (drop (cond t (1 + prefix_len is_plain bs) 0) (b ∷ bs))
      by true h later =
          let next = goes_on (piece_at start end) end done (b ∷ bs) total (b ∷ []) true bs (plain_piece done bs b h) refl (omega arith) left in
          let on = subst (λ (l : List ℕ). From l (back bs)) (append_assoc done (b ∷ []) (front bs)) (later next) in
          subst (λ n. From (done ++ take n (b ∷ bs)) (drop n (b ∷ bs))) (one_more (prefix_len is_plain bs)) on
      by false h later = subst (λ (l : List ℕ). From l (b ∷ bs)) (sym (append-nil done)) left

  -- the same, as the loop says it
  pub passed : (done bs : List ℕ) (n : ℕ) (run after all : List ℕ) → n ≡ prefix_len is_plain bs → run ≡ take n bs → after ≡ drop n bs → all ≡ done ++ run → From done bs → From all after
  passed done bs n run after all count before behind is left = rw (is, before, behind, count) (behind_plain done bs left)
