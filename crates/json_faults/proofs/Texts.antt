-- A text is refused by the token at its place, whatever stands behind it.
use Rattle.std.proofs.Common.{◌≡◌, ◌⊎◌, ℕ, ◌<◌, ◌≤◌, Bool as Truth, true, false, eqb, List, [], ◌∷◌, ◌++◌, length, take, drop, Err, refl, sym, ap, ◌∙◌, inl, inr, append_assoc, arith}
use Rattle.std.proofs.lemmas.Bool.{cases_Bool}
use Rattle.std.proofs.lemmas.List.{length-append}
use Rattle.std.proofs.Math.Seq.{drop-append_seam}
use Rattle.json_tree.specs.declared.tree.Tree.{Tree}
use Rattle.json_text.specs.Reading.{◌>>=◌, place, after_space, value_at, ended, tree_of_text}
use Rattle.json_text.proofs.Spelled.{json_read}
use Rattle.json_faults.specs.Tokens.{is_part, word_from, string_from, token_from, up_to_token}
use Rattle.json_faults.specs.Faults.{Continues, RefusedAtItsToken, RefusedWithin}
use Rattle.json_faults.proofs.Decisions.{Step, run, Stops, err_is, fault_is_none, value_is_none, bind_err, take-append, ends, refuses, by_first}
use Rattle.json_faults.proofs.Values.{InToken, Free, IsDecidedAnywhere, itself, place_is, told_both, spaced, spaced_told, read_told}

-- ---- the whole text

-- nothing stands behind the value, or a refusal; the end of the text stands for a refusal too
abbrev closed : Step (Unit {0})
closed end [] = Err end
closed end (b ∷ bytes) = Err (place end (b ∷ bytes))

closed_told : IsDecidedAnywhere closed
closed_told s = by_first false Free InToken closed s (ends (λ end. refl)) (λ b. refuses s (λ bytes. ap (λ (n : ℕ). Err n) (place_is s (b ∷ bytes))) (itself s b))

whole : Step (Unit {0})
whole end bytes = value_at 256 end (after_space bytes) >>= λ x. closed end (after_space x.1)

whole_told : IsDecidedAnywhere whole
unfolding whole
whole_told s =
    told_both Free (spaced (value_at 256)) (λ t. spaced closed) whole s (λ bytes. refl) (spaced_told Free (value_at 256) s (read_told 256) (λ y c d k. tt)) (λ t r. spaced_told Free closed r closed_told (λ y c d k. tt)) (λ y c d k. tt)

closed_err : (end : ℕ) (t : Tree) (bytes : List ℕ) (p : ℕ) → ended end t bytes ≡ Err p → closed end bytes ≡ Err p
closed_err end t [] p e = absurd (value_is_none t p e)
closed_err end t (b ∷ bytes) p e = ap (λ (n : ℕ). Err n) (err_is {A = Tree} _ p e)

whole_err : (text : List ℕ) (p : ℕ) → tree_of_text text ≡ Err p → whole (length text) text ≡ Err p
unfolding tree_of_text whole
whole_err text p e =
    elim (bind_err (value_at 256 (length text) (after_space text)) (λ x. ended (length text) x.0 (after_space x.1)) p e) [
      | inl k ↦ rw k refl
      | inr one ↦ let k = closed_err (length text) one.0.0 (after_space one.0.1) p one.2 in rw one.1 k
    ]

ended_err : (end : ℕ) (t : Tree) (bytes : List ℕ) (p : ℕ) → p < end → closed end bytes ≡ Err p → ended end t bytes ≡ Err p
ended_err end t [] p lt e = let is : end ≡ p = err_is {A = Unit {0} × List ℕ} end p e in absurd (omega (arith, is))
ended_err end t (b ∷ bytes) p lt e = ap (λ (n : ℕ). Err n) (err_is {A = Unit {0} × List ℕ} _ p e)

text_err : (text : List ℕ) (p : ℕ) → p < length text → whole (length text) text ≡ Err p → tree_of_text text ≡ Err p
unfolding tree_of_text whole
text_err text p lt e =
    elim (bind_err (value_at 256 (length text) (after_space text)) (λ x. closed (length text) (after_space x.1)) p e) [
      | inl k ↦ rw k refl
      | inr one ↦ let k = ended_err (length text) one.0.0 (after_space one.0.1) p lt one.2 in rw one.1 k
    ]

at_zero : (text : List ℕ) → run whole 0 text ≡ whole (length text) text
at_zero text = ap (λ (n : ℕ). whole n text) (omega arith)

-- ---- a token is a front of what it begins

abbrev IsFront : List ℕ → List ℕ → Type 0
IsFront k bytes = (r : List ℕ) × (bytes ≡ k ++ r)

front_more : (b : ℕ) (k bytes : List ℕ) → IsFront k bytes → IsFront (b ∷ k) (b ∷ bytes)
front_more b k bytes f = (f.0, ap (λ (l : List ℕ). b ∷ l) f.1)

word_front : (bytes : List ℕ) → IsFront (word_from bytes) bytes
unfolding word_from
word_front [] = ([], refl)
word_front (b ∷ bytes) = elim (cases_Bool (is_part b)) [ inl h ↦ rw h (front_more b (word_from bytes) bytes (word_front bytes)) | inr h ↦ rw h (bytes, refl) ]

string_front : (e : Truth) (bytes : List ℕ) → IsFront (string_from e bytes) bytes
unfolding string_from
string_front e [] = ([], refl)
string_front true (b ∷ bytes) = front_more b (string_from false bytes) bytes (string_front false bytes)
string_front false (b ∷ bytes) =
    elim (cases_Bool (eqb b 34)) [
      | inl h ↦ rw h (bytes, refl)
      | inr h ↦ rw h (front_more b (string_from (eqb b 92) bytes) bytes (string_front (eqb b 92) bytes))
    ]

pub token_front : (bytes : List ℕ) → IsFront (token_from bytes) bytes
unfolding token_from
token_front [] = ([], refl)
token_front (b ∷ bytes) =
    elim (cases_Bool (eqb b 34)) [
      | inl q ↦ rw q (front_more b (string_from false bytes) bytes (string_front false bytes))
      | inr q ↦
          elim (cases_Bool (is_part b)) [
            | inl h ↦ rw (q, h) (front_more b (word_from bytes) bytes (word_front bytes))
            | inr h ↦ rw (q, h) (bytes, refl)
          ]
    ]

-- a front that is longer than these bytes has the byte behind them
longer : (d k r z : List ℕ) (b : ℕ) → d ++ b ∷ z ≡ k ++ r → length d < length k → (v : List ℕ) × (k ≡ d ++ b ∷ v)
longer [] [] r z b e lt = absurd (omega arith)
longer [] (a ∷ k) r z b e lt = let is : a ≡ b = cc in (k, ap (λ (n : ℕ). n ∷ k) is)
longer (c ∷ d) [] r z b e lt = absurd (omega arith)
longer (c ∷ d) (a ∷ k) r z b e lt =
    let is : a ≡ c = cc in
    let rest : d ++ b ∷ z ≡ k ++ r = cc in
    let v = longer d k r z b rest (omega arith) in
    (v.0, λ i. is i ∷ v.1 i)

-- ---- the law

module _ (text : List ℕ) (p : ℕ) (a : Stops InToken whole 0 text p) where
  -- the bytes before the token, and its own up to the one that decides
  abbrev before : List ℕ
  before = let t = a.told in t.0

  abbrev own : List ℕ
  own = let t = a.told in t.1

  here : text ≡ before ++ (own ++ a.byte ∷ a.behind)
  here = let t = a.told in a.here ∙ (ap (λ (l : List ℕ). l ++ a.byte ∷ a.behind) t.2 ∙ append_assoc before own (a.byte ∷ a.behind))

  at : p ≡ length before
  at = let t = a.told in omega (arith, t.3)

  front_is : take p text ≡ before
  front_is = ap (λ (n : ℕ). take n text) at ∙ (ap (λ (l : List ℕ). take (length before) l) here ∙ take-append before (own ++ a.byte ∷ a.behind))

  rest_is : drop p text ≡ own ++ a.byte ∷ a.behind
  rest_is = ap (λ (n : ℕ). drop n text) at ∙ (ap (λ (l : List ℕ). drop (length before) l) here ∙ drop-append_seam before (own ++ a.byte ∷ a.behind))

  token_is : (v : List ℕ) × (token_from (drop p text) ≡ own ++ a.byte ∷ v)
  token_is =
      let t = a.told in
      let f = token_front (own ++ a.byte ∷ a.behind) in
      let v = longer own (token_from (own ++ a.byte ∷ a.behind)) f.0 a.behind a.byte f.1 (t.4 a.behind) in
      (v.0, ap token_from rest_is ∙ v.1)

  early : (w : List ℕ) → p < length (a.front ++ a.byte ∷ w)
  early w = let t = a.told in omega (arith, at, ap length t.2, length-append before own, length-append a.front (a.byte ∷ w))

  refused : (more : List ℕ) → tree_of_text (up_to_token p text ++ more) ≡ Err p
  refused more =
      let t = a.told in
      let v = token_is in
      let front : up_to_token p text ≡ a.front ++ a.byte ∷ v.0 = (λ i. front_is i ++ v.1 i) ∙ (sym (append_assoc before own (a.byte ∷ v.0)) ∙ ap (λ (l : List ℕ). l ++ a.byte ∷ v.0) (sym t.2)) in
      ap (λ (l : List ℕ). tree_of_text (l ++ more)) front ∙ (ap tree_of_text (append_assoc a.front (a.byte ∷ v.0) more) ∙ text_err (a.front ++ a.byte ∷ (v.0 ++ more)) p (early (v.0 ++ more)) (sym (at_zero (a.front ++ a.byte ∷ (v.0 ++ more))) ∙ a.always (v.0 ++ more)))

  no_json : Continues (up_to_token p text) → ⊥
  no_json c = fault_is_none c.1 p (sym (refused c.0) ∙ json_read (up_to_token p text ++ c.0) c.1 c.2)

  within : p ≤ length text
  within = omega (arith, at, ap length here, length-append before (own ++ a.byte ∷ a.behind))

decided : (text : List ℕ) (p : ℕ) → tree_of_text text ≡ Err p → (p ≡ length text) ⊎ Stops InToken whole 0 text p
decided text p e =
    let d = whole_told 0 in
    elim (d.err text p (at_zero text ∙ whole_err text p e)) [ inl q ↦ inl (omega (arith, q)) | inr a ↦ inr a ]

pub refused_at_token : RefusedAtItsToken
refused_at_token text p e other c = elim (decided text p e) [ inl q ↦ other q | inr a ↦ no_json text p a c ]

pub refused_within : RefusedWithin
refused_within text p e = elim (decided text p e) [ inl q ↦ omega (arith, q) | inr a ↦ within text p a ]
