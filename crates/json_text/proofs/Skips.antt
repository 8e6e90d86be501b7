-- Skipping bytes, and words, one byte after the other.
use Rattle.std.proofs.Common.{◌≡◌, ℕ, suc, ◌+◌, ◌<◌, true, false, List, [], ◌∷◌, length, drop, get_or, Ok, Err, refl, arith, ◌≤◌, eqb}
use Rattle.std.proofs.Math.Seq.{drop-cons}
use Rattle.std.proofs.lemmas.List.{drop_all}
use Rattle.std.proofs.lemmas.Bool.{eq-eqb, ne_eqb}
use Rattle.json_tree.specs.Numbers.{is_digit}
use Rattle.json_text.specs.Reading.{is_space, after_space, after_digits, word_at}

pub space_skips : (rest after : List ℕ) (b : ℕ) → rest ≡ b ∷ after → is_space b ≡ true → after_space after ≡ after_space rest
unfolding after_space
space_skips rest after b e h = rw (e, h) refl

pub space_stops : (rest after : List ℕ) (b : ℕ) → rest ≡ b ∷ after → is_space b ≡ false → after_space rest ≡ rest
unfolding after_space
space_stops rest after b e h = rw (e, h) refl

pub space_ends : (rest : List ℕ) → rest ≡ [] → after_space rest ≡ rest
unfolding after_space
space_ends rest e = rw e refl

pub digit_skips : (rest after : List ℕ) (b : ℕ) → rest ≡ b ∷ after → is_digit b ≡ true → after_digits after ≡ after_digits rest
unfolding after_digits
digit_skips rest after b e h = rw (e, h) refl

pub digit_stops : (rest after : List ℕ) (b : ℕ) → rest ≡ b ∷ after → is_digit b ≡ false → after_digits rest ≡ rest
unfolding after_digits
digit_stops rest after b e h = rw (e, h) refl

pub digit_ends : (rest : List ℕ) → rest ≡ [] → after_digits rest ≡ rest
unfolding after_digits
digit_ends rest e = rw e refl

module _ (word : List ℕ) (i start end : ℕ) (rest : List ℕ) where
  here : i < length word → drop i word ≡ get_or word i 0 ∷ drop (i + 1) word
  here lt = let s : suc i ≡ i + 1 = omega arith in rw (← s) (drop-cons word i 0 lt)

  -- the text ends in the word
  pub word_ends : i < length word → rest ≡ [] → word_at (drop i word) start end rest ≡ Err end
  unfolding word_at
  word_ends lt e = rw (here lt, e) refl

  -- another letter stands here
  pub word_fails : (b : ℕ) (after : List ℕ) → i < length word → rest ≡ b ∷ after → (b ≡ get_or word i 0 → ⊥) → word_at (drop i word) start end rest ≡ Err start
  unfolding word_at
  word_fails b after lt e ne = let n : eqb b (get_or word i 0) ≡ false = ne_eqb b (get_or word i 0) ne in rw (here lt, e, n) refl

  pub word_goes : (b : ℕ) (after : List ℕ) → i < length word → rest ≡ b ∷ after → b ≡ get_or word i 0 → word_at (drop (i + 1) word) start end after ≡ word_at (drop i word) start end rest
  unfolding word_at
  word_goes b after lt e eq = let n : eqb b (get_or word i 0) ≡ true = eq-eqb b (get_or word i 0) eq in rw (here lt, e, n) refl

  pub word_done : length word ≤ i → word_at (drop i word) start end rest ≡ Ok rest
  unfolding word_at
  word_done le = rw (drop_all i word le) refl
