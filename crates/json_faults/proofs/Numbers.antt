-- Words and numbers are decided by their own bytes, and by the byte behind a number.
use Rattle.std.proofs.Common.{◌≡◌, ℕ, suc, ◌+◌, ◌-◌, ◌<◌, Bool as Truth, true, false, ◌||◌, eqb, List, [], ◌∷◌, ◌++◌, length, take, Result, Ok, Err, refl, sym, ap, ◌∙◌, subst, inl, inr, arith}
use Rattle.std.specs.List.{list_all}
use Rattle.std.specs.Str.{is_utf8}
use Rattle.std.proofs.lemmas.Bool.{cases_Bool, and_parts, eqb-true}
use Rattle.json_tree.specs.Numbers.{IsNumber, is_digit}
use Rattle.json_text.specs.Reading.{◌>>=◌, Taken, is_space, after_space, word_at, after_digits, digits_at, whole_at, after_minus, after_sign, fraction_at, exponent_at, after_number, as_text, number_at}
use Rattle.json_text.proofs.Found.{bind_ok, taken_is, text_found, number_taken}
use Rattle.json_text.proofs.Numerals.{number_read, number_first, taken}
use Rattle.json_faults.specs.Tokens.{is_part}
use Rattle.json_faults.proofs.Decisions.{Step, run, Clean, MayFollow, IsDecided, err_is, fault_is_none, value_is_none, bind_err, bound, nothing, eased, ends, passes, AtByte, goes_on, refuses, alike, by_first}

-- what is behind, beside nothing
abbrev pub alone : Result (List ℕ) ℕ → Taken (Unit {0})
alone (Ok rest) = Ok (tt, rest)
alone (Err p) = Err p

-- a step that gives nothing but what is behind it
abbrev pub plain : (ℕ → List ℕ → Result (List ℕ) ℕ) → Step (Unit {0})
plain r end bytes = alone (r end bytes)

pub alone_then : {B : Type 0} (r : Result (List ℕ) ℕ) (k : List ℕ → Result B ℕ) → (r >>= k) ≡ (alone r >>= λ x. k x.1)
alone_then (Ok rest) k = refl
alone_then (Err p) k = refl

alone_both : (r : Result (List ℕ) ℕ) (k : List ℕ → Result (List ℕ) ℕ) → alone (r >>= k) ≡ (alone r >>= λ x. alone (k x.1))
alone_both (Ok rest) k = refl
alone_both (Err p) k = refl

pub alone_ok : (r : Result (List ℕ) ℕ) (w : List ℕ) → alone r ≡ Ok (tt, w) → r ≡ Ok w
alone_ok (Ok rest) w h = ap (λ (l : List ℕ). Ok l) (taken_is tt tt rest w h).1
alone_ok (Err p) w h = absurd (fault_is_none (tt, w) p h)

pub alone_err : (r : Result (List ℕ) ℕ) (p : ℕ) → alone r ≡ Err p → r ≡ Err p
alone_err (Ok rest) p h = absurd (value_is_none (tt, rest) p h)
alone_err (Err q) p h = ap (λ (n : ℕ). Err n) (err_is {A = Unit {0} × List ℕ} q p h)

-- ---- what is known of the bytes of a number or a word

abbrev pub AllParts : List ℕ → Type 0
AllParts c = list_all is_part c ≡ true

abbrev pub AreParts : {A : Type 0} → A → List ℕ → Type 0
AreParts x c = AllParts c

abbrev pub IsNumeral : List ℕ → List ℕ → Type 0
IsNumeral t c = AllParts c × (0 < length c)

-- within the token that began at this place
abbrev pub InWord : ℕ → ℕ → List ℕ → ℕ → ℕ → Type 0
InWord start s u b p = (p ≡ start) × AllParts u

all_parts : (c d : List ℕ) → AllParts c → AllParts d → AllParts (c ++ d)
all_parts [] d h k = k
all_parts (b ∷ c) d h k = let p = and_parts (is_part b) (list_all is_part c) h in rw p.0 (all_parts c d p.1 k)

pub part_first : (b : ℕ) (c : List ℕ) → is_part b ≡ true → AllParts c → AllParts (b ∷ c)
part_first b c h k = rw h k

digit_part : (b : ℕ) → is_digit b ≡ true → is_part b ≡ true
digit_part b h = rw h refl

module _ (start : ℕ) where
  abbrev IsRead : {A : Type 0} → Truth → Step A → ℕ → Type 0
  IsRead any f s = IsDecided any AreParts (InWord start) f s

  -- a step behind a byte of the token
  pub behind_part : {A : Type 0} (any : Truth) (b : ℕ) (f : Step A) (s : ℕ) → is_part b ≡ true → IsDecided any AreParts (InWord start) f (suc s)
      → IsDecided any (λ (x : A) (c : List ℕ). AreParts x (b ∷ c)) (λ t u c p. InWord start s (b ∷ u) c p) f (suc s)
  behind_part any b f s h d = eased any any AreParts (λ x c. AreParts x (b ∷ c)) (InWord start) (λ t u c p. InWord start s (b ∷ u) c p) f (suc s) (λ rest w m. m) (λ x c k. part_first b c h k) (λ u c p k. (k.0, part_first b u h k.1)) d

  no_more : {A : Type 0} (any : Truth) (y : A) (s : ℕ) → IsRead any (λ end bytes. Ok (y, bytes)) s
  no_more any y s = nothing any AreParts (InWord start) y s refl

  -- ---- words

  pub word_decided : (word : List ℕ) (s : ℕ) → AllParts word → IsRead true (plain (λ end bytes. word_at word start end bytes)) s
  unfolding word_at
  word_decided [] s h = no_more true tt s
  word_decided (w ∷ word) s h =
      let p = and_parts (is_part w) (list_all is_part word) h in
      by_first true AreParts (InWord start) (plain (λ end bytes. word_at (w ∷ word) start end bytes)) s (ends (λ end. refl)) (λ b.
      elim (cases_Bool (eqb b w)) [
        | inl e ↦
            let part : is_part b ≡ true = subst (λ (n : ℕ). is_part n ≡ true) (sym (eqb-true b w e)) p.0 in
            goes_on (plain (λ end bytes. word_at word start end bytes)) (λ bytes. rw e (ap (λ (n : ℕ). plain (λ end bs. word_at word start end bs) n bytes) (omega arith))) (behind_part true b (plain (λ end bytes. word_at word start end bytes)) s part (word_decided word (suc s) p.1))
        | inr e ↦ refuses start (λ bytes. rw e refl) (refl, refl)
      ])

-- ---- digits and white space: what is passed over ends at the first other byte

module _ (after : List ℕ → List ℕ) (test : ℕ → Truth) (none : after [] ≡ []) (more : (b : ℕ) (bs : List ℕ) → test b ≡ true → after (b ∷ bs) ≡ after bs) (stop : (b : ℕ) (bs : List ℕ) → test b ≡ false → after (b ∷ bs) ≡ b ∷ bs)
    (clean : (w : List ℕ) → Clean w → after w ≡ w) where
  record Passes (bytes : List ℕ) : Type 0 where
    front : List ℕ
    here : bytes ≡ front ++ after bytes
    kept : list_all test front ≡ true
    always : (w : List ℕ) → MayFollow false (after bytes) w → after (front ++ w) ≡ w

  none_passed : Passes []
  none_passed = record { front = []; here = sym none; kept = refl; always = λ w m. elim (subst (λ (r : List ℕ). MayFollow false r w) none m) [ inl n ↦ absurd n | inr c ↦ clean w c ] }

  stopped : (b : ℕ) (bs : List ℕ) → test b ≡ false → Passes (b ∷ bs)
  stopped b bs h = record {
    front = [];
    here = sym (stop b bs h);
    kept = refl;
    always = λ w m.
        elim (subst (λ (r : List ℕ). MayFollow false r w) (stop b bs h) m) [
          | inl v ↦ ap after v.1 ∙ (stop b v.0 h ∙ sym v.1)
          | inr c ↦ clean w c
        ];
  }

  one_passed : (b : ℕ) (bs : List ℕ) → test b ≡ true → Passes bs → Passes (b ∷ bs)
  one_passed b bs h p = record {
    front = b ∷ p.front;
    here = ap (λ (l : List ℕ). b ∷ l) (p.here ∙ ap (λ (l : List ℕ). p.front ++ l) (sym (more b bs h)));
    kept = rw h p.kept;
    always = λ w m. more b (p.front ++ w) h ∙ p.always w (subst (λ (r : List ℕ). MayFollow false r w) (more b bs h) m);
  }

  passes_all : (bytes : List ℕ) → Passes bytes
  passes_all [] = none_passed
  passes_all (b ∷ bs) = elim (cases_Bool (test b)) [ inl h ↦ one_passed b bs h (passes_all bs) | inr h ↦ stopped b bs h ]

  -- such a step never fails
  pub passing : {A : Type 0} (Q : A → List ℕ → Type 0) (T : ℕ → List ℕ → ℕ → ℕ → Type 0) (y : A) (s : ℕ) → ((c : List ℕ) → list_all test c ≡ true → Q y c) → IsDecided false Q T (λ end bytes. Ok (y, after bytes)) s
  passing {A} Q T y s k = record {
    ok = λ bytes x rest e.
        let p = passes_all bytes in
        let same = taken_is y x (after bytes) rest e in
        record {
          front = p.front;
          here = p.here ∙ ap (λ (l : List ℕ). p.front ++ l) same.1;
          kept = subst (λ (z : A). Q z p.front) same.0 (k p.front p.kept);
          always = λ w m. (λ i. Ok (same.0 i, p.always w (subst (λ (r : List ℕ). MayFollow false r w) (sym same.1) m) i));
        };
    err = λ bytes p e. absurd (value_is_none (y, after bytes) p e);
  }

more_digits : (b : ℕ) (bs : List ℕ) → is_digit b ≡ true → after_digits (b ∷ bs) ≡ after_digits bs
unfolding after_digits
more_digits b bs h = rw h refl

stop_digits : (b : ℕ) (bs : List ℕ) → is_digit b ≡ false → after_digits (b ∷ bs) ≡ b ∷ bs
unfolding after_digits
stop_digits b bs h = rw h refl

none_digits : after_digits [] ≡ []
unfolding after_digits
none_digits = refl

more_space : (b : ℕ) (bs : List ℕ) → is_space b ≡ true → after_space (b ∷ bs) ≡ after_space bs
unfolding after_space
more_space b bs h = rw h refl

stop_space : (b : ℕ) (bs : List ℕ) → is_space b ≡ false → after_space (b ∷ bs) ≡ b ∷ bs
unfolding after_space
stop_space b bs h = rw h refl

none_space : after_space [] ≡ []
unfolding after_space
none_space = refl

pub clean_space : (w : List ℕ) → Clean w → after_space w ≡ w
clean_space [] c = none_space
clean_space (b ∷ w) c = stop_space b w c.1

-- a byte of no number or word is none of these
pub not_part : (b n : ℕ) → is_part n ≡ true → is_part b ≡ false → eqb b n ≡ false
not_part b n h c = elim (cases_Bool (eqb b n)) [ inl e ↦ let t : true ≡ false = sym (ap is_part (eqb-true b n e) ∙ h) ∙ c in absurd cc | inr e ↦ e ]

no_digit : (b : ℕ) → is_part b ≡ false → is_digit b ≡ false
no_digit b c = elim (cases_Bool (is_digit b)) [ inl e ↦ let t : true ≡ false = sym (digit_part b e) ∙ c in absurd cc | inr e ↦ e ]

pub clean_digits : (w : List ℕ) → Clean w → after_digits w ≡ w
clean_digits [] c = none_digits
clean_digits (b ∷ w) c = stop_digits b w (no_digit b c.0)

pub clean_minus : (w : List ℕ) → Clean w → after_minus w ≡ w
unfolding after_minus
clean_minus [] c = refl
clean_minus (b ∷ w) c = rw (not_part b 45 refl c.0) refl

clean_sign : (w : List ℕ) → Clean w → after_sign w ≡ w
unfolding after_sign
clean_sign [] c = refl
clean_sign (b ∷ w) c = rw (not_part b 43 refl c.0, not_part b 45 refl c.0) refl

pub clean_fraction : (start end : ℕ) (w : List ℕ) → Clean w → fraction_at start end w ≡ Ok w
unfolding fraction_at
clean_fraction start end [] c = refl
clean_fraction start end (b ∷ w) c = rw (not_part b 46 refl c.0) refl

pub clean_exponent : (start end : ℕ) (w : List ℕ) → Clean w → exponent_at start end w ≡ Ok w
unfolding exponent_at
clean_exponent start end [] c = refl
clean_exponent start end (b ∷ w) c = rw (not_part b 101 refl c.0, not_part b 69 refl c.0) refl

clean_whole : (start end : ℕ) (w : List ℕ) → Clean w → whole_at start end w ≡ digits_at start end w
unfolding whole_at digits_at
clean_whole start end [] c = refl
clean_whole start end (b ∷ w) c = rw (not_part b 48 refl c.0) refl

-- white space and a value beside it
pub space_decided : {A : Type 0} (Q : A → List ℕ → Type 0) (T : ℕ → List ℕ → ℕ → ℕ → Type 0) (y : A) (s : ℕ) → ((c : List ℕ) → Q y c) → IsDecided false Q T (λ end bytes. Ok (y, after_space bytes)) s
space_decided Q T y s k = passing after_space is_space none_space more_space stop_space clean_space Q T y s (λ c h. k c)

digit_parts : (c : List ℕ) → list_all is_digit c ≡ true → AllParts c
digit_parts [] h = refl
digit_parts (b ∷ c) h = let p = and_parts (is_digit b) (list_all is_digit c) h in part_first b c (digit_part b p.0) (digit_parts c p.1)

-- ---- numbers

module _ (start : ℕ) where
  abbrev IsDecidedHere : Step (Unit {0}) → ℕ → Type 0
  IsDecidedHere f s = IsDecided false AreParts (InWord start) f s

  rest_decided : (s : ℕ) → IsDecidedHere (λ end bytes. Ok (tt, after_digits bytes)) s
  rest_decided s = passing after_digits is_digit none_digits more_digits stop_digits clean_digits AreParts (InWord start) tt s digit_parts

  abbrev first_of : (Step (Unit {0})) → ℕ → Type 0
  first_of f s = (b : ℕ) → AtByte false AreParts (InWord start) f s b

  digits_decided : (s : ℕ) → IsDecidedHere (plain (digits_at start)) s
  unfolding digits_at
  digits_decided s =
      by_first false AreParts (InWord start) (plain (digits_at start)) s (ends (λ end. refl)) (λ b.
      elim (cases_Bool (is_digit b)) [
        | inl e ↦ goes_on (λ end bytes. Ok (tt, after_digits bytes)) (λ bytes. rw e refl) (behind_part start false b (λ end bytes. Ok (tt, after_digits bytes)) s (digit_part b e) (rest_decided (suc s)))
        | inr e ↦ refuses start (λ bytes. rw e refl) (refl, refl)
      ])

  -- a byte of the token that stands before what is given
  here_then : (b : ℕ) (s : ℕ) (h : Step (Unit {0})) → is_part b ≡ true → ((bytes : List ℕ) → run h s (b ∷ bytes) ≡ Ok (tt, bytes)) → AtByte false AreParts (InWord start) h s b
  here_then b s h part e = goes_on (λ end bytes. Ok (tt, bytes)) e (behind_part start false b (λ end bytes. Ok (tt, bytes)) s part (no_more start false tt (suc s)))

  as_it_is : (b : ℕ) (s : ℕ) (h : Step (Unit {0})) → ((bytes : List ℕ) → run h s (b ∷ bytes) ≡ Ok (tt, b ∷ bytes)) → ((w : List ℕ) → Clean w → run h s w ≡ Ok (tt, w)) → AtByte false AreParts (InWord start) h s b
  as_it_is b s h e clean = alike refl (λ end bytes. Ok (tt, bytes)) e (no_more start false tt s) (λ w c x k. clean w c)

  part_is : (b n : ℕ) → is_part n ≡ true → eqb b n ≡ true → is_part b ≡ true
  part_is b n h e = subst (λ (m : ℕ). is_part m ≡ true) (sym (eqb-true b n e)) h

  whole_decided : (s : ℕ) → IsDecidedHere (plain (whole_at start)) s
  unfolding whole_at
  whole_decided s =
      by_first false AreParts (InWord start) (plain (whole_at start)) s (ends (λ end. refl)) (λ b.
      elim (cases_Bool (eqb b 48)) [
        | inl e ↦ here_then b s (plain (whole_at start)) (part_is b 48 refl e) (λ bytes. rw e refl)
        | inr e ↦ alike refl (plain (digits_at start)) (λ bytes. rw e refl) (digits_decided s) (λ w c x k. ap alone (clean_whole start (s + length w) w c))
      ])

  minus_decided : (s : ℕ) → IsDecidedHere (λ end bytes. Ok (tt, after_minus bytes)) s
  unfolding after_minus
  minus_decided s =
      by_first false AreParts (InWord start) (λ end bytes. Ok (tt, after_minus bytes)) s (passes refl tt refl (λ end. refl) (λ w c. ap (λ (l : List ℕ). Ok (tt, l)) (clean_minus w c))) (λ b.
      elim (cases_Bool (eqb b 45)) [
        | inl e ↦ here_then b s (λ end bytes. Ok (tt, after_minus bytes)) (part_is b 45 refl e) (λ bytes. rw e refl)
        | inr e ↦ as_it_is b s (λ end bytes. Ok (tt, after_minus bytes)) (λ bytes. rw e refl) (λ w c. ap (λ (l : List ℕ). Ok (tt, l)) (clean_minus w c))
      ])

  sign_case : (b : ℕ) (x y : Truth) → eqb b 43 ≡ x → eqb b 45 ≡ y → (x || y) ≡ true → is_part b ≡ true
  sign_case b true y e f h = part_is b 43 refl e
  sign_case b false true e f h = part_is b 45 refl f
  sign_case b false false e f h = absurd cc

  sign_decided : (s : ℕ) → IsDecidedHere (λ end bytes. Ok (tt, after_sign bytes)) s
  unfolding after_sign
  sign_decided s =
      by_first false AreParts (InWord start) (λ end bytes. Ok (tt, after_sign bytes)) s (passes refl tt refl (λ end. refl) (λ w c. ap (λ (l : List ℕ). Ok (tt, l)) (clean_sign w c))) (λ b.
      elim (cases_Bool (eqb b 43 || eqb b 45)) [
        | inl e ↦ here_then b s (λ end bytes. Ok (tt, after_sign bytes)) (sign_case b (eqb b 43) (eqb b 45) refl refl e) (λ bytes. rw e refl)
        | inr e ↦ as_it_is b s (λ end bytes. Ok (tt, after_sign bytes)) (λ bytes. rw e refl) (λ w c. ap (λ (l : List ℕ). Ok (tt, l)) (clean_sign w c))
      ])

  -- one plain step behind the other
  both_decided : (f g h : Step (Unit {0})) (s : ℕ) → ((bytes : List ℕ) → run h s bytes ≡ (run f s bytes >>= λ x. g (s + length bytes) x.1)) → IsDecidedHere f s → ((t : ℕ) → IsDecidedHere g t) → IsDecidedHere h s
  both_decided f g h s made first second =
      bound false AreParts AreParts AreParts (InWord start) f (λ x. g) h s made first (λ x c k. second (s + length c)) (λ x y c d k l. all_parts c d k l) (λ x c u b p k t. (t.0, all_parts c u k t.1))

  signed : Step (Unit {0})
  signed end bytes = alone (digits_at start end (after_sign bytes))

  signed_decided : (s : ℕ) → IsDecidedHere signed s
  unfolding signed
  signed_decided s = both_decided (λ end bytes. Ok (tt, after_sign bytes)) (plain (digits_at start)) signed s (λ bytes. refl) (sign_decided s) digits_decided

  fraction_decided : (s : ℕ) → IsDecidedHere (plain (fraction_at start)) s
  unfolding fraction_at
  fraction_decided s =
      by_first false AreParts (InWord start) (plain (fraction_at start)) s (passes refl tt refl (λ end. refl) (λ w c. ap alone (clean_fraction start (s + length w) w c))) (λ b.
      elim (cases_Bool (eqb b 46)) [
        | inl e ↦
            goes_on (plain (digits_at start)) (λ bytes. rw e (ap (λ (n : ℕ). plain (digits_at start) n bytes) (omega arith))) (behind_part start false b (plain (digits_at start)) s (part_is b 46 refl e) (digits_decided (suc s)))
        | inr e ↦ as_it_is b s (plain (fraction_at start)) (λ bytes. rw e refl) (λ w c. ap alone (clean_fraction start (s + length w) w c))
      ])

  mark_case : (b : ℕ) (x y : Truth) → eqb b 101 ≡ x → eqb b 69 ≡ y → (x || y) ≡ true → is_part b ≡ true
  mark_case b true y e f h = part_is b 101 refl e
  mark_case b false true e f h = part_is b 69 refl f
  mark_case b false false e f h = absurd cc

  exponent_decided : (s : ℕ) → IsDecidedHere (plain (exponent_at start)) s
  unfolding exponent_at signed
  exponent_decided s =
      by_first false AreParts (InWord start) (plain (exponent_at start)) s (passes refl tt refl (λ end. refl) (λ w c. ap alone (clean_exponent start (s + length w) w c))) (λ b.
      elim (cases_Bool (eqb b 101 || eqb b 69)) [
        | inl e ↦
            goes_on signed (λ bytes. rw e (ap (λ (n : ℕ). signed n bytes) (omega arith))) (behind_part start false b signed s (mark_case b (eqb b 101) (eqb b 69) refl refl e) (signed_decided (suc s)))
        | inr e ↦ as_it_is b s (plain (exponent_at start)) (λ bytes. rw e refl) (λ w c. ap alone (clean_exponent start (s + length w) w c))
      ])

  tail : Step (Unit {0})
  tail end bytes = alone (fraction_at start end bytes >>= λ fraction. exponent_at start end fraction)

  tail_decided : (s : ℕ) → IsDecidedHere tail s
  unfolding tail
  tail_decided s =
      both_decided (plain (fraction_at start)) (plain (exponent_at start)) tail s (λ bytes. alone_both (fraction_at start (s + length bytes) bytes) (λ fraction. exponent_at start (s + length bytes) fraction)) (fraction_decided s) exponent_decided

  unsigned : Step (Unit {0})
  unsigned end bytes = alone (whole_at start end bytes >>= λ whole. fraction_at start end whole >>= λ fraction. exponent_at start end fraction)

  unsigned_decided : (s : ℕ) → IsDecidedHere unsigned s
  unfolding unsigned tail
  unsigned_decided s =
      both_decided (plain (whole_at start)) tail unsigned s (λ bytes. alone_both (whole_at start (s + length bytes) bytes) (λ whole. fraction_at start (s + length bytes) whole >>= λ fraction. exponent_at start (s + length bytes) fraction)) (whole_decided s) tail_decided

  past_decided : (s : ℕ) → IsDecidedHere (plain (after_number start)) s
  unfolding after_number unsigned
  past_decided s = both_decided (λ end bytes. Ok (tt, after_minus bytes)) unsigned (plain (after_number start)) s (λ bytes. refl) (minus_decided s) unsigned_decided

  -- the text of a number is UTF-8
  pub text_utf8 : (t : List ℕ) → IsNumber t → is_utf8 t ≡ true
  unfolding number_at
  text_utf8 t k =
      let e = number_read start 0 t [] k tt in
      let one = bind_ok (after_number start 0 (t ++ [])) _ (t, []) e in
      let p = text_found start (take (length (t ++ []) - length one.0) (t ++ [])) one.0 t [] one.2 in
      sym (ap is_utf8 p.0) ∙ p.2

  pub front_text : (front rest : List ℕ) → is_utf8 front ≡ true → as_text start (take (length (front ++ rest) - length rest) (front ++ rest)) rest ≡ Ok (front, rest)
  front_text front rest u = rw (taken front rest, u) refl

  some_number : (t : List ℕ) → IsNumber t → 0 < length t
  some_number t k = let p = number_first t k in omega (arith, ap length p.2)

  pub number_decided : (s : ℕ) → IsDecided false IsNumeral (InWord start) (number_at start) s
  unfolding number_at
  number_decided s = record {
    ok = λ bytes t rest e.
        let one = bind_ok (after_number start (s + length bytes) bytes) _ (t, rest) e in
        let d = past_decided s in
        let a = d.ok bytes tt one.0 (ap alone one.1) in
        let k = text_found start (take (length bytes - length one.0) bytes) one.0 t rest one.2 in
        let is : take (length bytes - length one.0) bytes ≡ a.front = ap (λ (l : List ℕ). take (length l - length one.0) l) a.here ∙ taken a.front one.0 in
        let same : a.front ≡ t = sym is ∙ k.0 in
        let utf8 : is_utf8 a.front ≡ true = sym (ap is_utf8 is) ∙ k.2 in
        record {
          front = a.front;
          here = a.here ∙ ap (λ (l : List ℕ). a.front ++ l) k.1;
          kept = (a.kept, some_number a.front (subst IsNumber is (number_taken start (s + length bytes) bytes one.0 one.1)));
          always = λ w m.
              let past = alone_ok (after_number start (s + length (a.front ++ w)) (a.front ++ w)) w (a.always w (subst (λ (r : List ℕ). MayFollow false r w) (sym k.1) m)) in
              rw past (front_text a.front w utf8 ∙ ap (λ (l : List ℕ). Ok (l, w)) same);
        };
    err = λ bytes p e.
        elim (bind_err (after_number start (s + length bytes) bytes) _ p e) [
          | inl k ↦
              let d = past_decided s in
              elim (d.err bytes p (ap alone k)) [
                | inl q ↦ inl q
                | inr a ↦
                    inr (record {
                      front = a.front;
                      byte = a.byte;
                      behind = a.behind;
                      here = a.here;
                      told = a.told;
                      always = λ w. let past = alone_err (after_number start (s + length (a.front ++ a.byte ∷ w)) (a.front ++ a.byte ∷ w)) p (a.always w) in rw past refl;
                    })
              ]
          | inr one ↦
              let u = text_utf8 _ (number_taken start (s + length bytes) bytes one.0 one.1) in
              let k : ◌≡◌ {A = Taken (List ℕ)} (Ok (take (length bytes - length one.0) bytes, one.0)) (Err p) = rw u at one.2 in
              absurd (value_is_none (take (length bytes - length one.0) bytes, one.0) p k)
        ];
  }
