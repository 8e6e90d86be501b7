-- Bytes that are read piece by piece, and the line feed that is looked for in them.
use Rattle.std.proofs.Common.{◌≡◌, ◌≢◌, ℕ, zero, suc, ◌+◌, ◌-◌, ◌<◌, ◌≤◌, List, [], ◌∷◌, ◌++◌, length, take, drop, true, refl, sym, ap, ◌∙◌, subst, arith, inl, inr, append_assoc, append-nil, length-append}
use Rattle.std.specs.Prelude.{◌⊎◌, ◌==◌, ◌&&◌, not, Bool, false, Option, Some, None}
use Rattle.std.specs.Io.KnownBytes.{Consumes, IsAtEnd}
use Rattle.std.proofs.lemmas.Bool.Decides.{nat_tests}
use Rattle.std.proofs.lemmas.List.{length-take-le, take-append-drop, take_all, take_at, length-drop}
use Rattle.std.proofs.lemmas.List.Folds.{list_all-append}
use Rattle.schedule_text.specs.Words.{lacks}
use Rattle.schedule_text.specs.Lines.{EndsAt}
use Rattle.schedule_input.specs.Inputs.{Grown, ReadsMore, IsNext}

consumes_none : (a : Option (List ℕ)) → Consumes a a []
consumes_none None = tt
consumes_none (Some xs) = refl

consumes_two : (a b c : Option (List ℕ)) (xs ys : List ℕ) → Consumes a b xs → Consumes b c ys → Consumes a c (xs ++ ys)
consumes_two None b c xs ys p q = tt
consumes_two (Some ks) None c xs ys p q = absurd p
consumes_two (Some ks) (Some ls) None xs ys p q = absurd q
consumes_two (Some ks) (Some ls) (Some ms) xs ys p q = p ∙ (ap (λ (z : List ℕ). xs ++ z) q ∙ sym (append_assoc xs ys ms))

pub grown_none : (xs : List ℕ) (a : Option (List ℕ)) → Grown xs xs a a
grown_none xs a = record { bytes = []; grown = sym (append-nil xs); consumed = consumes_none a }

pub grown_more : (xs ys zs : List ℕ) (a b c : Option (List ℕ)) → Grown xs ys a b → Grown ys zs b c → Grown xs zs a c
grown_more xs ys zs a b c g h =
    record {
      bytes = g.bytes ++ h.bytes;
      grown = h.grown ∙ (ap (λ (z : List ℕ). z ++ h.bytes) g.grown ∙ append_assoc xs g.bytes h.bytes);
      consumed = consumes_two a b c g.bytes h.bytes g.consumed h.consumed;
    }

pub grown_length : (xs ys : List ℕ) (a b : Option (List ℕ)) (g : Grown xs ys a b) → length ys ≡ length xs + length g.bytes
grown_length xs ys a b g = ap length g.grown ∙ length-append xs g.bytes

-- nothing is read without room
pub no_room : (room : ℕ) (xs : List ℕ) (a : Option (List ℕ)) → room ≡ 0 → ReadsMore room xs xs false a a
no_room room xs a e = record { read = record { bytes = []; grown = sym (append-nil xs); consumed = consumes_none a }; few = omega arith; some = λ f. cc; ended = λ f. (refl, inr e) }

-- a piece was read
pub piece_read : (room count : ℕ) (old new bytes piece : List ℕ) (a b : Option (List ℕ)) → new ≡ old ++ bytes → bytes ≡ take count piece → count ≤ length piece → length piece ≤ room → 0 < length piece
    → Consumes a b (take count piece) × (count ≡ 0 → 0 < length piece → IsAtEnd b) → ReadsMore room old new (not (count == 0)) a b
piece_read room count old new bytes piece a b grown is within few some read =
    (let size : length bytes ≡ count = ap length is ∙ length-take-le count piece within in
    record {
      read = record { bytes = bytes; grown = grown; consumed = subst (λ (x : List ℕ). Consumes a b x) (sym is) read.0 };
      few = omega (arith, size, within, few);
      some = λ e. let z : count ≢ 0 = λ f. (let g : not (count == 0) ≡ false = rw f refl in let h : ◌≡◌ {A = Bool} true false = sym e ∙ g in cc) in omega (arith, size, z);
      ended = λ e. (let z = none count e in (grown ∙ (ap (λ (x : List ℕ). old ++ x) (is ∙ ap (λ (m : ℕ). take m piece) z) ∙ append-nil old), inl (read.1 z some)));
    })
  where
    none : (count : ℕ) → not (count == 0) ≡ false → count ≡ 0
    none zero e = refl
    none (suc n) e = let g : not (suc n == 0) ≡ true = grind (arith, nat_tests) in let h : ◌≡◌ {A = Bool} true false = sym g ∙ e in cc

-- what stands behind a place of bytes, as a slice says it
pub tail_is : (n : ℕ) (xs ys : List ℕ) → xs ≡ ys → take (length xs - n) (drop n xs) ≡ drop n ys
tail_is n xs ys e = take_all (length xs - n) (drop n xs) (omega (arith, length-drop n xs)) ∙ ap (drop n) e

-- ---- the line feed

-- the first so many bytes have none
abbrev pub lacks_front : ℕ → List ℕ → Type 0
lacks_front n bytes = lacks 10 (take n bytes) ≡ true

no_feed_in : (xs ys : List ℕ) → lacks 10 xs ≡ true → lacks 10 ys ≡ true → lacks 10 (xs ++ ys) ≡ true
no_feed_in xs ys e f = list_all-append (λ b. not (b == 10)) xs ys ∙ (ap (λ (b : Bool). b && lacks 10 ys) e ∙ f)

pub feed_behind : (n count : ℕ) (bytes : List ℕ) → n ≤ length bytes → lacks_front n bytes → EndsAt count (drop n bytes) → EndsAt (n + count) bytes
feed_behind n count bytes within none k =
    record {
      line = take n bytes ++ k.line;
      rest = k.rest;
      joined = sym (take-append-drop n bytes) ∙ (ap (λ (z : List ℕ). take n bytes ++ z) k.joined ∙ sym (append_assoc (take n bytes) k.line (10 ∷ k.rest)));
      lacks_feed = no_feed_in (take n bytes) k.line none k.lacks_feed;
      end_is = omega (arith, k.end_is, length-append (take n bytes) k.line, length-take-le n bytes within);
    }

pub no_feed_behind : (n : ℕ) (bytes : List ℕ) → lacks_front n bytes → lacks 10 (drop n bytes) ≡ true → lacks 10 bytes ≡ true
no_feed_behind n bytes none e = ap (lacks 10) (sym (take-append-drop n bytes)) ∙ no_feed_in (take n bytes) (drop n bytes) none e

all_lacks : (old new : List ℕ) (a b : Option (List ℕ)) → lacks 10 old ≡ true → Grown old new a b → lacks_front (length old) new
all_lacks old new a b e g = ap (λ (z : List ℕ). lacks 10 (take (length old) z)) g.grown ∙ (ap (lacks 10) (take_at old g.bytes (length old) refl) ∙ e)

pub searched_all : (n : ℕ) (old new : List ℕ) (a b : Option (List ℕ)) → n ≡ length old → lacks 10 old ≡ true → Grown old new a b → lacks_front n new
searched_all n old new a b all e g = ap (λ (m : ℕ). lacks 10 (take m new)) all ∙ all_lacks old new a b e g

pub line_feed_found : (n count : ℕ) (old new : List ℕ) (end : ℕ) (a b : Option (List ℕ)) → Grown old new a b → n ≤ length new → lacks_front n new → EndsAt count (drop n new) → IsNext (n + count) old new end a b
line_feed_found n count old new end a b g within none k = record { read = g; ends = inl (feed_behind n count new within none k) }

pub line_is_last : (n : ℕ) (old mid new : List ℕ) (end : ℕ) (a b c : Option (List ℕ)) → Grown old mid a b → lacks 10 mid ≡ true → n ≡ length mid → end + length mid ≤ 67108865 → ReadsMore (67108865 - end - n) mid new false b c → IsNext n old new end a c
line_is_last n old mid new end a b c g none all within m =
    (let e = m.ended refl in
    record {
      read = grown_more old mid new a b c g m.read;
      ends = inr (record { all = all ∙ ap length (sym e.0); lacks_feed = ap (lacks 10) e.0 ∙ none; last = by e.1 });
    })
  where
    by : IsAtEnd c ⊎ (67108865 - end - n ≡ 0) → IsAtEnd c ⊎ (end + n ≡ 67108865)
    by (inl x) = inl x
    by (inr x) = inr (omega (arith, x, all, within))
