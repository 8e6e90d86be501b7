-- Reading a pattern character by character.
use Rattle.std.proofs.Common.{◌≡◌, ℕ, ◌+◌, ◌/◌, ◌%◌, ◌≤◌, Bool, true, false, cond, List, [], ◌∷◌, ◌++◌, length, drop, ltb, refl, sym, ap, ◌∙◌, append_assoc, arith}
use Rattle.std.specs.Prelude.{Option, Some, None, option_map, ◌==◌, slice_get}
use Rattle.std.specs.Char.{encode_utf8}
use Rattle.std.proofs.lemmas.Bool.{ne_eqb}
use Rattle.std.proofs.lemmas.List.{append-nil}
use Rattle.ns_patterns.specs.Literals.{Literals, star, backslash, with_byte, with_star, literals_from}

abbrev pub with_text : List ℕ → Literals → Literals
with_text l p = record { first = l ++ p.first; behind = p.behind }

-- no byte is ASCII
abbrev AreHigh : List ℕ → Type 0
AreHigh [] = Unit {0}
AreHigh (x ∷ xs) = (128 ≤ x) × AreHigh xs

nothing_more : (o : Option Literals) → o ≡ option_map (with_text []) o
nothing_more None = refl
nothing_more (Some p) = refl

byte_more : (b : ℕ) (bs : List ℕ) (o : Option Literals) → option_map (with_byte b) (option_map (with_text bs) o) ≡ option_map (with_text (b ∷ bs)) o
byte_more b bs None = refl
byte_more b bs (Some p) = refl

stands : (b : ℕ) (r : List ℕ) → (b == star) ≡ false → (b == backslash) ≡ false → literals_from false (b ∷ r) ≡ option_map (with_byte b) (literals_from false r)
unfolding literals_from
stands b r s e = rw (s, e) refl

high : (bs r : List ℕ) → AreHigh bs → literals_from false (bs ++ r) ≡ option_map (with_text bs) (literals_from false r)
high [] r h = nothing_more (literals_from false r)
high (b ∷ bs) r h =
    stands b (bs ++ r) (ne_eqb b star (λ e. omega (arith, h.0, e))) (ne_eqb b backslash (λ e. omega (arith, h.0, e)))
    ∙ (ap (option_map (with_byte b)) (high bs r h.1) ∙ byte_more b bs (literals_from false r))

escaped_byte : (b : ℕ) (bs r : List ℕ) → AreHigh bs → literals_from true ((b ∷ bs) ++ r) ≡ option_map (with_text (b ∷ bs)) (literals_from false r)
unfolding literals_from
escaped_byte b bs r h = ap (option_map (with_byte b)) (high bs r h) ∙ byte_more b bs (literals_from false r)

plain_byte : (c : ℕ) (r : List ℕ) → (c == star) ≡ false → (c == backslash) ≡ false → literals_from false (c ∷ r) ≡ option_map (with_text (c ∷ [])) (literals_from false r)
plain_byte c r s e = stands c r s e ∙ (ap (option_map (with_byte c)) (nothing_more (literals_from false r)) ∙ byte_more c [] (literals_from false r))

abbrev next : ℕ → ℕ
next bits = 128 + bits % 64

abbrev shape : ℕ → Bool → Bool → Bool → List ℕ
shape c a b d = cond a (c ∷ []) (cond b ((192 + c / 64) ∷ next c ∷ []) (cond d ((224 + c / 4096) ∷ next (c / 64) ∷ next c ∷ []) ((240 + c / 262144) ∷ next (c / 4096) ∷ next (c / 64) ∷ next c ∷ [])))

escaped_shape : (c : ℕ) (r : List ℕ) (a b d : Bool) → literals_from true (shape c a b d ++ r) ≡ option_map (with_text (shape c a b d)) (literals_from false r)
escaped_shape c r true b d = escaped_byte c [] r tt
escaped_shape c r false true d = escaped_byte (192 + c / 64) (next c ∷ []) r (omega arith, tt)
escaped_shape c r false false true = escaped_byte (224 + c / 4096) (next (c / 64) ∷ next c ∷ []) r (omega arith, (omega arith, tt))
escaped_shape c r false false false = escaped_byte (240 + c / 262144) (next (c / 4096) ∷ next (c / 64) ∷ next c ∷ []) r (omega arith, (omega arith, (omega arith, tt)))

plain_shape : (c : ℕ) (r : List ℕ) → (c == star) ≡ false → (c == backslash) ≡ false → (a b d : Bool) → literals_from false (shape c a b d ++ r) ≡ option_map (with_text (shape c a b d)) (literals_from false r)
plain_shape c r s e true b d = plain_byte c r s e
plain_shape c r s e false true d = high ((192 + c / 64) ∷ next c ∷ []) r (omega arith, (omega arith, tt))
plain_shape c r s e false false true = high ((224 + c / 4096) ∷ next (c / 64) ∷ next c ∷ []) r (omega arith, (omega arith, (omega arith, tt)))
plain_shape c r s e false false false = high ((240 + c / 262144) ∷ next (c / 4096) ∷ next (c / 64) ∷ next c ∷ []) r (omega arith, (omega arith, (omega arith, (omega arith, tt))))

escaped_char : (c : ℕ) (r : List ℕ) → literals_from true (encode_utf8 c ++ r) ≡ option_map (with_text (encode_utf8 c)) (literals_from false r)
unfolding encode_utf8
escaped_char c r = escaped_shape c r (ltb c 128) (ltb c 2048) (ltb c 65536)

plain_char : (c : ℕ) (r : List ℕ) → (c == star) ≡ false → (c == backslash) ≡ false → literals_from false (encode_utf8 c ++ r) ≡ option_map (with_text (encode_utf8 c)) (literals_from false r)
unfolding encode_utf8
plain_char c r s e = plain_shape c r s e (ltb c 128) (ltb c 2048) (ltb c 65536)

-- ---- what was read, and the rest

-- the literals that are done, the one that is being read, and the rest's
abbrev pub joined : List (List ℕ) → List ℕ → Literals → Literals
joined [] l p = with_text l p
joined (d ∷ ds) l p = record { first = d; behind = ds ++ (l ++ p.first) ∷ p.behind }

abbrev pub Left : Option Literals → List (List ℕ) → List ℕ → Option Literals → Type 0
Left total done l rest = total ≡ option_map (joined done l) rest

pub starts : (o : Option Literals) → Left o [] [] o
starts o = nothing_more o

text_joined : (done : List (List ℕ)) (l t : List ℕ) (o : Option Literals) → option_map (joined done l) (option_map (with_text t) o) ≡ option_map (joined done (l ++ t)) o
text_joined done l t None = refl
text_joined [] l t (Some p) = ap (λ (x : List ℕ). Some (record { first = x; behind = p.behind })) (sym (append_assoc l t p.first))
text_joined (d ∷ ds) l t (Some p) = ap (λ (x : List ℕ). Some (record { first = d; behind = ds ++ x ∷ p.behind })) (sym (append_assoc l t p.first))

star_joined : (done : List (List ℕ)) (l : List ℕ) (o : Option Literals) → option_map (joined done l) (option_map with_star o) ≡ option_map (joined (done ++ l ∷ []) []) o
star_joined done l None = refl
star_joined [] l (Some p) = ap (λ (x : List ℕ). Some (record { first = x; behind = p.first ∷ p.behind })) (append-nil l)
star_joined (d ∷ ds) l (Some p) =
    ap (λ (x : List (List ℕ)). Some (record { first = d; behind = x })) (ap (λ (x : List ℕ). ds ++ x ∷ (p.first ∷ p.behind)) (append-nil l) ∙ sym (append_assoc ds (l ∷ []) (p.first ∷ p.behind)))

pub after_escape : (total : Option Literals) (done : List (List ℕ)) (l : List ℕ) (c : ℕ) (rest after new : List ℕ) → Left total done l (literals_from true rest) → rest ≡ encode_utf8 c ++ after → new ≡ l ++ encode_utf8 c → Left total done new (literals_from false after)
after_escape total done l c rest after new h e n =
    h ∙ (ap (λ (x : List ℕ). option_map (joined done l) (literals_from true x)) e ∙ (ap (option_map (joined done l)) (escaped_char c after) ∙ (text_joined done l (encode_utf8 c) (literals_from false after) ∙ ap (λ (x : List ℕ). option_map (joined done x) (literals_from false after)) (sym n))))

pub after_char : (total : Option Literals) (done : List (List ℕ)) (l : List ℕ) (c : ℕ) (rest after new : List ℕ) → Left total done l (literals_from false rest) → (c ≡ star → ⊥) → (c ≡ backslash → ⊥) → rest ≡ encode_utf8 c ++ after → new ≡ l ++ encode_utf8 c → Left total done new (literals_from false after)
after_char total done l c rest after new h s b e n =
    h ∙ (ap (λ (x : List ℕ). option_map (joined done l) (literals_from false x)) e ∙ (ap (option_map (joined done l)) (plain_char c after (ne_eqb c star s) (ne_eqb c backslash b)) ∙ (text_joined done l (encode_utf8 c) (literals_from false after) ∙ ap (λ (x : List ℕ). option_map (joined done x) (literals_from false after)) (sym n))))

pub after_star : (total : Option Literals) (done : List (List ℕ)) (l : List ℕ) (c : ℕ) (rest after : List ℕ) (done_now : List (List ℕ)) (new : List ℕ) → Left total done l (literals_from false rest) → c ≡ star → rest ≡ encode_utf8 c ++ after → done_now ≡ done ++ l ∷ [] → new ≡ [] → Left total done_now new (literals_from false after)
unfolding literals_from encode_utf8
after_star total done l c rest after done_now new h s e d n =
    h ∙ (ap (λ (x : List ℕ). option_map (joined done l) (literals_from false x)) (e ∙ ap (λ (x : ℕ). encode_utf8 x ++ after) s)
    ∙ (star_joined done l (literals_from false after) ∙ (ap (λ (x : List (List ℕ)). option_map (joined x []) (literals_from false after)) (sym d) ∙ ap (λ (x : List ℕ). option_map (joined done_now x) (literals_from false after)) (sym n))))

pub after_backslash : (total : Option Literals) (done : List (List ℕ)) (l : List ℕ) (c : ℕ) (rest after : List ℕ) → Left total done l (literals_from false rest) → c ≡ backslash → rest ≡ encode_utf8 c ++ after → Left total done l (literals_from true after)
unfolding literals_from encode_utf8
after_backslash total done l c rest after h b e =
    h ∙ ap (λ (x : List ℕ). option_map (joined done l) (literals_from false x)) (e ∙ ap (λ (x : ℕ). encode_utf8 x ++ after) b)

empty : (rest : List ℕ) → length rest ≡ 0 → rest ≡ []
empty [] e = refl
empty (x ∷ rest) e = absurd (omega (arith, e))

pub ends_escaped : (total : Option Literals) (done : List (List ℕ)) (l rest : List ℕ) → Left total done l (literals_from true rest) → length rest ≡ 0 → total ≡ None
unfolding literals_from
ends_escaped total done l rest h e = h ∙ ap (λ (x : List ℕ). option_map (joined done l) (literals_from true x)) (empty rest e)

-- the first of the literals, and those behind it
pub all_of : (total : Option Literals) (done : List (List ℕ)) (l rest : List ℕ) (all : List (List ℕ)) (first : List ℕ) (behind : List (List ℕ)) → Left total done l (literals_from false rest) → length rest ≡ 0 → all ≡ done ++ l ∷ [] → slice_get all 0 ≡ Some first → behind ≡ drop 1 all → total ≡ Some (record { first = first; behind = behind })
unfolding literals_from
all_of total done l rest all first behind h e a f b =
    h ∙ (ap (λ (x : List ℕ). option_map (joined done l) (literals_from false x)) (empty rest e) ∙ go done (ap (λ (x : List (List ℕ)). slice_get x 0) (sym a) ∙ f) (b ∙ ap (λ (x : List (List ℕ)). drop 1 x) a)) where
      go : (done : List (List ℕ)) → slice_get (done ++ l ∷ []) 0 ≡ Some first → behind ≡ drop 1 (done ++ l ∷ []) → Some (joined done l (record { first = []; behind = [] })) ≡ Some (record { first = first; behind = behind })
      go [] f b = let is : first ≡ l = cc in rw (is, b) (ap (λ (x : List ℕ). Some (record { first = x; behind = [] })) (append-nil l))
      go (d ∷ ds) f b = let is : first ≡ d = cc in rw (is, b) (ap (λ (x : List ℕ). Some (record { first = d; behind = ds ++ x ∷ [] })) (append-nil l))
