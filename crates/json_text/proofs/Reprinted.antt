-- What is printed is in the grammar, and is read again.
use Rattle.std.proofs.Common.{◌≡◌, ◌≢◌, ℕ, zero, suc, ◌+◌, ◌-◌, ◌/◌, ◌%◌, ◌<◌, ◌≤◌, true, false, eqb, ltb, List, [], ◌∷◌, ◌++◌, map, Some, Result, Ok, Err, refl, sym, ap, ◌∙◌, subst, inl, inr, arith}
use Rattle.std.specs.Prelude.{IfOk, OnOk}
use Rattle.std.specs.Char.{encode_utf8}
use Rattle.std.specs.List.{AllByRecursion, flat_map}
use Rattle.std.specs.Str.{is_utf8}
use Rattle.std.proofs.lemmas.Bool.{cases_Bool, cases_lt, eqb-true, ltb-true, ltb-false, lt-ltb, le-ltb}
use Rattle.std.proofs.lemmas.List.{append-nil}
use Rattle.json_tree.specs.declared.tree.Tree.{Tree, Tree-F, out-Tree, roll-out-Tree, map-Tree, fold-roll-Tree}
use Rattle.json_text.specs.Reading.{hex_value, meant, tree_of_text}
use Rattle.json_text.specs.Grammar.{IsUnit, AreChars, none, plain, letter, unit, IsString, AreMore, AreListed, IsMember, IsOne, IsArray, IsObject, Json}
use Rattle.json_text.specs.Print.{hex_digit_of, escaped, quoted, behind_commas, with_commas, member_text, print_step, text_of, items_text, entry_text, entries_text}
use Rattle.json_tree.specs.Levels.{levels_of, items_levels, field_levels}
use Rattle.json_tree.specs.WellFormed.{AreNames, IsWellFormedLevel, IsWellFormed, AreWellFormedItems, AreWellFormedFields}
use Rattle.json_tree.proofs.Levels.{levels_at, levels_out, fields_same}
use Rattle.json_tree.proofs.WellFormed.{HoldsWellFormed, here_well, held_well}
use Rattle.json_text.specs.Printing.{PrintIsJson, PrintIsRead}
use Rattle.json_text.proofs.FoundStrings.{differs}
use Rattle.json_text.proofs.Spelled.{json_read}

-- ---- strings

hex_low : (n : ℕ) → n < 10 → hex_value (n + 48) ≡ Some n
hex_low n lt =
    let low : ltb 47 (n + 48) ≡ true = lt-ltb 47 (n + 48) (omega arith) in
    let high : ltb (n + 48) 58 ≡ true = lt-ltb (n + 48) 58 (omega arith) in
    let same : n + 48 - 48 ≡ n = omega arith in
    rw (low, high) (ap (λ (v : ℕ). Some v) same)

hex_high : (n : ℕ) → 10 ≤ n → n < 16 → hex_value (n + 87) ≡ Some n
hex_high n ge lt =
    let no_digit : ltb (n + 87) 58 ≡ false = le-ltb (n + 87) 58 (omega arith) in
    let digit : ltb 47 (n + 87) ≡ true = lt-ltb 47 (n + 87) (omega arith) in
    let no_upper : ltb (n + 87) 71 ≡ false = le-ltb (n + 87) 71 (omega arith) in
    let upper : ltb 64 (n + 87) ≡ true = lt-ltb 64 (n + 87) (omega arith) in
    let from : ltb 96 (n + 87) ≡ true = lt-ltb 96 (n + 87) (omega arith) in
    let upto : ltb (n + 87) 103 ≡ true = lt-ltb (n + 87) 103 (omega arith) in
    let same : n + 87 - 87 ≡ n = omega arith in
    rw (digit, no_digit, upper, no_upper, from, upto) (ap (λ (v : ℕ). Some v) same)

hex_back : (n : ℕ) → n < 16 → hex_value (hex_digit_of n) ≡ Some n
hex_back n lt =
    elim (cases_lt n 10) [
      | inl low ↦ rw (lt-ltb n 10 low) (hex_low n low)
      | inr high ↦ rw (le-ltb n 10 high) (hex_high n high lt)
    ]

one_byte : (b : ℕ) → b < 128 → encode_utf8 b ≡ b ∷ []
unfolding encode_utf8
one_byte b lt = rw (lt-ltb b 128 lt) refl

control_is : (b : ℕ) → b < 32 → IsUnit 48 48 (hex_digit_of (b / 16)) (hex_digit_of (b % 16)) b
control_is b lt = (0, 0, b / 16, b % 16, refl, refl, hex_back (b / 16) (omega arith), hex_back (b % 16) (omega arith), omega arith)

abbrev AfterOne : ℕ → List ℕ → List ℕ → Type 0
AfterOne b s t = AreChars (escaped b ++ s) (b ∷ t)

letter_case : (b c m : ℕ) (s t : List ℕ) → b ≡ m → c ≢ 117 → meant c ≡ Some m → AreChars s t → AreChars (92 ∷ c ∷ s) (b ∷ t)
letter_case b c m s t e ne is r = subst (λ (x : ℕ). AreChars (92 ∷ c ∷ s) (x ∷ t)) (sym e) (letter ne is r)

one_printed : (b : ℕ) (s t : List ℕ) → AreChars s t → AfterOne b s t
unfolding escaped
one_printed b s t r =
    elim (cases_Bool (eqb b 34)) [
      | inl e ↦ rw e (letter_case b 34 34 s t (eqb-true b 34 e) (λ p. omega (arith, p)) refl r)
      | inr e34 ↦
          elim (cases_Bool (eqb b 92)) [
            | inl e ↦ rw (e34, e) (letter_case b 92 92 s t (eqb-true b 92 e) (λ p. omega (arith, p)) refl r)
            | inr e92 ↦
                elim (cases_Bool (eqb b 8)) [
                  | inl e ↦ rw (e34, e92, e) (letter_case b 98 8 s t (eqb-true b 8 e) (λ p. omega (arith, p)) refl r)
                  | inr e8 ↦
                      elim (cases_Bool (eqb b 12)) [
                        | inl e ↦ rw (e34, e92, e8, e) (letter_case b 102 12 s t (eqb-true b 12 e) (λ p. omega (arith, p)) refl r)
                        | inr e12 ↦
                            elim (cases_Bool (eqb b 10)) [
                              | inl e ↦ rw (e34, e92, e8, e12, e) (letter_case b 110 10 s t (eqb-true b 10 e) (λ p. omega (arith, p)) refl r)
                              | inr e10 ↦
                                  elim (cases_Bool (eqb b 13)) [
                                    | inl e ↦ rw (e34, e92, e8, e12, e10, e) (letter_case b 114 13 s t (eqb-true b 13 e) (λ p. omega (arith, p)) refl r)
                                    | inr e13 ↦
                                        elim (cases_Bool (eqb b 9)) [
                                          | inl e ↦ rw (e34, e92, e8, e12, e10, e13, e) (letter_case b 116 9 s t (eqb-true b 9 e) (λ p. omega (arith, p)) refl r)
                                          | inr e9 ↦
                                              elim (cases_Bool (ltb b 32)) [
                                                | inl e ↦
                                                    let small : b < 32 = ltb-true b 32 e in
                                                    rw (e34, e92, e8, e12, e10, e13, e9, e) (unit (control_is b small) (inl (omega arith)) r (ap (λ (l : List ℕ). l ++ t) (sym (one_byte b (omega arith)))))
                                                | inr e ↦ rw (e34, e92, e8, e12, e10, e13, e9, e) (plain (ltb-false b 32 e) (differs b 34 e34) (differs b 92 e92) r)
                                              ]
                                        ]
                                  ]
                            ]
                      ]
                ]
          ]
    ]

chars_printed : (t : List ℕ) → AreChars (flat_map escaped t) t
chars_printed [] = none
chars_printed (b ∷ t) = one_printed b (flat_map escaped t) t (chars_printed t)

string_printed : (t : List ℕ) → is_utf8 t ≡ true → IsString (quoted t) t
string_printed t h = (flat_map escaped t, chars_printed t, h, refl)

-- ---- lists

module _ {A : Type 0} (V : List ℕ → A → Type 0) (text : A → List ℕ) where
  more_printed : (xs : List A) → AllByRecursion (λ x. V (text x) x) xs → AreMore V (behind_commas (map text xs)) xs
  more_printed [] h = refl
  more_printed (x ∷ xs) h = ([], text x, [], behind_commas (map text xs), refl, h.0, refl, more_printed xs h.1, refl)

  listed : (xs : List A) → AllByRecursion (λ x. V (text x) x) xs → AreListed V (with_commas (map text xs)) xs
  listed [] h = refl
  listed (x ∷ xs) h = ([], text x, [], behind_commas (map text xs), refl, h.0, refl, more_printed xs h.1, refl)

text_out : (t : Tree) → text_of t ≡ print_step (map-Tree Tree (List ℕ) text_of (out-Tree t))
text_out t = ap text_of (sym (roll-out-Tree t)) ∙ fold-roll-Tree (List ℕ) print_step (out-Tree t)

-- ---- one level

texts_same : (es : List (List ℕ × Tree)) → map member_text (map (λ (e : List ℕ × Tree). (e.0, text_of e.1)) es) ≡ map entry_text es
texts_same [] = refl
texts_same (e ∷ es) = ap (λ (l : List (List ℕ)). entry_text e ∷ l) (texts_same es)

module _ (A : List ℕ → List Tree → Type 0) (O : List ℕ → List (List ℕ × Tree) → Type 0) (n : ℕ)
    (arrays : (ts : List Tree) → AreWellFormedItems ts → suc (items_levels ts) ≤ n → A (91 ∷ (items_text ts ++ 93 ∷ [])) ts)
    (objects : (es : List (List ℕ × Tree)) → AreNames es → AreWellFormedFields es → suc (field_levels es) ≤ n → O (123 ∷ (entries_text es ++ 125 ∷ [])) es) where
  level_printed : (x : Tree-F Tree) → IsWellFormedLevel x → HoldsWellFormed x → levels_at x ≤ n → IsOne A O (print_step (map-Tree Tree (List ℕ) text_of x)) x
  level_printed Tree-F.Null k h le = refl
  level_printed (Tree-F.Bool true) k h le = refl
  level_printed (Tree-F.Bool false) k h le = refl
  level_printed (Tree-F.Number t) k h le = (k, refl)
  level_printed (Tree-F.Str t) k h le = string_printed t k
  level_printed (Tree-F.Items ts) k h le = arrays ts h le
  level_printed (Tree-F.Object es) k h le =
      subst (λ (ms : List (List ℕ)). O (123 ∷ (with_commas ms ++ 125 ∷ [])) es) (sym (texts_same es)) (objects es k h (omega (arith, le, fields_same es)))

  value_printed : (t : Tree) → IsWellFormed t → levels_of t ≤ n → IsOne A O (text_of t) (out-Tree t)
  value_printed t k le =
      subst (λ (b : List ℕ). IsOne A O b (out-Tree t)) (sym (text_out t)) (level_printed (out-Tree t) (here_well t k) (held_well t k) (omega (arith, le, levels_out t)))

  items_printed : (ts : List Tree) → AreWellFormedItems ts → items_levels ts ≤ n → AllByRecursion (λ t. IsOne A O (text_of t) (out-Tree t)) ts
  items_printed [] k le = tt
  items_printed (t ∷ ts) k le = (value_printed t k.0 (omega arith), items_printed ts k.1 (omega arith))

  members_printed : (es : List (List ℕ × Tree)) → AllByRecursion (λ e. is_utf8 e.0 ≡ true) es → AreWellFormedFields es → field_levels es ≤ n → AllByRecursion (λ e. IsMember (λ c t. IsOne A O c (out-Tree t)) (entry_text e) e) es
  members_printed [] u k le = tt
  members_printed (e ∷ es) u k le = ((quoted e.0, [], [], text_of e.1, string_printed e.0 u.0, refl, refl, value_printed e.1 k.0 (omega arith), refl), members_printed es u.1 k.1 (omega arith))

mutual
  unfolding IsArray

  array_printed : (n : ℕ) (ts : List Tree) → AreWellFormedItems ts → suc (items_levels ts) ≤ n → IsArray n (91 ∷ (items_text ts ++ 93 ∷ [])) ts
  array_printed zero ts k le = absurd (omega arith)
  array_printed (suc n) ts k le =
      (items_text ts, listed (λ c t. IsOne (IsArray n) (IsObject n) c (out-Tree t)) text_of ts (items_printed (IsArray n) (IsObject n) n (array_printed n) (object_printed n) ts k (omega arith)), refl)

  object_printed : (n : ℕ) (es : List (List ℕ × Tree)) → AreNames es → AreWellFormedFields es → suc (field_levels es) ≤ n → IsObject n (123 ∷ (entries_text es ++ 125 ∷ [])) es
  object_printed zero es k h le = absurd (omega arith)
  object_printed (suc n) es k h le = (
    entries_text es,
    listed (IsMember (λ c t. IsOne (IsArray n) (IsObject n) c (out-Tree t))) entry_text es (members_printed (IsArray n) (IsObject n) n (array_printed n) (object_printed n) es k.1 h (omega arith)),
    k.0,
    refl,
  )

-- ---- whole texts

pub print_json : PrintIsJson
unfolding Json
print_json t k le = ([], text_of t, [], refl, value_printed (IsArray 256) (IsObject 256) 256 (array_printed 256) (object_printed 256) t k le, refl, sym (append-nil (text_of t)))

pub print_read : PrintIsRead
print_read t k le = json_read (text_of t) t (print_json t k le)

-- the text that a call printed
pub printed_back : {E : Type 0} (r : Result (List ℕ) E) (t : Tree) → IfOk r (λ x. x ≡ text_of t) → OnOk r (IsWellFormed t) → levels_of t ≤ 256 → IfOk r (λ x. tree_of_text x ≡ Ok t)
printed_back (Ok x) t e k le = ap tree_of_text e ∙ print_read t k le
printed_back (Err e) t h k le = tt
