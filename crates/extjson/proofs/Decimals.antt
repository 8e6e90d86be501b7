-- Decimal numbers are numbers of JSON.
use Rattle.std.proofs.Common.{◌≡◌, ℕ, ◌<◌, ◌^◌, true, eqb, ltb, leb, List, [], ◌∷◌, length, refl, sym, inl, inr, arith}
use Rattle.std.specs.Prelude.{codes}
use Rattle.std.specs.Fmt.{decimal}
use Rattle.std.specs.List.{list_all}
use Rattle.std.specs.Char.{is_ascii_digit}
use Rattle.std.proofs.lemmas.Bool.{cases_Bool, eqb-true, eq-eqb, and_parts, lt-ltb, leb-true}
use Rattle.std.proofs.lemmas.List.{append-nil, nil_from_length}
use Rattle.json_tree.specs.Numbers.{is_digit, IsWhole, IsNumber}
use Rattle.extjson.specs.Numbers.{is_natural}
use Rattle.extjson.proofs.Wholes.{natural_digits}
use Rattle.extjson.proofs.ReadBack.{natural_decimal}

all_digits : (cs : List ℕ) → list_all is_ascii_digit cs ≡ true → list_all is_digit cs ≡ true
all_digits [] h = refl
all_digits (c ∷ cs) h =
    let p = and_parts (is_ascii_digit c) (list_all is_ascii_digit cs) h in
    let q = and_parts (leb 48 c) (leb c 57) p.0 in
    let low : ltb 47 c ≡ true = lt-ltb 47 c (omega (arith, leb-true 48 c q.0)) in
    let high : ltb c 58 ≡ true = lt-ltb c 58 (omega (arith, leb-true c 57 q.1)) in
    rw (low, high) (all_digits cs p.1)

natural_whole : (ds : List ℕ) → is_natural ds ≡ true → IsWhole ds
unfolding is_natural
natural_whole [] h = absurd cc
natural_whole (c ∷ cs) h =
    elim (cases_Bool (eqb c 48)) [
      | inl e ↦
          let none : length cs ≡ 0 = eqb-true (length cs) 0 (rw e at h) in
          inl (eqb-true c 48 e, nil_from_length cs none)
      | inr e ↦ inr ((λ p. let t : eqb c 48 ≡ true = eq-eqb c 48 p in cc), record { some = omega arith; digits = all_digits (c ∷ cs) (natural_digits (c ∷ cs) h) })
    ]

natural_number : (t : List ℕ) → is_natural t ≡ true → IsNumber t
natural_number t h = ([], t, [], [], inl refl, natural_whole t h, inl refl, inl refl, sym (append-nil t))

pub decimal_number : (n : ℕ) → n < 2 ^ 64 → IsNumber (decimal n)
decimal_number n lt = natural_number (decimal n) (natural_decimal n lt)

pub one_number : IsNumber (codes "1")
unfolding is_natural
one_number = natural_number (codes "1") refl
