-- From one element to the next, where it is only known that there are elements.
use Rattle.std.proofs.Common.{◌≡◌, ℕ, ◌+◌, ◌-◌, List, ◌∷◌, length, take, drop, refl, sym, ap, subst, ◌∙◌, arith}
use Rattle.std.specs.Prelude.{Some, None, ◌==◌, IsTrue, true}
use Rattle.std.specs.List.{position_from}
use Rattle.std.specs.Coded.{Coded, Coded-set, code_by, coded×, coded_list, coded_ℕ}
use Rattle.std.proofs.Math.Bool.{Bool-set}
use Rattle.std.proofs.Math.Logic.{∥∥₁_elim, ∥∥₁_map}
use Rattle.std.proofs.lemmas.List.{take_all, length-drop}
use Rattle.bson_check.specs.Passing.{upto_zero, past_zero, jump}
use Rattle.bson_view.specs.Meaning.{is_value}
use Rattle.bson_view.specs.Parts.{Part, AreElements, first_part, parts_of}
use Rattle.bson_view.proofs.Meanings.{value_checked}
use Rattle.bson_view.proofs.Parting.{first_of, at_zero, part_is, others_is, parts_on}

part_code : Coded Part
part_code = code_by (List ℕ × (ℕ × List ℕ)) (coded× (coded_list coded_ℕ) (coded× coded_ℕ (coded_list coded_ℕ))) (λ p. (p.name, (p.tag, p.value))) (λ t. record { name = t.0; tag = t.1.0; value = t.1.1 }) (λ _. refl)

parts_prop : (ps qs : List Part) → IsProp (ps ≡ qs)
parts_prop ps qs = Coded-set (coded_list part_code) ps qs

value_prop : (tag : ℕ) (b : List ℕ) → IsProp (IsTrue (is_value tag b))
value_prop tag b = Bool-set (is_value tag b) true

no_prop : IsProp ⊥
no_prop = hlevel

-- what is left holds elements too
pub left_on : (tag : ℕ) (bytes : List ℕ) → ∥ AreElements (tag ∷ bytes) ∥₁ → ∥ AreElements (jump tag (past_zero bytes)) ∥₁
left_on tag bytes t =
    ∥∥₁_map t (λ s. let f = first_of s.0 tag bytes s.1 s.2 in subst (λ (b : List ℕ). AreElements b) (sym (others_is s.0 tag bytes s.1 f)) (s.0, f.more, f.left))

-- a name ends
pub some_zero : (tag : ℕ) (bytes : List ℕ) → ∥ AreElements (tag ∷ bytes) ∥₁ → position_from (λ b. b == 0) 0 bytes ≡ None → ⊥
some_zero tag bytes t none = ∥∥₁_elim t no_prop (λ s. let e = sym none ∙ at_zero s.0 tag bytes s.1 (first_of s.0 tag bytes s.1 s.2) in cc)

pub value_on : (tag : ℕ) (bytes : List ℕ) → ∥ AreElements (tag ∷ bytes) ∥₁ → IsTrue (is_value tag (first_part tag bytes).value)
value_on tag bytes t =
    ∥∥₁_elim t (value_prop tag (first_part tag bytes).value)
    (λ s. let f = first_of s.0 tag bytes s.1 s.2 in subst (λ (p : Part). IsTrue (is_value tag p.value)) (sym (part_is s.0 tag bytes s.1 f)) (value_checked tag f.spelling f.value (record { levels = s.0; kind = f.kind; spells = f.spells })))

pub parts_step : (tag : ℕ) (bytes : List ℕ) → ∥ AreElements (tag ∷ bytes) ∥₁ → parts_of (tag ∷ bytes) ≡ first_part tag bytes ∷ parts_of (jump tag (past_zero bytes))
parts_step tag bytes t =
    ∥∥₁_elim t (parts_prop (parts_of (tag ∷ bytes)) (first_part tag bytes ∷ parts_of (jump tag (past_zero bytes))))
    (λ s. let f = first_of s.0 tag bytes s.1 s.2 in
    parts_on s.0 tag bytes s.1 f ∙ ap (λ (p : Part). p ∷ parts_of f.others) (sym (part_is s.0 tag bytes s.1 f)) ∙ ap (λ (b : List ℕ). first_part tag bytes ∷ parts_of b) (sym (others_is s.0 tag bytes s.1 f)))

-- ---- what the bytes are cut into

pub to_the_end : (k : ℕ) (bytes : List ℕ) → take (length bytes - k) (drop k bytes) ≡ drop k bytes
to_the_end k bytes = take_all (length bytes - k) (drop k bytes) (omega (arith, length-drop k bytes))

module _ (tag i : ℕ) (bytes behind rest : List ℕ) (zero : position_from (λ b. b == 0) 0 bytes ≡ Some i) (is_behind : behind ≡ drop (i + 1) bytes) (is_rest : rest ≡ jump tag behind) where
  pub name_cut : upto_zero bytes ≡ take i bytes
  unfolding upto_zero
  name_cut = rw zero refl

  pub behind_cut : past_zero bytes ≡ behind
  unfolding past_zero
  behind_cut = rw zero (sym is_behind)

  pub rest_cut : jump tag (past_zero bytes) ≡ rest
  rest_cut = ap (jump tag) behind_cut ∙ sym is_rest

  pub value_cut : (first_part tag bytes).value ≡ take (length behind - length rest) behind
  value_cut = rw (rest_cut, behind_cut) refl

  pub part_cut : first_part tag bytes ≡ record { name = take i bytes; tag = tag; value = take (length behind - length rest) behind }
  part_cut = rw (name_cut, value_cut) refl

  pub step_cut : ∥ AreElements (tag ∷ bytes) ∥₁ → parts_of (tag ∷ bytes) ≡ record { name = take i bytes; tag = tag; value = take (length behind - length rest) behind } ∷ parts_of rest
  step_cut t =
      let p : Part = record { name = take i bytes; tag = tag; value = take (length behind - length rest) behind } in
      parts_step tag bytes t ∙ ap (λ (q : Part). q ∷ parts_of (jump tag (past_zero bytes))) part_cut ∙ ap (λ (z : List ℕ). p ∷ parts_of z) rest_cut
