-- A walk over elements that counts their bytes.
use Rattle.std.proofs.Common.{◌≡◌, ℕ, ◌+◌, ◌-◌, true, false, List, [], ◌∷◌, ◌++◌, length, take, drop, refl, sym, ap, ◌∙◌, append_assoc, arith}
use Rattle.std.specs.Str.{bytes_eq}
use Rattle.std.proofs.lemmas.List.{take_at, drop_at, append-nil, length-append}
use Rattle.bson_check.specs.Spells.{IsFrame}
use Rattle.bson_view.specs.Parts.{Part, part_bytes, bytes_of}
use Rattle.spliced_documents.specs.Splicing.{front_of, rest_of}

-- the walk stands before the elements that are left
pub record Stands (k bytes : List ℕ) (all left : List Part) (at : ℕ) : Type 0 where
  pub total : List ℕ
  pub passed : List ℕ
  pub four : length total ≡ 4
  pub here : at ≡ 4 + length passed
  pub whole : bytes ≡ total ++ (passed ++ (bytes_of left ++ 0 ∷ []))
  pub front : front_of k all ≡ passed ++ front_of k left
  pub rest : rest_of k all ≡ rest_of k left

pub starts : (k bytes : List ℕ) (all : List Part) → IsFrame bytes (bytes_of all) → Stands k bytes all all 4
starts k bytes all f = record {
  total = f.0;
  passed = [];
  four = f.1.four;
  here = refl;
  whole = f.2 ∙ append_assoc f.0 (bytes_of all) (0 ∷ []);
  front = refl;
  rest = refl;
}

module _ (k bytes : List ℕ) (all left : List Part) (at : ℕ) (s : Stands k bytes all left at) where
  -- what lies before
  pub passed_is : take (at - 4) (drop 4 bytes) ≡ s.passed
  passed_is =
      let n : length s.passed ≡ at - 4 = omega (arith, s.here) in
      ap (λ (z : List ℕ). take (at - 4) (drop 4 z)) s.whole ∙ ap (take (at - 4)) (drop_at s.total (s.passed ++ (bytes_of left ++ 0 ∷ [])) 4 s.four) ∙ take_at s.passed (bytes_of left ++ 0 ∷ []) (at - 4) n

  -- what lies from here on
  pub left_is : drop at bytes ≡ bytes_of left ++ 0 ∷ []
  left_is =
      let n : length (s.total ++ s.passed) ≡ at = omega (arith, s.here, s.four, length-append s.total s.passed) in
      ap (drop at) (s.whole ∙ sym (append_assoc s.total s.passed (bytes_of left ++ 0 ∷ []))) ∙ drop_at (s.total ++ s.passed) (bytes_of left ++ 0 ∷ []) at n

  pub size : length bytes ≡ at + length (bytes_of left) + 1
  size = omega (arith, s.here, s.four, ap length s.whole, length-append s.total (s.passed ++ (bytes_of left ++ 0 ∷ [])), length-append s.passed (bytes_of left ++ 0 ∷ []), length-append (bytes_of left) (0 ∷ []))

  module _ (p : Part) (ps : List Part) (e : left ≡ p ∷ ps) where
    pub part_size : length (part_bytes p) ≡ length p.name + length p.value + 2
    part_size = omega (arith, length-append (p.name ++ 0 ∷ []) p.value, length-append p.name (0 ∷ []))

    pub left_size : length (bytes_of left) ≡ length p.name + length p.value + 2 + length (bytes_of ps)
    left_size = omega (arith, ap (λ (qs : List Part). length (bytes_of qs)) e, length-append (part_bytes p) (bytes_of ps), part_size)

    behind : bytes_of left ++ 0 ∷ [] ≡ part_bytes p ++ (bytes_of ps ++ 0 ∷ [])
    behind = ap (λ (qs : List Part). bytes_of qs ++ 0 ∷ []) e ∙ append_assoc (part_bytes p) (bytes_of ps) (0 ∷ [])

    -- the element is another one
    pub goes_on : bytes_eq p.name k ≡ false → Stands k bytes all ps (at + length p.name + length p.value + 2)
    goes_on other =
        let front : front_of k left ≡ part_bytes p ++ front_of k ps = ap (front_of k) e ∙ rw other refl in
        let rest : rest_of k left ≡ rest_of k ps = ap (rest_of k) e ∙ rw other refl in
        record {
          total = s.total;
          passed = s.passed ++ part_bytes p;
          four = s.four;
          here = omega (arith, s.here, length-append s.passed (part_bytes p), part_size);
          whole = s.whole ∙ ap (λ (z : List ℕ). s.total ++ z) (ap (λ (z : List ℕ). s.passed ++ z) behind ∙ sym (append_assoc s.passed (part_bytes p) (bytes_of ps ++ 0 ∷ [])));
          front = s.front ∙ ap (λ (z : List ℕ). s.passed ++ z) front ∙ sym (append_assoc s.passed (part_bytes p) (front_of k ps));
          rest = s.rest ∙ rest;
        }

    -- it is the one
    pub front_found : bytes_eq p.name k ≡ true → front_of k all ≡ s.passed
    front_found same =
        let front : front_of k left ≡ [] = ap (front_of k) e ∙ rw same refl in
        s.front ∙ ap (λ (z : List ℕ). s.passed ++ z) front ∙ append-nil s.passed

    pub rest_found : bytes_eq p.name k ≡ true → rest_of k all ≡ bytes_of ps
    rest_found same = s.rest ∙ ap (rest_of k) e ∙ rw same refl

    pub behind_found : drop (at + length p.name + length p.value + 2) bytes ≡ bytes_of ps ++ 0 ∷ []
    behind_found =
        let n : length ((s.total ++ s.passed) ++ part_bytes p) ≡ at + length p.name + length p.value + 2 =
        omega (arith, s.here, s.four, length-append s.total s.passed, length-append (s.total ++ s.passed) (part_bytes p), part_size) in
        ap (drop (at + length p.name + length p.value + 2))
        (s.whole ∙ sym (append_assoc s.total s.passed (bytes_of left ++ 0 ∷ [])) ∙ ap (λ (z : List ℕ). (s.total ++ s.passed) ++ z) behind ∙ sym (append_assoc (s.total ++ s.passed) (part_bytes p) (bytes_of ps ++ 0 ∷ [])))
        ∙ drop_at ((s.total ++ s.passed) ++ part_bytes p) (bytes_of ps ++ 0 ∷ []) (at + length p.name + length p.value + 2) n

  -- there is none
  module _ (none : left ≡ []) where
    pub front_all : front_of k all ≡ s.passed
    front_all = s.front ∙ ap (λ (qs : List Part). s.passed ++ front_of k qs) none ∙ append-nil s.passed

    pub rest_none : rest_of k all ≡ []
    rest_none = s.rest ∙ ap (rest_of k) none

    pub left_none : drop at bytes ≡ 0 ∷ []
    left_none = left_is ∙ ap (λ (qs : List Part). bytes_of qs ++ 0 ∷ []) none
