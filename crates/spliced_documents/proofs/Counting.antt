-- A walk over the elements of an array that counts them and their bytes.
use Rattle.std.proofs.Common.{◌≡◌, ℕ, ◌+◌, ◌-◌, ◌≤◌, List, [], ◌∷◌, ◌++◌, length, take, drop, refl, sym, ap, ◌∙◌, append_assoc, arith}
use Rattle.std.proofs.lemmas.List.{take_at, drop_at, append-nil, length-append}
use Rattle.bson_check.specs.Spells.{IsFrame}
use Rattle.bson_view.specs.Parts.{Part, part_bytes, bytes_of}
use Rattle.spliced_documents.specs.Splicing.{IsParted}

-- the walk stands before the elements that are left, with so many more ahead of the index
pub record Counts (n : ℕ) (bytes : List ℕ) (all left : List Part) (at ahead : ℕ) : Type 0 where
  pub total : List ℕ
  pub before : List Part
  pub four : length total ≡ 4
  pub here : at ≡ 4 + length (bytes_of before)
  pub whole : bytes ≡ total ++ (bytes_of before ++ (bytes_of left ++ 0 ∷ []))
  pub parts : all ≡ before ++ left
  pub count : length before + ahead ≡ n

pub starts : (n : ℕ) (bytes : List ℕ) (all : List Part) → IsFrame bytes (bytes_of all) → Counts n bytes all all 4 n
starts n bytes all f = record {
  total = f.0;
  before = [];
  four = f.1.four;
  here = refl;
  whole = f.2 ∙ append_assoc f.0 (bytes_of all) (0 ∷ []);
  parts = refl;
  count = omega arith;
}

one_more : (ps : List Part) (p : Part) → bytes_of (ps ++ p ∷ []) ≡ bytes_of ps ++ part_bytes p
one_more [] p = append-nil (part_bytes p)
one_more (q ∷ ps) p = ap (λ (z : List ℕ). part_bytes q ++ z) (one_more ps p) ∙ sym (append_assoc (part_bytes q) (bytes_of ps) (part_bytes p))

module _ (n : ℕ) (bytes : List ℕ) (all left : List Part) (at ahead : ℕ) (s : Counts n bytes all left at ahead) where
  -- what lies before
  pub passed_is : take (at - 4) (drop 4 bytes) ≡ bytes_of s.before
  passed_is =
      let m : length (bytes_of s.before) ≡ at - 4 = omega (arith, s.here) in
      ap (λ (z : List ℕ). take (at - 4) (drop 4 z)) s.whole ∙ ap (take (at - 4)) (drop_at s.total (bytes_of s.before ++ (bytes_of left ++ 0 ∷ [])) 4 s.four) ∙ take_at (bytes_of s.before) (bytes_of left ++ 0 ∷ []) (at - 4) m

  pub size : length bytes ≡ at + length (bytes_of left) + 1
  size = omega (arith, s.here, s.four, ap length s.whole, length-append s.total (bytes_of s.before ++ (bytes_of left ++ 0 ∷ [])), length-append (bytes_of s.before) (bytes_of left ++ 0 ∷ []), length-append (bytes_of left) (0 ∷ []))

  module _ (p : Part) (ps : List Part) (e : left ≡ p ∷ ps) where
    part_size : length (part_bytes p) ≡ length p.name + length p.value + 2
    part_size = omega (arith, length-append (p.name ++ 0 ∷ []) p.value, length-append p.name (0 ∷ []))

    behind : bytes_of left ++ 0 ∷ [] ≡ part_bytes p ++ (bytes_of ps ++ 0 ∷ [])
    behind = ap (λ (qs : List Part). bytes_of qs ++ 0 ∷ []) e ∙ append_assoc (part_bytes p) (bytes_of ps) (0 ∷ [])

    on : bytes ≡ s.total ++ (bytes_of (s.before ++ p ∷ []) ++ (bytes_of ps ++ 0 ∷ []))
    on =
        s.whole ∙ ap (λ (z : List ℕ). s.total ++ z)
        (ap (λ (z : List ℕ). bytes_of s.before ++ z) behind ∙ sym (append_assoc (bytes_of s.before) (part_bytes p) (bytes_of ps ++ 0 ∷ [])) ∙ ap (λ (z : List ℕ). z ++ (bytes_of ps ++ 0 ∷ [])) (sym (one_more s.before p)))

    before_size : length (bytes_of (s.before ++ p ∷ [])) ≡ length (bytes_of s.before) + (length p.name + length p.value + 2)
    before_size = omega (arith, ap length (one_more s.before p), length-append (bytes_of s.before) (part_bytes p), part_size)

    -- the element is another one
    pub goes_on : (ahead ≡ 0 → ⊥) → Counts n bytes all ps (at + length p.name + length p.value + 2) (ahead - 1)
    goes_on some = record {
      total = s.total;
      before = s.before ++ p ∷ [];
      four = s.four;
      here = omega (arith, s.here, before_size);
      whole = on;
      parts = s.parts ∙ ap (λ (z : List Part). s.before ++ z) e ∙ sym (append_assoc s.before (p ∷ []) ps);
      count = omega (arith, s.count, length-append s.before (p ∷ []), some);
    }

    pub behind_found : drop (at + length p.name + length p.value + 2) bytes ≡ bytes_of ps ++ 0 ∷ []
    behind_found =
        let passed = bytes_of (s.before ++ p ∷ []) in
        let m : length (s.total ++ passed) ≡ at + length p.name + length p.value + 2 = omega (arith, s.here, s.four, length-append s.total passed, before_size) in
        ap (drop (at + length p.name + length p.value + 2)) (on ∙ sym (append_assoc s.total passed (bytes_of ps ++ 0 ∷ []))) ∙ drop_at (s.total ++ passed) (bytes_of ps ++ 0 ∷ []) (at + length p.name + length p.value + 2) m

    -- it is the one
    pub found : ahead ≡ 0 → (front rest : List ℕ) → front ≡ bytes_of s.before → rest ≡ bytes_of ps ++ 0 ∷ [] → IsParted n all front p.name rest
    found none front rest is_front is_rest = record {
      before = s.before;
      part = p;
      behind = ps;
      parts = s.parts ∙ ap (λ (z : List Part). s.before ++ z) e;
      count = omega (arith, s.count, none);
      front_is = is_front;
      name_is = refl;
      rest_is = is_rest;
    }

  -- there is none
  pub too_few : left ≡ [] → length all ≤ n
  too_few none = omega (arith, s.count, ap length s.parts, length-append s.before left, ap length none)
