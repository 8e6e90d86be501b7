-- Documents that are kept as their spelling.
use Rattle.std.proofs.Common.{◌≡◌, ℕ, ◌<◌, ◌≤◌, Bool, true, false, List, length, refl, ap, arith}
use Rattle.std.specs.Prelude.{◌↔◌, ◌&&◌, nat_le, IsTrue}
use Rattle.bson_value.specs.declared.value.Value.{Value}
use Rattle.bson_value.specs.Levels.{levels_of}
use Rattle.bson_value.specs.Spelling.{document_text}
use Rattle.coll_state.specs.Kept.{is_short}

both : (a b : Bool) → (a && b) ≡ true → (a ≡ true) × (b ≡ true)
both true b e = (refl, e)
both false b e = absurd cc

pub join : (a b : Bool) → a ≡ true → b ≡ true → (a && b) ≡ true
join true b e f = f
join false b e f = e

pub at_most : (m n : ℕ) → nat_le m n ≡ true → m ≤ n
at_most m n e = grind arith

at_most_true : (m n : ℕ) → m ≤ n → nat_le m n ≡ true
at_most_true m n le = grind arith

abbrev Fields : Type 0
Fields = List (List ℕ × Value)

module _ (b : List ℕ) (d : Fields) where
  abbrev size : ℕ
  size = length (document_text d)

  parts : is_short d ≡ true → (nat_le size 16777216 ≡ true) × (nat_le (levels_of d) 100 ≡ true)
  parts e = both (nat_le size 16777216) (nat_le (levels_of d) 100) e

  pub too_long : 16777216 < length b → IsTrue false ↔ (b ≡ document_text d) × (is_short d ≡ true)
  too_long lt = (λ t. absurd cc, λ h. let s : size ≤ 16777216 = at_most size 16777216 (parts h.1).0 in absurd (omega (arith, lt, s, ap length h.0)))

  pub short_spelling : (r : Bool) → length b ≤ 16777216 → IsTrue r ↔ (b ≡ document_text d) × (levels_of d ≤ 100) → IsTrue r ↔ (b ≡ document_text d) × (is_short d ≡ true)
  short_spelling r le h = (
    λ t. let s = h.0 t in (s.0, join (nat_le size 16777216) (nat_le (levels_of d) 100) (at_most_true size 16777216 (omega (arith, le, ap length s.0))) (at_most_true (levels_of d) 100 s.1)),
    λ s. h.1 (s.0, at_most (levels_of d) 100 (parts s.1).1),
  )
