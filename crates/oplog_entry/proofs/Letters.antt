-- The letters before names in diffs.
use Rattle.std.proofs.Common.{◌≡◌, ◌≢◌, ℕ, suc, List, [], ◌∷◌, length, Bool, true, false, refl, sym, ap, ◌∙◌, arith}
use Rattle.std.specs.Prelude.{Option, Some, None, MatchOption, Contains, slice_index_or, ◌==◌, if◌then◌else◌}
use Rattle.std.specs.Option.{option_copied}
use Rattle.std.proofs.lemmas.Grind.{common_steps}
use Rattle.std.specs.Borrow.{Bor}
use Rattle.oplog_entry.specs.DiffFields.{behind_letter}

like : (a b : ℕ) → (a == b) ≡ true → a ≡ b
like a b e = grind (arith, common_steps)

own : (c : ℕ) → (c == c) ≡ true
own c = grind (arith, common_steps)

pub behind_is : (c : ℕ) (bs : List ℕ) (r : Option (Bor (List ℕ))) → MatchOption r ((rest : List ℕ) → bs ≢ c ∷ rest) (λ x. bs ≡ c ∷ x.now) → option_copied r ≡ behind_letter c bs
behind_is c [] None h = refl
behind_is c [] (Some x) h = cc
behind_is c (b ∷ bs) None h = by (b == c) refl
  where
    by : (t : Bool) → (b == c) ≡ t → None ≡ (if t then Some bs else None)
    by true e = absurd (h bs (ap (λ (n : ℕ). n ∷ bs) (like b c e)))
    by false e = refl
behind_is c (b ∷ bs) (Some x) h = sym (ap (behind_letter c) h ∙ ap (λ (t : Bool). if t then Some x.now else None) (own c))

pub no_zero_behind : (c : ℕ) (text rest : List ℕ) → Some rest ≡ behind_letter c text → (Contains text 0 → ⊥) → Contains rest 0 → ⊥
no_zero_behind c [] rest e n h = cc
no_zero_behind c (b ∷ bs) rest e n h = by (b == c) e
  where
    by : (t : Bool) → Some rest ≡ (if t then Some bs else None) → ⊥
    by true p = let q : rest ≡ bs = cc in n (suc h.0, omega (arith, h.1, ap length q), ap (λ (l : List ℕ). slice_index_or l h.0 0) (sym q) ∙ h.2)
    by false p = cc
