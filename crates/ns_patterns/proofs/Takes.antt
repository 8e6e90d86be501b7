-- Going through the literals of a pattern.
use Rattle.std.proofs.Common.{◌≡◌, ℕ, zero, suc, ◌+◌, ◌<◌, ◌≤◌, Bool, List, [], ◌∷◌, ◌++◌, ◌↔◌, length, drop, get_or, IsTrue, sym, ap, ◌∙◌, subst, arith}
use Rattle.std.proofs.lemmas.List.{drop_all}
use Rattle.ns_patterns.specs.Literals.{Literals}
use Rattle.ns_patterns.specs.Matches.{Matches}
use Rattle.ns_patterns.specs.Search.{IsFirst}
use Rattle.ns_patterns.proofs.Leftmost.{Filled, first_literal, widened_all, leftmost, last_filled}

pub drop_first : {A : Type 0} (i : ℕ) (xs : List A) (x : A) → i < length xs → x ≡ get_or xs i x → drop i xs ≡ x ∷ drop (suc i) xs
drop_first i [] x l e = absurd (omega arith)
drop_first zero (y ∷ xs) x l e = ap (λ (z : _). z ∷ xs) (sym e)
drop_first (suc i) (y ∷ xs) x l e = drop_first i xs x (omega arith) e

both_ways : {A B C : Type 0} → (A ↔ B) → (B ↔ C) → (A ↔ C)
both_ways f g = (λ a. g.0 (f.0 a), λ c. f.1 (g.1 c))

pub begins : (p seen : Literals) (name rest : List ℕ) (inner : List (List ℕ)) (last : List ℕ) → seen ≡ p → name ≡ seen.first ++ rest → seen.behind ≡ inner ++ last ∷ [] → Matches p name ↔ Filled (inner ++ last ∷ []) rest
begins p seen name rest inner last view e parts =
    subst (λ (q : Literals). Matches q name ↔ Filled (inner ++ last ∷ []) rest) view (subst (λ (ls : List (List ℕ)). Matches seen name ↔ Filled ls rest) parts (first_literal seen name rest e))

pub goes_on : (P : Type 0) (inner : List (List ℕ)) (last l text bytes t after : List ℕ) (i : ℕ) → (P ↔ Filled (drop i inner ++ last ∷ []) bytes) → i < length inner → l ≡ get_or inner i l → text ≡ l → IsFirst text bytes t after → P ↔ Filled (drop (i + 1) inner ++ last ∷ []) after
goes_on P inner last l text bytes t after i h within item is at =
    let next : suc i ≡ i + 1 = omega arith in
    both_ways (subst (λ (ls : List (List ℕ)). P ↔ Filled (ls ++ last ∷ []) bytes) (drop_first i inner l within item ∙ ap (λ (n : ℕ). l ∷ drop n inner) next) h)
    (leftmost l bytes t after (drop (i + 1) inner ++ last ∷ []) (widened_all (drop (i + 1) inner) last) (subst (λ (x : List ℕ). IsFirst x bytes t after) is at))

pub ends : (P : Type 0) (r : Bool) (inner : List (List ℕ)) (last text bytes : List ℕ) (i : ℕ) → (P ↔ Filled (drop i inner ++ last ∷ []) bytes) → length inner ≤ i → text ≡ last → (IsTrue r ↔ ((t : List ℕ) × (bytes ≡ t ++ text))) → IsTrue r ↔ P
ends P r inner last text bytes i h over is e =
    let all : P ↔ Filled (last ∷ []) bytes = subst (λ (ls : List (List ℕ)). P ↔ Filled (ls ++ last ∷ []) bytes) (drop_all i inner over) h in
    both_ways (subst (λ (x : List ℕ). IsTrue r ↔ ((t : List ℕ) × (bytes ≡ t ++ x))) is e) (both_ways (last_filled last bytes) (all.1, all.0))
