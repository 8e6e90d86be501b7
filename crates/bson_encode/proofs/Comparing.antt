-- Comparing piece by piece.
use Rattle.std.proofs.Common.{◌≡◌, ℕ, ◌+◌, ◌<◌, ◌%◌, ◌^◌, List, [], ◌∷◌, ◌++◌, length, take, get_or, refl, sym, ap, subst, ◌∙◌, append_assoc, arith}
use Rattle.std.proofs.lemmas.List.{take_more}
use Rattle.std.specs.Prelude.{true}
use Rattle.std.specs.Int.{w32, to_le_bytes}
use Rattle.std.specs.Ordering.{nat_cmp, ordering_then, is_ne}
use Rattle.std.proofs.lemmas.List.{length-append}
use Rattle.std.specs.Cmp.Lexicographic.{slice_cmp}
use Rattle.std.specs.declared.cmp.Ordering.{Ordering}
use Rattle.std.specs.declared.cmp.Ordering.TheVariants.{Less, Equal, Greater}
use Rattle.bson_value.specs.declared.value.Value.{Value, Value-F, fold-roll-Value}
use Rattle.bson_value.specs.declared.value.Value.TheVariants.{Regex, DbPointer, ScopedCode, rolls-Regex, rolls-DbPointer, rolls-ScopedCode}
use Rattle.bson_value.specs.Spelling.{Typed, spelling_step, count_bytes, counted, document_text, framed, spelled, text_bytes}
use Rattle.bson_encode.specs.Comparing.{step, behind, at_end}

abbrev pub State : Type 0
State = Ordering × List ℕ

abbrev pub on : State → List ℕ → State
on s xs = behind s.0 s.1 xs

pub behind-append : (o : Ordering) (r xs ys : List ℕ) → behind o r (xs ++ ys) ≡ on (behind o r xs) ys
behind-append o r [] ys = refl
behind-append o r (x ∷ xs) ys = behind-append (step o r x).0 (step o r x).1 xs ys

-- a piece behind a piece
pub then : (o : Ordering) (r xs ys : List ℕ) (s t : State) → s ≡ behind o r xs → t ≡ on s ys → t ≡ behind o r (xs ++ ys)
then o r xs ys s t a b = b ∙ ap (λ z. on z ys) a ∙ sym (behind-append o r xs ys)

pub decided : (o : Ordering) (r xs : List ℕ) → (o ≡ Equal → ⊥) → (o, r) ≡ behind o r xs
decided o r [] n = refl
decided Less r (x ∷ xs) n = decided Less r xs n
decided Greater r (x ∷ xs) n = decided Greater r xs n
decided Equal r (x ∷ xs) n = absurd (n refl)

less_ends : (r xs : List ℕ) → at_end (behind Less r xs).0 (behind Less r xs).1 ≡ Less
less_ends r [] = refl
less_ends r (x ∷ xs) = less_ends r xs

greater_ends : (r xs : List ℕ) → at_end (behind Greater r xs).0 (behind Greater r xs).1 ≡ Greater
greater_ends r [] = refl
greater_ends r (x ∷ xs) = greater_ends r xs

pub ends : (o : Ordering) (xs ys : List ℕ) → at_end (behind o ys xs).0 (behind o ys xs).1 ≡ ordering_then o (slice_cmp nat_cmp xs ys)
ends Less xs ys = less_ends ys xs
ends Greater xs ys = greater_ends ys xs
ends Equal [] [] = refl
ends Equal [] (y ∷ ys) = refl
ends Equal (x ∷ xs) [] = greater_ends [] xs
ends Equal (x ∷ xs) (y ∷ ys) = ends (nat_cmp x y) xs ys

pub more : (o : Ordering) (r xs : List ℕ) (i x : ℕ) (s t : State) → i < length xs → x ≡ get_or xs i x → s ≡ behind o r (take i xs) → t ≡ step s.0 s.1 x → t ≡ behind o r (take (i + 1) xs)
more o r xs i x s t lt at a b =
    let e : take (i + 1) xs ≡ take i xs ++ x ∷ [] = take_more xs i x lt ∙ ap (λ z. take i xs ++ z ∷ []) (sym at) in
    then o r (take i xs) (x ∷ []) s t a b ∙ ap (behind o r) (sym e)

pub decided_ne : (o : Ordering) (r xs : List ℕ) → is_ne o ≡ true → (o, r) ≡ behind o r xs
decided_ne o r xs h = decided o r xs (λ e. let p = subst (λ (x : Ordering). is_ne x ≡ true) e h in cc)

-- ---- counts that are known modulo 2 ^ 64

same_count : (a b : ℕ) → a % 2 ^ 32 ≡ b % 2 ^ 32 → count_bytes a ≡ count_bytes b
same_count a b e = ap (to_le_bytes w32) e

pub framed_count : (body : List ℕ) (n : ℕ) → n ≡ length (framed body) % 2 ^ 64 → count_bytes n ≡ count_bytes (length body + 5)
framed_count body n e = same_count n (length body + 5) (omega (arith, e, length-append body (0 ∷ [])))

pub counted_count : (bytes : List ℕ) (n : ℕ) → n ≡ length (counted bytes) % 2 ^ 64 → count_bytes n ≡ count_bytes (length bytes + 4)
counted_count bytes n e = same_count n (length bytes + 4) (omega (arith, e))

-- ---- values of two pieces

pub spelled_regex : (p o : List ℕ) → spelled (Regex p o) ≡ (p ++ 0 ∷ []) ++ (o ++ 0 ∷ [])
spelled_regex p o =
    ap (λ (v : Value). spelled v) (sym (rolls-Regex p o)) ∙ (ap (λ (t : Typed). t.1) (fold-roll-Value Typed spelling_step (Value-F.Regex p o)) ∙ append_assoc (p ++ 0 ∷ []) o (0 ∷ []))

pub spelled_pointer : (t d : List ℕ) → spelled (DbPointer t d) ≡ text_bytes t ++ d
spelled_pointer t d = ap (λ (v : Value). spelled v) (sym (rolls-DbPointer t d)) ∙ ap (λ (y : Typed). y.1) (fold-roll-Value Typed spelling_step (Value-F.DbPointer t d))

pub spelled_scoped : (t : List ℕ) (fs : List (List ℕ × Value)) → spelled (ScopedCode t fs) ≡ counted (text_bytes t ++ document_text fs)
spelled_scoped t fs = ap (λ (v : Value). spelled v) (sym (rolls-ScopedCode t fs)) ∙ ap (λ (y : Typed). y.1) (fold-roll-Value Typed spelling_step (Value-F.ScopedCode t fs))
