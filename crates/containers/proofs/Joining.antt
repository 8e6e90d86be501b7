-- What stands in a buffer after two runs of bytes were written into it, one behind the other.
use Rattle.std.proofs.Common.{rules, ◌≡◌, ◌≤◌, ◌+◌, ◌++◌, ◌∙◌, subst, sym, refl, length, take, ℕ, List}
use Rattle.std.proofs.lemmas.List.{length-append}
use Rattle.std.proofs.lemmas.Slice.{take-put_mid}
use Rattle.std.proofs.Math.Seq.{take-append_seam}
use borrow.Rule.Slice.PartMut.{put_mid}

put_behind : (left right rest : List ℕ) (k n : ℕ) → n ≡ length left + length right → take n (put_mid (length left) k (left ++ rest) right) ≡ left ++ right
put_behind left right rest k n e =
    take-put_mid (length left) k (left ++ rest) right n e (subst (λ (m : ℕ). length left ≤ m) (sym (length-append left rest)) (search rules))
    ∙ subst (λ (x : List ℕ). take (length left) (left ++ rest) ++ right ≡ x ++ right) (take-append_seam left rest) refl

pub joined_front : (left right a b rest : List ℕ) (k n : ℕ) → left ≡ a → right ≡ b → n ≡ length left + length right → take n (put_mid (length left) k (a ++ rest) b) ≡ left ++ right
joined_front left right a b rest k n p q e =
    subst (λ (x : List ℕ). take n (put_mid (length left) k (x ++ rest) b) ≡ left ++ right) p
    (subst (λ (y : List ℕ). take n (put_mid (length left) k (left ++ rest) y) ≡ left ++ right) q (put_behind left right rest k n e))
