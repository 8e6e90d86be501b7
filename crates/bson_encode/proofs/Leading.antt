-- Comparing what leads.
use Rattle.std.proofs.Common.{◌≡◌, ℕ, zero, suc, ◌<◌, List, [], ◌∷◌, ◌++◌, length, refl, sym, ap, subst, ◌∙◌, append_assoc, arith}
use Rattle.std.specs.Prelude.{true, false, Contains}
use Rattle.std.specs.Ordering.{nat_cmp, ordering_then, is_eq, is_ne}
use Rattle.std.specs.Cmp.Lexicographic.{slice_cmp}
use Rattle.std.specs.Cmp.{nat_cmp_is}
use Rattle.std.proofs.lemmas.List.{append-nil}
use Rattle.std.proofs.lemmas.Map.Text.{is_eq-slice_cmp}
use Rattle.std.proofs.lemmas.Slice.Eq.{bytes_eq-Decides}
use Rattle.std.specs.declared.cmp.Ordering.{Ordering}
use Rattle.std.specs.declared.cmp.Ordering.TheVariants.{Less, Equal, Greater}
use Rattle.bson_encode.specs.Leading.{Leads}

abbrev order_of : List ℕ → List ℕ → Ordering
order_of = slice_cmp nat_cmp

-- in two parts, the second of which counts where the first are equal
pub leads_on : (xs ys zs ws : List ℕ) (o : Ordering) → Leads xs ys Equal → Leads zs ws o → Leads (xs ++ zs) (ys ++ ws) o
leads_on xs ys zs ws o first second r s =
    (λ i. order_of (append_assoc xs zs r i) (append_assoc ys ws s i)) ∙ first (zs ++ r) (ws ++ s) ∙ second r s

-- the order of the first parts stands where they differ
pub leads_differ : (xs ys zs ws : List ℕ) (o : Ordering) → is_ne o ≡ true → Leads xs ys o → Leads (xs ++ zs) (ys ++ ws) o
leads_differ xs ys zs ws Less n first r s = (λ i. order_of (append_assoc xs zs r i) (append_assoc ys ws s i)) ∙ first (zs ++ r) (ws ++ s)
leads_differ xs ys zs ws Greater n first r s = (λ i. order_of (append_assoc xs zs r i) (append_assoc ys ws s i)) ∙ first (zs ++ r) (ws ++ s)
leads_differ xs ys zs ws Equal n first r s = absurd cc

pub leads_same : (xs : List ℕ) → Leads xs xs Equal
leads_same [] r s = refl
leads_same (x ∷ xs) r s = ap (λ (o : Ordering). ordering_then o (order_of (xs ++ r) (xs ++ s))) (sym (nat_cmp_is x x Equal refl)) ∙ leads_same xs r s

then_assoc : (o p q : Ordering) → ordering_then o (ordering_then p q) ≡ ordering_then (ordering_then o p) q
then_assoc Less p q = refl
then_assoc Equal p q = refl
then_assoc Greater p q = refl

pub leads_as_long : (xs ys : List ℕ) → length xs ≡ length ys → Leads xs ys (order_of xs ys)
leads_as_long [] [] e r s = refl
leads_as_long [] (y ∷ ys) e r s = absurd (omega (arith, e))
leads_as_long (x ∷ xs) [] e r s = absurd (omega (arith, e))
leads_as_long (x ∷ xs) (y ∷ ys) e r s = ap (λ (o : Ordering). ordering_then (nat_cmp x y) o) (leads_as_long xs ys (omega (arith, e)) r s) ∙ then_assoc (nat_cmp x y) (order_of xs ys) (order_of r s)

-- the first bytes differ
pub leads_by_first : (x y : ℕ) (xs ys : List ℕ) → is_ne (nat_cmp x y) ≡ true → Leads (x ∷ xs) (y ∷ ys) (nat_cmp x y)
leads_by_first x y xs ys n = leads_differ (x ∷ []) (y ∷ []) xs ys (nat_cmp x y) n (λ r s. refl)

then_equal : (o : Ordering) → ordering_then o Equal ≡ o
then_equal Less = refl
then_equal Equal = refl
then_equal Greater = refl

-- with nothing behind the two
pub leads_all : (xs ys : List ℕ) (o : Ordering) → Leads xs ys o → o ≡ order_of xs ys
leads_all xs ys o h = sym (then_equal o) ∙ sym (h [] []) ∙ (λ i. order_of (append-nil xs i) (append-nil ys i))

-- ---- names

-- a text without a zero, and a zero
pub leads_name : (xs ys : List ℕ) → (Contains xs 0 → ⊥) → (Contains ys 0 → ⊥) → Leads (xs ++ 0 ∷ []) (ys ++ 0 ∷ []) (order_of xs ys)
leads_name [] [] n m r s = refl
leads_name [] (y ∷ ys) n m r s = ap (λ (o : Ordering). ordering_then o (order_of r ((ys ++ 0 ∷ []) ++ s))) (sym (nat_cmp_is 0 y Less (below y (λ e. m (0, omega arith, e)))))
  where
    below : (y : ℕ) → (y ≡ 0 → ⊥) → 0 < y
    below zero k = absurd (k refl)
    below (suc y) k = omega arith
leads_name (x ∷ xs) [] n m r s = ap (λ (o : Ordering). ordering_then o (order_of ((xs ++ 0 ∷ []) ++ r) s)) (sym (nat_cmp_is x 0 Greater (below x (λ e. n (0, omega arith, e)))))
  where
    below : (y : ℕ) → (y ≡ 0 → ⊥) → 0 < y
    below zero k = absurd (k refl)
    below (suc y) k = omega arith
leads_name (x ∷ xs) (y ∷ ys) n m r s =
    ap (λ (o : Ordering). ordering_then (nat_cmp x y) o) (leads_name xs ys (λ c. n (suc c.0, omega (arith, c.1), c.2)) (λ c. m (suc c.0, omega (arith, c.1), c.2)) r s) ∙ then_assoc (nat_cmp x y) (order_of xs ys) (order_of r s)

pub same_lists : (xs ys : List ℕ) (o : Ordering) → o ≡ order_of xs ys → o ≡ Equal → xs ≡ ys
same_lists xs ys o e h = (bytes_eq-Decides xs ys).0 (sym (is_eq-slice_cmp xs ys) ∙ ap is_eq (sym e ∙ h))

pub is_equal : (o : Ordering) → is_ne o ≡ false → o ≡ Equal
is_equal Less h = absurd cc
is_equal Equal h = refl
is_equal Greater h = absurd cc

-- the second part where the first was equal
pub leads_behind : (xs ys zs ws : List ℕ) (o p : Ordering) → is_ne o ≡ false → Leads xs ys o → Leads zs ws p → Leads (xs ++ zs) (ys ++ ws) p
leads_behind xs ys zs ws o p n first second = leads_on xs ys zs ws p (subst (Leads xs ys) (is_equal o n) first) second
