-- Texts that were put in their places stand there once each.
use Rattle.std.proofs.Common.{◌≡◌, ℕ, List, [], ◌∷◌, map, fold, Bool, true, false, ◌||◌, refl, sym, ap, ◌∙◌, subst}
use Rattle.std.specs.Prelude.{T}
use Rattle.std.specs.List.{list_any}
use Rattle.std.specs.Str.{bytes_eq}
use Rattle.std.specs.Ordering.{nat_cmp, match_ordering}
use Rattle.std.specs.declared.cmp.Ordering.{Ordering}
use Rattle.std.specs.declared.cmp.Ordering.TheVariants.{Less, Equal, Greater}
use Rattle.std.specs.Cmp.Lexicographic.{slice_cmp, nat_list_cmp_total}
use Rattle.std.specs.FinMap.{nat_cmp-IsAntisymmetric, slice_cmp-IsAntisymmetric}
use Rattle.std.specs.FinMap.Entries.{put, is_sorted, is_sorted-put}
use Rattle.containers.specs.Entries.{AreDistinct, names_of}
use Rattle.index_keys.specs.Keys.{keys}
use Rattle.index_keys.specs.Texts.{put_text, each_once, key_text, TextsOnce, TextsAreKeys}
use Rattle.index_keys.proofs.FormedKeys.{distinct_sorted}

abbrev R : List ℕ → List ℕ → Ordering
R = slice_cmp nat_cmp

-- ---- which texts

or_swap : (a b c : Bool) → (a || (b || c)) ≡ (b || (a || c))
or_swap true true c = refl
or_swap true false c = refl
or_swap false b c = refl

or_twice : (a c : Bool) → (a || c) ≡ (a || (a || c))
or_twice true c = refl
or_twice false c = refl

or_assoc : (a b c : Bool) → ((a || b) || c) ≡ (b || (a || c))
or_assoc true true c = refl
or_assoc true false c = refl
or_assoc false b c = refl

or_false : (a : Bool) → (a || false) ≡ a
or_false true = refl
or_false false = refl

abbrev has : List ℕ → List (List ℕ) → Bool
has t ts = list_any (bytes_eq t) ts

has_put : (t u : List ℕ) (ts : List (List ℕ)) → has t (put_text ts u) ≡ (bytes_eq t u || has t ts)
has_put t u [] = refl
has_put t u (x ∷ ts) = by (R u x) refl (has_put t u ts)
  where
    by : (o : Ordering) → R u x ≡ o → has t (put_text ts u) ≡ (bytes_eq t u || has t ts) →
        has t (match_ordering o (u ∷ x ∷ ts) (x ∷ ts) (x ∷ put_text ts u)) ≡ (bytes_eq t u || (bytes_eq t x || has t ts))
    by Less e h = refl
    by Equal e h =
        let same : u ≡ x = slice_cmp-IsAntisymmetric nat_cmp-IsAntisymmetric u x e in
        or_twice (bytes_eq t x) (has t ts) ∙ ap (λ (z : List ℕ). bytes_eq t z || (bytes_eq t x || has t ts)) (sym same)
    by Greater e h = ap (λ b. bytes_eq t x || b) h ∙ or_swap (bytes_eq t x) (bytes_eq t u) (has t ts)

has_all : (t : List ℕ) (ts done : List (List ℕ)) → has t (fold put_text done ts) ≡ (has t done || has t ts)
has_all t [] done = sym (or_false (has t done))
has_all t (u ∷ ts) done = has_all t ts (put_text done u) ∙ (ap (λ b. b || has t ts) (has_put t u done) ∙ turned (bytes_eq t u) (has t done) (has t ts))
  where
    turned : (a b c : Bool) → ((a || b) || c) ≡ (b || (a || c))
    turned a b c = or_assoc a b c

pub texts_are_keys : TextsAreKeys
texts_are_keys plan doc t = has_all t (map key_text (keys plan doc)) []

-- ---- each once

abbrev entry : List ℕ → List ℕ × Unit {0}
entry t = (t, tt)

put_is : (u : List ℕ) (ts : List (List ℕ)) → put R u tt (map entry ts) ≡ map entry (put_text ts u)
put_is u [] = refl
put_is u (x ∷ ts) = by (R u x) refl (put_is u ts)
  where
    by : (o : Ordering) → R u x ≡ o → put R u tt (map entry ts) ≡ map entry (put_text ts u) → put R u tt (map entry (x ∷ ts)) ≡ map entry (put_text (x ∷ ts) u)
    by Less e h = rw e refl
    by Equal e h = rw e refl
    by Greater e h = rw e (ap (λ (l : List (List ℕ × Unit {0})). (x, tt) ∷ l) h)

abbrev Rise : List (List ℕ) → Type 0
Rise ts = T (is_sorted R (map entry ts))

rise : (ts done : List (List ℕ)) → Rise done → Rise (fold put_text done ts)
rise [] done h = h
rise (u ∷ ts) done h = rise ts (put_text done u) (subst (λ (es : List (List ℕ × Unit {0})). T (is_sorted R es)) (put_is u done) (is_sorted-put R nat_list_cmp_total u tt (map entry done) h))

names_are : (ts : List (List ℕ)) → names_of (map entry ts) ≡ ts
names_are [] = refl
names_are (t ∷ ts) = ap (λ (l : List (List ℕ)). t ∷ l) (names_are ts)

pub texts_once : TextsOnce
texts_once plan doc =
    let ts = map key_text (keys plan doc) in
    subst AreDistinct (names_are (each_once ts)) (distinct_sorted (map entry (each_once ts)) (rise ts [] tt))
