-- Values that are read one after the other.
use Rattle.std.proofs.Common.{◌≡◌, ℕ, zero, suc, ◌+◌, ◌<◌, List, [], ◌∷◌, ◌++◌, length, take, get_or, refl, sym, ap, ◌∙◌, subst, arith}
use Rattle.std.specs.Prelude.{Ok, Err}
use Rattle.std.proofs.lemmas.List.{take_more}
use Rattle.bson_value.specs.declared.value.Value.{Value}
use Rattle.entry_model.specs.declared.fault.EntryFault.{EntryFault}
use Rattle.entry_model.specs.Reading.{Read, ◌>>=◌, each}
use Rattle.oplog_entry.specs.Answers.{Fails}
use Rattle.oplog_entry.proofs.Binds.{fails_first, fails_next}

module _ {A : Type 0} (f : Value → Read A) where
  more : (xs : List Value) (x : Value) → each f (xs ++ x ∷ []) ≡ (each f xs >>= λ ys. f x >>= λ y. Ok (ys ++ y ∷ []))
  more [] x = refl
  more (z ∷ xs) x = ap (λ (r : Read (List A)). f z >>= λ w. r >>= λ ws. Ok (w ∷ ws)) (more xs x) ∙ by (f z) (each f xs) (f x)
    where
      by : (a : Read A) (b : Read (List A)) (c : Read A) →
          (a >>= λ w. (b >>= λ ys. c >>= λ y. Ok (ys ++ y ∷ [])) >>= λ ws. Ok (w ∷ ws)) ≡ ((a >>= λ w. b >>= λ ws. Ok (w ∷ ws)) >>= λ ys. c >>= λ y. Ok (ys ++ y ∷ []))
      by (Err e) b c = refl
      by (Ok w) (Err e) c = refl
      by (Ok w) (Ok ws) (Err e) = refl
      by (Ok w) (Ok ws) (Ok y) = refl

  -- one more
  pub one_more : (xs : List Value) (i : ℕ) (x : Value) (ys : List A) (y : A) → i < length xs → x ≡ get_or xs i x → each f (take i xs) ≡ Ok ys → f x ≡ Ok y → each f (take (i + 1) xs) ≡ Ok (ys ++ y ∷ [])
  one_more xs i x ys y lt e h g =
      ap (each f) (take_more xs i x lt ∙ ap (λ (v : Value). take i xs ++ v ∷ []) (sym e))
      ∙ (more (take i xs) x ∙ (λ k. h k >>= λ zs. g k >>= λ z. Ok (zs ++ z ∷ [])))

  -- the first fault
  pub fails_at : (xs : List Value) (i : ℕ) (x : Value) (ys : List A) (e : EntryFault) → i < length xs → x ≡ get_or xs i x → each f (take i xs) ≡ Ok ys → Fails e (f x) → Fails e (each f xs)
  fails_at [] i x ys e lt is h g = absurd (omega arith)
  fails_at (z ∷ xs) zero x ys e lt is h g = fails_first (λ w. each f xs >>= λ ws. Ok (w ∷ ws)) e (f z) (subst (λ (v : Value). Fails e (f v)) is g)
  fails_at (z ∷ xs) (suc i) x ys e lt is h g = by (f z) (each f (take i xs)) refl refl h (λ ws q. fails_at xs i x ws e (omega arith) is q g)
    where
      by : (a : Read A) (b : Read (List A)) → f z ≡ a → each f (take i xs) ≡ b → (a >>= λ w. b >>= λ ws. Ok (w ∷ ws)) ≡ Ok ys → ((ws : List A) → each f (take i xs) ≡ Ok ws → Fails e (each f xs)) → Fails e (each f (z ∷ xs))
      by (Err d) b p q k ih = cc
      by (Ok w) (Err d) p q k ih = cc
      by (Ok w) (Ok ws) p q k ih = fails_next (λ v. each f xs >>= λ vs. Ok (v ∷ vs)) e (f z) w p (fails_first (λ vs. Ok (w ∷ vs)) e (each f xs) (ih ws q))
