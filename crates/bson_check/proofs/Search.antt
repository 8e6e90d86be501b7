-- The search for a repeated name, element after element.
use Rattle.std.proofs.Common.{◌≡◌, ℕ, ◌<◌, ◌≤◌, ◌⊎◌, inl, inr, Bool, true, false, cond, List, [], ◌∷◌, ◌++◌, length, drop, refl, sym, ap, subst, ◌∙◌, append_assoc, arith}
use Rattle.std.specs.Str.{bytes_eq}
use Rattle.std.proofs.lemmas.Slice.Eq.{bytes_eq-Decides}
use Rattle.std.specs.Prelude.{Some, None}
use Rattle.bson_check.specs.Reading.{place}
use Rattle.bson_check.specs.Passing.{first_name, passed, Path, has, repeat_at}
use Rattle.bson_check.proofs.Walk.{path_push}

-- these names were seen from the body up to here, these are left, and the answer is that of looking on
pub record Seen (end : ℕ) (body : List ℕ) (all : List (List ℕ)) (to rest : List ℕ) : Type 0 where
  pub seen : List (List ℕ)
  pub ms : List (List ℕ)
  pub so_far : Path seen body rest
  pub path : Path ms rest to
  pub same : repeat_at end [] all body ≡ repeat_at end seen ms rest
  pub parts : all ≡ seen ++ ms

abbrev pub seen_start : (end : ℕ) (body : List ℕ) (all : List (List ℕ)) (to : List ℕ) → Path all body to → Seen end body all to body
seen_start end body all to p = record { seen = []; ms = all; so_far = refl; path = p; same = refl; parts = refl }

pub seen_end : (end : ℕ) (body : List ℕ) (all : List (List ℕ)) (to rest : List ℕ) → length rest ≤ length to → Seen end body all to rest → repeat_at end [] all body ≡ None
seen_end end body all to rest le s = s.same ∙ none s.ms s.path where
  none : (ms : List (List ℕ)) → Path ms rest to → repeat_at end s.seen ms rest ≡ None
  none [] p = refl
  none (m ∷ ms) p = absurd (omega (arith, p.0, le))

pub seen_found : (end : ℕ) (body : List ℕ) (all : List (List ℕ)) (to rest : List ℕ) → length to < length rest → (s : Seen end body all to rest) → has (first_name rest) s.seen ≡ true → repeat_at end [] all body ≡ Some (place end (drop 1 rest))
seen_found end body all to rest lt s h = s.same ∙ found s.ms s.path where
  found : (ms : List (List ℕ)) → Path ms rest to → repeat_at end s.seen ms rest ≡ Some (place end (drop 1 rest))
  found [] p = absurd (omega (arith, lt, ap length p))
  found (m ∷ ms) p = let e : has m s.seen ≡ true = ap (λ (x : List ℕ). has x s.seen) (sym p.1) ∙ h in rw e refl

pub seen_on : (end : ℕ) (body : List ℕ) (all : List (List ℕ)) (to rest after : List ℕ) → length to < length rest → length after < length rest → passed rest ≡ after → (s : Seen end body all to rest) → has (first_name rest) s.seen ≡ false
    → (t : Seen end body all to after) × (t.seen ≡ s.seen ++ first_name rest ∷ [])
seen_on end body all to rest after lt less next s h = go s.ms s.path s.same s.parts where
  go : (ms : List (List ℕ)) → Path ms rest to → repeat_at end [] all body ≡ repeat_at end s.seen ms rest → all ≡ s.seen ++ ms → (t : Seen end body all to after) × (t.seen ≡ s.seen ++ first_name rest ∷ [])
  go [] p same parts = absurd (omega (arith, lt, ap length p))
  go (m ∷ ms) p same parts =
      let e : has m s.seen ≡ false = ap (λ (x : List ℕ). has x s.seen) (sym p.1) ∙ h in (
        record {
          seen = s.seen ++ m ∷ [];
          ms = ms;
          so_far = path_push s.seen m body rest after s.so_far less p.1 next;
          path = subst (λ (r : List ℕ). Path ms r to) next p.2;
          same = subst (λ (r : List ℕ). repeat_at end [] all body ≡ repeat_at end (s.seen ++ m ∷ []) ms r) next (same ∙ ap (λ (b : Bool). cond b (Some (place end (drop 1 rest))) (repeat_at end (s.seen ++ m ∷ []) ms (passed rest))) e);
          parts = parts ∙ sym (append_assoc s.seen (m ∷ []) ms);
        },
        ap (λ (x : List ℕ). s.seen ++ x ∷ []) (sym p.1),
      )

-- ---- the names of those that were seen

pub not_true : (b : Bool) → (b ≡ true → ⊥) → b ≡ false
not_true true h = absurd (h refl)
not_true false h = refl

pub has_pushed : (n m : List ℕ) (ns : List (List ℕ)) → has n (ns ++ m ∷ []) ≡ true → (has n ns ≡ true) ⊎ (m ≡ n)
has_pushed n m [] h = go (bytes_eq m n) refl h where
  go : (b : Bool) → bytes_eq m n ≡ b → cond b true false ≡ true → (has n [] ≡ true) ⊎ (m ≡ n)
  go true e h = inr ((bytes_eq-Decides m n).0 e)
  go false e h = absurd cc
has_pushed n m (x ∷ ns) h = go (bytes_eq x n) h (has_pushed n m ns) where
  go : (b : Bool) → cond b true (has n (ns ++ m ∷ [])) ≡ true → (has n (ns ++ m ∷ []) ≡ true → (has n ns ≡ true) ⊎ (m ≡ n)) → (cond b true (has n ns) ≡ true) ⊎ (m ≡ n)
  go true h more = inl refl
  go false h more = more h

-- what holds of each name that was seen, and of the next one, holds of them all
pub of_all : (Before After : List ℕ → Type 0) (ns : List (List ℕ)) (m : List ℕ) → ((n : List ℕ) → Before n → After n) → After m → ((n : List ℕ) → has n ns ≡ true → Before n)
    → (n : List ℕ) → has n (ns ++ m ∷ []) ≡ true → After n
of_all Before After ns m keeps itself before n h = go (has_pushed n m ns h) where
  go : (has n ns ≡ true) ⊎ (m ≡ n) → After n
  go (inl e) = keeps n (before n e)
  go (inr e) = subst After e itself
