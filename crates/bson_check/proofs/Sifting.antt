-- Names that stand twice, name after name.
use Rattle.std.proofs.Common.{◌≡◌, ℕ, ◌<◌, ◌≤◌, ◌⊎◌, inl, inr, Bool, true, false, cond, List, [], ◌∷◌, ◌++◌, length, refl, sym, ap, subst, ◌∙◌, arith}
use Rattle.std.specs.Str.{bytes_eq}
use Rattle.std.proofs.lemmas.Slice.Eq.{bytes_eq-Decides}
use Rattle.std.proofs.lemmas.List.{append-nil}
use Rattle.bson_check.specs.Passing.{first_name, passed, Path, has}
use Rattle.bson_check.specs.Blocks.{Way}
use Rattle.bson_check.specs.Sieve.{StandsTwice}
use Rattle.bson_check.proofs.Search.{Seen, has_pushed}
use Rattle.bson_check.proofs.Split.{has_first}
use Rattle.bson_check.proofs.Starts.{way_on}

has_cons : (n m : List ℕ) (ms : List (List ℕ)) → has n ms ≡ true → has n (m ∷ ms) ≡ true
has_cons n m ms h = go (bytes_eq m n) where
  go : (b : Bool) → cond b true (has n ms) ≡ true
  go true = refl
  go false = h

has_itself : (n m : List ℕ) (ms : List (List ℕ)) → m ≡ n → has n (m ∷ ms) ≡ true
has_itself n m ms e = ap (λ (b : Bool). cond b true (has n ms)) ((bytes_eq-Decides m n).1 e)

-- a name that was seen stands twice where it comes again
pub twice_again : (m : List ℕ) (seen more : List (List ℕ)) → has m seen ≡ true → StandsTwice m (seen ++ m ∷ more)
twice_again m [] more h = absurd cc
twice_again m (x ∷ seen) more h = go (bytes_eq x m) refl h (λ k. twice_again m seen more k) where
  go : (b : Bool) → bytes_eq x m ≡ b → cond b true (has m seen) ≡ true → (has m seen ≡ true → StandsTwice m (seen ++ m ∷ more)) → StandsTwice m (x ∷ (seen ++ m ∷ more))
  go true e k next = inl ((bytes_eq-Decides x m).0 e, has_first m seen more)
  go false e k next = inr (next k)

-- what stands twice with one more name stood twice before, or is that name
pub twice_pushed : (n m : List ℕ) (ns : List (List ℕ)) → StandsTwice n (ns ++ m ∷ []) → StandsTwice n ns ⊎ ((m ≡ n) × (has n ns ≡ true))
twice_pushed n m [] (inl t) = absurd (let f : false ≡ true = t.1 in cc)
twice_pushed n m [] (inr t) = absurd t
twice_pushed n m (x ∷ ns) (inl t) = go (has_pushed n m ns t.1) where
  go : (has n ns ≡ true) ⊎ (m ≡ n) → StandsTwice n (x ∷ ns) ⊎ ((m ≡ n) × (has n (x ∷ ns) ≡ true))
  go (inl h) = inl (inl (t.0, h))
  go (inr e) = inr (e, has_itself n x ns t.0)
twice_pushed n m (x ∷ ns) (inr t) = go (twice_pushed n m ns t) where
  go : StandsTwice n ns ⊎ ((m ≡ n) × (has n ns ≡ true)) → StandsTwice n (x ∷ ns) ⊎ ((m ≡ n) × (has n (x ∷ ns) ≡ true))
  go (inl k) = inl (inr k)
  go (inr k) = inr (k.0, has_cons n x ns k.1)

-- the next name, where it was seen
pub next_twice : (end : ℕ) (body : List ℕ) (all : List (List ℕ)) (to rest : List ℕ) → length to < length rest → (s : Seen end body all to rest) → has (first_name rest) s.seen ≡ true → StandsTwice (first_name rest) all
next_twice end body all to rest lt s h = go s.ms s.path s.parts where
  go : (ms : List (List ℕ)) → Path ms rest to → all ≡ s.seen ++ ms → StandsTwice (first_name rest) all
  go [] p parts = absurd (omega (arith, lt, ap length p))
  go (m ∷ ms) p parts = subst (StandsTwice (first_name rest)) (sym (parts ∙ ap (λ (x : List ℕ). s.seen ++ x ∷ ms) (sym p.1))) (twice_again (first_name rest) s.seen ms h)

-- ---- the walk of a sieve

-- the names up to here are in the set, and those that stand twice among them are marked
pub record Sifted (Kept Put Marked : List ℕ → Type 0) (gone : List (List ℕ)) : Type 0 where
  pub put : (n : List ℕ) → has n gone ≡ true → Kept n → Put n
  pub marked : (n : List ℕ) → StandsTwice n gone → Marked n

pub sifted_start : (Kept Put Marked : List ℕ → Type 0) → Sifted Kept Put Marked []
sifted_start Kept Put Marked = record { put = λ n h. let f : false ≡ true = h in absurd cc; marked = λ n t. absurd t }

module _ (Kept Put Marked PutNow MarkedNow : List ℕ → Type 0) (body : List ℕ) (ns : List (List ℕ)) (to rest next : List ℕ) (kept : (n : List ℕ) → StandsTwice n ns → Kept n)
    (others : (n : List ℕ) → Put n → PutNow n) (more : (n : List ℕ) → Marked n → MarkedNow n) (itself : Kept (first_name rest) → PutNow (first_name rest)) (twice : Kept (first_name rest) → Put (first_name rest) → MarkedNow (first_name rest)) where
  here_kept : length to < length rest → (w : Way ns body rest to) → has (first_name rest) w.gone ≡ true → Kept (first_name rest)
  here_kept lt w h = kept (first_name rest) (go w.left w.path w.all) where
    go : (ms : List (List ℕ)) → Path ms rest to → ns ≡ w.gone ++ ms → StandsTwice (first_name rest) ns
    go [] p all = absurd (omega (arith, lt, ap length p))
    go (m ∷ ms) p all = subst (StandsTwice (first_name rest)) (sym (all ∙ ap (λ (x : List ℕ). w.gone ++ x ∷ ms) (sym p.1))) (twice_again (first_name rest) w.gone ms h)

  pushed : length to < length rest → (w : Way ns body rest to) → Sifted Kept Put Marked w.gone → Sifted Kept PutNow MarkedNow (w.gone ++ first_name rest ∷ [])
  pushed lt w s = record {
    put = λ n h k. in_set n k (has_pushed n (first_name rest) w.gone h);
    marked = λ n t. in_marks n (twice_pushed n (first_name rest) w.gone t);
  } where
    in_set : (n : List ℕ) → Kept n → (has n w.gone ≡ true) ⊎ (first_name rest ≡ n) → PutNow n
    in_set n k (inl h) = others n (s.put n h k)
    in_set n k (inr e) = subst PutNow e (itself (subst Kept (sym e) k))

    in_marks : (n : List ℕ) → StandsTwice n w.gone ⊎ ((first_name rest ≡ n) × (has n w.gone ≡ true)) → MarkedNow n
    in_marks n (inl t) = more n (s.marked n t)
    in_marks n (inr t) =
        let h : has (first_name rest) w.gone ≡ true = subst (λ (x : List ℕ). has x w.gone ≡ true) (sym t.0) t.1 in
        let k = here_kept lt w h in
        subst MarkedNow t.0 (twice k (s.put (first_name rest) h k))

  pub sifted_on : length to < length rest → passed rest ≡ next → length next < length rest → (b : (w : Way ns body rest to) × Sifted Kept Put Marked w.gone) → (v : Way ns body next to) × Sifted Kept PutNow MarkedNow v.gone
  sifted_on lt is less b = let v = way_on ns body rest next to lt is less b.0 in (v.0, subst (Sifted Kept PutNow MarkedNow) (sym v.1) (pushed lt b.0 b.1))

-- at the end of the walk
pub sifted_end : (Kept Put Marked : List ℕ → Type 0) (body : List ℕ) (ns : List (List ℕ)) (to rest : List ℕ) → length rest ≤ length to → (b : (w : Way ns body rest to) × Sifted Kept Put Marked w.gone) → (n : List ℕ) → StandsTwice n ns → Marked n
sifted_end Kept Put Marked body ns to rest le b n t = go b.0.left b.0.path b.0.all where
  go : (ms : List (List ℕ)) → Path ms rest to → ns ≡ b.0.gone ++ ms → Marked n
  go [] p all = b.1.marked n (subst (StandsTwice n) (all ∙ append-nil b.0.gone) t)
  go (m ∷ ms) p all = absurd (omega (arith, p.0, le))
