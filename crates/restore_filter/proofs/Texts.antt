-- The texts of the stars are found by trying each front of a text, the shortest first.
use Rattle.std.proofs.Common.{◌≡◌, ℕ, suc, List, [], ◌∷◌, ◌++◌, inl, inr, ◌↔◌, length, refl, sym, ap, ◌∙◌, subst, arith, eqb-true, Option, Some, None, MatchOption, IfSome, IfNone, Bool, true, false}
use Rattle.std.specs.Prelude.{◌==◌, if◌then◌else◌, is_some, option_map, option_and_then}
use Rattle.std.specs.Option.{option_or}
use Rattle.std.proofs.lemmas.Bool.{eqb-false}
use Rattle.std.proofs.lemmas.List.{append_cancel_left}
use Rattle.ns_patterns.specs.Literals.{Literals}
use Rattle.ns_patterns.specs.Matches.{filled, filled_behind, Matches, NoLonger, IsShortest, Renamed}
use Rattle.ns_patterns.proofs.Leftmost.{Fills, Shortest, shortest_of_none, shortest_of_pattern, first_literal, no_first_literal}
use Rattle.restore_filter.specs.Texts.{behind, longer, first_front, shortest_behind, shortest, matches, renamed}

-- ---- one literal

behind_is : (l t : List ℕ) → MatchOption (behind l t) ((r : List ℕ) → t ≡ l ++ r → ⊥) (λ r. t ≡ l ++ r)
unfolding behind
behind_is [] t = refl
behind_is (b ∷ l) [] = λ r e. cc
behind_is (b ∷ l) (c ∷ t) = go (b == c) refl (behind l t) (behind_is l t) where
  go : (same : Bool) → (b == c) ≡ same → (o : Option (List ℕ)) → MatchOption o ((r : List ℕ) → t ≡ l ++ r → ⊥) (λ r. t ≡ l ++ r) → MatchOption (if same then o else None) ((r : List ℕ) → c ∷ t ≡ (b ∷ l) ++ r → ⊥) (λ r. c ∷ t ≡ (b ∷ l) ++ r)
  go true e None h = λ r q. let tail : t ≡ l ++ r = cc in h r tail
  go true e (Some r) h = let first : b ≡ c = eqb-true b c e in cc
  go false e o h = λ r q. let first : b ≡ c = cc in eqb-false b c e first

-- ---- the first front

-- a text is this literal, and these texts fill the rest
record Follows (l : List ℕ) (ls : List (List ℕ)) (u : List ℕ) (vs : List (List ℕ)) : Type 0 where
  rest : List ℕ
  is : u ≡ l ++ rest
  fills : Fills ls rest vs

record FollowsShortest (l : List ℕ) (ls : List (List ℕ)) (u : List ℕ) (vs : List (List ℕ)) : Type 0 where
  follows : Follows l ls u vs
  least : (ws : List (List ℕ)) → Follows l ls u ws → NoLonger vs ws

record IsFirstFront (l : List ℕ) (ls : List (List ℕ)) (t : List ℕ) (x : List ℕ × List (List ℕ)) : Type 0 where
  back : List ℕ
  parts : t ≡ x.0 ++ back
  follows : Follows l ls back x.1
  least : (f u : List ℕ) (ws : List (List ℕ)) → t ≡ f ++ u → Follows l ls u ws → NoLonger (x.0 ∷ x.1) (f ∷ ws)

module _ (l : List ℕ) (ls : List (List ℕ)) where
  abbrev Answered : List ℕ → Option (List (List ℕ)) → Type 0
  Answered u o = MatchOption o ((ws : List (List ℕ)) → Follows l ls u ws → ⊥) (λ vs. FollowsShortest l ls u vs)

  abbrev Fronted : List ℕ → Option (List ℕ × List (List ℕ)) → Type 0
  Fronted t o = MatchOption o ((f u : List ℕ) (ws : List (List ℕ)) → t ≡ f ++ u → Follows l ls u ws → ⊥) (λ x. IsFirstFront l ls t x)

  no_front : (t : List ℕ) (vs : List (List ℕ)) → FollowsShortest l ls t vs → IsFirstFront l ls t ([], vs)
  no_front t vs s = record { back = t; parts = refl; follows = s.follows; least = least } where
    least : (f u : List ℕ) (ws : List (List ℕ)) → t ≡ f ++ u → Follows l ls u ws → NoLonger ([] ∷ vs) (f ∷ ws)
    least [] u ws e a = inr (refl, s.least ws (subst (λ (x : List ℕ). Follows l ls x ws) (sym e) a))
    least (c ∷ f) u ws e a = inl (omega arith)

  at_end : (o : Option (List (List ℕ))) → Answered [] o → Fronted [] (option_map (λ vs. ([], vs)) o)
  at_end None h = go where
    go : (f u : List ℕ) (ws : List (List ℕ)) → [] ≡ f ++ u → Follows l ls u ws → ⊥
    go [] u ws e a = h ws (subst (λ (x : List ℕ). Follows l ls x ws) (sym e) a)
    go (c ∷ f) u ws e a = cc
  at_end (Some vs) s = no_front [] vs s

  one_more : (b : ℕ) (t : List ℕ) (o : Option (List (List ℕ))) (p : Option (List ℕ × List (List ℕ))) → Answered (b ∷ t) o → Fronted t p → Fronted (b ∷ t) (option_or (option_map (λ vs. ([], vs)) o) (option_map (longer b) p))
  one_more b t (Some vs) p s k = no_front (b ∷ t) vs s
  one_more b t None None h k = go where
    go : (f u : List ℕ) (ws : List (List ℕ)) → b ∷ t ≡ f ++ u → Follows l ls u ws → ⊥
    go [] u ws e a = h ws (subst (λ (x : List ℕ). Follows l ls x ws) (sym e) a)
    go (c ∷ f) u ws e a = let tail : t ≡ f ++ u = cc in k f u ws tail a
  one_more b t None (Some x) h k = record { back = k.back; parts = ap (λ (r : List ℕ). b ∷ r) k.parts; follows = k.follows; least = least } where
    longer_both : (f : List ℕ) (ws : List (List ℕ)) → NoLonger (x.0 ∷ x.1) (f ∷ ws) → (c : ℕ) → NoLonger ((b ∷ x.0) ∷ x.1) ((c ∷ f) ∷ ws)
    longer_both f ws (inl less) c = inl (omega (arith, less))
    longer_both f ws (inr same) c = inr (omega (arith, same.0), same.1)

    least : (f u : List ℕ) (ws : List (List ℕ)) → b ∷ t ≡ f ++ u → Follows l ls u ws → NoLonger ((b ∷ x.0) ∷ x.1) (f ∷ ws)
    least [] u ws e a = absurd (h ws (subst (λ (x : List ℕ). Follows l ls x ws) (sym e) a))
    least (c ∷ f) u ws e a = let tail : t ≡ f ++ u = cc in longer_both f ws (k.least f u ws tail a) c

  first_front_is : (answer : List ℕ → Option (List (List ℕ))) → ((u : List ℕ) → Answered u (answer u)) → (t : List ℕ) → Fronted t (first_front answer t)
  unfolding first_front
  first_front_is answer is [] = at_end (answer []) (is [])
  first_front_is answer is (b ∷ t) = one_more b t (answer (b ∷ t)) (first_front answer t) (is (b ∷ t)) (first_front_is answer is t)

  -- ---- all literals

  abbrev Found : List (List ℕ) → List ℕ → Option (List (List ℕ)) → Type 0
  Found ms t o = MatchOption o ((us : List (List ℕ)) → Fills ms t us → ⊥) (λ ts. Shortest ms t ts)

  answered : ((r : List ℕ) → Found ls r (shortest_behind ls r)) → (u : List ℕ) → Answered u (option_and_then (shortest_behind ls) (behind l u))
  answered is u = go (behind l u) (behind_is l u) where
    same_rest : (r : List ℕ) → u ≡ l ++ r → (ws : List (List ℕ)) → Follows l ls u ws → Fills ls r ws
    same_rest r e ws a = subst (λ (x : List ℕ). Fills ls x ws) (append_cancel_left l a.rest r (sym a.is ∙ e)) a.fills

    found : (r : List ℕ) → u ≡ l ++ r → (o : Option (List (List ℕ))) → Found ls r o → Answered u o
    found r e None h = λ ws a. h ws (same_rest r e ws a)
    found r e (Some vs) s = record { follows = record { rest = r; is = e; fills = s.fills }; least = λ ws a. s.least ws (same_rest r e ws a) }

    go : (o : Option (List ℕ)) → MatchOption o ((r : List ℕ) → u ≡ l ++ r → ⊥) (λ r. u ≡ l ++ r) → Answered u (option_and_then (shortest_behind ls) o)
    go None h = λ ws a. h a.rest a.is
    go (Some r) e = found r e (shortest_behind ls r) (is r)

  with_front : (t : List ℕ) (o : Option (List ℕ × List (List ℕ))) → Fronted t o → Found (l ∷ ls) t (option_map (λ x. x.0 ∷ x.1) o)
  with_front t None h = go where
    go : (us : List (List ℕ)) → Fills (l ∷ ls) t us → ⊥
    go [] f = omega (arith, f.one_each)
    go (u ∷ us) f = h u (l ++ filled_behind ls us) us f.makes (record { rest = filled_behind ls us; is = refl; fills = record { one_each = omega (arith, f.one_each); makes = refl } })
  with_front t (Some x) s = record {
    fills = record { one_each = ap suc s.follows.fills.one_each; makes = s.parts ∙ ap (λ (r : List ℕ). x.0 ++ r) (s.follows.is ∙ ap (λ (r : List ℕ). l ++ r) s.follows.fills.makes) };
    least = least;
  } where
    least : (us : List (List ℕ)) → Fills (l ∷ ls) t us → NoLonger (x.0 ∷ x.1) us
    least [] f = absurd (omega (arith, f.one_each))
    least (u ∷ us) f = s.least u (l ++ filled_behind ls us) us f.makes (record { rest = filled_behind ls us; is = refl; fills = record { one_each = omega (arith, f.one_each); makes = refl } })

shortest_behind_is : (ls : List (List ℕ)) (t : List ℕ) → MatchOption (shortest_behind ls t) ((us : List (List ℕ)) → Fills ls t us → ⊥) (λ ts. Shortest ls t ts)
unfolding shortest_behind
shortest_behind_is [] [] = shortest_of_none
shortest_behind_is [] (b ∷ t) = λ us f. let e = f.makes in cc
shortest_behind_is (l ∷ ls) t = with_front l ls t _ (first_front_is l ls (λ u. option_and_then (shortest_behind ls) (behind l u)) (answered l ls (λ r. shortest_behind_is ls r)) t)

-- ---- a pattern

pub shortest_is : (p : Literals) (t : List ℕ) → MatchOption (shortest p t) (Matches p t → ⊥) (λ ts. IsShortest p t ts)
unfolding shortest
shortest_is p t = go (behind p.first t) (behind_is p.first t) where
  rest_is : (r : List ℕ) → t ≡ p.first ++ r → (o : Option (List (List ℕ))) → MatchOption o ((us : List (List ℕ)) → Fills p.behind r us → ⊥) (λ ts. Shortest p.behind r ts) → MatchOption o (Matches p t → ⊥) (λ ts. IsShortest p t ts)
  rest_is r e None h = λ m. let f = (first_literal p t r e).0 m in h f.texts f.fills
  rest_is r e (Some ts) s = shortest_of_pattern p t r e ts s

  go : (o : Option (List ℕ)) → MatchOption o ((r : List ℕ) → t ≡ p.first ++ r → ⊥) (λ r. t ≡ p.first ++ r) → MatchOption (option_and_then (shortest_behind p.behind) o) (Matches p t → ⊥) (λ ts. IsShortest p t ts)
  go None h = no_first_literal p t h
  go (Some r) e = rest_is r e (shortest_behind p.behind r) (shortest_behind_is p.behind r)

pub matches_is : (p : Literals) (t : List ℕ) → (matches p t ≡ true) ↔ Matches p t
unfolding matches
matches_is p t = go (shortest p t) (shortest_is p t) where
  go : (o : Option (List (List ℕ))) → MatchOption o (Matches p t → ⊥) (λ ts. IsShortest p t ts) → (is_some o ≡ true) ↔ Matches p t
  go None h = (λ e. cc, λ m. absurd (h m))
  go (Some ts) s = ((λ e. (ts, s.is)), (λ m. refl))

-- ---- one list of texts is the shortest

same_front : (t u a b : List ℕ) → length t ≡ length u → t ++ a ≡ u ++ b → (t ≡ u) × (a ≡ b)
same_front [] [] a b n e = (refl, e)
same_front [] (y ∷ u) a b n e = absurd (omega arith)
same_front (x ∷ t) [] a b n e = absurd (omega arith)
same_front (x ∷ t) (y ∷ u) a b n e =
    let head : x ≡ y = cc in
    let tail : t ++ a ≡ u ++ b = cc in
    let r = same_front t u a b (omega arith) tail in
    let same : t ≡ u = r.0 in (cc, r.1)

same_length : (t u : List ℕ) (ts us : List (List ℕ)) → NoLonger (t ∷ ts) (u ∷ us) → NoLonger (u ∷ us) (t ∷ ts) → (length t ≡ length u) × NoLonger ts us × NoLonger us ts
same_length t u ts us (inl a) (inl b) = absurd (omega arith)
same_length t u ts us (inl a) (inr b) = absurd (omega (arith, b.0))
same_length t u ts us (inr a) (inl b) = absurd (omega (arith, a.0))
same_length t u ts us (inr a) (inr b) = (a.0, a.1, b.1)

same_texts : (ls ts us : List (List ℕ)) → length ts ≡ length ls → length us ≡ length ls → filled_behind ls ts ≡ filled_behind ls us → NoLonger ts us → NoLonger us ts → ts ≡ us
same_texts [] [] [] n m e p q = refl
same_texts [] [] (u ∷ us) n m e p q = absurd (omega arith)
same_texts [] (t ∷ ts) us n m e p q = absurd (omega arith)
same_texts (l ∷ ls) [] us n m e p q = absurd (omega arith)
same_texts (l ∷ ls) (t ∷ ts) [] n m e p q = absurd (omega arith)
same_texts (l ∷ ls) (t ∷ ts) (u ∷ us) n m e p q =
    let s = same_length t u ts us p q in
    let f = same_front t u (l ++ filled_behind ls ts) (l ++ filled_behind ls us) s.0 e in
    let front : t ≡ u = f.0 in
    let back : ts ≡ us = same_texts ls ts us (omega arith) (omega arith) (append_cancel_left l (filled_behind ls ts) (filled_behind ls us) f.1) s.1 s.2 in cc

pub one_is_shortest : (p : Literals) (t : List ℕ) (ts us : List (List ℕ)) → IsShortest p t ts → IsShortest p t us → ts ≡ us
one_is_shortest p t ts us a b =
    same_texts p.behind ts us a.is.one_each b.is.one_each (append_cancel_left p.first (filled_behind p.behind ts) (filled_behind p.behind us) (sym a.is.makes ∙ b.is.makes)) (a.least us b.is) (b.least ts a.is)

pub shortest_found : (p : Literals) (t : List ℕ) (ts : List (List ℕ)) → (shortest p t ≡ Some ts) ↔ IsShortest p t ts
shortest_found p t ts = go (shortest p t) (shortest_is p t) where
  go : (o : Option (List (List ℕ))) → MatchOption o (Matches p t → ⊥) (λ us. IsShortest p t us) → (o ≡ Some ts) ↔ IsShortest p t ts
  go None h = (λ e. cc, λ s. absurd (h (ts, s.is)))
  go (Some us) s = ((λ e. let same : us ≡ ts = cc in subst (λ (x : List (List ℕ)). IsShortest p t x) same s), (λ r. ap (λ (x : List (List ℕ)). Some x) (one_is_shortest p t us ts s r)))

-- ---- the renamed text

pub renamed_is : (from to : Literals) (t : List ℕ) → MatchOption (renamed from to t) (Matches from t → ⊥) (λ new. Renamed from to t new)
unfolding renamed
renamed_is from to t = go (shortest from t) (shortest_is from t) where
  go : (o : Option (List (List ℕ))) → MatchOption o (Matches from t → ⊥) (λ ts. IsShortest from t ts) → MatchOption (option_map (filled to) o) (Matches from t → ⊥) (λ new. Renamed from to t new)
  go None h = h
  go (Some ts) s = (ts, s, refl)

pub one_renamed : (from to : Literals) (t new other : List ℕ) → Renamed from to t new → Renamed from to t other → new ≡ other
one_renamed from to t new other a b = a.2 ∙ (ap (filled to) (one_is_shortest from t a.0 b.0 a.1 b.1) ∙ sym b.2)

-- what is renamed or isn't is so by the function
pub by_renamed : (from to : Literals) (t : List ℕ) (o : Option (List ℕ)) → IfSome o (λ new. Renamed from to t new) → IfNone o (Matches from t → ⊥) → renamed from to t ≡ o
by_renamed from to t o = go (renamed from to t) (renamed_is from to t) o where
  go : (r : Option (List ℕ)) → MatchOption r (Matches from t → ⊥) (λ new. Renamed from to t new) → (o : Option (List ℕ)) → IfSome o (λ new. Renamed from to t new) → IfNone o (Matches from t → ⊥) → r ≡ o
  go None h None p q = refl
  go None h (Some new) p q = absurd (h (p.0, p.1.is))
  go (Some old) h None p q = absurd (q (h.0, h.1.is))
  go (Some old) h (Some new) p q = ap (λ (x : List ℕ). Some x) (one_renamed from to t old new h p)

pub renamed_found : (from to : Literals) (t new : List ℕ) → (renamed from to t ≡ Some new) ↔ Renamed from to t new
renamed_found from to t new = ((λ e. subst (λ (o : Option (List ℕ)). IfSome o (λ x. Renamed from to t x)) e (some (renamed from to t) (renamed_is from to t))), (λ r. by_renamed from to t (Some new) r tt)) where
  some : (o : Option (List ℕ)) → MatchOption o (Matches from t → ⊥) (λ x. Renamed from to t x) → IfSome o (λ x. Renamed from to t x)
  some None h = tt
  some (Some x) h = h
