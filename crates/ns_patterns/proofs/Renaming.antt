-- Going through the stars of two patterns at once.
use Rattle.std.proofs.Common.{◌≡◌, ◌≢◌, ℕ, suc, ◌+◌, ◌<◌, ◌≤◌, Bool, true, false, List, [], ◌∷◌, ◌++◌, ◌⊎◌, inl, inr, MatchOption, length, take, drop, get_or, refl, sym, ap, ◌∙◌, subst, append_assoc, arith, eqb-true, length-append, Bor}
use Rattle.std.specs.Prelude.{Option, Some, None, ◌==◌}
use Rattle.std.specs.Str.Pattern.{FindsText, SplitsAroundMatch}
use Rattle.std.proofs.Math.Seq.{take-suc}
use Rattle.std.proofs.lemmas.Bool.{cases_lt, eqb-false}
use Rattle.std.proofs.lemmas.List.{append-nil, drop_at, drop_all, take_all, take-append-drop, length-take, length-drop}
use Rattle.ns_patterns.specs.Literals.{Literals}
use Rattle.ns_patterns.specs.Matches.{filled_behind, Matches, IsShortest, Renamed}
use Rattle.ns_patterns.specs.Search.{IsFirst, IsCut, IsUncut}
use Rattle.ns_patterns.proofs.Leftmost.{Filled, Shortest, widened, leftmost, last_filled, nowhere_filled, no_stars, first_literal, shortest_first, shortest_last, shortest_of_pattern, shortest_of_none, filled_push}
use Rattle.ns_patterns.proofs.Takes.{drop_first}

-- ---- the first place of a text, by std's search

split_found : (l s f b : List ℕ) → SplitsAroundMatch (FindsText l) s f b → IsFirst l s f b
split_found l s f b h =
    let i = h.0 in
    let has = h.2.1 in
    record {
      here = sym (take-append-drop i s) ∙ (ap (λ (x : List ℕ). take i s ++ x) (has.split ∙ ap (λ (x : List ℕ). l ++ x) (sym h.4)) ∙ ap (λ (x : List ℕ). x ++ (l ++ b)) (sym h.3));
      first = λ u more e. go u more e (cases_lt (length u) i);
    }
  where
    go : (u more : List ℕ) → s ≡ u ++ (l ++ more) → (length u < h.0) ⊎ (h.0 ≤ length u) → length f ≤ length u
    go u more e (inl lt) = absurd (h.2.0 (length u) lt more (ap (drop (length u)) e ∙ drop_at u (l ++ more) (length u) refl))
    go u more e (inr le) = omega (arith, le, h.6)

split_none : (l s : List ℕ) → FindsText l s None → (t r : List ℕ) → s ≢ t ++ (l ++ r)
split_none l s none t r e =
    none (length t) (omega (arith, ap length e, length-append t (l ++ r))) r (ap (drop (length t)) e ∙ drop_at t (l ++ r) (length t) refl)

pub split_at : (l s : List ℕ) (is_last : Bool) (r : Option (Bor (List ℕ) × Bor (List ℕ))) → is_last ≡ false → MatchOption r (FindsText l s None) (λ x. SplitsAroundMatch (FindsText l) s x.0.now x.1.now)
    → MatchOption r (IsUncut is_last l s) (λ x. IsCut is_last l s x.0.now x.1.now)
split_at l s true r e h = absurd cc
split_at l s false None e h = split_none l s h
split_at l s false (Some x) e h = split_found l s x.0.now x.1.now h

-- ---- the stars so far

-- what the stars so far stand for, what the other pattern makes of it, and that the rest decides
pub record Going (from to : Literals) (name new rest : List ℕ) (i : ℕ) : Type 0 where
  pub ts : List (List ℕ)
  pub count : length ts ≡ i
  pub made : new ≡ to.first ++ filled_behind (take i to.behind) ts
  pub back : Matches from name → Filled (drop i from.behind) rest
  pub best : (vs : List (List ℕ)) → Shortest (drop i from.behind) rest vs → IsShortest from name (ts ++ vs)

pub going_begins : (from to : Literals) (name new rest : List ℕ) → name ≡ from.first ++ rest → new ≡ to.first → Going from to name new rest 0
going_begins from to name new rest e n = record {
  ts = [];
  count = refl;
  made = n ∙ sym (append-nil to.first);
  back = (first_literal from name rest e).0;
  best = λ vs s. shortest_of_pattern from name rest e vs s;
}

module _ (from to : Literals) (name new rest : List ℕ) (i : ℕ) (g : Going from to name new rest i) where
  pub going_ends : length from.behind ≡ length to.behind → length from.behind ≤ i → rest ≡ [] → Renamed from to name new
  going_ends same over is = (
    g.ts,
    subst (λ (us : List (List ℕ)). IsShortest from name us) (append-nil g.ts) (g.best [] (subst (λ (ls : List (List ℕ)). Shortest ls rest []) (sym (drop_all i from.behind over)) (subst (λ (b : List ℕ). Shortest [] b []) (sym is) shortest_of_none))),
    g.made ∙ ap (λ (ls : List (List ℕ)). to.first ++ filled_behind ls g.ts) (take_all i to.behind (omega (arith, same, over))),
  )

  pub going_ends_not : length from.behind ≤ i → (rest ≡ [] → ⊥) → Matches from name → ⊥
  going_ends_not over some m = some ((no_stars rest).1 (subst (λ (ls : List (List ℕ)). Filled ls rest) (drop_all i from.behind over) (g.back m)))

  module _ (l : List ℕ) (within : i < length from.behind) (item : l ≡ get_or from.behind i l) where
    parts : drop i from.behind ≡ l ∷ drop (suc i) from.behind
    parts = drop_first i from.behind l within item

    filled_here : Matches from name → Filled (l ∷ drop (suc i) from.behind) rest
    filled_here m = subst (λ (ls : List (List ℕ)). Filled ls rest) parts (g.back m)

    none_behind : (is_last : Bool) → (i + 1 == length from.behind) ≡ is_last → is_last ≡ true → drop (suc i) from.behind ≡ []
    none_behind is_last e t = drop_all (suc i) from.behind (omega (arith, eqb-true (i + 1) (length from.behind) (e ∙ t)))

    stops : (is_last : Bool) → (i + 1 == length from.behind) ≡ is_last → IsUncut is_last l rest → Matches from name → ⊥
    stops true e u m =
        let f = (last_filled l rest).1 (subst (λ (ls : List (List ℕ)). Filled (l ∷ ls) rest) (none_behind true e refl) (filled_here m)) in
        u f.0 f.1
    stops false e u m = nowhere_filled l rest (drop (suc i) from.behind) u (filled_here m)

    pub going_stops : IsUncut (i + 1 == length from.behind) l rest → Matches from name → ⊥
    going_stops u m = stops (i + 1 == length from.behind) refl u m

    -- the shortest texts behind this one are the shortest with it
    cut_best : (t after : List ℕ) (is_last : Bool) → (i + 1 == length from.behind) ≡ is_last → IsCut is_last l rest t after → (vs : List (List ℕ)) → Shortest (drop (suc i) from.behind) after vs → Shortest (l ∷ drop (suc i) from.behind) rest (t ∷ vs)
    cut_best t after false e at vs s = shortest_first l rest t after (drop (suc i) from.behind) vs at s
    cut_best t after true e at vs s = go vs (subst (λ (ls : List (List ℕ)). Shortest ls after vs) (none_behind true e refl) s) where
      go : (vs : List (List ℕ)) → Shortest [] after vs → Shortest (l ∷ drop (suc i) from.behind) rest (t ∷ vs)
      go [] s = subst (λ (ls : List (List ℕ)). Shortest (l ∷ ls) rest (t ∷ [])) (sym (none_behind true e refl)) (shortest_last l rest t at.0)
      go (v ∷ vs) s = absurd (omega (arith, s.fills.one_each))

    some_behind : i + 1 < length from.behind → (ls : List (List ℕ)) → ls ≡ drop (suc i) from.behind → (x bytes : List ℕ) → Filled ls bytes → Filled ls (x ++ bytes)
    some_behind more [] e x bytes f = absurd (omega (arith, more, ap length e, length-drop (suc i) from.behind))
    some_behind more (m ∷ ms) e x bytes f = widened m ms x bytes f

    cut_back : (t after : List ℕ) (is_last : Bool) → (i + 1 == length from.behind) ≡ is_last → IsCut is_last l rest t after → Filled (l ∷ drop (suc i) from.behind) rest → Filled (drop (suc i) from.behind) after
    cut_back t after true e at f = subst (λ (ls : List (List ℕ)). Filled ls after) (sym (none_behind true e refl)) ((no_stars after).0 at.1)
    cut_back t after false e at f =
        let other : i + 1 ≡ length from.behind → ⊥ = λ q. eqb-false (i + 1) (length from.behind) e q in
        let more : i + 1 < length from.behind = omega (arith, within, other) in
        (leftmost l rest t after (drop (suc i) from.behind) (some_behind more (drop (suc i) from.behind) refl) at).0 f

    pub going_on : (t after m more : List ℕ) → IsCut (i + 1 == length from.behind) l rest t after → length from.behind ≡ length to.behind → m ≡ get_or to.behind i m → more ≡ (new ++ t) ++ m → Going from to name more after (i + 1)
    going_on t after m more at same item_to pushed =
        let z : suc i ≡ i + 1 = omega arith in
        subst (λ (n : ℕ). Going from to name more after n) z (record {
          ts = g.ts ++ t ∷ [];
          count = omega (arith, length-append g.ts (t ∷ []), g.count);
          made = pushed ∙ (append_assoc new t m ∙ (ap (λ (b : List ℕ). b ++ (t ++ m)) g.made ∙ (append_assoc to.first (filled_behind (take i to.behind) g.ts) (t ++ m)
              ∙ ap (λ (b : List ℕ). to.first ++ b) (sym (filled_push (take i to.behind) g.ts m t (omega (arith, g.count, length-take i to.behind, same, within)))
              ∙ ap (λ (ls : List (List ℕ)). filled_behind ls (g.ts ++ t ∷ [])) (sym (take-suc to.behind i m (omega (arith, same, within)) ∙ ap (λ (x : List ℕ). take i to.behind ++ x ∷ []) (sym item_to)))))));
          back = λ q. cut_back t after (i + 1 == length from.behind) refl at (filled_here q);
          best = λ vs s. subst (λ (us : List (List ℕ)). IsShortest from name us) (sym (append_assoc g.ts (t ∷ []) vs))
              (g.best (t ∷ vs) (subst (λ (ls : List (List ℕ)). Shortest ls rest (t ∷ vs)) (sym parts) (cut_best t after (i + 1 == length from.behind) refl at vs s)));
        })

-- ---- the same as the code has it, which reads the literals of a pattern as a slice

literal_is : (p seen : Literals) (slice : List (List ℕ)) (l : List ℕ) (i : ℕ) → seen ≡ p → slice ≡ seen.behind → l ≡ get_or slice i l → l ≡ get_or p.behind i l
literal_is p seen slice l i view is item = item ∙ ap (λ (ls : List (List ℕ)). get_or ls i l) (is ∙ ap (λ (q : Literals). q.behind) view)

pub stopped : (from to : Literals) (name new rest : List ℕ) (i : ℕ) → Going from to name new rest i → (seen : Literals) → seen ≡ from → (slice : List (List ℕ)) → slice ≡ seen.behind → (stars : ℕ) → stars ≡ length from.behind
    → (l text : List ℕ) → l ≡ get_or slice i l → text ≡ l → i < stars → IsUncut (i + 1 == stars) text rest → Matches from name → ⊥
stopped from to name new rest i g seen view slice is stars count l text item said within uncut m =
    going_stops from to name new rest i g l (omega (arith, within, count)) (literal_is from seen slice l i view is item)
    (subst (λ (n : ℕ). IsUncut (i + 1 == n) l rest) count (subst (λ (x : List ℕ). IsUncut (i + 1 == stars) x rest) said uncut)) m

pub gone_on : (from to : Literals) (name new rest : List ℕ) (i : ℕ) → Going from to name new rest i → (seen : Literals) → seen ≡ from → (slice : List (List ℕ)) → slice ≡ seen.behind → (stars : ℕ) → stars ≡ length from.behind
    → (l text : List ℕ) → l ≡ get_or slice i l → text ≡ l → i < stars → (t after : List ℕ) → IsCut (i + 1 == stars) text rest t after
    → (seen_to : Literals) → seen_to ≡ to → (slice_to : List (List ℕ)) → slice_to ≡ seen_to.behind → (m : List ℕ) → m ≡ get_or slice_to i m → length from.behind ≡ length to.behind → (more : List ℕ) → more ≡ (new ++ t) ++ m → Going from to name more after (i + 1)
gone_on from to name new rest i g seen view slice is stars count l text item said within t after cut seen_to view_to slice_to is_to m item_to same more pushed =
    going_on from to name new rest i g l (omega (arith, within, count)) (literal_is from seen slice l i view is item) t after m more
    (subst (λ (n : ℕ). IsCut (i + 1 == n) l rest t after) count (subst (λ (x : List ℕ). IsCut (i + 1 == stars) x rest t after) said cut)) same (literal_is to seen_to slice_to m i view_to is_to item_to) pushed
