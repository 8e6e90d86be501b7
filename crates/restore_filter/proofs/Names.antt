-- What is taken, and the new name, as the rules say it.
use Rattle.std.proofs.Common.{◌≡◌, ℕ, ◌+◌, ◌<◌, List, [], ◌∷◌, ◌⊎◌, inl, inr, ◌↔◌, length, length-drop, refl, sym, ap, ◌∙◌, subst, arith, eqb-true, Option, Some, None, MatchOption, IfSome, IfNone, Bool, true, false}
use Rattle.std.specs.Prelude.{◌==◌, ◌&&◌, ◌||◌, not, option_and_then, unwrap_or}
use Rattle.std.specs.List.{before_first, after_first, position_or_len}
use Rattle.std.specs.Option.{option_or}
use Rattle.bson_value.specs.declared.namespace.NsName.{NsName}
use Rattle.bson_value.specs.Namespace.{dot, IsSplit}
use Rattle.bson_value.proofs.FirstDot.{sides, at_first_dot}
use Rattle.ns_patterns.specs.Literals.{Literals}
use Rattle.ns_patterns.specs.Matches.{Matches, Renamed}
use Rattle.restore_filter.specs.Rules.{Rules}
use Rattle.restore_filter.specs.Texts.{matches, renamed}
use Rattle.restore_filter.specs.Names.{text_of, any_matches, included, takes, first_renamed, both_sides, named, new_name}
use Rattle.restore_filter.specs.Words.{AnyMatches, IsTaken, IsNewText, IsNamed, IsNewName}
use Rattle.restore_filter.proofs.Texts.{matches_is, renamed_is, one_renamed}

-- ---- what is taken

any_is : (ps : List Literals) (t : List ℕ) → (any_matches ps t ≡ true) ↔ AnyMatches ps t
any_is [] t = (λ e. cc, λ a. absurd a)
any_is (p ∷ ps) t = go (matches p t) (matches_is p t) (any_matches ps t) (any_is ps t) where
  go : (x : Bool) → (x ≡ true) ↔ Matches p t → (y : Bool) → (y ≡ true) ↔ AnyMatches ps t → ((x || y) ≡ true) ↔ (Matches p t ⊎ AnyMatches ps t)
  go true a y b = ((λ e. inl (a.0 refl)), (λ k. refl))
  go false a true b = ((λ e. inr (b.0 refl)), (λ k. refl))
  go false a false b = ((λ e. cc), back) where
    back : Matches p t ⊎ AnyMatches ps t → false ≡ true
    back (inl m) = a.1 m
    back (inr m) = b.1 m

none_is : (ps : List Literals) → ((length ps == 0) ≡ true) ↔ (ps ≡ [])
none_is [] = (λ e. refl, λ e. refl)
none_is (p ∷ ps) = ((λ e. let n : length (p ∷ ps) ≡ 0 = eqb-true (length (p ∷ ps)) 0 e in absurd (omega (arith, n))), (λ e. cc))

pub no_patterns : (ps : List Literals) (t : List ℕ) (empty : Bool) → (empty ≡ true) ↔ (ps ≡ []) → empty ≡ true → true ≡ included ps t
no_patterns ps t empty is e = sym (ap (λ (b : Bool). b || any_matches ps t) ((none_is ps).1 (is.0 e)))

pub some_patterns : (ps : List Literals) (t : List ℕ) (empty : Bool) → (empty ≡ true) ↔ (ps ≡ []) → empty ≡ false → any_matches ps t ≡ included ps t
some_patterns ps t empty is e = go (length ps == 0) (none_is ps).0 where
  go : (b : Bool) → (b ≡ true → ps ≡ []) → any_matches ps t ≡ (b || any_matches ps t)
  go true none = let f = is.1 (none refl) in absurd cc
  go false none = refl

pub taken_is : (r : Rules) (n : NsName) → (takes r n ≡ true) ↔ IsTaken r n
unfolding takes
taken_is r n = go (length r.include == 0) (none_is r.include) (any_matches r.include (text_of n)) (any_is r.include (text_of n)) (any_matches r.exclude (text_of n)) (any_is r.exclude (text_of n)) where
  go : {N I E : Type 0} (none : Bool) → (none ≡ true) ↔ N → (some : Bool) → (some ≡ true) ↔ I → (left : Bool) → (left ≡ true) ↔ E → (((none || some) && not left) ≡ true) ↔ ((N ⊎ I) × (E → ⊥))
  go true a some b true c = ((λ e. cc), (λ k. absurd (k.1 (c.0 refl))))
  go true a some b false c = ((λ e. (inl (a.0 refl), λ x. let k = c.1 x in cc)), (λ k. refl))
  go false a true b true c = ((λ e. cc), (λ k. absurd (k.1 (c.0 refl))))
  go false a true b false c = ((λ e. (inr (b.0 refl), λ x. let k = c.1 x in cc)), (λ k. refl))
  go false a false b left c = ((λ e. cc), (λ k. elim k.0 [ inl x ↦ a.1 x | inr x ↦ b.1 x ]))

-- ---- new names

new_text_is : (ps : List (Literals × Literals)) (t : List ℕ) (o : Option (List ℕ)) → (o ≡ first_renamed ps t) ↔ IsNewText ps t o
unfolding first_renamed
new_text_is [] t o = (λ e. e, λ e. e)
new_text_is (p ∷ ps) t o = go (renamed p.0 p.1 t) (renamed_is p.0 p.1 t) o (new_text_is ps t o) where
  go : (r : Option (List ℕ)) → MatchOption r (Matches p.0 t → ⊥) (λ new. Renamed p.0 p.1 t new) → (o : Option (List ℕ)) → (o ≡ first_renamed ps t) ↔ IsNewText ps t o → (o ≡ option_or r (first_renamed ps t)) ↔ IsNewText (p ∷ ps) t o
  go None h None k = ((λ e. (h, k.0 e)), (λ e. k.1 e.1))
  go None h (Some new) k = ((λ e. inr (h, k.0 e)), back) where
    back : Renamed p.0 p.1 t new ⊎ ((Matches p.0 t → ⊥) × IsNewText ps t (Some new)) → Some new ≡ first_renamed ps t
    back (inl r) = absurd (h (r.0, r.1.is))
    back (inr r) = k.1 r.1
  go (Some old) h None k = ((λ e. cc), (λ e. absurd (e.0 (h.0, h.1.is))))
  go (Some old) h (Some new) k = ((λ e. let same : new ≡ old = cc in inl (subst (λ (x : List ℕ). Renamed p.0 p.1 t x) (sym same) h)), back) where
    back : Renamed p.0 p.1 t new ⊎ ((Matches p.0 t → ⊥) × IsNewText ps t (Some new)) → Some new ≡ Some old
    back (inl r) = ap (λ (x : List ℕ). Some x) (one_renamed p.0 p.1 t new old r h)
    back (inr r) = absurd (r.0 (h.0, h.1.is))

-- ---- the namespace that a text names

some_dot : (t : List ℕ) (b : ℕ) (after : List ℕ) → after_first (λ b. b == dot) t ≡ b ∷ after → position_or_len (λ b. b == dot) t < length t
some_dot t b after e = omega (arith, ap length e, length-drop (position_or_len (λ b. b == dot) t + 1) t)

pub named_is : (t : List ℕ) → MatchOption (named t) ((db coll : List ℕ) → IsSplit t db coll → ⊥) (λ m. IsSplit t m.db m.coll)
unfolding named
named_is t = go (before_first (λ b. b == dot) t) refl (after_first (λ b. b == dot) t) refl where
  go : (db : List ℕ) → db ≡ before_first (λ b. b == dot) t → (coll : List ℕ) → coll ≡ after_first (λ b. b == dot) t → MatchOption (both_sides db coll) ((db coll : List ℕ) → IsSplit t db coll → ⊥) (λ m. IsSplit t m.db m.coll)
  go [] d coll e = λ x y s. s.some_db ((sides t x y s).0 ∙ sym d)
  go (b ∷ db) d [] e = λ x y s. s.some_coll ((sides t x y s).1 ∙ sym e)
  go (b ∷ db) d (c ∷ coll) e = at_first_dot t (b ∷ db) (c ∷ coll) (some_dot t c coll (sym e)) d e (λ q. cc) (λ q. cc)

-- what a text names or doesn't is so by the function
pub by_named : (t : List ℕ) (o : Option NsName) → IfSome o (λ m. IsSplit t m.db m.coll) → IfNone o ((db coll : List ℕ) → IsSplit t db coll → ⊥) → o ≡ named t
by_named t o = go o (named t) (named_is t) where
  go : (o r : Option NsName) → MatchOption r ((db coll : List ℕ) → IsSplit t db coll → ⊥) (λ m. IsSplit t m.db m.coll) → IfSome o (λ m. IsSplit t m.db m.coll) → IfNone o ((db coll : List ℕ) → IsSplit t db coll → ⊥) → o ≡ r
  go None None h p q = refl
  go None (Some m) h p q = absurd (q m.db m.coll h)
  go (Some m) None h p q = absurd (h m.db m.coll p)
  go (Some m) (Some n) h p q =
      let x = sides t m.db m.coll p in
      let y = sides t n.db n.coll h in
      let db : m.db ≡ n.db = x.0 ∙ sym y.0 in
      let coll : m.coll ≡ n.coll = x.1 ∙ sym y.1 in
      let name : List ℕ → List ℕ → NsName = λ d k. record { db = d; coll = k } in ap (λ (d : List ℕ). Some (name d m.coll)) db ∙ ap (λ (k : List ℕ). Some (name n.db k)) coll

-- ---- the new name

name_is : (n m : NsName) (o : Option (List ℕ)) → (m ≡ unwrap_or (option_and_then named o) n) ↔ IsNamed n o m
name_is n m None = (λ e. e, λ e. e)
name_is n m (Some t) = go (named t) (named_is t) where
  go : (r : Option NsName) → MatchOption r ((db coll : List ℕ) → IsSplit t db coll → ⊥) (λ k. IsSplit t k.db k.coll) → (m ≡ unwrap_or r n) ↔ IsNamed n (Some t) m
  go None h = ((λ e. inr (h, e)), back) where
    back : IsNamed n (Some t) m → m ≡ n
    back (inl s) = absurd (h m.db m.coll s)
    back (inr k) = k.1
  go (Some k) s = ((λ e. inl (subst (λ (x : NsName). IsSplit t x.db x.coll) (sym e) s)), back) where
    back : IsNamed n (Some t) m → m ≡ k
    back (inl q) = let same : Some m ≡ Some k = by_named t (Some m) q tt ∙ sym (by_named t (Some k) s tt) in cc
    back (inr q) = absurd (q.0 k.db k.coll s)

pub new_name_is : (r : Rules) (n m : NsName) → (m ≡ new_name r n) ↔ IsNewName r n m
unfolding new_name
new_name_is r n m = (
  (λ e. (first_renamed r.renames (text_of n), (new_text_is r.renames (text_of n) _).0 refl, (name_is n m _).0 e)),
  (λ k. (name_is n m _).1 (subst (λ (o : Option (List ℕ)). IsNamed n o m) ((new_text_is r.renames (text_of n) k.0).1 k.1) k.2)),
)

pub names_stay : (r : Rules) (n : NsName) → r.renames ≡ [] → new_name r n ≡ n
unfolding new_name first_renamed
names_stay r n e = ap (λ (ps : List (Literals × Literals)). unwrap_or (option_and_then named (first_renamed ps (text_of n))) n) e

-- ---- the same as the code has it

pub taken_if : (r : Rules) (n : NsName) (seen : Rules) → seen ≡ r → (slice : List Literals) → slice ≡ seen.exclude → (i x : Bool) → i ≡ included seen.include (text_of n) → i ≡ true → x ≡ any_matches slice (text_of n) → not x ≡ takes r n
unfolding takes
taken_if r n seen view slice is i x some t left =
    ap (λ (b : Bool). b && not x) (sym t ∙ some)
    ∙ (ap (λ (b : Bool). included seen.include (text_of n) && not b) (left ∙ ap (λ (ps : List Literals). any_matches ps (text_of n)) is) ∙ ap (λ (q : Rules). takes q n) view)

pub not_taken_if : (r : Rules) (n : NsName) (seen : Rules) → seen ≡ r → (i : Bool) → i ≡ included seen.include (text_of n) → i ≡ false → i ≡ takes r n
unfolding takes
not_taken_if r n seen view i some f =
    f ∙ (ap (λ (b : Bool). b && not (any_matches seen.exclude (text_of n))) (sym f ∙ some) ∙ ap (λ (q : Rules). takes q n) view)

-- the code reads the pairs as a slice of what it holds
pub renamed_by_slice : (r : Rules) (n : NsName) (o : Option (List ℕ)) (seen : Rules) → seen ≡ r → (slice : List (Literals × Literals)) → slice ≡ seen.renames → (text : List ℕ) → text ≡ text_of n → o ≡ first_renamed slice text → o ≡ first_renamed r.renames (text_of n)
renamed_by_slice r n o seen view slice is text said e =
    e ∙ (ap (λ (ps : List (Literals × Literals)). first_renamed ps text) (is ∙ ap (λ (q : Rules). q.renames) view) ∙ ap (λ (t : List ℕ). first_renamed r.renames t) said)

pub not_renamed : (r : Rules) (n : NsName) → None ≡ first_renamed r.renames (text_of n) → n ≡ new_name r n
unfolding new_name
not_renamed r n e = ap (λ (o : Option (List ℕ)). unwrap_or (option_and_then named o) n) e

pub renamed_to : (r : Rules) (n : NsName) (t : List ℕ) (o : Option NsName) → Some t ≡ first_renamed r.renames (text_of n) → IfSome o (λ m. IsSplit t m.db m.coll) → IfNone o ((db coll : List ℕ) → IsSplit t db coll → ⊥) → unwrap_or o n ≡ new_name r n
unfolding new_name
renamed_to r n t o e p q =
    ap (λ (m : Option NsName). unwrap_or m n) (by_named t o p q) ∙ ap (λ (new : Option (List ℕ)). unwrap_or (option_and_then named new) n) e
