-- A unique index holds on.
use Rattle.std.proofs.Common.{◌≡◌, ℕ, List, [], ◌∷◌, Bool, true, false, cond, not, refl, sym, ap, ◌∙◌, Some, None, inl, inr}
use Rattle.std.specs.Prelude.{◌⊎◌, ◌&&◌, ◌||◌, if◌then◌else◌}
use Rattle.std.specs.Str.{bytes_eq}
use Rattle.std.specs.Cmp.Lexicographic.{texts_ties}
use Rattle.std.specs.FinMap as map
use Rattle.std.proofs.lemmas.Bool.{cases_Bool}
use Rattle.state_model.specs.Keys.{Key, key_cmp, same_key}
use Rattle.state_model.proofs.Keys.{key_is, key_refl}
use Rattle.state_model.proofs.Maps.{key_at_insert, key_at_remove}
use Rattle.index_build.specs.Faults.{meet}
use Rattle.index_build.specs.Laws.{StaysApart, ApartWithout}
use Rattle.index_build.specs.Owned.{Owned, other_has, first_other}
use Rattle.index_build.specs.Owners.{Texts, has}
use Rattle.index_build.specs.Repeats.{first_where}
use Rattle.index_build.proofs.Repeated.{both_have}

clash : (b : Bool) → b ≡ true → b ≡ false → ⊥
clash b t f = cc

no_some : {A : Type 0} (x : A) → Some x ≡ None → ⊥
no_some x e = cc

some_is : (t u : Texts) → Some t ≡ Some u → t ≡ u
some_is t u e = cc

or_true : (b : Bool) → (b || true) ≡ true
or_true true = refl
or_true false = refl

-- a text that both lists have
shared : (a b : Texts) → meet a b ≡ true → (t : List ℕ) × (has t a ≡ true) × (has t b ≡ true)
shared [] b e = cc
shared (x ∷ a) b e = by (cases_Bool (has x b)) (λ f. shared a b f)
  where
    by : (has x b ≡ true) ⊎ (has x b ≡ false) → (meet a b ≡ true → (t : List ℕ) × (has t a ≡ true) × (has t b ≡ true)) → (t : List ℕ) × (has t (x ∷ a) ≡ true) × (has t b ≡ true)
    by (inl h) later = (x, ap (λ z. z || has x a) (texts_ties x x ∙ key_refl x), h)
    by (inr h) later = let r = later (sym (ap (λ z. z || meet a b) h) ∙ e) in (r.0, ap (λ z. bytes_eq r.0 x || z) r.1 ∙ or_true (bytes_eq r.0 x), r.2)

meet_turned : (a b : Texts) → meet a b ≡ true → meet b a ≡ true
meet_turned a b e = let r = shared a b e in both_have r.0 b a r.2 r.1

-- none of the entries has the property
pub none_is : (p : Key × Texts → Bool) (es : List (Key × Texts)) (j : Key) (ts : Texts) → first_where p es ≡ None → map.find key_cmp j es ≡ Some ts → p (j, ts) ≡ false
none_is p [] j ts none e = cc
none_is p (x ∷ es) j ts none e = by (cases_Bool (p x)) (cases_Bool (same_key j x.0)) (λ n f. none_is p es j ts n f)
  where
    by : (p x ≡ true) ⊎ (p x ≡ false) → (same_key j x.0 ≡ true) ⊎ (same_key j x.0 ≡ false) → (first_where p es ≡ None → map.find key_cmp j es ≡ Some ts → p (j, ts) ≡ false) → p (j, ts) ≡ false
    by (inl h) s later = absurd (no_some x (sym (ap (λ b. if b then Some x else first_where p es) h) ∙ none))
    by (inr h) (inl s) later =
        let is : x.1 ≡ ts = some_is x.1 ts (sym (ap (λ b. cond b (Some x.1) (map.find key_cmp j es)) s) ∙ e) in
        (λ i. p (key_is j x.0 s i, sym is i)) ∙ h
    by (inr h) (inr s) later = later (sym (ap (λ b. if b then Some x else first_where p es) h) ∙ none) (sym (ap (λ b. cond b (Some x.1) (map.find key_cmp j es)) s) ∙ e)

-- another key shares nothing
shares_none : (m : Owned) (k j : Key) (ts us : Texts) → first_other k ts m ≡ None → same_key j k ≡ false → map.get m j ≡ Some us → meet ts us ≡ true → ⊥
shares_none m k j ts us none apart e met =
    let p = none_is (other_has k ts) (map.entries m) j us none (sym (map.get-entries m j) ∙ e) in
    clash (other_has k ts (j, us)) ((λ i. not (apart i) && met i)) p

pub stays_apart : StaysApart
stays_apart m k ts holds none i j us vs e f met = by (cases_Bool (same_key i k)) (cases_Bool (same_key j k))
  where
    at_i : map.get (map.insert m k ts) i ≡ cond (same_key i k) (Some ts) (map.get m i)
    at_i = key_at_insert m k ts i

    at_j : map.get (map.insert m k ts) j ≡ cond (same_key j k) (Some ts) (map.get m j)
    at_j = key_at_insert m k ts j

    old_i : same_key i k ≡ false → map.get m i ≡ Some us
    old_i s = sym (at_i ∙ ap (λ b. cond b (Some ts) (map.get m i)) s) ∙ e

    old_j : same_key j k ≡ false → map.get m j ≡ Some vs
    old_j s = sym (at_j ∙ ap (λ b. cond b (Some ts) (map.get m j)) s) ∙ f

    new_i : same_key i k ≡ true → ts ≡ us
    new_i s = some_is ts us (sym (at_i ∙ ap (λ b. cond b (Some ts) (map.get m i)) s) ∙ e)

    new_j : same_key j k ≡ true → ts ≡ vs
    new_j s = some_is ts vs (sym (at_j ∙ ap (λ b. cond b (Some ts) (map.get m j)) s) ∙ f)

    by : (same_key i k ≡ true) ⊎ (same_key i k ≡ false) → (same_key j k ≡ true) ⊎ (same_key j k ≡ false) → i ≡ j
    by (inl s) (inl t) = key_is i k s ∙ sym (key_is j k t)
    by (inl s) (inr t) = absurd (shares_none m k j ts vs none t (old_j t) (ap (λ z. meet z vs) (new_i s) ∙ met))
    by (inr s) (inl t) = absurd (shares_none m k i ts us none s (old_i s) (meet_turned us ts (ap (meet us) (new_j t) ∙ met)))
    by (inr s) (inr t) = holds i j us vs (old_i s) (old_j t) met

pub apart_without : ApartWithout
apart_without m k holds i j us vs e f met = holds i j us vs (old i us e) (old j vs f) met
  where
    old : (q : Key) (ts : Texts) → map.get (map.remove m k) q ≡ Some ts → map.get m q ≡ Some ts
    old q ts g = by (cases_Bool (same_key q k))
      where
        by : (same_key q k ≡ true) ⊎ (same_key q k ≡ false) → map.get m q ≡ Some ts
        by (inl s) = absurd (no_some ts (sym g ∙ (key_at_remove m k q ∙ ap (λ b. cond b None (map.get m q)) s)))
        by (inr s) = sym (key_at_remove m k q ∙ ap (λ b. cond b None (map.get m q)) s) ∙ g
