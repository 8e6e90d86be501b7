-- What is picked of lists that were gathered, and parts that stand once.
use Rattle.std.proofs.Common.{◌≡◌, List, [], ◌∷◌, ◌++◌, Bool, true, false, refl, sym, ap, ◌∙◌, subst, arith, inl, inr}
use Rattle.std.specs.Prelude.{if◌then◌else◌, Option, Some, None}
use Rattle.std.proofs.lemmas.Bool.{cases_Bool}
use Rattle.std.proofs.lemmas.Grind.{common_steps}
use Rattle.doc_path.specs.declared.parts.Part.{Part}
use Rattle.doc_path.specs.declared.parts.Part.TheVariants.{Name as name, Index as index}
use Rattle.entry_model.specs.Edits.{Edit, In, onto, picked, mapped, gathered, same_part, behind, under, without, once, is_before, inserted, rising, first_in}
use Rattle.entry_model.proofs.Lists.{one_part, own_part, gathered_in, once_in, rising_in, inserted_in, without_in}

module _ {A : Type 0} where
  pub append_nil : (xs : List A) → xs ++ [] ≡ xs
  append_nil [] = refl
  append_nil (x ∷ xs) = ap (λ (l : List A). x ∷ l) (append_nil xs)

  onto_append : (o : Option A) (xs ys : List A) → onto o (xs ++ ys) ≡ onto o xs ++ ys
  onto_append None xs ys = refl
  onto_append (Some x) xs ys = refl

module _ {A B : Type 0} where
  pub picked_append : (f : A → Option B) (xs ys : List A) → picked f (xs ++ ys) ≡ picked f xs ++ picked f ys
  picked_append f [] ys = refl
  picked_append f (x ∷ xs) ys = ap (onto (f x)) (picked_append f xs ys) ∙ onto_append (f x) (picked f xs) (picked f ys)

  pub picked_none : (f : A → Option B) (xs : List A) → ((x : A) → In x xs → f x ≡ None) → picked f xs ≡ []
  picked_none f [] h = refl
  picked_none f (x ∷ xs) h = ap (λ (o : Option B). onto o (picked f xs)) (h x (inl refl)) ∙ picked_none f xs (λ y i. h y (inr i))

  pub gathered_same : (f g : A → List B) (xs : List A) → ((x : A) → In x xs → f x ≡ g x) → gathered f xs ≡ gathered g xs
  gathered_same f g [] h = refl
  gathered_same f g (x ∷ xs) h = let a = h x (inl refl) in let b = gathered_same f g xs (λ y i. h y (inr i)) in λ i. a i ++ b i

  pub gathered_none : (f : A → List B) (xs : List A) → ((x : A) → In x xs → f x ≡ []) → gathered f xs ≡ []
  gathered_none f [] h = refl
  gathered_none f (x ∷ xs) h = let a = h x (inl refl) in let b = gathered_none f xs (λ y i. h y (inr i)) in λ i. a i ++ b i

  pub mapped_none : {C : Type 0} (f : B → Option C) (g : A → B) (xs : List A) → ((x : A) → f (g x) ≡ None) → picked f (mapped g xs) ≡ []
  mapped_none f g [] h = refl
  mapped_none f g (x ∷ xs) h = ap (λ (o : Option _). onto o (picked f (mapped g xs))) (h x) ∙ mapped_none f g xs h

  pub mapped_own : (f : B → Option A) (g : A → B) (xs : List A) → ((x : A) → f (g x) ≡ Some x) → picked f (mapped g xs) ≡ xs
  mapped_own f g [] h = refl
  mapped_own f g (x ∷ xs) h = ap (λ (o : Option A). onto o (picked f (mapped g xs))) (h x) ∙ ap (λ (l : List A). x ∷ l) (mapped_own f g xs h)

pub picked_gathered : {A B C : Type 0} (f : B → Option C) (g : A → List B) (xs : List A) → picked f (gathered g xs) ≡ gathered (λ x. picked f (g x)) xs
picked_gathered f g [] = refl
picked_gathered f g (x ∷ xs) = picked_append f (g x) (gathered g xs) ∙ ap (λ (l : List _). picked f (g x) ++ l) (picked_gathered f g xs)

-- ---- parts that stand once

abbrev pub NoTwice : List Part → Type 0
NoTwice [] = Unit {0}
NoTwice (p ∷ ps) = (In p ps → ⊥) × NoTwice ps

pub other_part : (p q : Part) → (p ≡ q → ⊥) → same_part p q ≡ false
other_part p q n = elim (cases_Bool (same_part p q)) [ inl h ↦ absurd (n (one_part p q h)) | inr h ↦ h ]

-- only the block of one part gives something
pub one_block : {B : Type 0} (f : Part → List B) (rs : List Part) (r : Part) → NoTwice rs → In r rs → ((q : Part) → (q ≡ r → ⊥) → f q ≡ []) → gathered f rs ≡ f r
one_block f [] r t h o = absurd h
one_block f (q ∷ rs) r t (inl e) o =
    let rest : gathered f rs ≡ [] = gathered_none f rs (λ x i. o x (λ (p : x ≡ r). t.0 (subst (λ (z : Part). In z rs) (p ∙ e) i))) in
    ap (λ (l : List _). f q ++ l) rest ∙ (append_nil (f q) ∙ ap f (sym e))
one_block f (q ∷ rs) r t (inr h) o =
    let here : f q ≡ [] = o q (λ (p : q ≡ r). t.0 (subst (λ (z : Part). In z rs) (sym p) h)) in
    ap (λ (l : List _). l ++ gathered f rs) here ∙ one_block f rs r t.1 h o

without_gone : (p : Part) (qs : List Part) → In p (without p qs) → ⊥
without_gone p [] h = h
without_gone p (q ∷ qs) h = by (same_part q p) refl h (without_gone p qs)
  where
    by : (b : Bool) → same_part q p ≡ b → In p (if b then without p qs else q ∷ without p qs) → (In p (without p qs) → ⊥) → ⊥
    by true e g ih = ih g
    by false e (inl k) ih = let o : same_part q p ≡ true = ap (same_part q) k ∙ own_part q in let f : false ≡ true = sym e ∙ o in cc
    by false e (inr g) ih = ih g

without_absent : (p : Part) (qs : List Part) → (In p qs → ⊥) → without p qs ≡ qs
without_absent p [] h = refl
without_absent p (q ∷ qs) h =
    let o : same_part q p ≡ false = other_part q p (λ e. h (inl (sym e))) in
    rw o (ap (λ (l : List Part). q ∷ l) (without_absent p qs (λ i. h (inr i))))

-- some times the same part, and then others
without_run : (r : Part) (bs qs : List Part) → ((q : Part) → In q bs → q ≡ r) → (In r qs → ⊥) → without r (once (bs ++ qs)) ≡ once qs
without_run r [] qs a n = without_absent r (once qs) (λ i. n (once_in qs r i))
without_run r (b ∷ bs) qs a n =
    let e : b ≡ r = a b (inl refl) in
    let o : same_part b r ≡ true = ap (λ (z : Part). same_part z r) e ∙ own_part r in
    let t : without r (without b (once (bs ++ qs))) ≡ without r (once (bs ++ qs)) =
    ap (λ (z : Part). without r (without z (once (bs ++ qs)))) e ∙ without_absent r (without r (once (bs ++ qs))) (without_gone r (once (bs ++ qs))) in
    rw o (t ∙ without_run r bs qs (λ q i. a q (inr i)) n)

once_run : (r : Part) (bs qs : List Part) → ((q : Part) → In q bs → q ≡ r) → In r bs → (In r qs → ⊥) → once (bs ++ qs) ≡ r ∷ once qs
once_run r [] qs a h n = absurd h
once_run r (b ∷ bs) qs a h n =
    let e : b ≡ r = a b (inl refl) in
    ap (λ (z : Part). z ∷ without z (once (bs ++ qs))) e ∙ ap (λ (l : List Part). r ∷ l) (without_run r bs qs (λ q i. a q (inr i)) n)

pub once_blocks : (f : Part → List Part) (rs : List Part) → NoTwice rs → ((r : Part) → In r rs → (q : Part) → In q (f r) → q ≡ r) → ((r : Part) → In r rs → In r (f r)) → once (gathered f rs) ≡ rs
once_blocks f [] t a h = refl
once_blocks f (r ∷ rs) t a h =
    once_run r (f r) (gathered f rs) (a r (inl refl)) (h r (inl refl)) (λ i. (let x = gathered_in f rs r i in t.0 (subst (λ (z : Part). In z rs) (sym (a x.0 (inr x.1) r x.2)) x.1)))
    ∙ ap (λ (l : List Part). r ∷ l) (once_blocks f rs t.1 (λ q i. a q (inr i)) (λ q i. h q (inr i)))

without_twice : (p : Part) (qs : List Part) → NoTwice qs → NoTwice (without p qs)
without_twice p [] t = tt
without_twice p (q ∷ qs) t = by (same_part q p) (without_twice p qs t.1)
  where
    by : (b : Bool) → NoTwice (without p qs) → NoTwice (if b then without p qs else q ∷ without p qs)
    by true h = h
    by false h = ((λ i. t.0 (without_in p qs q i)), h)

pub once_no_twice : (ps : List Part) → NoTwice (once ps)
once_no_twice [] = tt
once_no_twice (p ∷ ps) = (without_gone p (once ps), without_twice p (once ps) (once_no_twice ps))

-- ---- sorted parts

inserted_twice : (p : Part) (qs : List Part) → (In p qs → ⊥) → NoTwice qs → NoTwice (inserted p qs)
inserted_twice p [] n t = (n, tt)
inserted_twice p (q ∷ qs) n t = by (is_before q p) (inserted_twice p qs (λ i. n (inr i)) t.1)
  where
    not_there : In q (inserted p qs) → In q (p ∷ qs) → ⊥
    not_there i (inl e) = n (inl (sym e))
    not_there i (inr h) = t.0 h

    by : (b : Bool) → NoTwice (inserted p qs) → NoTwice (if b then q ∷ inserted p qs else p ∷ (q ∷ qs))
    by true h = ((λ i. not_there i (inserted_in p qs q i)), h)
    by false h = (n, t)

pub rising_no_twice : (ps : List Part) → NoTwice ps → NoTwice (rising ps)
rising_no_twice [] t = tt
rising_no_twice (p ∷ ps) t = inserted_twice p (rising ps) (λ i. t.0 (rising_in ps p i)) (rising_no_twice ps t.1)

abbrev pub Sorted : List Part → Type 0
Sorted [] = Unit {0}
Sorted (p ∷ []) = Unit {0}
Sorted (p ∷ (q ∷ qs)) = (is_before q p ≡ false) × Sorted (q ∷ qs)

not_both : (p q : Part) → is_before q p ≡ true → is_before p q ≡ false
not_both (name j) (name k) e = refl
not_both (name j) (index n) e = refl
not_both (index m) (name k) e = refl
not_both (index m) (index n) e = grind (arith, common_steps)

inserted_sorted : (p : Part) (qs : List Part) → Sorted qs → Sorted (inserted p qs)
inserted_sorted p [] s = tt
inserted_sorted p (q ∷ []) s = by (is_before q p) refl
  where
    by : (b : Bool) → is_before q p ≡ b → Sorted (if b then q ∷ inserted p [] else p ∷ (q ∷ []))
    by true e = (not_both p q e, tt)
    by false e = (e, tt)
inserted_sorted p (q ∷ (r ∷ rs)) s = by (is_before q p) refl (inserted_sorted p (r ∷ rs) s.1)
  where
    first : (b : Bool) → is_before q p ≡ true → Sorted (if b then r ∷ inserted p rs else p ∷ (r ∷ rs)) → Sorted (q ∷ (if b then r ∷ inserted p rs else p ∷ (r ∷ rs)))
    first true e h = (s.0, h)
    first false e h = (not_both p q e, h)

    by : (b : Bool) → is_before q p ≡ b → Sorted (inserted p (r ∷ rs)) → Sorted (if b then q ∷ inserted p (r ∷ rs) else p ∷ (q ∷ (r ∷ rs)))
    by true e h = first (is_before r p) e h
    by false e h = (e, s)

rising_sorted : (ps : List Part) → Sorted (rising ps)
rising_sorted [] = tt
rising_sorted (p ∷ ps) = inserted_sorted p (rising ps) (rising_sorted ps)

inserted_first : (p : Part) (qs : List Part) → Sorted (p ∷ qs) → inserted p qs ≡ p ∷ qs
inserted_first p [] s = refl
inserted_first p (q ∷ qs) s = rw s.0 refl

tail_sorted : (p : Part) (qs : List Part) → Sorted (p ∷ qs) → Sorted qs
tail_sorted p [] s = tt
tail_sorted p (q ∷ qs) s = s.1

sorted_stays : (ps : List Part) → Sorted ps → rising ps ≡ ps
sorted_stays [] s = refl
sorted_stays (p ∷ ps) s = ap (inserted p) (sorted_stays ps (tail_sorted p ps s)) ∙ inserted_first p ps s

pub rising_again : (ps : List Part) → rising (rising ps) ≡ rising ps
rising_again ps = sorted_stays (rising ps) (rising_sorted ps)

-- ---- what is below one part, of edits below parts

pub behind_own : (r : Part) (es : List Edit) → picked (behind r) (mapped (under r) es) ≡ es
behind_own r es = mapped_own (behind r) (under r) es (λ e. rw (own_part r) refl)

pub behind_other : (r q : Part) (es : List Edit) → (q ≡ r → ⊥) → picked (behind r) (mapped (under q) es) ≡ []
behind_other r q es n = mapped_none (behind r) (under q) es (λ e. rw (other_part q r n) refl)

pub firsts_are : (r : Part) (es : List Edit) → picked (λ e. first_in e.0) (mapped (under r) es) ≡ mapped (λ e. r) es
firsts_are r [] = refl
firsts_are r (e ∷ es) = ap (λ (l : List Part). r ∷ l) (firsts_are r es)
