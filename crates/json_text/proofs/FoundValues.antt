-- What is read as a value is one of the grammar.
use Rattle.std.proofs.Common.{◌≡◌, ℕ, zero, suc, Bool as Truth, true, false, cond, eqb, List, [], ◌∷◌, ◌++◌, length, Option, Some, None, Ok, Err, refl, sym, ap, ◌∙◌, subst, inl, inr, append_assoc}
use Rattle.std.proofs.lemmas.Bool.{cases_Bool, eqb-true}
use Rattle.std.proofs.lemmas.List.{append-nil}
use Rattle.containers.specs.Entries.{AreDistinct, names_of, place_of}
use Rattle.containers.proofs.Entries.{has_not, distinct_push}
use Rattle.json_tree.specs.declared.tree.Tree.{Tree, Tree-F, out-Tree}
use Rattle.json_tree.specs.declared.tree.Tree.TheVariants as trees
use Rattle.json_text.specs.Reading.{◌>>=◌, Taken, place, after_space, steps_at, word_at, number_at, string_at, Reader, more_at, item_at, unless_there, name_at, colon_at, member_at, closing, or_steps, list_at, value_with, array_at, object_at, value_at, ended, tree_of_text}
use Rattle.json_text.specs.Grammar.{IsSpace, IsString, AreMore, AreListed, IsMember, IsOne, IsArray, IsObject, Json, ReadIsJson}
use Rattle.json_text.proofs.Found.{bind_ok, taken_is, space_found, number_found}
use Rattle.json_text.proofs.FoundStrings.{word_found, string_found}

-- what follows a thing: a comma, white space and another one, or the end
abbrev pub Next : ℕ → Truth → List ℕ → List ℕ → Type 0
Next close true tail rest = (w : List ℕ) × IsSpace w × (tail ≡ 44 ∷ (w ++ rest))
Next close false tail rest = tail ≡ close ∷ rest

next_is : (close : ℕ) (m more : Truth) (tail r rest : List ℕ) → m ≡ more → r ≡ rest → Next close m tail r → Next close more tail rest
next_is close m more tail r rest e f h = subst (λ (b : Truth). Next close b tail rest) e (subst (λ (l : List ℕ). Next close m tail l) f h)

more_found : (close end : ℕ) (tail rest : List ℕ) (more : Truth) → more_at close end tail ≡ Ok (more, rest) → Next close more tail rest
unfolding more_at
more_found close end [] rest more h = absurd cc
more_found close end (b ∷ bs) rest more h =
    elim (cases_Bool (eqb b 44)) [
      | inl e ↦
          let k : ◌≡◌ {A = Taken Truth} (Ok (true, after_space bs)) (Ok (more, rest)) = rw e at h in
          let same = taken_is true more (after_space bs) rest k in
          let is = same.0 in
          let after = same.1 in
          let w = space_found bs in
          next_is close true more (b ∷ bs) (after_space bs) rest is after (w.0, w.1, ap (λ (c : ℕ). c ∷ bs) (eqb-true b 44 e) ∙ ap (λ (l : List ℕ). 44 ∷ l) w.2)
      | inr e ↦
          elim (cases_Bool (eqb b close)) [
            | inl f ↦
                let k : ◌≡◌ {A = Taken Truth} (Ok (false, bs)) (Ok (more, rest)) = rw (e, f) at h in
                let same = taken_is false more bs rest k in
                let is = same.0 in
                let after = same.1 in
                next_is close false more (b ∷ bs) bs rest is after (ap (λ (c : ℕ). c ∷ bs) (eqb-true b close f))
            | inr f ↦ let k : Err (place end (b ∷ bs)) ≡ Ok (more, rest) = rw (e, f) at h in absurd cc
          ]
    ]

-- ---- one thing after the other

pub record StepIs {A : Type 0} (close : ℕ) (V : List ℕ → A → Type 0) (D : List A → Type 0) (done : List A) (bs : List ℕ) (xs : List A) (more : Truth) (rest : List ℕ) : Type 0 where
  thing : A
  value : List ℕ
  after : List ℕ
  tail : List ℕ
  alone : xs ≡ thing ∷ []
  spelled : V value thing
  space : IsSpace after
  kept : D (done ++ thing ∷ [])
  here : bs ≡ value ++ (after ++ tail)
  next : Next close more tail rest

closing_some : (close : ℕ) (bs r : List ℕ) → closing close bs ≡ Some r → bs ≡ close ∷ r
unfolding closing
closing_some close [] r h = absurd cc
closing_some close (b ∷ bs) r h =
    elim (cases_Bool (eqb b close)) [
      | inl e ↦ let k : Some bs ≡ Some r = rw e at h in let p : b ≡ close = eqb-true b close e in cc
      | inr e ↦ let k : None ≡ Some r = rw e at h in absurd cc
    ]

module _ {A : Type 0} (close end : ℕ) (step : List A → List ℕ → Taken (List A × Truth)) (V : List ℕ → A → Type 0) (D : List A → Type 0)
    (step_found : (done : List A) (bs : List ℕ) (xs : List A) (more : Truth) (rest : List ℕ) → D done → step done bs ≡ Ok ((xs, more), rest) → StepIs close V D done bs xs more rest) where
  abbrev Listed : List A → List ℕ → List A → List ℕ → Type 0
  Listed done bs all rest = (x : A) × (xs : List A) × (v after others : List ℕ) × (all ≡ done ++ x ∷ xs) × V v x × IsSpace after × AreMore V others xs × D all × (bs ≡ v ++ (after ++ (others ++ close ∷ rest)))

  abbrev on : ℕ → List A → (List A × Truth) × List ℕ → Taken (List A)
  on n done x = cond x.0.1 (steps_at step n end (done ++ x.0.0) x.1) (Ok (done ++ x.0.0, x.1))

  last_one : (done : List A) (bs : List ℕ) (xs all : List A) (r rest : List ℕ) → StepIs close V D done bs xs false r → ◌≡◌ {A = Taken (List A)} (Ok (done ++ xs, r)) (Ok (all, rest)) → Listed done bs all rest
  last_one done bs xs all r rest s h =
      let same = taken_is (done ++ xs) all r rest h in
      let is = same.0 in
      let after = same.1 in
      let whole : done ++ s.thing ∷ [] ≡ all = ap (λ (l : List A). done ++ l) (sym s.alone) ∙ is in
      (s.thing, [], s.value, s.after, [], sym whole, s.spelled, s.space, refl, subst D whole s.kept, s.here ∙ ap (λ (l : List ℕ). s.value ++ (s.after ++ l)) (s.next ∙ ap (λ (l : List ℕ). close ∷ l) after))

  one_more : (done : List A) (bs : List ℕ) (xs all : List A) (r rest : List ℕ) → (s : StepIs close V D done bs xs true r) → Listed (done ++ s.thing ∷ []) r all rest → Listed done bs all rest
  one_more done bs xs all r rest s (y, ys, v, after, others, is, hv, sp, m, d, here) =
      let w = s.next in
      let regroup : (w.0 ++ (v ++ (after ++ others))) ++ close ∷ rest ≡ w.0 ++ (v ++ (after ++ (others ++ close ∷ rest))) = simp append_assoc in
      let tail : s.tail ≡ 44 ∷ ((w.0 ++ (v ++ (after ++ others))) ++ close ∷ rest) = w.2 ∙ ap (λ (l : List ℕ). 44 ∷ (w.0 ++ l)) here ∙ ap (λ (l : List ℕ). 44 ∷ l) (sym regroup) in (
        s.thing,
        y ∷ ys,
        s.value,
        s.after,
        44 ∷ (w.0 ++ (v ++ (after ++ others))),
        is ∙ append_assoc done (s.thing ∷ []) (y ∷ ys),
        s.spelled,
        s.space,
        (w.0, v, after, others, w.1, hv, sp, m, refl),
        d,
        s.here ∙ ap (λ (l : List ℕ). s.value ++ (s.after ++ l)) tail,
      )

  steps_found : (turns : ℕ) (done : List A) (bs : List ℕ) (all : List A) (rest : List ℕ) → D done → steps_at step turns end done bs ≡ Ok (all, rest) → Listed done bs all rest
  unfolding steps_at
  steps_found zero done bs all rest d h = absurd cc
  steps_found (suc n) done bs all rest d h =
      let one = bind_ok (step done bs) (on n done) (all, rest) h in
      let s = step_found done bs one.0.0.0 one.0.0.1 one.0.1 d one.1 in
      elim (cases_Bool one.0.0.1) [
        | inl t ↦
            let k : steps_at step n end (done ++ one.0.0.0) one.0.1 ≡ Ok (all, rest) = rw t at one.2 in
            let s' : StepIs close V D done bs one.0.0.0 true one.0.1 = subst (λ (b : Truth). StepIs close V D done bs one.0.0.0 b one.0.1) t s in
            let k' : steps_at step n end (done ++ s'.thing ∷ []) one.0.1 ≡ Ok (all, rest) = subst (λ (xs : List A). steps_at step n end (done ++ xs) one.0.1 ≡ Ok (all, rest)) s'.alone k in
            one_more done bs one.0.0.0 all one.0.1 rest s' (steps_found n (done ++ s'.thing ∷ []) one.0.1 all rest s'.kept k')
        | inr f ↦
            let k : ◌≡◌ {A = Taken (List A)} (Ok (done ++ one.0.0.0, one.0.1)) (Ok (all, rest)) = rw f at one.2 in
            last_one done bs one.0.0.0 all one.0.1 rest (subst (λ (b : Truth). StepIs close V D done bs one.0.0.0 b one.0.1) f s) k
      ]

  abbrev Closed : List ℕ → List A → List ℕ → Type 0
  Closed bs all rest = (inner : List ℕ) × AreListed V inner all × D all × (bs ≡ inner ++ close ∷ rest)

  list_case : (bs : List ℕ) (all : List A) (rest : List ℕ) (o : Option (List ℕ)) → closing close (after_space bs) ≡ o → D [] → or_steps step end (after_space bs) o ≡ Ok (all, rest) → Closed bs all rest
  list_case bs all rest (Some r) c d h =
      let w = space_found bs in
      let same = taken_is [] all r rest h in
      let none = same.0 in
      let after = same.1 in
      let here = w.2 ∙ ap (λ (l : List ℕ). w.0 ++ l) (closing_some close (after_space bs) r c ∙ ap (λ (l : List ℕ). close ∷ l) after) in
      subst (λ (l : List A). Closed bs l rest) none (w.0, w.1, d, here)
  list_case bs all rest None c d h =
      let w = space_found bs in
      let f = steps_found (suc (length (after_space bs))) [] (after_space bs) all rest d h in
      let regroup : w.0 ++ (f.2 ++ (f.3 ++ (f.4 ++ close ∷ rest))) ≡ (w.0 ++ (f.2 ++ (f.3 ++ f.4))) ++ close ∷ rest = simp append_assoc in
      let here = w.2 ∙ ap (λ (l : List ℕ). w.0 ++ l) f.10 ∙ regroup in
      (w.0 ++ (f.2 ++ (f.3 ++ f.4)), subst (λ (l : List A). AreListed V (w.0 ++ (f.2 ++ (f.3 ++ f.4))) l) (sym f.5) (w.0, f.2, f.3, f.4, w.1, f.6, f.7, f.8, refl), f.9, here)

  pub list_found : (bs : List ℕ) (all : List A) (rest : List ℕ) → D [] → list_at close step end (after_space bs) ≡ Ok (all, rest) → Closed bs all rest
  unfolding list_at
  list_found bs all rest d h = list_case bs all rest (closing close (after_space bs)) refl d h

-- ---- names and colons

name_case : (at : ℕ) (name : List ℕ) (o : Option ℕ) (after n rest : List ℕ) (done : List (List ℕ × Tree)) → place_of name done ≡ o → unless_there at name o after ≡ Ok (n, rest) → (name ≡ n) × (after ≡ rest) × (None ≡ place_of n done)
name_case at name (Some i) after n rest done e h = absurd cc
name_case at name None after n rest done e h =
    let same = taken_is name n after rest h in
    let is = same.0 in
    (is, same.1, sym e ∙ ap (λ (m : List ℕ). place_of m done) is)

name_found : (end : ℕ) (done : List (List ℕ × Tree)) (bs n rest : List ℕ) → name_at end done bs ≡ Ok (n, rest) → (b : List ℕ) × IsString b n × (bs ≡ b ++ rest) × (None ≡ place_of n done)
unfolding name_at
name_found end done [] n rest h = absurd cc
name_found end done (b ∷ bs) n rest h =
    elim (cases_Bool (eqb b 34)) [
      | inl e ↦
          let k : (string_at end bs >>= λ x. unless_there (place end (b ∷ bs)) x.0 (place_of x.0 done) x.1) ≡ Ok (n, rest) = rw e at h in
          let one = bind_ok (string_at end bs) (λ x. unless_there (place end (b ∷ bs)) x.0 (place_of x.0 done) x.1) (n, rest) k in
          let s = string_found end bs one.0.0 one.0.1 one.1 in
          let p = name_case (place end (b ∷ bs)) one.0.0 (place_of one.0.0 done) one.0.1 n rest done refl one.2 in
          let here = ap (λ (c : ℕ). c ∷ bs) (eqb-true b 34 e) ∙ ap (λ (l : List ℕ). 34 ∷ l) (s.3 ∙ ap (λ (l : List ℕ). s.0 ++ 34 ∷ l) p.1 ∙ sym (append_assoc s.0 (34 ∷ []) rest)) in
          (34 ∷ (s.0 ++ 34 ∷ []), subst (λ (m : List ℕ). IsString (34 ∷ (s.0 ++ 34 ∷ [])) m) p.0 (s.0, s.1, s.2, refl), here, p.2)
      | inr e ↦ let k : Err (place end (b ∷ bs)) ≡ Ok (n, rest) = rw e at h in absurd cc
    ]

colon_found : (end : ℕ) (bs rest : List ℕ) → colon_at end bs ≡ Ok rest → (w : List ℕ) × IsSpace w × (bs ≡ 58 ∷ (w ++ rest))
unfolding colon_at
colon_found end [] rest h = absurd cc
colon_found end (b ∷ bs) rest h =
    elim (cases_Bool (eqb b 58)) [
      | inl e ↦
          let k : Ok (after_space bs) ≡ Ok rest = rw e at h in
          let after : after_space bs ≡ rest = cc in
          let w = space_found bs in
          (w.0, w.1, ap (λ (c : ℕ). c ∷ bs) (eqb-true b 58 e) ∙ ap (λ (l : List ℕ). 58 ∷ l) (w.2 ∙ ap (λ (l : List ℕ). w.0 ++ l) after))
      | inr e ↦ let k : Err (place end (b ∷ bs)) ≡ Ok rest = rw e at h in absurd cc
    ]

-- ---- items and members

module _ (end : ℕ) (read : Reader) (V : List ℕ → Tree → Type 0) (reads : (bs : List ℕ) (t : Tree) (rest : List ℕ) → read end bs ≡ Ok (t, rest) → (v : List ℕ) × V v t × (bs ≡ v ++ rest)) where
  abbrev Free : List Tree → Type 0
  Free ts = Unit {0}

  item_found : (done : List Tree) (bs : List ℕ) (xs : List Tree) (more : Truth) (rest : List ℕ) → Unit {0} → item_at read end done bs ≡ Ok ((xs, more), rest) → StepIs 93 V Free done bs xs more rest
  unfolding item_at
  item_found done bs xs more rest d h =
      let one = bind_ok (read end bs) (λ x. more_at 93 end (after_space x.1) >>= λ m. Ok ((x.0 ∷ [], m.0), m.1)) ((xs, more), rest) h in
      let two = bind_ok (more_at 93 end (after_space one.0.1)) (λ m. Ok ((one.0.0 ∷ [], m.0), m.1)) ((xs, more), rest) one.2 in
      let v = reads bs one.0.0 one.0.1 one.1 in
      let w = space_found one.0.1 in
      let n = more_found 93 end (after_space one.0.1) two.0.1 two.0.0 two.1 in
      let same = taken_is (one.0.0 ∷ [], two.0.0) (xs, more) two.0.1 rest two.2 in
      let alone = ap (λ (q : List Tree × Truth). q.0) same.0 in
      let m = ap (λ (q : List Tree × Truth). q.1) same.0 in
      let after = same.1 in
      record { thing = one.0.0; value = v.0; after = w.0; tail = after_space one.0.1; alone = sym alone; spelled = v.1; space = w.1; kept = tt; here = v.2 ∙ ap (λ (l : List ℕ). v.0 ++ l) w.2; next = next_is 93 two.0.0 more (after_space one.0.1) two.0.1 rest m after n }

  abbrev Distinct : List (List ℕ × Tree) → Type 0
  Distinct es = AreDistinct (names_of es)

  member_found : (done : List (List ℕ × Tree)) (bs : List ℕ) (xs : List (List ℕ × Tree)) (more : Truth) (rest : List ℕ) → Distinct done → member_at read end done bs ≡ Ok ((xs, more), rest) → StepIs 125 (IsMember V) Distinct done bs xs more rest
  unfolding member_at
  member_found done bs xs more rest d h =
      let one = bind_ok (name_at end done bs) _ ((xs, more), rest) h in
      let two = bind_ok (colon_at end (after_space one.0.1)) _ ((xs, more), rest) one.2 in
      let three = bind_ok (read end two.0) _ ((xs, more), rest) two.2 in
      let four = bind_ok (more_at 125 end (after_space three.0.1)) _ ((xs, more), rest) three.2 in
      let n = name_found end done bs one.0.0 one.0.1 one.1 in
      let before = space_found one.0.1 in
      let c = colon_found end (after_space one.0.1) two.0 two.1 in
      let v = reads two.0 three.0.0 three.0.1 three.1 in
      let w = space_found three.0.1 in
      let m = more_found 125 end (after_space three.0.1) four.0.1 four.0.0 four.1 in
      let made = taken_is ((one.0.0, three.0.0) ∷ [], four.0.0) (xs, more) four.0.1 rest four.2 in
      let alone = ap (λ (q : List (List ℕ × Tree) × Truth). q.0) made.0 in
      let same = ap (λ (q : List (List ℕ × Tree) × Truth). q.1) made.0 in
      let after = made.1 in
      let here = n.2 ∙ ap (λ (l : List ℕ). n.0 ++ l) (before.2 ∙ ap (λ (l : List ℕ). before.0 ++ l) (c.2 ∙ ap (λ (l : List ℕ). 58 ∷ (c.0 ++ l)) (v.2 ∙ ap (λ (l : List ℕ). v.0 ++ l) w.2))) in
      let regroup : n.0 ++ (before.0 ++ (58 ∷ (c.0 ++ (v.0 ++ (w.0 ++ after_space three.0.1))))) ≡ (n.0 ++ (before.0 ++ (58 ∷ (c.0 ++ v.0)))) ++ (w.0 ++ after_space three.0.1) = simp append_assoc in
      record {
        thing = (one.0.0, three.0.0);
        value = n.0 ++ (before.0 ++ (58 ∷ (c.0 ++ v.0)));
        after = w.0;
        tail = after_space three.0.1;
        alone = sym alone;
        spelled = (n.0, before.0, c.0, v.0, n.1, before.1, c.1, v.1, refl);
        space = w.1;
        kept = distinct_push done one.0.0 three.0.0 (has_not one.0.0 done n.3).absent d;
        here = here ∙ regroup;
        next = next_is 125 four.0.0 more (after_space three.0.1) four.0.1 rest same after m;
      }

-- ---- values

module _ (end : ℕ) (array : ℕ → List ℕ → Taken (List Tree)) (object : ℕ → List ℕ → Taken (List (List ℕ × Tree))) (A : List ℕ → List Tree → Type 0) (O : List ℕ → List (List ℕ × Tree) → Type 0)
    (arrays : (bs : List ℕ) (ts : List Tree) (rest : List ℕ) → array end bs ≡ Ok (ts, rest) → (c : List ℕ) × A (91 ∷ c) ts × (bs ≡ c ++ rest))
    (objects : (bs : List ℕ) (es : List (List ℕ × Tree)) (rest : List ℕ) → object end bs ≡ Ok (es, rest) → (c : List ℕ) × O (123 ∷ c) es × (bs ≡ c ++ rest)) where
  abbrev ValueThen : List ℕ → Tree → List ℕ → Type 0
  ValueThen bs t rest = (v : List ℕ) × IsOne A O v (out-Tree t) × (bs ≡ v ++ rest)

  made : (b : ℕ) (bs v : List ℕ) (u t : Tree) (x : Tree-F Tree) (r rest : List ℕ) → out-Tree u ≡ x → IsOne A O v x → b ∷ bs ≡ v ++ r → ◌≡◌ {A = Taken Tree} (Ok (u, r)) (Ok (t, rest)) → ValueThen (b ∷ bs) t rest
  made b bs v u t x r rest o h e last =
      let same = taken_is u t r rest last in
      let is = same.0 in
      let after = same.1 in
      (v, subst (λ (w : Tree). IsOne A O v (out-Tree w)) is (subst (IsOne A O v) (sym o) h), e ∙ ap (λ (l : List ℕ). v ++ l) after)

  first_is : (b n : ℕ) (bs ds : List ℕ) → eqb b n ≡ true → bs ≡ ds → b ∷ bs ≡ n ∷ ds
  first_is b n bs ds e f = let p : b ≡ n = eqb-true b n e in λ i. p i ∷ f i

  value_found : (bs : List ℕ) (t : Tree) (rest : List ℕ) → value_with array object end bs ≡ Ok (t, rest) → ValueThen bs t rest
  unfolding value_with
  value_found [] t rest h = absurd cc
  value_found (b ∷ bs) t rest h =
      elim (cases_Bool (eqb b 91)) [
        | inl e ↦
            let k : (array end bs >>= λ x. Ok (trees.Items x.0, x.1)) ≡ Ok (t, rest) = rw e at h in
            let one = bind_ok (array end bs) (λ x. Ok (trees.Items x.0, x.1)) (t, rest) k in
            let c = arrays bs one.0.0 one.0.1 one.1 in
            made b bs (91 ∷ c.0) (trees.Items one.0.0) t (Tree-F.Items one.0.0) one.0.1 rest (trees.outs-Items one.0.0) c.1 (first_is b 91 bs (c.0 ++ one.0.1) e c.2) one.2
        | inr na ↦
            elim (cases_Bool (eqb b 123)) [
              | inl e ↦
                  let k : (object end bs >>= λ x. Ok (trees.Object x.0, x.1)) ≡ Ok (t, rest) = rw (na, e) at h in
                  let one = bind_ok (object end bs) (λ x. Ok (trees.Object x.0, x.1)) (t, rest) k in
                  let c = objects bs one.0.0 one.0.1 one.1 in
                  made b bs (123 ∷ c.0) (trees.Object one.0.0) t (Tree-F.Object one.0.0) one.0.1 rest (trees.outs-Object one.0.0) c.1 (first_is b 123 bs (c.0 ++ one.0.1) e c.2) one.2
              | inr nb ↦
                  elim (cases_Bool (eqb b 34)) [
                    | inl e ↦
                        let k : (string_at end bs >>= λ x. Ok (trees.Str x.0, x.1)) ≡ Ok (t, rest) = rw (na, nb, e) at h in
                        let one = bind_ok (string_at end bs) (λ x. Ok (trees.Str x.0, x.1)) (t, rest) k in
                        let s = string_found end bs one.0.0 one.0.1 one.1 in
                        made b bs (34 ∷ (s.0 ++ 34 ∷ [])) (trees.Str one.0.0) t (Tree-F.Str one.0.0) one.0.1 rest (trees.outs-Str one.0.0) (s.0, s.1, s.2, refl) (first_is b 34 bs ((s.0 ++ 34 ∷ []) ++ one.0.1) e (s.3 ∙ sym (append_assoc s.0 (34 ∷ []) one.0.1))) one.2
                    | inr ns ↦
                        elim (cases_Bool (eqb b 110)) [
                          | inl e ↦
                              let k : (word_at (117 ∷ 108 ∷ 108 ∷ []) (place end (b ∷ bs)) end bs >>= λ r. Ok (trees.Null, r)) ≡ Ok (t, rest) = rw (na, nb, ns, e) at h in
                              let one = bind_ok (word_at (117 ∷ 108 ∷ 108 ∷ []) (place end (b ∷ bs)) end bs) (λ r. Ok (trees.Null, r)) (t, rest) k in
                              let w = word_found (place end (b ∷ bs)) end (117 ∷ 108 ∷ 108 ∷ []) bs one.0 one.1 in
                              made b bs (110 ∷ 117 ∷ 108 ∷ 108 ∷ []) trees.Null t Tree-F.Null one.0 rest trees.outs-Null refl (first_is b 110 bs (117 ∷ 108 ∷ 108 ∷ one.0) e w) one.2
                          | inr nn ↦
                              elim (cases_Bool (eqb b 116)) [
                                | inl e ↦
                                    let k : (word_at (114 ∷ 117 ∷ 101 ∷ []) (place end (b ∷ bs)) end bs >>= λ r. Ok (trees.Bool true, r)) ≡ Ok (t, rest) = rw (na, nb, ns, nn, e) at h in
                                    let one = bind_ok (word_at (114 ∷ 117 ∷ 101 ∷ []) (place end (b ∷ bs)) end bs) (λ r. Ok (trees.Bool true, r)) (t, rest) k in
                                    let w = word_found (place end (b ∷ bs)) end (114 ∷ 117 ∷ 101 ∷ []) bs one.0 one.1 in
                                    made b bs (116 ∷ 114 ∷ 117 ∷ 101 ∷ []) (trees.Bool true) t (Tree-F.Bool true) one.0 rest (trees.outs-Bool true) refl (first_is b 116 bs (114 ∷ 117 ∷ 101 ∷ one.0) e w) one.2
                                | inr nt ↦
                                    elim (cases_Bool (eqb b 102)) [
                                      | inl e ↦
                                          let k : (word_at (97 ∷ 108 ∷ 115 ∷ 101 ∷ []) (place end (b ∷ bs)) end bs >>= λ r. Ok (trees.Bool false, r)) ≡ Ok (t, rest) = rw (na, nb, ns, nn, nt, e) at h in
                                          let one = bind_ok (word_at (97 ∷ 108 ∷ 115 ∷ 101 ∷ []) (place end (b ∷ bs)) end bs) (λ r. Ok (trees.Bool false, r)) (t, rest) k in
                                          let w = word_found (place end (b ∷ bs)) end (97 ∷ 108 ∷ 115 ∷ 101 ∷ []) bs one.0 one.1 in
                                          made b bs (102 ∷ 97 ∷ 108 ∷ 115 ∷ 101 ∷ []) (trees.Bool false) t (Tree-F.Bool false) one.0 rest (trees.outs-Bool false) refl (first_is b 102 bs (97 ∷ 108 ∷ 115 ∷ 101 ∷ one.0) e w) one.2
                                      | inr nf ↦
                                          let k : (number_at (place end (b ∷ bs)) end (b ∷ bs) >>= λ x. Ok (trees.Number x.0, x.1)) ≡ Ok (t, rest) = rw (na, nb, ns, nn, nt, nf) at h in
                                          let one = bind_ok (number_at (place end (b ∷ bs)) end (b ∷ bs)) (λ x. Ok (trees.Number x.0, x.1)) (t, rest) k in
                                          let n = number_found (place end (b ∷ bs)) end (b ∷ bs) one.0.0 one.0.1 one.1 in
                                          made b bs one.0.0 (trees.Number one.0.0) t (Tree-F.Number one.0.0) one.0.1 rest (trees.outs-Number one.0.0) (n.0, refl) n.1 one.2
                                    ]
                              ]
                        ]
                  ]
            ]
      ]

mutual
  unfolding IsArray array_at

  array_found : (levels end : ℕ) (bs : List ℕ) (ts : List Tree) (rest : List ℕ) → array_at levels end bs ≡ Ok (ts, rest) → (c : List ℕ) × IsArray levels (91 ∷ c) ts × (bs ≡ c ++ rest)
  array_found zero end bs ts rest h = absurd cc
  array_found (suc n) end bs ts rest h =
      let V = λ (c : List ℕ) (t : Tree). IsOne (IsArray n) (IsObject n) c (out-Tree t) in
      let reads = value_found end (array_at n) (object_at n) (IsArray n) (IsObject n) (array_found n end) (object_found n end) in
      let r = list_found 93 end (item_at (value_at n) end) V (λ us. Unit {0}) (item_found end (value_at n) V reads) bs ts rest tt h in
      (r.0 ++ 93 ∷ [], (r.0, r.1, refl), r.3 ∙ sym (append_assoc r.0 (93 ∷ []) rest))

  object_found : (levels end : ℕ) (bs : List ℕ) (es : List (List ℕ × Tree)) (rest : List ℕ) → object_at levels end bs ≡ Ok (es, rest) → (c : List ℕ) × IsObject levels (123 ∷ c) es × (bs ≡ c ++ rest)
  object_found zero end bs es rest h = absurd cc
  object_found (suc n) end bs es rest h =
      let V = λ (c : List ℕ) (t : Tree). IsOne (IsArray n) (IsObject n) c (out-Tree t) in
      let reads = value_found end (array_at n) (object_at n) (IsArray n) (IsObject n) (array_found n end) (object_found n end) in
      let r = list_found 125 end (member_at (value_at n) end) (IsMember V) (λ fs. AreDistinct (names_of fs)) (member_found end (value_at n) V reads) bs es rest tt h in
      (r.0 ++ 125 ∷ [], (r.0, r.1, r.2, refl), r.3 ∙ sym (append_assoc r.0 (125 ∷ []) rest))

-- ---- whole texts

end_found : (end : ℕ) (u t : Tree) (bs : List ℕ) → ended end u bs ≡ Ok t → (u ≡ t) × (bs ≡ [])
end_found end u t [] h = (cc, refl)
end_found end u t (b ∷ bs) h = absurd cc

pub json_found : ReadIsJson
unfolding Json tree_of_text
json_found text t h =
    let end = length text in
    let one = bind_ok (value_at 256 end (after_space text)) (λ x. ended end x.0 (after_space x.1)) t h in
    let before = space_found text in
    let v = value_found end (array_at 256) (object_at 256) (IsArray 256) (IsObject 256) (array_found 256 end) (object_found 256 end) (after_space text) one.0.0 one.0.1 one.1 in
    let after = space_found one.0.1 in
    let last = end_found end one.0.0 t (after_space one.0.1) one.2 in
    let rest : one.0.1 ≡ after.0 = after.2 ∙ ap (λ (l : List ℕ). after.0 ++ l) last.1 ∙ append-nil after.0 in
    (before.0, v.0, after.0, before.1, subst (λ (u : Tree). IsOne (IsArray 256) (IsObject 256) v.0 (out-Tree u)) last.0 v.1, after.1, before.2 ∙ ap (λ (l : List ℕ). before.0 ++ l) (v.2 ∙ ap (λ (l : List ℕ). v.0 ++ l) rest))
