-- Values of the grammar are read.
use Rattle.std.proofs.Common.{◌≡◌, ◌≢◌, ◌⊎◌, ℕ, zero, suc, ◌+◌, ◌<◌, ◌≤◌, Bool as Truth, true, false, ◌||◌, eqb, List, [], ◌∷◌, ◌++◌, length, None, Ok, refl, sym, ap, ◌∙◌, subst, inl, inr, append_assoc, arith}
use Rattle.std.specs.List.{list_all, position_from}
use Rattle.std.specs.Str.{bytes_eq}
use Rattle.std.proofs.lemmas.Bool.{and_parts, eq-eqb, ne_eqb, eqb-true}
use Rattle.std.proofs.lemmas.List.{append-nil, length-append}
use Rattle.std.proofs.lemmas.Slice.Eq.{bytes_eq-Decides}
use Rattle.containers.specs.Entries.{IsAbsent, AreDistinct, names_of}
use Rattle.json_tree.specs.declared.tree.Tree.{Tree, Tree-F, out-Tree, roll-Tree, roll-out-Tree}
use Rattle.json_tree.specs.declared.tree.Tree.TheVariants as trees
use Rattle.json_tree.specs.Numbers.{is_digit}
use Rattle.json_text.specs.Reading.{◌>>=◌, Taken, place, is_space, after_space, steps_at, word_at, number_at, Reader, more_at, item_at, name_at, colon_at, member_at, closing, list_at, value_with, array_at, object_at, value_at, tree_of_text}
use Rattle.json_text.specs.Grammar.{IsSpace, AreMore, AreListed, IsMember, IsOne, IsArray, IsObject, Json, JsonIsRead}
use Rattle.json_text.proofs.Numerals.{NoSpace, spaced, Stops, number_read, number_first}
use Rattle.json_text.proofs.Strings.{string_read}

-- the first byte is neither white space nor an end
abbrev Begins : List ℕ → Type 0
Begins [] = ⊥
Begins (b ∷ bs) = (is_space b ≡ false) × (b ≢ 93) × (b ≢ 125)

begun : (v bs : List ℕ) → Begins v → NoSpace (v ++ bs)
begun [] bs h = absurd h
begun (b ∷ v) bs h = h.0

not_closed : (close : ℕ) (v bs : List ℕ) → (close ≡ 93) ⊎ (close ≡ 125) → Begins v → closing close (v ++ bs) ≡ None
unfolding closing
not_closed close [] bs c h = absurd h
not_closed close (b ∷ v) bs (inl e) h = rw (e, ne_eqb b 93 h.1) refl
not_closed close (b ∷ v) bs (inr e) h = rw (e, ne_eqb b 125 h.2) refl

abbrev MayFollow : ℕ → Type 0
MayFollow b = (is_digit b ≡ false) × (b ≢ 46) × (b ≢ 101) × (b ≢ 69)

may_follow : (b n : ℕ) → b ≡ n → MayFollow n → MayFollow b
may_follow b n e h = subst MayFollow (sym e) h

space_case : (b : ℕ) (x y z w : Truth) → eqb b 32 ≡ x → eqb b 9 ≡ y → eqb b 10 ≡ z → eqb b 13 ≡ w → (((x || y) || z) || w) ≡ true → MayFollow b
space_case b true y z w hx hy hz hw h = may_follow b 32 (eqb-true b 32 hx) (refl, (λ p. omega (arith, p)), (λ p. omega (arith, p)), λ p. omega (arith, p))
space_case b false true z w hx hy hz hw h = may_follow b 9 (eqb-true b 9 hy) (refl, (λ p. omega (arith, p)), (λ p. omega (arith, p)), λ p. omega (arith, p))
space_case b false false true w hx hy hz hw h = may_follow b 10 (eqb-true b 10 hz) (refl, (λ p. omega (arith, p)), (λ p. omega (arith, p)), λ p. omega (arith, p))
space_case b false false false true hx hy hz hw h = may_follow b 13 (eqb-true b 13 hw) (refl, (λ p. omega (arith, p)), (λ p. omega (arith, p)), λ p. omega (arith, p))
space_case b false false false false hx hy hz hw h = absurd cc

space_stops : (b : ℕ) → is_space b ≡ true → MayFollow b
space_stops b h = space_case b (eqb b 32) (eqb b 9) (eqb b 10) (eqb b 13) refl refl refl refl h

-- what follows an item or a member
tail_stops : (close : ℕ) (after others rest : List ℕ) → (close ≡ 93) ⊎ (close ≡ 125) → IsSpace after → (others ≡ []) ⊎ ((c : List ℕ) × (others ≡ 44 ∷ c)) → Stops (after ++ (others ++ close ∷ rest))
tail_stops close (b ∷ after) others rest c h o = space_stops b (and_parts (is_space b) (list_all is_space after) h).0
tail_stops close [] others rest (inl e) h (inl o) = rw (o, e) (refl, (λ p. omega (arith, p)), (λ p. omega (arith, p)), λ p. omega (arith, p))
tail_stops close [] others rest (inr e) h (inl o) = rw (o, e) (refl, (λ p. omega (arith, p)), (λ p. omega (arith, p)), λ p. omega (arith, p))
tail_stops close [] others rest c h (inr (d, o)) = rw o (refl, (λ p. omega (arith, p)), (λ p. omega (arith, p)), λ p. omega (arith, p))

more_comma : (close end : ℕ) (bs : List ℕ) → more_at close end (44 ∷ bs) ≡ Ok (true, after_space bs)
unfolding more_at
more_comma close end bs = refl

more_close : (close end : ℕ) (bs : List ℕ) → (close ≡ 93) ⊎ (close ≡ 125) → more_at close end (close ∷ bs) ≡ Ok (false, bs)
unfolding more_at
more_close close end bs (inl e) = rw e refl
more_close close end bs (inr e) = rw e refl

no_space_close : (close : ℕ) (bs : List ℕ) → (close ≡ 93) ⊎ (close ≡ 125) → NoSpace (close ∷ bs)
no_space_close close bs (inl e) = rw e refl
no_space_close close bs (inr e) = rw e refl

-- ---- one thing after the other

module _ {A : Type 0} (close end : ℕ) (is_close : (close ≡ 93) ⊎ (close ≡ 125)) (step : List A → List ℕ → Taken (List A × Truth)) (V : List ℕ → A → Type 0) (D : List A → Type 0)
    (begins : (v : List ℕ) (x : A) → V v x → Begins v)
    (step_is : (done xs : List A) (x : A) (v tail next : List ℕ) (more : Truth) → V v x → D (done ++ x ∷ xs) → Stops tail → more_at close end (after_space tail) ≡ Ok (more, next) → step done (v ++ tail) ≡ Ok ((x ∷ [], more), next)) where
  shape : (xs : List A) (others : List ℕ) → AreMore V others xs → (others ≡ []) ⊎ ((c : List ℕ) × (others ≡ 44 ∷ c))
  shape [] others h = inl h
  shape (x ∷ xs) others h = inr (_, h.8)

  more_read : (xs : List A) (x : A) (done : List A) (turns : ℕ) (v after others rest : List ℕ) → V v x → IsSpace after → AreMore V others xs → D (done ++ x ∷ xs) → length xs < turns
      → steps_at step turns end done (v ++ (after ++ (others ++ close ∷ rest))) ≡ Ok (done ++ x ∷ xs, rest)
  unfolding steps_at
  more_read xs x done zero v after others rest hv sp m d lt = absurd (omega arith)
  more_read [] x done (suc n) v after others rest hv sp m d lt =
      let next : more_at close end (after_space (after ++ (others ++ close ∷ rest))) ≡ Ok (false, rest) = rw (m, spaced after (close ∷ rest) sp (no_space_close close rest is_close)) (more_close close end rest is_close) in
      rw (step_is done [] x v (after ++ (others ++ close ∷ rest)) rest false hv d (tail_stops close after others rest is_close sp (inl m)) next) refl
  more_read (y ∷ ys) x done (suc n) v after others rest hv sp (before, value, after', others', sb, hy, sa, m, e) d lt =
      let tail = value ++ (after' ++ (others' ++ close ∷ rest)) in
      let regroup : (before ++ (value ++ (after' ++ others'))) ++ close ∷ rest ≡ before ++ tail = simp append_assoc in
      let said : others ++ close ∷ rest ≡ 44 ∷ (before ++ tail) = ap (λ (l : List ℕ). l ++ close ∷ rest) e ∙ ap (λ (l : List ℕ). 44 ∷ l) regroup in
      let spaces : after_space (before ++ tail) ≡ tail = spaced before tail sb (begun value (after' ++ (others' ++ close ∷ rest)) (begins value y hy)) in
      let next : more_at close end (after_space (after ++ (others ++ close ∷ rest))) ≡ Ok (true, tail) = rw (said, spaced after (44 ∷ (before ++ tail)) sp refl, more_comma close end (before ++ tail), spaces) refl in
      let whole : (done ++ x ∷ []) ++ y ∷ ys ≡ done ++ x ∷ y ∷ ys = append_assoc done (x ∷ []) (y ∷ ys) in
      rw (step_is done (y ∷ ys) x v (after ++ (others ++ close ∷ rest)) tail true hv d (tail_stops close after others rest is_close sp (inr (_, e))) next)
      (more_read ys y (done ++ x ∷ []) n value after' others' rest hy sa m (subst D (sym whole) d) (omega arith) ∙ ap (λ (l : List A). Ok (l, rest)) whole)

  more_length : (xs : List A) (others : List ℕ) → AreMore V others xs → length xs ≤ length others
  more_length [] others h = omega arith
  more_length (x ∷ xs) others (before, value, after, others', sb, hx, sa, m, e) =
      let rest = more_length xs others' m in
      omega (arith, ap length e, length-append before (value ++ (after ++ others')), length-append value (after ++ others'), length-append after others', rest)

  -- the list behind its opening bracket
  pub list_read : (xs : List A) (inner rest : List ℕ) → AreListed V inner xs → D xs → list_at close step end (after_space (inner ++ close ∷ rest)) ≡ Ok (xs, rest)
  unfolding list_at closing
  list_read [] inner rest h d = rw (spaced inner (close ∷ rest) h (no_space_close close rest is_close), eq-eqb close close refl) refl
  list_read (x ∷ xs) inner rest (before, value, after, others, sb, hx, sa, m, e) d =
      let tail = value ++ (after ++ (others ++ close ∷ rest)) in
      let regroup : (before ++ (value ++ (after ++ others))) ++ close ∷ rest ≡ before ++ tail = simp append_assoc in
      let said : inner ++ close ∷ rest ≡ before ++ tail = ap (λ (l : List ℕ). l ++ close ∷ rest) e ∙ regroup in
      let spaces : after_space (before ++ tail) ≡ tail = spaced before tail sb (begun value (after ++ (others ++ close ∷ rest)) (begins value x hx)) in
      let room : length xs < suc (length tail) = omega (arith, more_length xs others m, length-append value (after ++ (others ++ close ∷ rest)), length-append after (others ++ close ∷ rest), length-append others (close ∷ rest)) in
      rw (said, spaces, not_closed close value (after ++ (others ++ close ∷ rest)) is_close (begins value x hx)) (more_read xs x [] (suc (length tail)) value after others rest hx sa m d room)

not_space : (b : ℕ) → 45 ≤ b → b ≤ 57 → is_space b ≡ false
not_space b low high = rw (ne_eqb b 32 (λ e. omega (arith, e)), ne_eqb b 9 (λ e. omega (arith, e)), ne_eqb b 10 (λ e. omega (arith, e)), ne_eqb b 13 (λ e. omega (arith, e))) refl

-- ---- names

-- the name of the one behind them is none of theirs
other_name : {A : Type 0} (m : List ℕ) (done xs : List (List ℕ × A)) (x : List ℕ × A) → IsAbsent m (names_of (done ++ x ∷ xs)) → m ≡ x.0 → ⊥
other_name m [] xs x h = h.0
other_name m (e ∷ done) xs x h = other_name m done xs x h.1

unmet : (m n : List ℕ) (b : Truth) → bytes_eq m n ≡ b → (m ≡ n → ⊥) → bytes_eq m n ≡ false
unmet m n true e h = absurd (h ((bytes_eq-Decides m n).0 e))
unmet m n false e h = e

new_name : {A : Type 0} (done xs : List (List ℕ × A)) (x : List ℕ × A) (k : ℕ) → AreDistinct (names_of (done ++ x ∷ xs)) → position_from (λ (e : List ℕ × A). bytes_eq e.0 x.0) k done ≡ None
new_name [] xs x k d = refl
new_name (e ∷ done) xs x k d = rw (unmet e.0 x.0 (bytes_eq e.0 x.0) refl (other_name e.0 done xs x d.0)) (new_name done xs x (k + 1) d.1)

-- ---- values

abbrev Read : ℕ → Reader → (List ℕ → Tree → Type 0) → Type 0
Read end read V = (v : List ℕ) (t : Tree) (bs : List ℕ) → V v t → Stops bs → read end (v ++ bs) ≡ Ok (t, bs)

module _ (end : ℕ) (read : Reader) (V : List ℕ → Tree → Type 0) (reads : Read end read V) (begins : (v : List ℕ) (t : Tree) → V v t → Begins v) where
  item_is : (done ts : List Tree) (t : Tree) (v tail next : List ℕ) (more : Truth) → V v t → Unit {0} → Stops tail → more_at 93 end (after_space tail) ≡ Ok (more, next) → item_at read end done (v ++ tail) ≡ Ok ((t ∷ [], more), next)
  unfolding item_at
  item_is done ts t v tail next more h d s m = rw (reads v t tail h s, m) refl

  member_is : (done es : List (List ℕ × Tree)) (e : List ℕ × Tree) (b tail next : List ℕ) (more : Truth) → IsMember V b e → AreDistinct (names_of (done ++ e ∷ es)) → Stops tail → more_at 125 end (after_space tail) ≡ Ok (more, next)
      → member_at read end done (b ++ tail) ≡ Ok ((e ∷ [], more), next)
  unfolding member_at name_at colon_at
  member_is done es e b tail next more (name, before, after, value, (chars, hc, utf8, hn), sb, sa, hv, is) d s m =
      let behind = value ++ tail in
      let colon = 58 ∷ (after ++ behind) in
      let regroup : ((34 ∷ (chars ++ 34 ∷ [])) ++ (before ++ (58 ∷ (after ++ value)))) ++ tail ≡ 34 ∷ (chars ++ 34 ∷ (before ++ colon)) = simp append_assoc in
      let said : b ++ tail ≡ 34 ∷ (chars ++ 34 ∷ (before ++ colon)) = ap (λ (l : List ℕ). l ++ tail) (is ∙ ap (λ (l : List ℕ). l ++ (before ++ (58 ∷ (after ++ value)))) hn) ∙ regroup in
      rw (said, string_read end chars e.0 (before ++ colon) hc utf8, new_name done es e 0 d, spaced before colon sb refl, spaced after behind sa (begun value tail (begins value e.1 hv)), reads value e.1 tail hv s, m) refl

  member_begins : (b : List ℕ) (e : List ℕ × Tree) → IsMember V b e → Begins b
  member_begins b e (name, before, after, value, (chars, hc, utf8, hn), sb, sa, hv, is) = rw (is, hn) (refl, (λ p. omega (arith, p)), λ p. omega (arith, p))

module _ (end : ℕ) (array : ℕ → List ℕ → Taken (List Tree)) (object : ℕ → List ℕ → Taken (List (List ℕ × Tree))) (A : List ℕ → List Tree → Type 0) (O : List ℕ → List (List ℕ × Tree) → Type 0)
    (arrays : (b : List ℕ) (ts : List Tree) (bs : List ℕ) → A b ts → (c : List ℕ) × (b ≡ 91 ∷ c) × (array end (c ++ bs) ≡ Ok (ts, bs)))
    (objects : (b : List ℕ) (es : List (List ℕ × Tree)) (bs : List ℕ) → O b es → (c : List ℕ) × (b ≡ 123 ∷ c) × (object end (c ++ bs) ≡ Ok (es, bs))) where
  number_value : (b : ℕ) (bs : List ℕ) → 45 ≤ b → b ≤ 57 → value_with array object end (b ∷ bs) ≡ (number_at (place end (b ∷ bs)) end (b ∷ bs) >>= λ x. Ok (trees.Number x.0, x.1))
  unfolding value_with
  number_value b bs low high = rw (
    ne_eqb b 91 (λ e. omega (arith, e)),
    ne_eqb b 123 (λ e. omega (arith, e)),
    ne_eqb b 34 (λ e. omega (arith, low, high, e)),
    ne_eqb b 110 (λ e. omega (arith, e)),
    ne_eqb b 116 (λ e. omega (arith, e)),
    ne_eqb b 102 (λ e. omega (arith, e)),
  ) refl

  one_read : (x : Tree-F Tree) (b bs : List ℕ) → IsOne A O b x → Stops bs → value_with array object end (b ++ bs) ≡ Ok (roll-Tree x, bs)
  unfolding value_with word_at
  one_read Tree-F.Null b bs h s = rw h (ap (λ (t : Tree). Ok (t, bs)) (sym trees.rolls-Null))
  one_read (Tree-F.Bool true) b bs h s = rw h (ap (λ (t : Tree). Ok (t, bs)) (sym (trees.rolls-Bool true)))
  one_read (Tree-F.Bool false) b bs h s = rw h (ap (λ (t : Tree). Ok (t, bs)) (sym (trees.rolls-Bool false)))
  one_read (Tree-F.Number t) b bs h s =
      let p = number_first t h.0 in
      let first : t ++ bs ≡ p.0 ∷ (p.1 ++ bs) = ap (λ (l : List ℕ). l ++ bs) p.2 in
      let read : number_at (place end (p.0 ∷ (p.1 ++ bs))) end (p.0 ∷ (p.1 ++ bs)) ≡ Ok (t, bs) = subst (λ (l : List ℕ). number_at (place end l) end l ≡ Ok (t, bs)) first (number_read (place end (t ++ bs)) end t bs h.0 s) in
      ap (λ (l : List ℕ). value_with array object end (l ++ bs)) h.1 ∙ ap (value_with array object end) first ∙ number_value p.0 (p.1 ++ bs) p.3 p.4
      ∙ rw read (ap (λ (u : Tree). Ok (u, bs)) (sym (trees.rolls-Number t)))
  one_read (Tree-F.Str t) b bs (chars, hc, utf8, e) s =
      let regroup : (chars ++ 34 ∷ []) ++ bs ≡ chars ++ 34 ∷ bs = append_assoc chars (34 ∷ []) bs in
      rw (e, regroup, string_read end chars t bs hc utf8) (ap (λ (u : Tree). Ok (u, bs)) (sym (trees.rolls-Str t)))
  one_read (Tree-F.Items ts) b bs h s = let p = arrays b ts bs h in rw (p.1, p.2) (ap (λ (u : Tree). Ok (u, bs)) (sym (trees.rolls-Items ts)))
  one_read (Tree-F.Object es) b bs h s = let p = objects b es bs h in rw (p.1, p.2) (ap (λ (u : Tree). Ok (u, bs)) (sym (trees.rolls-Object es)))

  one_begins : (x : Tree-F Tree) (b : List ℕ) → IsOne A O b x → Begins b
  one_begins Tree-F.Null b h = rw h (refl, (λ p. omega (arith, p)), λ p. omega (arith, p))
  one_begins (Tree-F.Bool true) b h = rw h (refl, (λ p. omega (arith, p)), λ p. omega (arith, p))
  one_begins (Tree-F.Bool false) b h = rw h (refl, (λ p. omega (arith, p)), λ p. omega (arith, p))
  one_begins (Tree-F.Number t) b h = let p = number_first t h.0 in rw (h.1, p.2) (not_space p.0 p.3 p.4, (λ q. omega (arith, p.4, q)), λ q. omega (arith, p.4, q))
  one_begins (Tree-F.Str t) b (chars, hc, utf8, e) = rw e (refl, (λ p. omega (arith, p)), λ p. omega (arith, p))
  one_begins (Tree-F.Items ts) b h = let p = arrays b ts [] h in rw p.1 (refl, (λ q. omega (arith, q)), λ q. omega (arith, q))
  one_begins (Tree-F.Object es) b h = let p = objects b es [] h in rw p.1 (refl, (λ q. omega (arith, q)), λ q. omega (arith, q))

  value_read : (v : List ℕ) (t : Tree) (bs : List ℕ) → IsOne A O v (out-Tree t) → Stops bs → value_with array object end (v ++ bs) ≡ Ok (t, bs)
  value_read v t bs h s = one_read (out-Tree t) v bs h s ∙ ap (λ (u : Tree). Ok (u, bs)) (roll-out-Tree t)

  value_begins : (v : List ℕ) (t : Tree) → IsOne A O v (out-Tree t) → Begins v
  value_begins v t h = one_begins (out-Tree t) v h

mutual
  unfolding IsArray array_at

  array_read : (levels end : ℕ) (b : List ℕ) (ts : List Tree) (bs : List ℕ) → IsArray levels b ts → (c : List ℕ) × (b ≡ 91 ∷ c) × (array_at levels end (c ++ bs) ≡ Ok (ts, bs))
  array_read zero end b ts bs h = absurd h
  array_read (suc n) end b ts bs (inner, listed, e) =
      let V = λ (c : List ℕ) (t : Tree). IsOne (IsArray n) (IsObject n) c (out-Tree t) in
      let reads = value_read end (array_at n) (object_at n) (IsArray n) (IsObject n) (array_read n end) (object_read n end) in
      let begins = value_begins end (array_at n) (object_at n) (IsArray n) (IsObject n) (array_read n end) (object_read n end) in
      let regroup : (inner ++ 93 ∷ []) ++ bs ≡ inner ++ 93 ∷ bs = append_assoc inner (93 ∷ []) bs in
      (inner ++ 93 ∷ [], e, rw regroup (list_read 93 end (inl refl) (item_at (value_at n) end) V (λ us. Unit {0}) begins (item_is end (value_at n) V reads begins) ts inner bs listed tt))

  object_read : (levels end : ℕ) (b : List ℕ) (es : List (List ℕ × Tree)) (bs : List ℕ) → IsObject levels b es → (c : List ℕ) × (b ≡ 123 ∷ c) × (object_at levels end (c ++ bs) ≡ Ok (es, bs))
  object_read zero end b es bs h = absurd h
  object_read (suc n) end b es bs (inner, listed, distinct, e) =
      let V = λ (c : List ℕ) (t : Tree). IsOne (IsArray n) (IsObject n) c (out-Tree t) in
      let reads = value_read end (array_at n) (object_at n) (IsArray n) (IsObject n) (array_read n end) (object_read n end) in
      let begins = value_begins end (array_at n) (object_at n) (IsArray n) (IsObject n) (array_read n end) (object_read n end) in
      let regroup : (inner ++ 125 ∷ []) ++ bs ≡ inner ++ 125 ∷ bs = append_assoc inner (125 ∷ []) bs in
      (inner ++ 125 ∷ [], e, rw regroup (list_read 125 end (inr refl) (member_at (value_at n) end) (IsMember V) (λ fs. AreDistinct (names_of fs)) (member_begins end (value_at n) V reads begins) (member_is end (value_at n) V reads begins) es inner bs listed distinct))

-- ---- whole texts

space_ends : (w : List ℕ) → IsSpace w → after_space w ≡ []
space_ends w h = ap after_space (sym (append-nil w)) ∙ spaced w [] h tt

space_follows : (w : List ℕ) → IsSpace w → Stops w
space_follows [] h = tt
space_follows (b ∷ w) h = space_stops b (and_parts (is_space b) (list_all is_space w) h).0

pub json_read : JsonIsRead
unfolding Json tree_of_text
json_read text t (before, value, after, sb, h, sa, e) =
    let end = length text in
    let reads = value_read end (array_at 256) (object_at 256) (IsArray 256) (IsObject 256) (array_read 256 end) (object_read 256 end) value t after h (space_follows after sa) in
    let begins = value_begins end (array_at 256) (object_at 256) (IsArray 256) (IsObject 256) (array_read 256 end) (object_read 256 end) value t h in
    let spaces : after_space text ≡ value ++ after = ap after_space e ∙ spaced before (value ++ after) sb (begun value after begins) in
    rw (spaces, reads, space_ends after sa) refl
