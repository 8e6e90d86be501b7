-- One element more.
use Rattle.std.proofs.Common.{◌≡◌, ℕ, ◌+◌, ◌<◌, ◌^◌, List, [], ◌∷◌, ◌++◌, length, map, refl, sym, ap, subst, ◌∙◌, append_assoc, arith}
use Rattle.std.specs.Prelude.{◌↔◌, Contains, IsTrue, true, false}
use Rattle.std.specs.Fmt.{decimal}
use Rattle.std.proofs.lemmas.List.{length-append, append_cancel_left}
use Rattle.bson_value.specs.Spelling.{element, elements_of, numbered, spelled, spelling, tag_of}
use Rattle.bson_value.specs.WellFormed.{AreBytes}
use Rattle.bson_encode.proofs.Grammar.{tag_is, index_no_zero}
use Rattle.bson_view.specs.Meaning.{AreValue}
use Rattle.bson_view.specs.Parts.{Part, part_value, bytes_of, fields_of, values_of, AreNames}
use Rattle.bson_spelling.specs.Spelled.{IsSpelled, AreSpelledFields, AreSpelledItems}
use Rattle.bson_spelling.proofs.Fronts.{value_front, names_end}

tail_of : List ℕ → List ℕ
tail_of [] = []
tail_of (x ∷ xs) = xs

-- a name and its zero, the bytes of a value, and the other bytes
name_first : (name value others : List ℕ) → ((name ++ 0 ∷ []) ++ value) ++ others ≡ name ++ 0 ∷ (value ++ others)
name_first name value others = append_assoc (name ++ 0 ∷ []) value others ∙ append_assoc name (0 ∷ []) (value ++ others)

module _ (p : Part) (ps : List Part) (v : AreValue p.tag p.value (part_value p)) (h : AreBytes p.value) (small : length (bytes_of (p ∷ ps)) < 2 ^ 31) where
  abbrev it : List ℕ
  it = spelled (part_value p)

  size : length (bytes_of (p ∷ ps)) ≡ length (p.value ++ bytes_of ps) + length p.name + 2
  size = omega (arith, ap length (name_first p.name p.value (bytes_of ps)), length-append p.name (0 ∷ (p.value ++ bytes_of ps)))

  pub fewer : length (bytes_of ps) < 2 ^ 31
  fewer = omega (arith, small, size, length-append p.value (bytes_of ps))

  -- behind the type
  behind : (name more : List ℕ) → bytes_of (p ∷ ps) ≡ element (name, spelling (part_value p)) ++ more → p.name ++ 0 ∷ (p.value ++ bytes_of ps) ≡ name ++ 0 ∷ (it ++ more)
  unfolding tail_of
  behind name more e = sym (name_first p.name p.value (bytes_of ps)) ∙ ap tail_of e ∙ append_assoc name (0 ∷ it) more

  value_here : (more : List ℕ) → p.value ++ bytes_of ps ≡ it ++ more → p.value ≡ it
  value_here more e = value_front p.tag p.value (bytes_of ps) more (part_value p) v h (omega (arith, small, size)) e

  others_here : (more : List ℕ) → p.value ++ bytes_of ps ≡ it ++ more → bytes_of ps ≡ more
  others_here more e = append_cancel_left p.value (bytes_of ps) more (e ∙ ap (λ z. z ++ more) (sym (value_here more e)))

  joined : (name more : List ℕ) → p.name ≡ name → p.value ≡ it → bytes_of ps ≡ more → bytes_of (p ∷ ps) ≡ element (name, spelling (part_value p)) ++ more
  joined name more n e f =
      ap (λ (t : ℕ). t ∷ (((p.name ++ 0 ∷ []) ++ p.value) ++ bytes_of ps)) (v.kind ∙ tag_is (part_value p))
      ∙ ap (λ (c : List ℕ). tag_of (part_value p) ∷ c) (name_first p.name p.value (bytes_of ps) ∙ ap (λ c. c ++ 0 ∷ (p.value ++ bytes_of ps)) n ∙ ap (λ c. name ++ 0 ∷ (c ++ bytes_of ps)) e ∙ ap (λ c. name ++ 0 ∷ (it ++ c)) f ∙ sym (append_assoc name (0 ∷ it) more))

  abbrev field_rest : List ℕ
  field_rest = elements_of (fields_of ps)

  pub field_from : (n : ℕ) → AreSpelledFields n (p ∷ ps) → IsSpelled n p × AreSpelledFields n ps
  field_from n a =
      let e = append_cancel_left (p.name ++ 0 ∷ []) (p.value ++ bytes_of ps) (it ++ field_rest) (append_assoc p.name (0 ∷ []) (p.value ++ bytes_of ps) ∙ behind p.name field_rest a.0 ∙ sym (append_assoc p.name (0 ∷ []) (it ++ field_rest))) in
      ((value_here field_rest e, omega (arith, a.1)), (others_here field_rest e, omega (arith, a.1)))

  pub field_to : (n : ℕ) → IsSpelled n p → AreSpelledFields n ps → AreSpelledFields n (p ∷ ps)
  field_to n o a = (joined p.name field_rest refl o.0 a.0, omega (arith, o.1, a.1))

  module _ (i : ℕ) (lt : i < 2 ^ 64) (name : Contains p.name 0 → ⊥) where
    abbrev item_rest : List ℕ
    item_rest = numbered (i + 1) (map spelling (values_of ps))

    pub item_from : (n : ℕ) → AreSpelledItems n i (p ∷ ps) → (p.name ≡ decimal i) × (IsSpelled n p × AreSpelledItems n (i + 1) ps)
    item_from n a =
        let k = names_end p.name (decimal i) (p.value ++ bytes_of ps) (it ++ item_rest) name (index_no_zero i lt) (behind (decimal i) item_rest a.0) in
        (k.name, ((value_here item_rest k.rest, omega (arith, a.1)), (others_here item_rest k.rest, omega (arith, a.1))))

    pub item_to : (n : ℕ) → p.name ≡ decimal i → IsSpelled n p → AreSpelledItems n (i + 1) ps → AreSpelledItems n i (p ∷ ps)
    item_to n e o a = (joined (decimal i) item_rest e o.0 a.0, omega (arith, o.1, a.1))

-- ---- what a loop knows of all elements, by those that are left

module _ (n : ℕ) (all left : List Part) (p : Part) (ps : List Part) (e : left ≡ p ∷ ps) (v : AreValue p.tag p.value (part_value p)) (h : AreBytes p.value) where
  module _ (same : AreSpelledFields n all ↔ AreSpelledFields n left) (small : length (bytes_of left) < 2 ^ 31) where
    fit : length (bytes_of (p ∷ ps)) < 2 ^ 31
    fit = omega (arith, small, ap (λ qs. length (bytes_of qs)) e)

    pub fields_no : (IsSpelled n p → ⊥) → IsTrue false ↔ AreSpelledFields n all
    fields_no bad = (λ t. absurd cc, λ a. absurd (bad (field_from p ps v h fit n (subst (AreSpelledFields n) e (same.0 a))).0))

    pub fields_on : IsSpelled n p → AreSpelledFields n all ↔ AreSpelledFields n ps
    fields_on o = (λ a. (field_from p ps v h fit n (subst (AreSpelledFields n) e (same.0 a))).1, λ a. same.1 (subst (AreSpelledFields n) (sym e) (field_to p ps v h fit n o a)))

    pub fields_short : length (bytes_of ps) < 2 ^ 31
    fields_short = fewer p ps v h fit

  module _ (i : ℕ) (same : AreSpelledItems n 0 all ↔ AreSpelledItems n i left) (small : i + length (bytes_of left) < 2 ^ 31) (names : AreNames left) where
    fits : length (bytes_of (p ∷ ps)) < 2 ^ 31
    fits = omega (arith, small, ap (λ qs. length (bytes_of qs)) e)

    index : i < 2 ^ 64
    index = omega (arith, small)

    named : AreNames (p ∷ ps)
    named = subst AreNames e names

    inside : AreSpelledItems n 0 all → (p.name ≡ decimal i) × (IsSpelled n p × AreSpelledItems n (i + 1) ps)
    inside a = item_from p ps v h fits i index named.0 n (subst (AreSpelledItems n i) e (same.0 a))

    pub items_unnamed : (p.name ≡ decimal i → ⊥) → IsTrue false ↔ AreSpelledItems n 0 all
    items_unnamed bad = (λ t. absurd cc, λ a. absurd (bad (inside a).0))

    pub items_no : (IsSpelled n p → ⊥) → IsTrue false ↔ AreSpelledItems n 0 all
    items_no bad = (λ t. absurd cc, λ a. absurd (bad (inside a).1.0))

    pub items_on : p.name ≡ decimal i → IsSpelled n p → AreSpelledItems n 0 all ↔ AreSpelledItems n (i + 1) ps
    items_on is o = (λ a. (inside a).1.1, λ a. same.1 (subst (AreSpelledItems n i) (sym e) (item_to p ps v h fits i index named.0 n is o a)))

    pub items_short : i + 1 + length (bytes_of ps) < 2 ^ 31
    items_short = omega (arith, small, size p ps v h fits, ap (λ qs. length (bytes_of qs)) e, length-append p.value (bytes_of ps))

    pub items_names : AreNames ps
    items_names = named.1

pub fields_done : (n : ℕ) (all left : List Part) → AreSpelledFields n all ↔ AreSpelledFields n left → left ≡ [] → IsTrue true ↔ AreSpelledFields n all
fields_done n all left same e = (λ t. same.1 (subst (AreSpelledFields n) (sym e) (refl, omega arith)), λ a. refl)

pub items_done : (n i : ℕ) (all left : List Part) → AreSpelledItems n 0 all ↔ AreSpelledItems n i left → left ≡ [] → IsTrue true ↔ AreSpelledItems n 0 all
items_done n i all left same e = (λ t. same.1 (subst (AreSpelledItems n i) (sym e) (refl, omega arith)), λ a. refl)
