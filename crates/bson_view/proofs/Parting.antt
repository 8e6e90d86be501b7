-- The parts of bytes that are elements.
use Rattle.std.proofs.Common.{◌≡◌, ℕ, zero, suc, ◌-◌, ◌≤◌, List, [], ◌∷◌, ◌++◌, length, take, map, refl, sym, ap, subst, ◌∙◌, append_assoc, arith}
use Rattle.std.specs.Prelude.{Some, Contains, ◌==◌}
use Rattle.std.specs.List.{position_from}
use Rattle.std.proofs.lemmas.List.{take_at, length-append}
use Rattle.bson_value.specs.declared.value.Value.{Value, out-Value}
use Rattle.bson_check.specs.Passing.{upto_zero, past_zero, jump}
use Rattle.bson_check.specs.Spells.{type_byte, AreFields, AreItems}
use Rattle.bson_view.specs.Parts.{Part, part_bytes, values_of, fields_of, bytes_of, AreNames, first_part, parts_in, parts_of, SpellsValue}
use Rattle.bson_view.specs.Meaning.{value_in}
use Rattle.bson_view.proofs.Jumps.{past_name, jump_over}
use Rattle.bson_view.proofs.Meanings.{value_is}
use Rattle.bson_check.proofs.Again.{zero_at, front_of}

-- the first element, and the others
pub record First (n tag : ℕ) (bytes : List ℕ) (vs : List Value) : Type 0 where
  pub name : List ℕ
  pub value : Value
  pub spelling : List ℕ
  pub others : List ℕ
  pub more : List Value
  pub is : vs ≡ value ∷ more
  pub no_zero : Contains name 0 → ⊥
  pub spells : SpellsValue n spelling value
  pub kind : tag ≡ type_byte (out-Value value)
  pub parts : bytes ≡ (name ++ 0 ∷ []) ++ (spelling ++ others)
  pub left : AreItems (SpellsValue n) others more

pub first_of : (n tag : ℕ) (bytes : List ℕ) (vs : List Value) → AreItems (SpellsValue n) (tag ∷ bytes) vs → First n tag bytes vs
first_of n tag bytes [] s = absurd cc
first_of n tag bytes (v ∷ vs) s = record { name = s.0; value = v; spelling = s.1; others = s.2; more = vs; is = refl; no_zero = s.3; spells = s.4; kind = cc; parts = cc; left = s.5 }

module _ (n tag : ℕ) (bytes : List ℕ) (vs : List Value) (f : First n tag bytes vs) where
  pub at_zero : position_from (λ b. b == 0) 0 bytes ≡ Some (length f.name)
  at_zero = ap (position_from (λ b. b == 0) 0) f.parts ∙ zero_at f.name (f.spelling ++ f.others) f.no_zero

  pub name_is : upto_zero bytes ≡ f.name
  unfolding upto_zero
  name_is = rw at_zero (ap (take (length f.name)) f.parts ∙ front_of f.name (f.spelling ++ f.others))

  pub behind_is : past_zero bytes ≡ f.spelling ++ f.others
  behind_is = ap past_zero f.parts ∙ past_name f.name (f.spelling ++ f.others) f.no_zero

  pub others_is : jump tag (past_zero bytes) ≡ f.others
  others_is = ap (λ t. jump t (past_zero bytes)) f.kind ∙ ap (jump (type_byte (out-Value f.value))) behind_is ∙ jump_over n f.spelling (out-Value f.value) f.others f.spells

  value_is_there : take (length (past_zero bytes) - length (jump tag (past_zero bytes))) (past_zero bytes) ≡ f.spelling
  value_is_there =
      let k : length (past_zero bytes) - length (jump tag (past_zero bytes)) ≡ length f.spelling = omega (arith, ap length behind_is, ap length others_is, length-append f.spelling f.others) in
      rw k (ap (take (length f.spelling)) behind_is ∙ take_at f.spelling f.others (length f.spelling) refl)

  pub part_is : first_part tag bytes ≡ record { name = f.name; tag = tag; value = f.spelling }
  part_is = rw (name_is, value_is_there) refl

  pub means : value_in tag f.spelling ≡ f.value
  means = value_is tag f.spelling f.value (record { levels = n; kind = f.kind; spells = f.spells })

  pub whole : tag ∷ bytes ≡ part_bytes (record { name = f.name; tag = tag; value = f.spelling }) ++ f.others
  whole = ap (λ (x : List ℕ). tag ∷ x) (f.parts ∙ sym (append_assoc (f.name ++ 0 ∷ []) f.spelling f.others))

  pub fewer : length f.others ≤ length bytes
  fewer = omega (arith, ap length f.parts, length-append (f.name ++ 0 ∷ []) (f.spelling ++ f.others), length-append f.spelling f.others)

-- ---- all elements

-- as many turns as there are bytes are enough
turns_alike : (n t u : ℕ) (b : List ℕ) (vs : List Value) → AreItems (SpellsValue n) b vs → length b ≤ t → length b ≤ u → parts_in t b ≡ parts_in u b
unfolding parts_in
turns_alike n t u [] vs s le lf = refl
turns_alike n zero u (tag ∷ b) vs s le lf = absurd (omega (arith, le))
turns_alike n (suc t) zero (tag ∷ b) vs s le lf = absurd (omega (arith, lf))
turns_alike n (suc t) (suc u) (tag ∷ b) [] s le lf = absurd cc
turns_alike n (suc t) (suc u) (tag ∷ b) (v ∷ vs) s le lf =
    let f = first_of n tag b (v ∷ vs) s in
    let less = fewer n tag b (v ∷ vs) f in
    let there = others_is n tag b (v ∷ vs) f in
    ap (λ (ps : List Part). first_part tag b ∷ ps) (ap (parts_in t) there ∙ turns_alike n t u f.others f.more f.left (omega (arith, le, less)) (omega (arith, lf, less)) ∙ ap (parts_in u) (sym there))

-- the first part, and those of the others
pub parts_on : (n tag : ℕ) (b : List ℕ) (vs : List Value) → (f : First n tag b vs) → parts_of (tag ∷ b) ≡ record { name = f.name; tag = tag; value = f.spelling } ∷ parts_of f.others
unfolding parts_of parts_in
parts_on n tag b vs f =
    let alike = turns_alike n (length b) (length f.others) f.others f.more f.left (fewer n tag b vs f) (omega arith) in
    let p : Part = record { name = f.name; tag = tag; value = f.spelling } in
    ap (λ (q : Part). q ∷ parts_in (length b) (jump tag (past_zero b))) (part_is n tag b vs f) ∙ ap (λ (ps : List Part). p ∷ ps) (ap (parts_in (length b)) (others_is n tag b vs f) ∙ alike)

-- a first element of these bytes
abbrev build : (n : ℕ) (name b others : List ℕ) (v : Value) (vs : List Value) → (Contains name 0 → ⊥) → SpellsValue n b v → AreItems (SpellsValue n) others vs
    → First n (type_byte (out-Value v)) ((name ++ 0 ∷ []) ++ (b ++ others)) (v ∷ vs)
build n name b others v vs no_zero s left = record { name = name; value = v; spelling = b; others = others; more = vs; is = refl; no_zero = no_zero; spells = s; kind = refl; parts = refl; left = left }

pub items_are : (n : ℕ) (b : List ℕ) (vs : List Value) → AreItems (SpellsValue n) b vs → values_of (parts_of b) ≡ vs
unfolding parts_of parts_in
items_are n b [] s = subst (λ (x : List ℕ). values_of (parts_of x) ≡ []) (sym s) refl
items_are n b (v ∷ vs) s =
    let f = build n s.0 s.1 s.2 v vs s.3 s.4 s.5 in
    let tag = type_byte (out-Value v) in
    let rest = (s.0 ++ 0 ∷ []) ++ (s.1 ++ s.2) in
    let here : values_of (parts_of (tag ∷ rest)) ≡ v ∷ vs =
    ap values_of (parts_on n tag rest (v ∷ vs) f) ∙ rw (means n tag rest (v ∷ vs) f) (ap (λ (ws : List Value). v ∷ ws) (items_are n s.2 vs s.5)) in
    subst (λ (x : List ℕ). values_of (parts_of x) ≡ v ∷ vs) (sym s.6) here

pub bytes_are : (n : ℕ) (b : List ℕ) (vs : List Value) → AreItems (SpellsValue n) b vs → bytes_of (parts_of b) ≡ b
unfolding parts_of parts_in
bytes_are n b [] s = subst (λ (x : List ℕ). bytes_of (parts_of x) ≡ x) (sym s) refl
bytes_are n b (v ∷ vs) s =
    let f = build n s.0 s.1 s.2 v vs s.3 s.4 s.5 in
    let tag = type_byte (out-Value v) in
    let rest = (s.0 ++ 0 ∷ []) ++ (s.1 ++ s.2) in
    let p : Part = record { name = s.0; tag = tag; value = s.1 } in
    let here : bytes_of (parts_of (tag ∷ rest)) ≡ tag ∷ rest =
    ap bytes_of (parts_on n tag rest (v ∷ vs) f) ∙ ap (λ (x : List ℕ). part_bytes p ++ x) (bytes_are n s.2 vs s.5) ∙ sym (whole n tag rest (v ∷ vs) f) in
    subst (λ (x : List ℕ). bytes_of (parts_of x) ≡ x) (sym s.6) here

pub names_are : (n : ℕ) (b : List ℕ) (vs : List Value) → AreItems (SpellsValue n) b vs → AreNames (parts_of b)
unfolding parts_of parts_in
names_are n b [] s = subst (λ (x : List ℕ). AreNames (parts_of x)) (sym s) tt
names_are n b (v ∷ vs) s =
    let f = build n s.0 s.1 s.2 v vs s.3 s.4 s.5 in
    let tag = type_byte (out-Value v) in
    let rest = (s.0 ++ 0 ∷ []) ++ (s.1 ++ s.2) in
    let here : AreNames (parts_of (tag ∷ rest)) = subst (λ (ps : List Part). AreNames ps) (sym (parts_on n tag rest (v ∷ vs) f)) (s.3, names_are n s.2 vs s.5) in
    subst (λ (x : List ℕ). AreNames (parts_of x)) (sym s.6) here

-- the fields of a document are elements
pub fields_items : (n : ℕ) (b : List ℕ) (fs : List (List ℕ × Value)) → AreFields (SpellsValue n) b fs → AreItems (SpellsValue n) b (map (λ e. e.1) fs)
fields_items n b [] s = s
fields_items n b (e ∷ es) s = (e.0, s.0, s.1, s.2.no_zero, s.3, fields_items n s.1 es s.4, s.5)

pub fields_are : (n : ℕ) (b : List ℕ) (fs : List (List ℕ × Value)) → AreFields (SpellsValue n) b fs → fields_of (parts_of b) ≡ fs
unfolding parts_of parts_in
fields_are n b [] s = subst (λ (x : List ℕ). fields_of (parts_of x) ≡ []) (sym s) refl
fields_are n b (e ∷ es) s =
    let more = map (λ d. d.1) es in
    let f = build n e.0 s.0 s.1 e.1 more s.2.no_zero s.3 (fields_items n s.1 es s.4) in
    let tag = type_byte (out-Value e.1) in
    let rest = (e.0 ++ 0 ∷ []) ++ (s.0 ++ s.1) in
    let here : fields_of (parts_of (tag ∷ rest)) ≡ e ∷ es =
    ap fields_of (parts_on n tag rest (e.1 ∷ more) f) ∙ rw (means n tag rest (e.1 ∷ more) f) (ap (λ (ds : List (List ℕ × Value)). e ∷ ds) (fields_are n s.1 es s.4)) in
    subst (λ (x : List ℕ). fields_of (parts_of x) ≡ e ∷ es) (sym s.5) here

pub no_parts : (b : List ℕ) → length b ≡ 0 → parts_of b ≡ []
unfolding parts_of parts_in
no_parts [] e = refl
no_parts (x ∷ xs) e = absurd (omega (arith, e))
