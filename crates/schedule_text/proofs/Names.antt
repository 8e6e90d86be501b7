-- The texts of names, both ways.
use Rattle.std.proofs.Common.{◌≡◌, ℕ, ◌<◌, false, List, [], ◌∷◌, length, refl, sym, ap, ◌∙◌, arith, inl, inr}
use Rattle.std.specs.Prelude.{not, nat_lt, Ok, Err}
use Rattle.std.specs.List.{position_or_len, before_first, after_first}
use Rattle.std.proofs.lemmas.Bool.{cases_Bool}
use Rattle.std.proofs.lemmas.Bool.Decides.{nat_tests}
use Rattle.std.proofs.lemmas.List.Sums.{prefix_len-le-length}
use Rattle.bson_value.specs.Namespace.{IsSplit}
use Rattle.bson_value.proofs.FirstDot as dots
use Rattle.bson_value.specs.declared.namespace.NsName.{NsName}
use Rattle.schedule_text.specs.declared.fault.LineKind.{LineKind}
use Rattle.schedule_text.specs.declared.fault.LineKind.TheVariants as kinds
use Rattle.schedule_text.specs.Words.{is_empty}
use Rattle.schedule_text.specs.Operands.{Read, is_dot, named, name_of}

some_bytes : (w : List ℕ) → is_empty w ≡ false → w ≡ [] → ⊥
some_bytes [] e n = cc
some_bytes (b ∷ w) e n = cc

pub not_empty : (w : List ℕ) → (w ≡ [] → ⊥) → is_empty w ≡ false
not_empty [] n = absurd (n refl)
not_empty (b ∷ w) n = grind (arith, nat_tests)

named_is : (db coll : List ℕ) (ns : NsName) → named db coll ≡ Ok ns → (db ≡ ns.db) × (coll ≡ ns.coll) × (db ≡ [] → ⊥) × (coll ≡ [] → ⊥)
named_is db coll ns e =
    elim (cases_Bool (is_empty db)) [
      | inl t ↦ let f = rw t at e in absurd cc
      | inr t ↦ elim (cases_Bool (is_empty coll)) [
        | inl u ↦ let f = rw (t, u) at e in absurd cc
        | inr u ↦ let f = rw (t, u) at e in
            let g : ◌≡◌ {A = NsName} (record { db = db; coll = coll }) ns = cc in
            (ap (λ (x : NsName). x.db) g, ap (λ (x : NsName). x.coll) g, some_bytes db t, some_bytes coll u)
      ]
    ]

pub is_split : (text : List ℕ) (ns : NsName) → name_of text ≡ Ok ns → IsSplit text ns.db ns.coll
unfolding name_of
is_split text ns e =
    elim (cases_Bool (nat_lt (position_or_len is_dot text) (length text))) [
      | inl t ↦ let n = named_is (before_first is_dot text) (after_first is_dot text) ns (rw t at e) in
          let h : position_or_len is_dot text < length text = grind (arith, nat_tests) in
          dots.at_first_dot text ns.db ns.coll h (sym n.0) (sym n.1) (λ x. n.2 (n.0 ∙ x)) (λ x. n.3 (n.1 ∙ x))
      | inr t ↦ let f = rw t at e in absurd cc
    ]

pub name_is : (text : List ℕ) (ns : NsName) → IsSplit text ns.db ns.coll → name_of text ≡ Ok ns
unfolding name_of
name_is text ns s =
    elim (cases_Bool (nat_lt (position_or_len is_dot text) (length text))) [
      | inl t ↦ let p = dots.sides text ns.db ns.coll s in
          rw (t, sym p.0, sym p.1, not_empty ns.db s.some_db, not_empty ns.coll s.some_coll) refl
      | inr t ↦ let l = prefix_len-le-length (λ b. not (is_dot b)) text in
          let h : position_or_len is_dot text ≡ length text = grind (arith, nat_tests, l) in
          absurd (dots.without_dot text h ns.db ns.coll s)
    ]

is_name_fault : (text : List ℕ) (k : LineKind) → name_of text ≡ Err k → name_of text ≡ Err kinds.Name
unfolding name_of
is_name_fault text k e =
    elim (cases_Bool (nat_lt (position_or_len is_dot text) (length text))) [
      | inl t ↦ elim (cases_Bool (is_empty (before_first is_dot text))) [
        | inl u ↦ rw (t, u) refl
        | inr u ↦ elim (cases_Bool (is_empty (after_first is_dot text))) [
          | inl v ↦ rw (t, u, v) refl
          | inr v ↦ let f = rw (t, u, v) at e in absurd cc
        ]
      ]
      | inr t ↦ rw t refl
    ]

by_cases : (text : List ℕ) → ((db coll : List ℕ) → IsSplit text db coll → ⊥) → (r : Read NsName) → name_of text ≡ r → name_of text ≡ Err kinds.Name
by_cases text none (Ok ns) e = absurd (none ns.db ns.coll (is_split text ns e))
by_cases text none (Err k) e = is_name_fault text k e

-- a text that isn't parted names nothing
pub no_name : (text : List ℕ) → ((db coll : List ℕ) → IsSplit text db coll → ⊥) → name_of text ≡ Err kinds.Name
no_name text none = by_cases text none (name_of text) refl
