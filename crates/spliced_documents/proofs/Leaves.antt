-- A value that holds no others, whose bytes stand in a field as they are.
use Rattle.std.proofs.Common.{◌≡◌, ℕ, ◌+◌, ◌≤◌, List, [], ◌∷◌, ◌++◌, length, sym, ap, subst, ◌∙◌, refl, arith, Bool, true, false, not, Option, Some, None, Result, Ok, Err}
use Rattle.std.specs.Prelude.{◌↔◌, Contains, IfOk, IfSome, IsSome, IsTrue}
use Rattle.std.specs.Str.{is_utf8}
use Rattle.std.proofs.lemmas.List.{length-append}
use Rattle.bson_value.specs.declared.value.Value.{Value, Value-F, out-Value}
use Rattle.bson_value.specs.Levels.{levels_of}
use Rattle.bson_value.specs.Spelling.{Typed, element, spelled, spelling, tag_of}
use Rattle.bson_value.specs.WellFormed.{IsName}
use Rattle.bson_check.specs.Spells.{type_byte, AreBytesOf, AreFields, IsArray, IsDocument, Spells, SpellsWithin}
use Rattle.containers.specs.Entries.{put}
use Rattle.bson_view.specs.Meaning.{AreValue, IsLeaf}
use Rattle.bson_view.specs.Parts.{elements_in, SpellsValue}
use Rattle.spliced_documents.specs.Splicing.{enclosed, front_of, placed, rest_of, spliced, IsSpliced}
use Rattle.spliced_documents.proofs.Nested.{one_field, value_spells}
use Rattle.spliced_documents.proofs.Whole.{enclosed_is, placed_size}

-- ---- which ones they are

leaf_at : (x : Value-F Value) → (type_byte x ≡ 3 → ⊥) → (type_byte x ≡ 4 → ⊥) → (type_byte x ≡ 15 → ⊥) → IsLeaf x
leaf_at (Value-F.Object fs) o a c = absurd (o refl)
leaf_at (Value-F.Array vs) o a c = absurd (a refl)
leaf_at (Value-F.ScopedCode t fs) o a c = absurd (c refl)
leaf_at _ o a c = tt

other_at : (x : Value-F Value) → IsLeaf x → (type_byte x ≡ 3 → ⊥) × (type_byte x ≡ 4 → ⊥) × (type_byte x ≡ 15 → ⊥)
other_at (Value-F.Object fs) l = absurd l
other_at (Value-F.Array vs) l = absurd l
other_at (Value-F.ScopedCode t fs) l = absurd l
other_at _ l = (λ e. absurd (omega (arith, e)), λ e. absurd (omega (arith, e)), λ e. absurd (omega (arith, e)))

module _ (t : ℕ) (b : List ℕ) (v : Value) (value : AreValue t b v) where
  pub is_leaf : (t ≡ 3 → ⊥) → (t ≡ 4 → ⊥) → (t ≡ 15 → ⊥) → IsLeaf (out-Value v)
  is_leaf o a c = leaf_at (out-Value v) (λ e. o (value.kind ∙ e)) (λ e. a (value.kind ∙ e)) (λ e. c (value.kind ∙ e))

  pub not_others : IsLeaf (out-Value v) → (t ≡ 3 → ⊥) × (t ≡ 4 → ⊥) × (t ≡ 15 → ⊥)
  not_others l =
      let no = other_at (out-Value v) l in
      (λ e. no.0 (sym value.kind ∙ e), λ e. no.1 (sym value.kind ∙ e), λ e. no.2 (sym value.kind ∙ e))

-- ---- the names of fields

pub no_zero_named : (k : List ℕ) (zero : Bool) → is_utf8 k ≡ true → (IsTrue zero ↔ Contains k 0) → (IsTrue (not zero) ↔ IsName k)
no_zero_named k true utf8 has = (λ no. cc, λ name. absurd (name.no_zero (has.0 refl)))
no_zero_named k false utf8 has = (λ no. record { utf8 = utf8; no_zero = λ is. let both : false ≡ true = has.1 is in cc }, λ name. refl)

-- ---- their bytes

at_any_level : (n m : ℕ) (b : List ℕ) (x : Value-F Value) → IsLeaf x → AreBytesOf (IsDocument n) (IsArray n) b x → AreBytesOf (IsDocument m) (IsArray m) b x
at_any_level n m b (Value-F.Object fs) l s = absurd l
at_any_level n m b (Value-F.Array vs) l s = absurd l
at_any_level n m b (Value-F.ScopedCode t fs) l s = absurd l
at_any_level n m b (Value-F.Double d) l s = s
at_any_level n m b (Value-F.Str d) l s = s
at_any_level n m b (Value-F.Binary u d) l s = s
at_any_level n m b _ l s = s

module _ (k : List ℕ) (v : Value) (t : ℕ) (bytes : List ℕ) (value : AreValue t bytes v) (tag : t ≡ tag_of v) (leaf : IsLeaf (out-Value v)) (is : IsLeaf (out-Value v) → bytes ≡ spelled v) where
  pub leaf_typed : (t, bytes) ≡ spelling v
  leaf_typed = ap (λ (u : ℕ). (u, bytes)) tag ∙ ap (λ (z : List ℕ). (tag_of v, z)) (is leaf)

  pub leaf_placed : (b : List ℕ) → placed k (element (k, (t, bytes))) b ≡ spliced k v b
  leaf_placed b = ap (λ (u : Typed). placed k (element (k, u)) b) leaf_typed

  pub leaf_spells : (n : ℕ) → SpellsValue n bytes v
  leaf_spells n = at_any_level value.levels n bytes (out-Value v) leaf value.spells

  pub leaf_field : (n : ℕ) → IsName k → AreFields (SpellsValue n) (element (k, (t, bytes))) ((k, v) ∷ [])
  leaf_field n name = one_field n k t bytes v name value.kind (leaf_spells n)

module _ (k : List ℕ) (v : Value) (b : List ℕ) (fs : List (List ℕ × Value)) (s : Spells b fs) (le : levels_of fs ≤ 100) (name : IsName k) (t : ℕ) (bytes : List ℕ) (value : AreValue t bytes v) (tag : t ≡ tag_of v) (leaf : IsLeaf (out-Value v)) (is : IsLeaf (out-Value v) → bytes ≡ spelled v)
    (front rest : List ℕ) (is_front : front ≡ front_of k (elements_in b)) (is_rest : rest ≡ rest_of k (elements_in b) ++ 0 ∷ []) where
  abbrev own : List ℕ
  own = element (k, (t, bytes))

  placed_is : placed k own b ≡ spliced k v b
  placed_is = leaf_placed k v t bytes value tag leaf is b

  all_is : enclosed front own rest ≡ spliced k v b
  all_is = enclosed_is k own b front rest is_front is_rest ∙ placed_is

  abbrev total : ℕ
  total = length front + length own + length rest + 4

  total_is : total ≡ length (spliced k v b)
  total_is = omega (arith, placed_size k own b, ap length placed_is, ap length is_front, ap length is_rest, length-append (rest_of k (elements_in b)) (0 ∷ []))

  made : total ≤ 16777216 → (new : List ℕ) → new ≡ enclosed front own rest → IsSpliced k v b fs new
  made short new whole =
      let there : SpellsValue 99 bytes v = at_any_level value.levels 99 bytes (out-Value v) leaf value.spells in
      let all = value_spells k t bytes v b fs s le name value.kind there (omega (arith, short, total_is, ap length placed_is)) in
      (whole ∙ all_is, subst (λ (z : List ℕ). SpellsWithin 16777216 100 z (put k v fs)) (sym (whole ∙ all_is)) (subst (λ (z : List ℕ). SpellsWithin 16777216 100 z (put k v fs)) placed_is all))

  pub all_made : {E : Type 0} (o : Result (Option (List ℕ)) E) → IfOk o (λ o. IfSome o (λ new. new ≡ enclosed front own rest)) → IfOk o (λ o. IsSome o ↔ (total ≤ 16777216)) → IfOk o (λ o. IfSome o (IsSpliced k v b fs))
  all_made (Ok (Some new)) whole fits = made (fits.0 refl) new whole
  all_made (Ok None) whole fits = tt
  all_made (Err e) whole fits = tt

  pub all_fit : {E : Type 0} (o : Result (Option (List ℕ)) E) → IfOk o (λ o. IsSome o ↔ (total ≤ 16777216)) → IfOk o (λ o. IsSome o ↔ (length (spliced k v b) ≤ 16777216))
  all_fit (Ok o) fits = (λ some. omega (arith, fits.0 some, total_is), λ h. fits.1 (omega (arith, h, total_is)))
  all_fit (Err e) fits = tt
