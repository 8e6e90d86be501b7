-- A document without one of its elements spells the document without this field.
use Rattle.std.proofs.Common.{◌≡◌, ℕ, suc, ◌+◌, ◌<◌, ◌≤◌, ◌^◌, List, [], ◌∷◌, ◌++◌, length, map, refl, sym, ap, subst, ◌∙◌, append_assoc, inl, inr, arith}
use Rattle.std.specs.Str.{bytes_eq}
use Rattle.std.proofs.lemmas.Bool.{cases_Bool}
use Rattle.std.proofs.lemmas.List.{length-append}
use Rattle.std.proofs.lemmas.Slice.Eq.{bytes_eq-Decides}
use Rattle.containers.specs.Entries.{AreDistinct, IsAbsent, names_of, without}
use Rattle.containers.proofs.Entries.{without-absent}
use Rattle.bson_value.specs.declared.value.Value.{Value, out-Value}
use Rattle.bson_value.specs.Levels.{levels_of}
use Rattle.bson_value.specs.Spelling.{count_bytes}
use Rattle.bson_check.specs.Spells.{type_byte, AreFields, IsDocument, Spells, SpellsWithin}
use Rattle.bson_check.proofs.Height.{document_bound, document_within}
use Rattle.bson_encode.proofs.Grammar.{frame_is, framed_len}
use Rattle.bson_view.specs.Parts.{Part, bytes_of, elements_in, parts_in, parts_of, SpellsValue}
use Rattle.bson_view.proofs.Bodies.{in_frame}
use Rattle.bson_view.proofs.Parting.{First, parts_on, bytes_are, fields_items}
use Rattle.spliced_documents.specs.Splicing.{cut, front_of, rest_of, IsCut}
use Rattle.spliced_documents.proofs.Distinct.{distinct_without}

module _ (n : ℕ) (k : List ℕ) where
  abbrev around : List Part → List ℕ
  around ps = front_of k ps ++ rest_of k ps

  cut_spelled : (b : List ℕ) (fs : List (List ℕ × Value)) → AreDistinct (names_of fs) → AreFields (SpellsValue n) b fs → AreFields (SpellsValue n) (around (parts_of b)) (without k fs)
  unfolding parts_of parts_in
  cut_spelled b [] d s = subst (λ (x : List ℕ). AreFields (SpellsValue n) (around (parts_of x)) []) (sym s) refl
  cut_spelled b (e ∷ es) d s =
      let more = map (λ d. d.1) es in
      let items = fields_items n s.1 es s.4 in
      let first = type_byte (out-Value e.1) in
      let name = e.0 ++ 0 ∷ [] in
      let f : First n first (name ++ (s.0 ++ s.1)) (e.1 ∷ more) =
      record { name = e.0; value = e.1; spelling = s.0; others = s.1; more = more; is = refl; no_zero = s.2.no_zero; spells = s.3; kind = refl; parts = refl; left = items } in
      let p : Part = record { name = e.0; tag = first; value = s.0 } in
      let ps = parts_of s.1 in
      let rest = name ++ (s.0 ++ s.1) in
      let parted : ((first ∷ (name ++ s.0)) ++ front_of k ps) ++ rest_of k ps ≡ first ∷ (name ++ (s.0 ++ around ps)) =
      ap (λ (z : List ℕ). first ∷ z) (append_assoc (name ++ s.0) (front_of k ps) (rest_of k ps) ∙ append_assoc name s.0 (around ps)) in
      let here : AreFields (SpellsValue n) (around (p ∷ ps)) (without k (e ∷ es)) =
      elim (cases_Bool (bytes_eq e.0 k)) [
        | inl h ↦
            let others : without k es ≡ es = without-absent k es (subst (λ (m : List ℕ). IsAbsent m (names_of es)) ((bytes_eq-Decides e.0 k).0 h) d.0) in
            let spelled : AreFields (SpellsValue n) (bytes_of ps) es = subst (λ (z : List ℕ). AreFields (SpellsValue n) z es) (sym (bytes_are n s.1 more items)) s.4 in
            rw h (subst (λ (gs : List (List ℕ × Value)). AreFields (SpellsValue n) (bytes_of ps) gs) (sym others) spelled)
        | inr h ↦ rw h (s.0, around ps, s.2, s.3, cut_spelled s.1 es d.1 s.4, parted)
      ] in
      let there : AreFields (SpellsValue n) (around (parts_of (first ∷ rest))) (without k (e ∷ es)) =
      subst (λ (qs : List Part). AreFields (SpellsValue n) (around qs) (without k (e ∷ es))) (sym (parts_on n first rest (e.1 ∷ more) f)) here in
      subst (λ (x : List ℕ). AreFields (SpellsValue n) (around (parts_of x)) (without k (e ∷ es))) (sym s.5) there

module _ (k b : List ℕ) where
  abbrev front : List ℕ
  front = front_of k (elements_in b)

  abbrev rest : List ℕ
  rest = rest_of k (elements_in b)

  pub cut_size : length (cut k b) ≡ length front + length rest + 5
  cut_size = omega (arith, framed_len (front ++ rest), length-append front rest)

  pub document_cut : (m : ℕ) (fs : List (List ℕ × Value)) → IsDocument (suc m) b fs → length (cut k b) < 2 ^ 31 → IsDocument (suc m) (cut k b) (without k fs)
  unfolding IsDocument elements_in
  document_cut m fs d small =
      let parts : parts_of d.0 ≡ elements_in b = ap parts_of (sym (in_frame b d.0 d.1).body) in
      let there : AreFields (SpellsValue m) (front ++ rest) (without k fs) =
      subst (λ (ps : List Part). AreFields (SpellsValue m) (front_of k ps ++ rest_of k ps) (without k fs)) parts (cut_spelled m k d.0 fs d.2 d.3) in
      (front ++ rest, frame_is (front ++ rest) small, distinct_without k fs d.2, there)

  spells_cut : (fs : List (List ℕ × Value)) → Spells b fs → levels_of fs ≤ 100 → length (cut k b) ≤ 16777216 → SpellsWithin 16777216 100 (cut k b) (without k fs)
  unfolding Spells
  spells_cut fs s le size =
      let d = document_cut 99 fs (document_within s.1 100 b fs s.2 le) (omega (arith, size)) in
      record { spells = (omega (arith, size), 100, d); short = size; shallow = document_bound 100 (cut k b) (without k fs) d }

  module _ (f r : List ℕ) (is_front : f ≡ front) (is_rest : r ≡ rest ++ 0 ∷ []) where
    pub total_is : length f + length r + 4 ≡ length (cut k b)
    total_is = omega (arith, cut_size, ap length is_front, ap length is_rest, length-append rest (0 ∷ []))

    joined_is : (bytes : List ℕ) → bytes ≡ count_bytes (length f + length r + 4) ++ f ++ r → bytes ≡ cut k b
    joined_is bytes is =
        let m : length f + length r + 4 ≡ length (front ++ rest) + 5 = omega (arith, total_is, framed_len (front ++ rest)) in
        let c = count_bytes (length (front ++ rest) + 5) in
        is ∙ ap (λ (z : ℕ). count_bytes z ++ f ++ r) m ∙ ap (λ (z : List ℕ). c ++ z ++ r) is_front ∙ ap (λ (z : List ℕ). c ++ front ++ z) is_rest ∙ sym (append_assoc (c ++ front) rest (0 ∷ []))
        ∙ ap (λ (z : List ℕ). z ++ 0 ∷ []) (append_assoc c front rest)

    -- what the two pieces make
    pub cut_made : (fs : List (List ℕ × Value)) → Spells b fs → levels_of fs ≤ 100 → (bytes : List ℕ) → length f + length r + 4 ≤ 16777216 → bytes ≡ count_bytes (length f + length r + 4) ++ f ++ r → IsCut k b fs bytes
    cut_made fs s le bytes short is =
        let whole = joined_is bytes is in
        (whole, subst (λ (z : List ℕ). SpellsWithin 16777216 100 z (without k fs)) (sym whole) (spells_cut fs s le (omega (arith, short, total_is))))
