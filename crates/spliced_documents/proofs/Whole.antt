-- A document with one of its elements replaced, or one more, spells the document with this field set.
use Rattle.std.proofs.Common.{◌≡◌, ℕ, suc, ◌+◌, ◌-◌, ◌<◌, ◌≤◌, ◌^◌, List, [], ◌∷◌, ◌++◌, length, take, drop, refl, sym, ap, subst, ◌∙◌, append_assoc, arith}
use Rattle.std.specs.Prelude.{◌↔◌, Option, Some, None, Result, Ok, Err, IfOk, IfSome, IsSome}
use Rattle.std.proofs.lemmas.List.{take_at, drop_at, append-nil, length-append}
use Rattle.containers.specs.Entries.{put}
use Rattle.bson_value.specs.declared.value.Value.{Value}
use Rattle.bson_value.specs.Levels.{levels_in, levels_of}
use Rattle.bson_value.specs.Spelling.{count_bytes, document_text, element, framed, spelled, spelling}
use Rattle.bson_value.specs.WellFormed.{IsName, IsWellFormed}
use Rattle.bson_value.proofs.Sizes.{element_length}
use Rattle.bson_check.specs.Spells.{AreFields, IsDocument, Spells, SpellsWithin}
use Rattle.bson_check.proofs.Height.{document_bound, document_within}
use Rattle.bson_encode.proofs.Grammar.{frame_is, framed_len, spelling_spells}
use Rattle.bson_view.specs.Parts.{Part, body_of, elements_in, parts_of, SpellsValue}
use Rattle.bson_view.proofs.Bodies.{in_frame}
use Rattle.spliced_documents.specs.Splicing.{enclosed, front_of, placed, rest_of, spliced, Fits, IsSpliced}
use Rattle.spliced_documents.proofs.Distinct.{distinct_put}
use Rattle.spliced_documents.proofs.Elements.{put_spelled}

pub body_framed : (body : List ℕ) → body_of (framed body) ≡ body
body_framed body =
    let total = count_bytes (length body + 5) in
    let all = length (framed body) - 5 in
    let n : length body ≡ all = omega (arith, framed_len body) in
    ap (λ (z : List ℕ). take all (drop 4 z)) (append_assoc total body (0 ∷ [])) ∙ ap (take all) (drop_at total (body ++ 0 ∷ []) 4 refl) ∙ take_at body (0 ∷ []) all n

-- any element in the place of the one of its name
module _ (k own b : List ℕ) where
  abbrev at_front : List ℕ
  at_front = front_of k (elements_in b)

  abbrev at_rest : List ℕ
  at_rest = rest_of k (elements_in b)

  pub placed_size : length (placed k own b) ≡ length at_front + length own + length at_rest + 5
  placed_size = omega (arith, framed_len (at_front ++ (own ++ at_rest)), length-append at_front (own ++ at_rest), length-append own at_rest)

  -- the pieces one after the other
  pub enclosed_is : (f r : List ℕ) → f ≡ at_front → r ≡ at_rest ++ 0 ∷ [] → enclosed f own r ≡ placed k own b
  enclosed_is f r is_front is_rest =
      let n = length f + length own + length r + 4 in
      let m : n ≡ length (at_front ++ (own ++ at_rest)) + 5 = omega (arith, ap length is_front, ap length is_rest, length-append at_rest (0 ∷ []), length-append at_front (own ++ at_rest), length-append own at_rest) in
      let c = count_bytes (length (at_front ++ (own ++ at_rest)) + 5) in
      ap (λ (z : ℕ). count_bytes z ++ f ++ own ++ r) m ∙ ap (λ (z : List ℕ). c ++ z ++ own ++ r) is_front ∙ ap (λ (z : List ℕ). c ++ at_front ++ own ++ z) is_rest
      ∙ sym (append_assoc (c ++ at_front ++ own) at_rest (0 ∷ [])) ∙ ap (λ (z : List ℕ). z ++ 0 ∷ []) (append_assoc (c ++ at_front) own at_rest ∙ append_assoc c at_front (own ++ at_rest))

  pub document_placed : (m : ℕ) (v : Value) (fs : List (List ℕ × Value)) → AreFields (SpellsValue m) own ((k, v) ∷ []) → IsDocument (suc m) b fs → length (placed k own b) < 2 ^ 31 → IsDocument (suc m) (placed k own b) (put k v fs)
  unfolding IsDocument elements_in
  document_placed m v fs one d small =
      let parts : parts_of d.0 ≡ elements_in b = ap parts_of (sym (in_frame b d.0 d.1).body) in
      let there : AreFields (SpellsValue m) (at_front ++ (own ++ at_rest)) (put k v fs) =
      subst (λ (ps : List Part). AreFields (SpellsValue m) (front_of k ps ++ (own ++ rest_of k ps)) (put k v fs)) parts (put_spelled m k own v one d.0 fs d.3) in
      (at_front ++ (own ++ at_rest), frame_is (at_front ++ (own ++ at_rest)) small, distinct_put k v fs d.2, there)

module _ (k : List ℕ) (v : Value) where
  abbrev single : List (List ℕ × Value)
  single = (k, v) ∷ []

  abbrev pub own : List ℕ
  own = element (k, spelling v)

  alone_body : body_of (document_text single) ≡ own
  alone_body = body_framed (own ++ []) ∙ append-nil own

  pub alone_size : length (document_text single) ≡ length own + 5
  alone_size = omega (arith, framed_len (own ++ []), ap length (append-nil own))

  pub alone_levels : levels_of single ≡ suc (levels_in v)
  alone_levels = omega arith

  module _ (b : List ℕ) where
    abbrev front : List ℕ
    front = front_of k (elements_in b)

    abbrev rest : List ℕ
    rest = rest_of k (elements_in b)

    pub whole_size : length (spliced k v b) ≡ length front + length own + length rest + 5
    whole_size = placed_size k own b

    pub document_put : (m : ℕ) (fs : List (List ℕ × Value)) → IsDocument (suc m) b fs → IsDocument (suc m) (document_text single) single → length (spliced k v b) < 2 ^ 31 → IsDocument (suc m) (spliced k v b) (put k v fs)
    unfolding IsDocument
    document_put m fs d x small =
        let is : x.0 ≡ own = sym (in_frame (document_text single) x.0 x.1).body ∙ alone_body in
        let one : AreFields (SpellsValue m) own single = subst (λ (z : List ℕ). AreFields (SpellsValue m) z single) is x.3 in
        document_placed k own b m v fs one d small

    pub spells_put : (fs : List (List ℕ × Value)) → Spells b fs → levels_of fs ≤ 100 → Spells (document_text single) single → levels_of single ≤ 100 → length (spliced k v b) ≤ 16777216 → SpellsWithin 16777216 100 (spliced k v b) (put k v fs)
    unfolding Spells
    spells_put fs s le x lf size =
        let d = document_put 99 fs (document_within s.1 100 b fs s.2 le) (document_within x.1 100 (document_text single) single x.2 lf) (omega (arith, size)) in
        record { spells = (omega (arith, size), 100, d); short = size; shallow = document_bound 100 (spliced k v b) (put k v fs) d }

    -- the value is a part of them
    pub value_within : length (spelled v) ≤ length (spliced k v b)
    value_within = omega (arith, whole_size, element_length k v)

    -- the element alone is that of a document
    pub alone : IsName k → IsWellFormed v → length (document_text single) < 2 ^ 31 → Spells (document_text single) single
    alone name formed small = spelling_spells single (((tt, tt), (name, tt)), (formed, tt)) small

    -- what the pieces make
    module _ (fs : List (List ℕ × Value)) (s : Spells b fs) (le : levels_of fs ≤ 100) (name : IsName k) (formed : IsWellFormed v) (shallow : levels_in v ≤ 99) (f r : List ℕ) (is_front : f ≡ front) (is_rest : r ≡ rest ++ 0 ∷ []) where
      abbrev pub total : ℕ
      total = length f + length own + length r + 4

      total_is : total ≡ length (spliced k v b)
      total_is = omega (arith, whole_size, ap length is_front, ap length is_rest, length-append rest (0 ∷ []))

      made : (bytes : List ℕ) → total ≤ 16777216 → bytes ≡ count_bytes total ++ f ++ own ++ r → IsSpliced k v b fs bytes
      made bytes short is =
          let whole : bytes ≡ spliced k v b = is ∙ enclosed_is k own b f r is_front is_rest in
          let size : length (spliced k v b) ≤ 16777216 = omega (arith, short, total_is) in
          let x = alone name formed (omega (arith, size, alone_size, whole_size)) in
          (whole, subst (λ (z : List ℕ). SpellsWithin 16777216 100 z (put k v fs)) (sym whole) (spells_put fs s le x (omega (arith, shallow, alone_levels)) size))

      pub all_made : {E : Type 0} (o : Result (Option (List ℕ)) E) → IfOk o (λ o. IfSome o (λ bytes. bytes ≡ count_bytes total ++ f ++ own ++ r)) → IfOk o (λ o. IsSome o ↔ (total ≤ 16777216)) → IfOk o (λ o. IfSome o (IsSpliced k v b fs))
      all_made (Ok (Some bytes)) is fits = made bytes (fits.0 refl) is
      all_made (Ok None) is fits = tt
      all_made (Err e) is fits = tt

      pub all_fit : {E : Type 0} (o : Result (Option (List ℕ)) E) → IfOk o (λ o. IsSome o ↔ (total ≤ 16777216)) → IfOk o (λ o. IsSome o ↔ Fits k v b)
      all_fit (Ok o) fits = (λ some. (omega (arith, fits.0 some, total_is), omega (arith, shallow)), λ h. fits.1 (omega (arith, h.0, total_is)))
      all_fit (Err e) fits = tt
