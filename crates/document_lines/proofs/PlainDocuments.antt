-- Documents whose fields lie as they are spelled in order.
use Rattle.std.proofs.Common.{◌≡◌, ℕ, zero, suc, ◌+◌, ◌<◌, ◌≤◌, List, [], ◌∷◌, ◌++◌, length, false, get_or, refl, sym, ap, subst, ◌∙◌, arith}
use Rattle.std.specs.Ordering.{nat_cmp, is_lt, ordering_reverse}
use Rattle.std.specs.Cmp.Lexicographic.{slice_cmp, nat_list_cmp_total}
use Rattle.std.specs.List.Sorted.{IsSortedBy}
use Rattle.std.specs.declared.cmp.Ordering.TheVariants.{Less}
use Rattle.std.proofs.lemmas.List.Sorted.{IsPermutation-refl}
use Rattle.containers.specs.Entries.{AreDistinct, names_of}
use Rattle.bson_value.specs.Alike.{by_name, ordered, ordered_fields}
use Rattle.bson_value.specs.Spelling.{document_text, element, elements_of, framed, spelled, spelling}
use Rattle.bson_value.specs.WellFormed.{AreBytes}
use Rattle.bson_value.specs.declared.value.Value.{Value, out-Value}
use Rattle.bson_value.specs.declared.value.Value.TheOpen.{Value-F}
use Rattle.bson_value.proofs.Ordered.{names-ordered_fields}
use Rattle.bson_value.proofs.Sorted.{lt, sorted_is}
use Rattle.bson_check.specs.Spells.{IsFrame, type_byte}
use Rattle.bson_view.specs.Meaning.{AreValue}
use Rattle.bson_view.specs.Parts.{Part, AreElementsOf, bytes_of, fields_of, part_bytes, part_value}
use Rattle.document_lines.specs.Elems.{in_order}
use Rattle.document_lines.proofs.InOrder.{document_spelled, of_document}
use Rattle.document_lines.proofs.PlainArrays.{frame_text}

-- the parts lie as their fields are spelled in order, and each name stands behind the one before, the first behind this one
abbrev pub AreRising : List ℕ → List Part → Type 0
AreRising before [] = Unit {0}
AreRising before (p ∷ ps) =
    (slice_cmp nat_cmp before p.name ≡ Less) × (part_bytes p ≡ element (p.name, spelling (ordered (part_value p)))) × AreRising p.name ps

abbrev in_place : List Part → List (List ℕ × Value)
in_place ps = ordered_fields (fields_of ps)

-- one element more
pub rising_more : (before : List ℕ) (p : Part) (ps qs : List Part) → qs ≡ p ∷ ps → slice_cmp nat_cmp before p.name ≡ Less
    → part_bytes p ≡ element (p.name, spelling (ordered (part_value p))) → AreRising p.name ps → AreRising before qs
rising_more before p ps qs is less one rest = subst (AreRising before) (sym is) (less, one, rest)

bytes_are : (before : List ℕ) (ps : List Part) → AreRising before ps → bytes_of ps ≡ elements_of (in_place ps)
bytes_are before [] r = refl
bytes_are before (p ∷ ps) r =
    ap (λ (c : List ℕ). c ++ bytes_of ps) r.1 ∙ ap (λ (c : List ℕ). element (p.name, spelling (ordered (part_value p))) ++ c) (bytes_are p.name ps r.2)

not_less : (a b : List ℕ) → slice_cmp nat_cmp a b ≡ Less → is_lt (slice_cmp nat_cmp b a) ≡ false
not_less a b l = ap is_lt (nat_list_cmp_total.antisymm b a ∙ ap ordering_reverse l)

more_sorted : (e f : List ℕ × Value) (fs : List (List ℕ × Value)) → lt f e ≡ false → IsSortedBy lt (f ∷ fs)
    → (k : ℕ) (d : List ℕ × Value) → 0 ≤ k → k + 1 < length (e ∷ f ∷ fs) → lt (get_or (e ∷ f ∷ fs) (k + 1) d) (get_or (e ∷ f ∷ fs) k d) ≡ false
more_sorted e f fs l s zero d low high = l
more_sorted e f fs l s (suc k) d low high =
    let shift : suc (k + 1) ≡ suc k + 1 = omega arith in
    subst (λ n. lt (get_or (e ∷ f ∷ fs) n d) (get_or (f ∷ fs) k d) ≡ false) shift (s k d (omega arith) (omega (arith, high)))

are_sorted : (before : List ℕ) (ps : List Part) → AreRising before ps → IsSortedBy lt (in_place ps)
are_sorted before [] r = λ k d low high. absurd (omega (arith, high))
are_sorted before (p ∷ []) r = λ k d low high. absurd (omega (arith, high))
are_sorted before (p ∷ q ∷ ps) r = more_sorted _ _ (in_place ps) (not_less p.name q.name r.2.0) (are_sorted p.name (q ∷ ps) r.2)

pub rising_bytes : (ps : List Part) → AreDistinct (names_of (fields_of ps)) → AreRising [] ps → bytes_of ps ≡ elements_of (in_order ps)
rising_bytes ps named r =
    bytes_are [] ps r
    ∙ ap elements_of (sorted_is (in_place ps) (in_place ps) (IsPermutation-refl (in_place ps)) (subst AreDistinct (sym (names-ordered_fields (fields_of ps))) named) (are_sorted [] ps r))

frame_at : (b : List ℕ) (f : Value-F Value) (ps : List Part) → type_byte f ≡ 3 → AreElementsOf f b ps → IsFrame b (bytes_of ps)
frame_at b (Value-F.Object fs) ps k e = e.0
frame_at b _ ps k e = absurd (omega (arith, k))

pub plain_document : (tag : ℕ) (b : List ℕ) (v : Value) (value : AreValue tag b v) (ps : List Part) → tag ≡ 3 → AreElementsOf (out-Value v) b ps → AreBytes b → bytes_of ps ≡ elements_of (in_order ps) → b ≡ spelled (ordered v)
plain_document tag b v value ps k e h plain =
    frame_text b (bytes_of ps) h (frame_at b (out-Value v) ps (sym value.kind ∙ k) e)
    ∙ (ap framed plain ∙ sym (document_spelled (length b) v ps (of_document tag b v value ps k e)))

pub document_in_order : (b : List ℕ) (fs : List (List ℕ × Value)) (ps : List Part) → fields_of ps ≡ fs → IsFrame b (bytes_of ps) → AreBytes b → bytes_of ps ≡ elements_of (in_order ps) → b ≡ document_text (by_name (ordered_fields fs))
document_in_order b fs ps is f h plain =
    frame_text b (bytes_of ps) h f ∙ ap framed plain ∙ ap (λ (gs : List (List ℕ × Value)). document_text (by_name (ordered_fields gs))) is
