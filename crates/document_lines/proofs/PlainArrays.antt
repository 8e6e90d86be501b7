-- Arrays whose elements lie as they are spelled in order.
use Rattle.std.proofs.Common.{◌≡◌, ℕ, ◌+◌, List, [], ◌∷◌, ◌++◌, length, map, sym, ap, subst, ◌∙◌, append_assoc, arith}
use Rattle.std.specs.Fmt.{decimal}
use Rattle.bson_value.specs.Alike.{ordered}
use Rattle.bson_value.specs.Spelling.{count_bytes, element, framed, items_of, numbered, spelled, spelling, tag_of}
use Rattle.bson_value.specs.WellFormed.{AreBytes}
use Rattle.bson_value.specs.declared.value.Value.{Value, out-Value}
use Rattle.bson_value.specs.declared.value.Value.TheOpen.{Value-F}
use Rattle.bson_value.proofs.Runs.{front_bytes}
use Rattle.bson_check.specs.Spells.{IsFrame, type_byte}
use Rattle.bson_encode.proofs.Numbered.{count_back}
use Rattle.bson_view.specs.Meaning.{AreValue, IsLeaf}
use Rattle.bson_view.specs.Parts.{Part, AreElementsOf, bytes_of, part_bytes, part_value, values_of}
use Rattle.bson_view.proofs.Sizes.{frame_size}
use Rattle.document_lines.proofs.InOrder.{array_spelled, element_put, of_array, ordered_is}

-- an element whose value lies as it is spelled in order
pub ordered_item : (name : List ℕ) (tag : ℕ) (b : List ℕ) (v : Value) → tag ≡ tag_of v → b ≡ spelled (ordered v) → tag ∷ ((name ++ 0 ∷ []) ++ b) ≡ element (name, spelling (ordered v))
ordered_item name tag b v k is = ap (λ (c : List ℕ). tag ∷ ((name ++ 0 ∷ []) ++ c)) is ∙ element_put [] name tag v k

-- one whose value holds no others
pub plain_item : (name : List ℕ) (tag : ℕ) (b : List ℕ) (v : Value) → tag ≡ tag_of v → IsLeaf (out-Value v) → b ≡ spelled v → tag ∷ ((name ++ 0 ∷ []) ++ b) ≡ element (name, spelling (ordered v))
plain_item name tag b v k l is = ordered_item name tag b v k (is ∙ ap spelled (sym (ordered_is v l)))

-- the parts lie as their values are spelled in order, named by their places from this one on
abbrev pub ArePlain : ℕ → List Part → Type 0
ArePlain n ps = bytes_of ps ≡ numbered n (map spelling (map ordered (values_of ps)))

-- one element more
pub plain_more : (n : ℕ) (p : Part) (ps qs : List Part) → qs ≡ p ∷ ps → part_bytes p ≡ element (decimal n, spelling (ordered (part_value p))) → ArePlain (n + 1) ps → ArePlain n qs
plain_more n p ps qs is one rest =
    subst (ArePlain n) (sym is)
    (ap (λ (c : List ℕ). c ++ bytes_of ps) one ∙ ap (λ (c : List ℕ). element (decimal n, spelling (ordered (part_value p))) ++ c) rest)

pub frame_text : (b elements : List ℕ) → AreBytes b → IsFrame b elements → b ≡ framed elements
frame_text b elements h f =
    let long : length b ≡ length elements + 5 = omega (arith, frame_size b elements f) in
    let whole : b ≡ f.0 ++ (elements ++ 0 ∷ []) = f.2 ∙ append_assoc f.0 elements (0 ∷ []) in
    f.2 ∙ ap (λ (c : List ℕ). c ++ elements ++ 0 ∷ []) (count_back f.0 (length b) (front_bytes f.0 (elements ++ 0 ∷ []) (subst AreBytes whole h)) f.1 ∙ ap count_bytes long)

frame_at : (b : List ℕ) (f : Value-F Value) (ps : List Part) → type_byte f ≡ 4 → AreElementsOf f b ps → IsFrame b (bytes_of ps)
frame_at b (Value-F.Array vs) ps k e = e.0
frame_at b _ ps k e = absurd (omega (arith, k))

pub plain_array : (tag : ℕ) (b : List ℕ) (v : Value) (value : AreValue tag b v) (ps : List Part) → tag ≡ 4 → AreElementsOf (out-Value v) b ps → AreBytes b → bytes_of ps ≡ items_of (map ordered (values_of ps)) → b ≡ spelled (ordered v)
plain_array tag b v value ps k e h plain =
    frame_text b (bytes_of ps) h (frame_at b (out-Value v) ps (sym value.kind ∙ k) e)
    ∙ (ap framed plain ∙ sym (array_spelled (length b) v ps (of_array tag b v value ps k e)))
