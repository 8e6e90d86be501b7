-- The spelling of values in order.
use Rattle.std.proofs.Common.{◌≡◌, ℕ, zero, suc, ◌+◌, ◌<◌, ◌-◌, List, [], ◌∷◌, ◌++◌, length, map, take, drop, get_or, refl, sym, ap, subst, ◌∙◌, append_assoc, arith}
use Rattle.std.proofs.lemmas.List.{map_more, length-append, append-nil, take_at, drop_at}
use Rattle.containers.specs.Entries.{AreDistinct, names_of}
use Rattle.bson_value.specs.Alike.{by_name, ordered, ordered_step, ordered_fields}
use Rattle.bson_value.specs.Spelling.{Typed, element, framed, counted, text_bytes, spelling, spelled, tag_of, elements_of, items_of, document_text, spelling_step, count_bytes}
use Rattle.bson_value.specs.declared.value.Value.{Value, out-Value, roll-Value, roll-out-Value, fold-roll-Value}
use Rattle.bson_value.specs.declared.value.Value.TheVariants.{Object, Array, ScopedCode, rolls-Object, rolls-Array, rolls-ScopedCode}
use Rattle.bson_value.specs.declared.value.Value.TheOpen.{Value-F}
use Rattle.bson_check.specs.Spells.{IsFrame, Spells, AreBytesOf, IsDocument, IsArray, type_byte}
use Rattle.bson_view.specs.declared.elem.Elem.{Elem}
use Rattle.bson_view.specs.Meaning.{AreValue, IsLeaf}
use Rattle.bson_view.specs.Parts.{Part, bytes_of, fields_of, values_of, AreElementsOf, AreScopedParts}
use Rattle.bson_view.specs.Views.{elem_value}
use Rattle.bson_view.proofs.Sizes.{frame_size}
use Rattle.bson_value.proofs.Ordered.{ordered-Object, ordered-Array, ordered-ScopedCode}
use Rattle.document_lines.specs.Elems.{ordered_elem, ordered_elems, in_order}

abbrev Fields : Type 0
Fields = List (List ℕ × Value)

-- a document of so many bytes
pub record OfDocument (room : ℕ) (v : Value) (ps : List Part) : Type 0 where
  pub distinct : AreDistinct (names_of (fields_of ps))
  pub fits : length (bytes_of ps) < room
  pub is : ordered v ≡ Object (in_order ps)

pub record OfArray (room : ℕ) (v : Value) (ps : List Part) : Type 0 where
  pub fits : length (bytes_of ps) < room
  pub is : ordered v ≡ Array (map ordered (values_of ps))

pub record OfScoped (room : ℕ) (v : Value) (text : List ℕ) (ps : List Part) : Type 0 where
  pub distinct : AreDistinct (names_of (fields_of ps))
  pub fits : length (bytes_of ps) < room
  pub code : List ℕ
  pub text_is : text ≡ text_bytes code
  pub is : ordered v ≡ ScopedCode code (in_order ps)

spelling-Object : (fs : Fields) → spelling (Object fs) ≡ (3, document_text fs)
spelling-Object fs = ap spelling (sym (rolls-Object fs)) ∙ fold-roll-Value Typed spelling_step (Value-F.Object fs)

spelling-Array : (vs : List Value) → spelling (Array vs) ≡ (4, framed (items_of vs))
spelling-Array vs = ap spelling (sym (rolls-Array vs)) ∙ fold-roll-Value Typed spelling_step (Value-F.Array vs)

spelling-ScopedCode : (t : List ℕ) (fs : Fields) → spelling (ScopedCode t fs) ≡ (15, counted (text_bytes t ++ document_text fs))
spelling-ScopedCode t fs = ap spelling (sym (rolls-ScopedCode t fs)) ∙ fold-roll-Value Typed spelling_step (Value-F.ScopedCode t fs)

spelled-Object : (fs : Fields) → spelled (Object fs) ≡ document_text fs
spelled-Object fs = ap (λ (t : Typed). t.1) (spelling-Object fs)

spelled-Array : (vs : List Value) → spelled (Array vs) ≡ framed (items_of vs)
spelled-Array vs = ap (λ (t : Typed). t.1) (spelling-Array vs)

spelled-ScopedCode : (t : List ℕ) (fs : Fields) → spelled (ScopedCode t fs) ≡ counted (text_bytes t ++ document_text fs)
spelled-ScopedCode t fs = ap (λ (t : Typed). t.1) (spelling-ScopedCode t fs)

distinct_names : (n : ℕ) (b : List ℕ) (fs : Fields) → IsDocument n b fs → AreDistinct (names_of fs)
unfolding IsDocument
distinct_names zero b fs d = absurd d
distinct_names (suc n) b fs d = d.2

within : (b : List ℕ) (ps : List Part) → IsFrame b (bytes_of ps) → length (bytes_of ps) < length b
within b ps f = omega (arith, frame_size b (bytes_of ps) f)

document_at : (n : ℕ) (b : List ℕ) (f : Value-F Value) (ps : List Part) → AreBytesOf (IsDocument n) (IsArray n) b f → type_byte f ≡ 3 → AreElementsOf f b ps → OfDocument (length b) (roll-Value f) ps
document_at n b (Value-F.Object fs) ps s k e = record {
  distinct = subst (λ (gs : Fields). AreDistinct (names_of gs)) (sym e.1) (distinct_names n b fs s);
  fits = within b ps e.0;
  is = ap ordered (rolls-Object fs) ∙ ordered-Object fs ∙ ap (λ (gs : Fields). Object (by_name (ordered_fields gs))) (sym e.1);
}
document_at n b _ ps s k e = absurd (omega (arith, k))

array_at : (n : ℕ) (b : List ℕ) (f : Value-F Value) (ps : List Part) → AreBytesOf (IsDocument n) (IsArray n) b f → type_byte f ≡ 4 → AreElementsOf f b ps → OfArray (length b) (roll-Value f) ps
array_at n b (Value-F.Array vs) ps s k e = record {
  fits = within b ps e.0;
  is = ap ordered (rolls-Array vs) ∙ ordered-Array vs ∙ ap (λ (ws : List Value). Array (map ordered ws)) (sym e.1);
}
array_at n b _ ps s k e = absurd (omega (arith, k))

scoped_at : (n : ℕ) (b text : List ℕ) (f : Value-F Value) (ps : List Part) → AreBytesOf (IsDocument n) (IsArray n) b f → AreScopedParts f b text ps → OfScoped (length b) (roll-Value f) text ps
scoped_at n b text (Value-F.ScopedCode t fs) ps s e = record {
  distinct = subst (λ (gs : Fields). AreDistinct (names_of gs)) (sym e.1) (distinct_names n s.2 fs s.5);
  fits = e.2;
  code = t;
  text_is = e.0;
  is = ap ordered (rolls-ScopedCode t fs) ∙ ordered-ScopedCode t fs ∙ ap (λ (gs : Fields). ScopedCode t (by_name (ordered_fields gs))) (sym e.1);
}
scoped_at n b text _ ps s e = absurd e

-- their spellings

pub document_spelled : (room : ℕ) (v : Value) (ps : List Part) → OfDocument room v ps → spelled (ordered v) ≡ document_text (in_order ps)
document_spelled room v ps k = ap spelled k.is ∙ spelled-Object (in_order ps)

pub array_spelled : (room : ℕ) (v : Value) (ps : List Part) → OfArray room v ps → spelled (ordered v) ≡ framed (items_of (map ordered (values_of ps)))
array_spelled room v ps k = ap spelled k.is ∙ spelled-Array (map ordered (values_of ps))

pub scoped_spelled : (room : ℕ) (v : Value) (text : List ℕ) (ps : List Part) → OfScoped room v text ps → spelled (ordered v) ≡ counted (text ++ document_text (in_order ps))
scoped_spelled room v text ps k = ap spelled k.is ∙ spelled-ScopedCode k.code (in_order ps) ∙ ap (λ (c : List ℕ). counted (c ++ document_text (in_order ps))) (sym k.text_is)

module _ (tag : ℕ) (b : List ℕ) (v : Value) (value : AreValue tag b v) where
  pub of_document : (ps : List Part) → tag ≡ 3 → AreElementsOf (out-Value v) b ps → OfDocument (length b) v ps
  of_document ps k e =
      subst (λ (w : Value). OfDocument (length b) w ps) (roll-out-Value v) (document_at value.levels b (out-Value v) ps value.spells (sym value.kind ∙ k) e)

  pub of_array : (ps : List Part) → tag ≡ 4 → AreElementsOf (out-Value v) b ps → OfArray (length b) v ps
  of_array ps k e =
      subst (λ (w : Value). OfArray (length b) w ps) (roll-out-Value v) (array_at value.levels b (out-Value v) ps value.spells (sym value.kind ∙ k) e)

  pub of_scoped : (text : List ℕ) (ps : List Part) → AreScopedParts (out-Value v) b text ps → OfScoped (length b) v text ps
  of_scoped text ps e =
      subst (λ (w : Value). OfScoped (length b) w text ps) (roll-out-Value v) (scoped_at value.levels b text (out-Value v) ps value.spells e)

  leaf_at : (f : Value-F Value) → (type_byte f ≡ 3 → ⊥) → (type_byte f ≡ 4 → ⊥) → (type_byte f ≡ 15 → ⊥) → IsLeaf f
  leaf_at (Value-F.Object fs) o a c = absurd (o refl)
  leaf_at (Value-F.Array vs) o a c = absurd (a refl)
  leaf_at (Value-F.ScopedCode t fs) o a c = absurd (c refl)
  leaf_at _ o a c = tt

  pub is_leaf : (tag ≡ 3 → ⊥) → (tag ≡ 4 → ⊥) → (tag ≡ 15 → ⊥) → IsLeaf (out-Value v)
  is_leaf o a c = leaf_at (out-Value v) (λ e. o (value.kind ∙ e)) (λ e. a (value.kind ∙ e)) (λ e. c (value.kind ∙ e))

ordered_at : (f : Value-F Value) → IsLeaf f → ordered (roll-Value f) ≡ roll-Value f
unfolding ordered
ordered_at (Value-F.Object fs) l = absurd l
ordered_at (Value-F.Array vs) l = absurd l
ordered_at (Value-F.ScopedCode t fs) l = absurd l
ordered_at f l = fold-roll-Value Value ordered_step f

-- what holds no others is as it was
pub ordered_is : (v : Value) → IsLeaf (out-Value v) → ordered v ≡ v
ordered_is v l = subst (λ (w : Value). ordered w ≡ w) (roll-out-Value v) (ordered_at (out-Value v) l)

tag-Object : (fs : Fields) → tag_of (Object fs) ≡ 3
tag-Object fs = ap (λ (t : Typed). t.0) (spelling-Object fs)

tag-Array : (vs : List Value) → tag_of (Array vs) ≡ 4
tag-Array vs = ap (λ (t : Typed). t.0) (spelling-Array vs)

tag-ScopedCode : (t : List ℕ) (fs : Fields) → tag_of (ScopedCode t fs) ≡ 15
tag-ScopedCode t fs = ap (λ (t : Typed). t.0) (spelling-ScopedCode t fs)

tag_at : (f : Value-F Value) → tag_of (ordered (roll-Value f)) ≡ tag_of (roll-Value f)
tag_at (Value-F.Object fs) = ap (λ v. tag_of (ordered v)) (rolls-Object fs) ∙ ap tag_of (ordered-Object fs) ∙ tag-Object (by_name (ordered_fields fs)) ∙ sym (tag-Object fs) ∙ sym (ap tag_of (rolls-Object fs))
tag_at (Value-F.Array vs) = ap (λ v. tag_of (ordered v)) (rolls-Array vs) ∙ ap tag_of (ordered-Array vs) ∙ tag-Array (map ordered vs) ∙ sym (tag-Array vs) ∙ sym (ap tag_of (rolls-Array vs))
tag_at (Value-F.ScopedCode t fs) =
    ap (λ v. tag_of (ordered v)) (rolls-ScopedCode t fs) ∙ ap tag_of (ordered-ScopedCode t fs) ∙ tag-ScopedCode t (by_name (ordered_fields fs)) ∙ sym (tag-ScopedCode t fs) ∙ sym (ap tag_of (rolls-ScopedCode t fs))
tag_at f = ap tag_of (ordered_at f tt)

pub tag_same : (v : Value) → tag_of (ordered v) ≡ tag_of v
tag_same v = subst (λ (w : Value). tag_of (ordered w) ≡ tag_of w) (roll-out-Value v) (tag_at (out-Value v))

-- an element is put piece by piece
pub element_put : (out name : List ℕ) (tag : ℕ) (v : Value) → tag ≡ tag_of v → (((out ++ tag ∷ []) ++ name) ++ 0 ∷ []) ++ spelled (ordered v) ≡ out ++ element (name, spelling (ordered v))
element_put out name tag v k =
    let same : tag ≡ tag_of (ordered v) = k ∙ sym (tag_same v) in
    rw same (append_assoc ((out ++ tag_of (ordered v) ∷ []) ++ name) (0 ∷ []) (spelled (ordered v)) ∙ append_assoc (out ++ tag_of (ordered v) ∷ []) name (0 ∷ spelled (ordered v)) ∙ append_assoc out (tag_of (ordered v) ∷ []) (name ++ 0 ∷ spelled (ordered v)))

elements_more : (fs : Fields) (e : List ℕ × Value) → elements_of (fs ++ e ∷ []) ≡ elements_of fs ++ element (e.0, spelling e.1)
elements_more [] e = append-nil (element (e.0, spelling e.1))
elements_more (f ∷ fs) e =
    ap (λ (b : List ℕ). element (f.0, spelling f.1) ++ b) (elements_more fs e) ∙ sym (append_assoc (element (f.0, spelling f.1)) (elements_of fs) (element (e.0, spelling e.1)))

-- the step of the loop over the fields
pub field_put : (old now new : List ℕ) (es : List Elem) (i : ℕ) (e : Elem) → now ≡ old ++ elements_of (ordered_elems (take i es)) → i < length es → e ≡ get_or es i e
    → new ≡ now ++ element (e.name.now, spelling (ordered (elem_value e))) → new ≡ old ++ elements_of (ordered_elems (take (i + 1) es))
field_put old now new es i e so_far lt at put =
    let more : ordered_elems (take (i + 1) es) ≡ ordered_elems (take i es) ++ ordered_elem e ∷ [] = map_more ordered_elem es i e lt ∙ ap (λ x. ordered_elems (take i es) ++ ordered_elem x ∷ []) (sym at) in
    let one = element (e.name.now, spelling (ordered (elem_value e))) in
    put ∙ ap (λ (b : List ℕ). b ++ one) so_far ∙ append_assoc old (elements_of (ordered_elems (take i es))) one
    ∙ ap (λ (b : List ℕ). old ++ b) (sym (elements_more (ordered_elems (take i es)) (ordered_elem e)) ∙ ap elements_of (sym more))

pub spells_distinct : (b : List ℕ) (fs : Fields) → Spells b fs → AreDistinct (names_of fs)
unfolding Spells
spells_distinct b fs s = distinct_names s.1 b fs s.2

-- a count is written before the bytes that it counts
pub counted_put : (old o1 o2 o3 new zeros text doc : List ℕ) (start : ℕ) → start ≡ length old → o1 ≡ old ++ zeros → length zeros ≡ 4 → o2 ≡ o1 ++ text → o3 ≡ o2 ++ doc
    → new ≡ take start o3 ++ count_bytes (length o3 - start) ++ drop (start + 4) o3 → new ≡ old ++ counted (text ++ doc)
counted_put old o1 o2 o3 new zeros text doc start at one four two three put =
    let behind : o3 ≡ (old ++ zeros) ++ (text ++ doc) = three ∙ ap (λ z. z ++ doc) (two ∙ ap (λ z. z ++ text) one) ∙ append_assoc (old ++ zeros) text doc in
    let whole : o3 ≡ old ++ (zeros ++ (text ++ doc)) = behind ∙ append_assoc old zeros (text ++ doc) in
    let front : take start o3 ≡ old = ap (take start) whole ∙ take_at old (zeros ++ (text ++ doc)) start (sym at) in
    let back : drop (start + 4) o3 ≡ text ++ doc = ap (drop (start + 4)) behind ∙ drop_at (old ++ zeros) (text ++ doc) (start + 4) (omega (arith, at, four, length-append old zeros)) in
    let count : length o3 - start ≡ length (text ++ doc) + 4 = omega (arith, at, four, ap length behind, length-append (old ++ zeros) (text ++ doc), length-append old zeros) in
    rw (put, front, back, count) (append_assoc old (count_bytes (length (text ++ doc) + 4)) (text ++ doc))
