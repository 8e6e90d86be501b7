-- A document in which an element of the array that a field holds is set.
use Rattle.std.proofs.Common.{◌≡◌, ℕ, ◌+◌, ◌<◌, ◌≤◌, ◌^◌, List, [], ◌∷◌, ◌++◌, length, refl, sym, ap, subst, ◌∙◌, append_assoc, arith, Some, Result, Ok, Err, Option}
use Rattle.std.specs.Prelude.{◌↔◌, IfOk, IsSome}
use Rattle.std.proofs.lemmas.List.{length-append}
use Rattle.containers.specs.Entries.{lookup, put}
use Rattle.bson_value.specs.declared.value.Value.{Value, Value-F, out-Value, roll-Value, roll-out-Value}
use Rattle.bson_value.specs.declared.value.Value.TheVariants.{Array, outs-Array, rolls-Array}
use Rattle.bson_value.specs.Levels.{levels_of}
use Rattle.bson_value.specs.Place.{put_item}
use Rattle.bson_value.specs.Spelling.{Typed, count_bytes, document_text, element, framed, items_of, spelling}
use Rattle.bson_value.specs.WellFormed.{AreBytes}
use Rattle.bson_value.proofs.Sizes.{levels-array}
use Rattle.bson_check.specs.Spells.{type_byte, AreBytesOf, IsArray, IsDocument, IsFrame, Spells}
use Rattle.bson_check.proofs.Height.{array_within}
use Rattle.bson_view.specs.Meaning.{AreValue, IsLeaf}
use Rattle.bson_view.specs.Parts.{Part, AreElementsOf, bytes_of, elements_in, SpellsValue}
use Rattle.bson_view.specs.Paths.{part_named}
use Rattle.spliced_documents.specs.Splicing.{enclosed, placed, FitsItem, IsItemPut, IsParted, SpellsNew}
use Rattle.spliced_documents.proofs.Items.{array_put, array_spelling, array_text, count_is, with_new}
use Rattle.spliced_documents.proofs.Nested.{field_levels, found_name, value_size, value_spells, value_text}
use Rattle.spliced_documents.proofs.Spellings.{field_spelled}

abbrev Fields : Type 0
Fields = List (List ℕ × Value)

-- the array that bytes of its type are
pub record Items (b : List ℕ) (x : Value) : Type 0 where
  pub items : List Value
  pub is : x ≡ Array items
  pub levels : ℕ
  pub spells : IsArray levels b items

items_at : (n : ℕ) (b : List ℕ) (x : Value) (y : Value-F Value) → roll-Value y ≡ x → 4 ≡ type_byte y → AreBytesOf (IsDocument n) (IsArray n) b y → Items b x
items_at n b x (Value-F.Array vs) e k s = record { items = vs; is = sym e ∙ rolls-Array vs; levels = n; spells = s }
items_at n b x _ e k s = absurd (omega (arith, k))

items_of_value : (b : List ℕ) (x : Value) → AreValue 4 b x → Items b x
items_of_value b x v = items_at v.levels b x (out-Value x) (roll-out-Value x) v.kind v.spells

frame_at : (b : List ℕ) (ps : List Part) (y : Value-F Value) → 4 ≡ type_byte y → AreElementsOf y b ps → IsFrame b (bytes_of ps)
frame_at b ps (Value-F.Array vs) k s = s.0
frame_at b ps _ k s = absurd (omega (arith, k))

pub array_frame : (b : List ℕ) (ps : List Part) (x : Value) → AreValue 4 b x → AreElementsOf (out-Value x) b ps → IsFrame b (bytes_of ps)
array_frame b ps x v s = frame_at b ps (out-Value x) v.kind s

-- a field of another type holds no array
pub no_array_fits : (f : List ℕ) (t : ℕ) (b : List ℕ) (x : Value) (fs : Fields) → AreValue t b x → Some x ≡ lookup f fs → (t ≡ 4 → ⊥) → (n : ℕ) (v : Value) → FitsItem f n v fs → ⊥
no_array_fits f t b x fs value has other n v fits =
    let both : Some x ≡ Some (Array fits.1.0) = has ∙ fits.1.1 in
    let e : x ≡ Array fits.1.0 = cc in
    other (value.kind ∙ ap (λ (w : Value). type_byte (out-Value w)) e ∙ ap type_byte (outs-Array fits.1.0))

one_array : (xs ys : List Value) → Array xs ≡ Array ys → xs ≡ ys
one_array xs ys e =
    let both : Value-F.Array xs ≡ Value-F.Array ys = sym (outs-Array xs) ∙ ap (λ (w : Value). out-Value w) e ∙ outs-Array ys in
    cc

-- pieces one after the other
framed_pieces : (front own rest : List ℕ) → enclosed front own (rest ++ 0 ∷ []) ≡ framed (front ++ (own ++ rest))
framed_pieces front own rest =
    let m : length front + length own + length (rest ++ 0 ∷ []) + 4 ≡ length (front ++ (own ++ rest)) + 5 = omega (arith, length-append rest (0 ∷ []), length-append front (own ++ rest), length-append own rest) in
    let c = count_bytes (length (front ++ (own ++ rest)) + 5) in
    ap (λ (z : ℕ). count_bytes z ++ front ++ own ++ (rest ++ 0 ∷ [])) m ∙ sym (append_assoc (c ++ front ++ own) rest (0 ∷ [])) ∙ ap (λ (z : List ℕ). z ++ 0 ∷ []) (append_assoc (c ++ front) own rest ∙ append_assoc c front (own ++ rest))

module _ (f b : List ℕ) (x : Value) (fs : Fields) (s : Spells b fs) (le : levels_of fs ≤ 100) (h : AreBytes b) (text : b ≡ document_text fs) (q : Part) (value : AreValue 4 q.value x) (short : length q.value < 2 ^ 31) (has : Some x ≡ lookup f fs) (holds : part_named f (elements_in b) ≡ Some q) where
  pub it : Items q.value x
  it = items_of_value q.value x value

  found : lookup f fs ≡ Some (Array it.items)
  found = sym has ∙ ap (λ (w : Value). Some w) it.is

  inner_array : IsArray 99 q.value it.items
  inner_array = array_within it.levels 99 q.value it.items it.spells (omega (arith, le, levels-array it.items, field_levels f fs (Array it.items) found))

  spelled_here : (q.value ≡ framed (items_of it.items)) × AreBytes q.value
  spelled_here =
      let here = field_spelled f b fs s text h q (Array it.items) holds found in
      (here.0 ∙ ap (λ (t : Typed). t.1) (array_spelling it.items), here.1)

  count : length (elements_in q.value) ≡ length it.items
  count = count_is 98 q.value it.items inner_array

  same_items : (xs : List Value) → lookup f fs ≡ Some (Array xs) → xs ≡ it.items
  same_items xs at = let both : Some (Array xs) ≡ Some (Array it.items) = sym at ∙ found in let e : Array xs ≡ Array it.items = cc in one_array xs it.items e

  -- the index is none of the array's
  pub none_fits : (n : ℕ) (v : Value) → length (elements_in q.value) ≤ n → FitsItem f n v fs → ⊥
  none_fits n v few fits =
      let same = same_items fits.1.0 fits.1.1 in
      omega (arith, few, count, fits.1.2, ap length same)

  module _ (n t : ℕ) (new : List ℕ) (v : Value) (leaf : IsLeaf (out-Value v)) (spells : SpellsValue 98 new v) (kind : t ≡ type_byte (out-Value v)) (typed : (t, new) ≡ spelling v) (front name rest : List ℕ) (g : IsParted n (elements_in q.value) front name rest) where
    abbrev pub items : List Value
    items = put_item it.items n v

    abbrev pub new_inner : List ℕ
    new_inner = framed (items_of items)

    abbrev own : List ℕ
    own = element (f, (4, new_inner))

    abbrev with_it : List ℕ
    with_it = with_new 98 t new v spells kind g.part g.behind g.before

    with_it_is : framed with_it ≡ new_inner
    with_it_is =
        array_text 98 t new v spells kind g.part g.behind typed g.before q.value it.items inner_array g.parts spelled_here.0 spelled_here.1 short ∙ ap (λ (m : ℕ). framed (items_of (put_item it.items m v))) g.count

    pub is_inner : enclosed front (element (name, (t, new))) rest ≡ new_inner
    is_inner =
        ap (λ (z : List ℕ). enclosed z (element (name, (t, new))) rest) g.front_is ∙ ap (λ (z : List ℕ). enclosed (bytes_of g.before) (element (z, (t, new))) rest) g.name_is ∙ ap (λ (z : List ℕ). enclosed (bytes_of g.before) (element (g.part.name, (t, new))) z) g.rest_is
        ∙ framed_pieces (bytes_of g.before) (element (g.part.name, (t, new))) (bytes_of g.behind) ∙ with_it_is

    new_array : length new_inner < 2 ^ 31 → IsArray 99 new_inner items
    new_array small =
        let made = array_put 98 t new v spells kind g.part g.behind g.before q.value it.items inner_array g.parts (subst (λ (z : List ℕ). length z < 2 ^ 31) (sym with_it_is) small) in
        subst (λ (z : List ℕ). IsArray 99 z items) with_it_is (subst (λ (m : ℕ). IsArray 99 (framed with_it) (put_item it.items m v)) g.count made)

    placed_text : placed f own b ≡ document_text (put f (Array items) fs)
    placed_text = value_text f 4 new_inner (Array items) b fs s h (sym (array_spelling items)) text

    within : n < length it.items
    within = omega (arith, count, g.count, ap length g.parts, length-append g.before (g.part ∷ g.behind))

    pub new_made : length (placed f own b) ≤ 16777216 → SpellsNew (IsItemPut f n v fs) b fs (placed f own b)
    new_made size =
        let d = new_array (omega (arith, size, value_size f 4 new_inner (Array items) b fs)) in
        let there = subst (λ (y : Value-F Value). AreBytesOf (IsDocument 99) (IsArray 99) new_inner y) (sym (outs-Array items)) d in
        record {
          fields = put f (Array items) fs;
          meant = (it.items, found, within, refl);
          spells = value_spells f 4 new_inner (Array items) b fs s le (found_name b fs s f x has) (ap type_byte (sym (outs-Array items))) there size;
          text = λ is. placed_text;
        }

    pub item_fits : {E : Type 0} (o : Result (Option (List ℕ)) E) → IfOk o (λ o. IsSome o ↔ (length (placed f own b) ≤ 16777216)) → IfOk o (λ o. IsSome o ↔ FitsItem f n v fs)
    item_fits (Ok o) fits = (
      λ some. (leaf, (it.items, found, within, subst (λ (z : List ℕ). length z ≤ 16777216) placed_text (fits.0 some))),
      λ k. fits.1 (subst (λ (z : List ℕ). length z ≤ 16777216) (sym placed_text) (subst (λ (xs : List Value). length (document_text (put f (Array (put_item xs n v)) fs)) ≤ 16777216) (same_items k.1.0 k.1.1) k.1.3)),
    )
    item_fits (Err e) fits = tt
