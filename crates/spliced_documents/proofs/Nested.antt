-- A document in which a field of the document that a field holds is set.
use Rattle.std.proofs.Common.{◌≡◌, ℕ, zero, suc, ◌+◌, ◌<◌, ◌≤◌, ◌^◌, Bool, true, false, List, [], ◌∷◌, ◌++◌, length, map, refl, sym, ap, subst, ◌∙◌, append_assoc, arith, Option, Some, None, Result, Ok, Err}
use Rattle.std.specs.Prelude.{◌↔◌, if◌then◌else◌, IfOk, IfSome, IsSome}
use Rattle.std.specs.Str.{bytes_eq}
use Rattle.std.proofs.lemmas.List.{append-nil, length-append}
use Rattle.std.proofs.lemmas.Slice.Eq.{bytes_eq-Decides}
use Rattle.containers.specs.Entries.{lookup, put, without}
use Rattle.bson_value.specs.declared.value.Value.{Value, Value-F, fold-roll-Value, out-Value, roll-Value, roll-out-Value}
use Rattle.bson_value.specs.declared.value.Value.TheVariants.{Object, outs-Object, rolls-Object}
use Rattle.bson_value.specs.Levels.{largest, levels_in, levels_of}
use Rattle.bson_value.specs.Spelling.{Typed, document_text, element, spelling, spelling_step}
use Rattle.bson_value.specs.WellFormed.{AreBytes, IsName, IsWellFormed}
use Rattle.bson_value.proofs.Sizes.{levels-object}
use Rattle.bson_check.specs.Spells.{type_byte, AreBytesOf, AreFields, IsArray, IsDocument, IsFrame, Spells, SpellsWithin}
use Rattle.bson_check.proofs.Height.{document_bound, document_within}
use Rattle.bson_view.specs.Meaning.{AreValue}
use Rattle.std.specs.Coded.{Coded-set, coded_list, coded_ℕ}
use Rattle.std.proofs.Math.Logic.{∥∥₁_elim}
use Rattle.bson_view.specs.Parts.{Part, AreElements, AreElementsOf, bytes_of, elements_in, parts_of, SpellsValue}
use Rattle.bson_view.proofs.Bodies.{in_frame}
use Rattle.bson_view.proofs.Parting.{bytes_are}
use Rattle.spliced_documents.specs.Splicing.{cut, cut_below, enclosed, front_of, placed, rest_of, spliced, spliced_below, HoldsDocument, IsCutBelow, IsPutBelow, SpellsNew}
use Rattle.spliced_documents.proofs.Cut.{document_cut}
use Rattle.spliced_documents.proofs.Spellings.{field_spelled, spelling_cut, spelling_put}
use Rattle.spliced_documents.proofs.Whole.{alone, alone_levels, alone_size, document_placed, document_put, enclosed_is, placed_size, whole_size}

abbrev Fields : Type 0
Fields = List (List ℕ × Value)

object_spelling : (fs : Fields) → spelling (Object fs) ≡ (3, document_text fs)
object_spelling fs = ap (λ (v : Value). spelling v) (sym (rolls-Object fs)) ∙ fold-roll-Value Typed spelling_step (Value-F.Object fs)

-- a field has no more levels than the document below its own
pub field_levels : (k : List ℕ) (fs : Fields) (x : Value) → lookup k fs ≡ Some x → levels_in x ≤ largest (map (λ e. levels_in e.1) fs)
field_levels k [] x h = absurd cc
field_levels k (e ∷ es) x h = go (bytes_eq e.0 k) h (field_levels k es x) where
  go : (r : Bool) → (if r then Some e.1 else lookup k es) ≡ Some x → (lookup k es ≡ Some x → levels_in x ≤ largest (map (λ e. levels_in e.1) es)) → levels_in x ≤ largest (map (λ e. levels_in e.1) (e ∷ es))
  go true h later = let same : e.1 ≡ x = cc in omega (arith, ap (λ (v : Value). levels_in v) same)
  go false h later = omega (arith, later h)

-- a field that is found has a name
found_in : (n : ℕ) (b : List ℕ) (fs : Fields) → AreFields (SpellsValue n) b fs → (k : List ℕ) (x : Value) → lookup k fs ≡ Some x → IsName k
found_in n b [] s k x h = absurd cc
found_in n b (e ∷ es) s k x h = go (bytes_eq e.0 k) refl h (found_in n s.1 es s.4 k x) where
  go : (r : Bool) → bytes_eq e.0 k ≡ r → (if r then Some e.1 else lookup k es) ≡ Some x → (lookup k es ≡ Some x → IsName k) → IsName k
  go true is at later = subst IsName ((bytes_eq-Decides e.0 k).0 is) s.2
  go false is at later = later at

found_at : (n : ℕ) (b : List ℕ) (fs : Fields) → IsDocument n b fs → (k : List ℕ) (x : Value) → lookup k fs ≡ Some x → IsName k
unfolding IsDocument
found_at zero b fs d k x h = absurd d
found_at (suc n) b fs d k x h = found_in n d.0 fs d.3 k x h

pub found_name : (b : List ℕ) (fs : Fields) → Spells b fs → (k : List ℕ) (x : Value) → Some x ≡ lookup k fs → IsName k
unfolding Spells
found_name b fs s k x h = found_at s.1 b fs s.2 k x (sym h)

-- the document that bytes of its type are
pub record Inner (b : List ℕ) (x : Value) : Type 0 where
  pub fields : Fields
  pub is : x ≡ Object fields
  pub levels : ℕ
  pub spells : IsDocument levels b fields

inner_at : (n : ℕ) (b : List ℕ) (x : Value) (y : Value-F Value) → roll-Value y ≡ x → 3 ≡ type_byte y → AreBytesOf (IsDocument n) (IsArray n) b y → Inner b x
inner_at n b x (Value-F.Object gs) e k s = record { fields = gs; is = sym e ∙ rolls-Object gs; levels = n; spells = s }
inner_at n b x _ e k s = absurd (omega (arith, k))

pub inner_of : (b : List ℕ) (x : Value) → AreValue 3 b x → Inner b x
inner_of b x v = inner_at v.levels b x (out-Value x) (roll-out-Value x) v.kind v.spells

-- ---- the elements of bytes

lists_prop : (xs ys : List ℕ) → IsProp (xs ≡ ys)
lists_prop xs ys = Coded-set (coded_list coded_ℕ) xs ys

pub own_parts : (rest b : List ℕ) → ∥ AreElements rest ∥₁ → IsFrame b (bytes_of (parts_of rest)) → parts_of rest ≡ elements_in b
unfolding elements_in
own_parts rest b t frame =
    let whole : bytes_of (parts_of rest) ≡ rest = ∥∥₁_elim t (lists_prop (bytes_of (parts_of rest)) rest) (λ s. bytes_are s.0 rest s.1 s.2) in
    ap parts_of (sym whole ∙ sym (in_frame b (bytes_of (parts_of rest)) frame).body)

frame_at : (b : List ℕ) (ps : List Part) (y : Value-F Value) → 3 ≡ type_byte y → AreElementsOf y b ps → IsFrame b (bytes_of ps)
frame_at b ps (Value-F.Object gs) k s = s.0
frame_at b ps _ k s = absurd (omega (arith, k))

pub document_frame : (b : List ℕ) (ps : List Part) (x : Value) → AreValue 3 b x → AreElementsOf (out-Value x) b ps → IsFrame b (bytes_of ps)
document_frame b ps x v s = frame_at b ps (out-Value x) v.kind s

-- ---- another value in a field

-- a value's bytes behind a type and a name
pub one_field : (n : ℕ) (f : List ℕ) (t : ℕ) (new : List ℕ) (w : Value) → IsName f → t ≡ type_byte (out-Value w) → SpellsValue n new w → AreFields (SpellsValue n) (element (f, (t, new))) ((f, w) ∷ [])
one_field n f t new w name tag spells =
    let rest : f ++ 0 ∷ new ≡ (f ++ 0 ∷ []) ++ (new ++ []) = ap (λ (z : List ℕ). f ++ 0 ∷ z) (sym (append-nil new)) ∙ sym (append_assoc f (0 ∷ []) (new ++ [])) in
    (new, [], name, spells, refl, ap (λ (u : ℕ). u ∷ (f ++ 0 ∷ new)) tag ∙ ap (λ (z : List ℕ). type_byte (out-Value w) ∷ z) rest)

module _ (f : List ℕ) (t : ℕ) (new : List ℕ) (w : Value) (b : List ℕ) (fs : Fields) where
  abbrev own : List ℕ
  own = element (f, (t, new))

  pub value_size : length (placed f own b) ≡ length (front_of f (elements_in b)) + (length f + length new + 2) + length (rest_of f (elements_in b)) + 5
  value_size = omega (arith, placed_size f own b, length-append f (0 ∷ new))

  pub value_spells : Spells b fs → levels_of fs ≤ 100 → IsName f → t ≡ type_byte (out-Value w) → SpellsValue 99 new w → length (placed f own b) ≤ 16777216 → SpellsWithin 16777216 100 (placed f own b) (put f w fs)
  unfolding Spells
  value_spells s le name tag spells size =
      let all = document_placed f own b 99 w fs (one_field 99 f t new w name tag spells) (document_within s.1 100 b fs s.2 le) (omega (arith, size)) in
      record { spells = (omega (arith, size), 100, all); short = size; shallow = document_bound 100 (placed f own b) (put f w fs) all }

  pub value_text : Spells b fs → AreBytes b → (t, new) ≡ spelling w → b ≡ document_text fs → placed f own b ≡ document_text (put f w fs)
  value_text s h typed text = ap (λ (u : Typed). placed f (element (f, u)) b) typed ∙ spelling_put f w b fs s text h

-- ---- pieces that are put together

module _ (f : List ℕ) (t : ℕ) (made_inner new_inner b : List ℕ) (is_inner : made_inner ≡ new_inner) (outer_front outer_rest : List ℕ) (is_front : outer_front ≡ front_of f (elements_in b)) (is_rest : outer_rest ≡ rest_of f (elements_in b) ++ 0 ∷ []) where
  abbrev put_together : List ℕ
  put_together = element (f, (t, made_inner))

  abbrev new_own : List ℕ
  new_own = element (f, (t, new_inner))

  together_is : put_together ≡ new_own
  together_is = ap (λ (z : List ℕ). element (f, (t, z))) is_inner

  all_is : enclosed outer_front put_together outer_rest ≡ placed f new_own b
  all_is = ap (λ (z : List ℕ). enclosed outer_front z outer_rest) together_is ∙ enclosed_is f new_own b outer_front outer_rest is_front is_rest

  abbrev total : ℕ
  total = length outer_front + length put_together + length outer_rest + 4

  total_is : total ≡ length (placed f new_own b)
  total_is = omega (arith, placed_size f new_own b, ap length together_is, ap length is_front, ap length is_rest, length-append (rest_of f (elements_in b)) (0 ∷ []))

  pub all_made : {E : Type 0} (o : Result (Option (List ℕ)) E) → IfOk o (λ o. IfSome o (λ bytes. bytes ≡ enclosed outer_front put_together outer_rest)) → IfOk o (λ o. IfSome o (λ bytes. bytes ≡ placed f new_own b))
  all_made (Ok (Some bytes)) is = is ∙ all_is
  all_made (Ok None) is = tt
  all_made (Err e) is = tt

  pub all_fit : {E : Type 0} (o : Result (Option (List ℕ)) E) → IfOk o (λ o. IsSome o ↔ (total ≤ 16777216)) → IfOk o (λ o. IsSome o ↔ (length (placed f new_own b) ≤ 16777216))
  all_fit (Ok o) fits = (λ some. omega (arith, fits.0 some, total_is), λ h. fits.1 (omega (arith, h, total_is)))
  all_fit (Err e) fits = tt

  pub all_new : {E : Type 0} (meets : Fields → Type 0) (fs : Fields) → (length (placed f new_own b) ≤ 16777216 → SpellsNew meets b fs (placed f new_own b)) → (o : Result (Option (List ℕ)) E) →
      IfOk o (λ o. IfSome o (λ bytes. bytes ≡ enclosed outer_front put_together outer_rest)) → IfOk o (λ o. IsSome o ↔ (total ≤ 16777216)) → IfOk o (λ o. IfSome o (SpellsNew meets b fs))
  all_new meets fs new (Ok (Some bytes)) is fits = subst (λ (z : List ℕ). SpellsNew meets b fs z) (sym (is ∙ all_is)) (new (omega (arith, fits.0 refl, total_is)))
  all_new meets fs new (Ok None) is fits = tt
  all_new meets fs new (Err e) is fits = tt

-- ---- another document in a field that holds one

module _ (f inner b : List ℕ) (x : Value) (fs : Fields) (s : Spells b fs) (le : levels_of fs ≤ 100) (h : AreBytes b) (value : AreValue 3 inner x) (short : length inner < 2 ^ 31) (has : Some x ≡ lookup f fs) (holds : HoldsDocument f inner b) (name : IsName f) where
  it : Inner inner x
  it = inner_of inner x value

  found : lookup f fs ≡ Some (Object it.fields)
  found = sym has ∙ ap (λ (w : Value). Some w) it.is

  inner_document : IsDocument 99 inner it.fields
  inner_document = document_within it.levels 99 inner it.fields it.spells (omega (arith, le, levels-object it.fields, field_levels f fs (Object it.fields) found))

  inner_spells : Spells inner it.fields
  unfolding Spells
  inner_spells = (short, it.levels, it.spells)

  -- it spells new fields
  module _ (meets : Fields → Type 0) (new_inner : List ℕ) (gs : Fields) (meant : meets (put f (Object gs) fs)) (spells : length new_inner < 2 ^ 31 → IsDocument 99 new_inner gs) (text : AreBytes inner → inner ≡ document_text it.fields → new_inner ≡ document_text gs) where
    new_typed : b ≡ document_text fs → (3, new_inner) ≡ spelling (Object gs)
    new_typed is =
        let here = field_spelled f b fs s is h (record { name = f; tag = 3; value = inner }) (Object it.fields) holds found in
        ap (λ (z : List ℕ). (3, z)) (text here.1 (here.0 ∙ ap (λ (t : Typed). t.1) (object_spelling it.fields))) ∙ sym (object_spelling gs)

    new_made : length (placed f (element (f, (3, new_inner))) b) ≤ 16777216 → SpellsNew meets b fs (placed f (element (f, (3, new_inner))) b)
    new_made size =
        let d = spells (omega (arith, size, value_size f 3 new_inner (Object gs) b fs)) in
        let there = subst (λ (y : Value-F Value). AreBytesOf (IsDocument 99) (IsArray 99) new_inner y) (sym (outs-Object gs)) d in
        record {
          fields = put f (Object gs) fs;
          meant = meant;
          spells = value_spells f 3 new_inner (Object gs) b fs s le name (ap type_byte (sym (outs-Object gs))) there size;
          text = λ is. value_text f 3 new_inner (Object gs) b fs s h (new_typed is) is;
        }

  module _ (k : List ℕ) (v : Value) (inner_name : IsName k) (formed : IsWellFormed v) (shallow : levels_in v ≤ 98) where
    put_document : length (spliced k v inner) < 2 ^ 31 → IsDocument 99 (spliced k v inner) (put k v it.fields)
    unfolding Spells
    put_document small =
        let y = alone k v inner inner_name formed (omega (arith, small, alone_size k v, whole_size k v inner)) in
        document_put k v inner 98 it.fields inner_document (document_within y.1 99 (document_text ((k, v) ∷ [])) ((k, v) ∷ []) y.2 (omega (arith, shallow, alone_levels k v))) small

    pub put_made : length (spliced_below f k v inner b) ≤ 16777216 → SpellsNew (IsPutBelow f k v fs) b fs (spliced_below f k v inner b)
    put_made = new_made (IsPutBelow f k v fs) (spliced k v inner) (put k v it.fields) (it.fields, found, refl) put_document (λ bytes is. spelling_put k v inner it.fields inner_spells is bytes)

  -- the same with an element that is already spelled
  module _ (k : List ℕ) (v : Value) (one : List ℕ) (spelled_one : AreFields (SpellsValue 98) one ((k, v) ∷ [])) (is : placed k one inner ≡ spliced k v inner) where
    one_document : length (spliced k v inner) < 2 ^ 31 → IsDocument 99 (spliced k v inner) (put k v it.fields)
    one_document small =
        subst (λ (z : List ℕ). IsDocument 99 z (put k v it.fields)) is (document_placed k one inner 98 v it.fields spelled_one inner_document (subst (λ (z : List ℕ). length z < 2 ^ 31) (sym is) small))

    pub one_made : length (spliced_below f k v inner b) ≤ 16777216 → SpellsNew (IsPutBelow f k v fs) b fs (spliced_below f k v inner b)
    one_made = new_made (IsPutBelow f k v fs) (spliced k v inner) (put k v it.fields) (it.fields, found, refl) one_document (λ bytes is. spelling_put k v inner it.fields inner_spells is bytes)

  pub cut_made : (k : List ℕ) → length (cut_below f k inner b) ≤ 16777216 → SpellsNew (IsCutBelow f k fs) b fs (cut_below f k inner b)
  cut_made k = new_made (IsCutBelow f k fs) (cut k inner) (without k it.fields) (it.fields, found, refl) (document_cut k inner 98 it.fields inner_document) (λ bytes is. spelling_cut k inner it.fields inner_spells is bytes)
