-- The elements in the bytes of a document or an array.
use Rattle.std.proofs.Common.{◌≡◌, ℕ, zero, suc, ◌+◌, ◌-◌, ◌≤◌, ◌⊎◌, inl, inr, Bool, true, false, List, [], ◌∷◌, ◌++◌, length, take, drop, map, refl, sym, ap, subst, ◌∙◌, append_assoc, arith}
use Rattle.std.specs.Prelude.{IsTrue, Option, None, Some, IfSome, MatchOption, option_map, if◌then◌else◌}
use Rattle.std.specs.Iterator.{Yields, YieldsFirstBy, SkipsThenYields}
use Rattle.std.specs.Str.{bytes_eq}
use Rattle.std.proofs.lemmas.List.{take_at, drop_at, length-append}
use Rattle.containers.specs.Entries.{lookup}
use Rattle.bson_value.specs.Digits.{index_of}
use Rattle.bson_value.specs.Place.{nth, at_index}
use Rattle.bson_value.specs.declared.value.Value.{Value, out-Value, roll-Value, roll-out-Value}
use Rattle.bson_value.specs.declared.value.Value.TheVariants as values
use Rattle.bson_value.specs.declared.value.Value.TheOpen.{Value-F}
use Rattle.bson_check.specs.Passing.{past_zero, jump}
use Rattle.bson_check.specs.Spells.{Spells, IsFrame, AreBytesOf, AreFields, AreItems, IsDocument, IsArray, type_byte}
use Rattle.bson_view.specs.declared.elem.Elem.{Elem}
use Rattle.bson_view.specs.Meaning.{is_document, document_in, AreValue, is_value, value_in}
use Rattle.bson_view.specs.Parts.{Part, part_value, values_of, fields_of, parts_in, parts_of, body_of, elements_in, AreElementsOf, AreElements, HasElements, SpellsValue}
use Rattle.bson_view.specs.Paths.{value_under, part_named, part_at_index, part_under}
use Rattle.bson_view.specs.Views.{elem_part, elem_value}
use Rattle.bson_view.specs.HeldWalk.{fields_in, items_in}
use Rattle.bson_view.proofs.Meanings.{checked_spells, checked_value}
use Rattle.bson_view.proofs.Parting.{fields_items, fields_are, items_are, names_are, bytes_are}

pub record InFrame (b elements : List ℕ) : Type 0 where
  pub body : body_of b ≡ elements
  pub long : 5 ≤ length b

pub in_frame : (b elements : List ℕ) → IsFrame b elements → InFrame b elements
in_frame b elements frame =
    let size : length b ≡ length elements + 5 = omega (arith, ap length frame.2, length-append (frame.0 ++ elements) (0 ∷ []), length-append frame.0 elements, frame.1.four) in
    let whole : b ≡ frame.0 ++ (elements ++ 0 ∷ []) = frame.2 ∙ append_assoc frame.0 elements (0 ∷ []) in
    let inner : take (length b - 5) (drop 4 b) ≡ elements =
    ap (λ z. take (length b - 5) (drop 4 z)) whole ∙ ap (take (length b - 5)) (drop_at frame.0 (elements ++ 0 ∷ []) 4 frame.1.four) ∙ take_at elements (0 ∷ []) (length b - 5) (omega (arith, size)) in
    record { body = inner; long = omega (arith, size) }

-- the same bytes as they are cut out
pub body_cut : (b : List ℕ) → take (length b - 1 - 4) (drop 4 b) ≡ body_of b
body_cut b = let k : length b - 1 - 4 ≡ length b - 5 = omega arith in ap (λ (n : ℕ). take n (drop 4 b)) k

-- ---- documents

pub record Body (b : List ℕ) (fs : List (List ℕ × Value)) : Type 0 where
  pub levels : ℕ
  pub spells : AreFields (SpellsValue levels) (body_of b) fs
  pub frame : IsFrame b (body_of b)
  pub long : 5 ≤ length b

pub body_by : (n : ℕ) (b : List ℕ) (fs : List (List ℕ × Value)) → IsDocument n b fs → Body b fs
unfolding IsDocument
body_by zero b fs d = absurd d
body_by (suc n) b fs d =
    let f = in_frame b d.0 d.1 in
    record {
      levels = n;
      spells = subst (λ (z : List ℕ). AreFields (SpellsValue n) z fs) (sym f.body) d.3;
      frame = subst (λ (z : List ℕ). IsFrame b z) (sym f.body) d.1;
      long = f.long;
    }

module _ (b : List ℕ) (fs : List (List ℕ × Value)) (body : Body b fs) where
  items : AreItems (SpellsValue body.levels) (body_of b) (map (λ e. e.1) fs)
  items = fields_items body.levels (body_of b) fs body.spells

  pub of_fields : HasElements b
  of_fields = (body.long, (body.levels, map (λ e. e.1) fs, items))

  pub fields_there : AreElementsOf (Value-F.Object fs) b (elements_in b)
  unfolding elements_in
  fields_there = (subst (λ (z : List ℕ). IsFrame b z) (sym (bytes_are body.levels (body_of b) (map (λ e. e.1) fs) items)) body.frame, fields_are body.levels (body_of b) fs body.spells)

pub document_has : (b : List ℕ) → IsTrue (is_document b) → HasElements b
unfolding Spells
document_has b h = let s = checked_spells b h in of_fields b (document_in b) (body_by s.1 b (document_in b) s.2)

pub document_elements : (b : List ℕ) → IsTrue (is_document b) → AreElementsOf (Value-F.Object (document_in b)) b (elements_in b)
unfolding Spells
document_elements b h = let s = checked_spells b h in fields_there b (document_in b) (body_by s.1 b (document_in b) s.2)

-- ---- arrays

record ArrayBody (b : List ℕ) (vs : List Value) : Type 0 where
  levels : ℕ
  spells : AreItems (SpellsValue levels) (body_of b) vs
  frame : IsFrame b (body_of b)
  long : 5 ≤ length b

array_by : (n : ℕ) (b : List ℕ) (vs : List Value) → IsArray n b vs → ArrayBody b vs
unfolding IsArray
array_by zero b vs d = absurd d
array_by (suc n) b vs d =
    let f = in_frame b d.0 d.1 in
    record {
      levels = n;
      spells = subst (λ (z : List ℕ). AreItems (SpellsValue n) z vs) (sym f.body) d.2;
      frame = subst (λ (z : List ℕ). IsFrame b z) (sym f.body) d.1;
      long = f.long;
    }

module _ (b : List ℕ) (vs : List Value) (body : ArrayBody b vs) where
  of_items : HasElements b
  of_items = (body.long, (body.levels, vs, body.spells))

  items_there : AreElementsOf (Value-F.Array vs) b (elements_in b)
  unfolding elements_in
  items_there = (subst (λ (z : List ℕ). IsFrame b z) (sym (bytes_are body.levels (body_of b) vs body.spells)) body.frame, items_are body.levels (body_of b) vs body.spells, names_are body.levels (body_of b) vs body.spells)

-- ---- values

-- a document's or an array's type
abbrev pub IsNested : ℕ → Type 0
IsNested tag = (tag ≡ 3) ⊎ (tag ≡ 4)

has_elements : (n : ℕ) (b : List ℕ) (f : Value-F Value) → AreBytesOf (IsDocument n) (IsArray n) b f → IsNested (type_byte f) → HasElements b
has_elements n b (Value-F.Object fs) s k = of_fields b fs (body_by n b fs s)
has_elements n b (Value-F.Array vs) s k = of_items b vs (array_by n b vs s)
has_elements n b _ s (inl e) = absurd (omega (arith, e))
has_elements n b _ s (inr e) = absurd (omega (arith, e))

pub value_has : (tag : ℕ) (b : List ℕ) → IsTrue (is_value tag b) → IsNested tag → HasElements b
value_has tag b h k =
    let s = checked_value tag b h in
    has_elements s.levels b (out-Value (value_in tag b)) s.spells (subst (λ (t : ℕ). IsNested t) s.kind k)

nested_elements : (n : ℕ) (b : List ℕ) (f : Value-F Value) → AreBytesOf (IsDocument n) (IsArray n) b f → IsNested (type_byte f) → AreElementsOf f b (elements_in b)
nested_elements n b (Value-F.Object fs) s k = fields_there b fs (body_by n b fs s)
nested_elements n b (Value-F.Array vs) s k = items_there b vs (array_by n b vs s)
nested_elements n b _ s (inl e) = absurd (omega (arith, e))
nested_elements n b _ s (inr e) = absurd (omega (arith, e))

pub value_elements : (tag : ℕ) (b : List ℕ) → IsTrue (is_value tag b) → IsNested tag → AreElementsOf (out-Value (value_in tag b)) b (elements_in b)
value_elements tag b h k =
    let s = checked_value tag b h in
    nested_elements s.levels b (out-Value (value_in tag b)) s.spells (subst (λ (t : ℕ). IsNested t) s.kind k)

no_elements : (b : List ℕ) (f : Value-F Value) → (type_byte f ≡ 3 → ⊥) → (type_byte f ≡ 4 → ⊥) → AreElementsOf f b []
no_elements b (Value-F.Object fs) h k = absurd (h refl)
no_elements b (Value-F.Array vs) h k = absurd (k refl)
no_elements b _ h k = refl

pub value_has_none : (tag : ℕ) (b : List ℕ) → IsTrue (is_value tag b) → (tag ≡ 3 → ⊥) → (tag ≡ 4 → ⊥) → AreElementsOf (out-Value (value_in tag b)) b []
value_has_none tag b h three four =
    let s = checked_value tag b h in
    no_elements b (out-Value (value_in tag b)) (λ e. three (s.kind ∙ e)) (λ e. four (s.kind ∙ e))

-- ---- names

pub named_value : (k : List ℕ) (ps : List Part) → option_map part_value (part_named k ps) ≡ lookup k (fields_of ps)
named_value k [] = refl
named_value k (p ∷ ps) = go (bytes_eq p.name k) (named_value k ps) where
  go : (r : Bool) → option_map part_value (part_named k ps) ≡ lookup k (fields_of ps) → option_map part_value (if r then Some p else part_named k ps) ≡ (if r then Some (part_value p) else lookup k (fields_of ps))
  go true more = refl
  go false more = more

nth_value : (ps : List Part) (n : ℕ) → option_map part_value (nth ps n) ≡ nth (values_of ps) n
nth_value [] n = refl
nth_value (p ∷ ps) zero = refl
nth_value (p ∷ ps) (suc n) = nth_value ps n

index_value : (ps : List Part) (o : Option ℕ) → option_map part_value (part_at_index ps o) ≡ at_index (values_of ps) o
index_value ps None = refl
index_value ps (Some n) = nth_value ps n

under_one : (n : ℕ) (b k : List ℕ) (f : Value-F Value) → AreBytesOf (IsDocument n) (IsArray n) b f → option_map part_value (part_under (type_byte f) (elements_in b) k) ≡ value_under f k
under_one n b k (Value-F.Object fs) s = named_value k (elements_in b) ∙ ap (lookup k) (fields_there b fs (body_by n b fs s)).1
under_one n b k (Value-F.Array vs) s = index_value (elements_in b) (index_of k) ∙ ap (λ ws. at_index ws (index_of k)) (items_there b vs (array_by n b vs s)).1
under_one n b k _ s = refl

-- the element under a name has the value under it
pub under_is : (tag : ℕ) (b k : List ℕ) → IsTrue (is_value tag b) → option_map part_value (part_under tag (elements_in b) k) ≡ value_under (out-Value (value_in tag b)) k
under_is tag b k h =
    let s = checked_value tag b h in
    ap (λ t. option_map part_value (part_under t (elements_in b) k)) s.kind ∙ under_one s.levels b k (out-Value (value_in tag b)) s.spells

pub value_of_part : (r : Option Elem) (o : Option Part) → option_map elem_part r ≡ o → option_map elem_value r ≡ option_map part_value o
value_of_part None o e = ap (option_map part_value) e
value_of_part (Some x) o e = ap (option_map part_value) e

-- ---- the element at an index

module _ {S A B : Type 0} (view : A → B) (rest : S → List B) where
  nth_along : (xs : List A) (s t : S) (n : ℕ) (r : Option A) (u : S) → Yields (YieldsFirstBy view rest) s xs t → YieldsFirstBy view rest t r u → MatchOption r (length xs ≤ n) (λ _. length xs ≡ n) → option_map view r ≡ nth (rest s) n
  nth_along [] s t n None u y st le = ap (λ l. nth l n) (sym (ap rest y ∙ st.0))
  nth_along [] s t n (Some x) u y st e = ap (λ l. nth l 0) (sym (ap rest y ∙ st)) ∙ ap (nth (rest s)) e
  nth_along (x ∷ xs) s t zero None u y st le = absurd (omega (arith, le))
  nth_along (x ∷ xs) s t zero (Some z) u y st e = absurd (omega (arith, e))
  nth_along (x ∷ xs) s t (suc n) None u y st le = nth_along xs y.0 t n None u y.2 st (omega (arith, le)) ∙ ap (λ l. nth l (suc n)) (sym y.1)
  nth_along (x ∷ xs) s t (suc n) (Some z) u y st e = nth_along xs y.0 t n (Some z) u y.2 st (omega (arith, e)) ∙ ap (λ l. nth l (suc n)) (sym y.1)

  pub nth_is : (s : S) (n : ℕ) (r : Option A) (u : S) → SkipsThenYields (YieldsFirstBy view rest) s n r u → option_map view r ≡ nth (rest s) n
  nth_is s n r u k = nth_along k.0 s k.1.0 n r u k.1.1 k.1.2 k.2

-- ---- there are fewer elements than bytes

parts_fit : (t : ℕ) (b : List ℕ) → length (parts_in t b) ≤ t
unfolding parts_in
parts_fit t [] = omega arith
parts_fit zero (x ∷ b) = omega arith
parts_fit (suc t) (x ∷ b) = omega (arith, parts_fit t (jump x (past_zero b)))

pub few_parts : (b : List ℕ) → length (parts_of b) ≤ length b
unfolding parts_of
few_parts b = parts_fit (length b) b

pub nth_none : {A : Type 0} (ps : List A) (n : ℕ) → length ps ≤ n → nth ps n ≡ None
nth_none [] n le = refl
nth_none (p ∷ ps) zero le = absurd (omega (arith, le))
nth_none (p ∷ ps) (suc n) le = nth_none ps n (omega (arith, le))

-- an index that no element has
pub no_item : (ps : List Part) (o : Option ℕ) (m : ℕ) → ((n : ℕ) → o ≡ Some n → m ≤ n) → length ps ≤ m → part_at_index ps o ≡ None
no_item ps None m h le = refl
no_item ps (Some n) m h le = nth_none ps n (omega (arith, h n refl, le))

pub nothing : ∥ AreElements [] ∥₁
nothing = ∣ (0, [], refl) ∣₁

-- what an element spells
pub some_checked : (r : Option Elem) → IfSome r (λ e. AreValue e.tag e.value.now (elem_value e))
some_checked None = tt
some_checked (Some e) = checked_value e.tag e.value.now e.spelled

-- ---- the elements of a document alone, and of an array alone

some_fields : (b : List ℕ) (ps : List Part) (f : Value-F Value) → type_byte f ≡ 3 → AreElementsOf f b ps → Some (fields_of ps) ≡ fields_in f
some_fields b ps (Value-F.Object fs) k s = ap (λ gs. Some gs) s.1
some_fields b ps _ k s = absurd (omega (arith, k))

no_fields : (f : Value-F Value) → (type_byte f ≡ 3 → ⊥) → None ≡ fields_in f
no_fields (Value-F.Object fs) k = absurd (k refl)
no_fields _ k = refl

some_items : (b : List ℕ) (ps : List Part) (f : Value-F Value) → type_byte f ≡ 4 → AreElementsOf f b ps → Some (values_of ps) ≡ items_in f
some_items b ps (Value-F.Array vs) k s = ap (λ ws. Some ws) s.1
some_items b ps _ k s = absurd (omega (arith, k))

no_items : (f : Value-F Value) → (type_byte f ≡ 4 → ⊥) → None ≡ items_in f
no_items (Value-F.Array vs) k = absurd (k refl)
no_items _ k = refl

module _ (e : Elem) where
  pub elem_fields : (ps : List Part) → e.tag ≡ 3 → AreElementsOf (out-Value (elem_value e)) e.value.now ps → Some (fields_of ps) ≡ fields_in (out-Value (elem_value e))
  elem_fields ps k s = some_fields e.value.now ps (out-Value (elem_value e)) (sym (checked_value e.tag e.value.now e.spelled).kind ∙ k) s

  pub elem_no_fields : (e.tag ≡ 3 → ⊥) → None ≡ fields_in (out-Value (elem_value e))
  elem_no_fields k = no_fields (out-Value (elem_value e)) (λ h. k ((checked_value e.tag e.value.now e.spelled).kind ∙ h))

  pub elem_items : (ps : List Part) → e.tag ≡ 4 → AreElementsOf (out-Value (elem_value e)) e.value.now ps → Some (values_of ps) ≡ items_in (out-Value (elem_value e))
  elem_items ps k s = some_items e.value.now ps (out-Value (elem_value e)) (sym (checked_value e.tag e.value.now e.spelled).kind ∙ k) s

  pub elem_no_items : (e.tag ≡ 4 → ⊥) → None ≡ items_in (out-Value (elem_value e))
  elem_no_items k = no_items (out-Value (elem_value e)) (λ h. k ((checked_value e.tag e.value.now e.spelled).kind ∙ h))

arrays : (b : List ℕ) (ps : List Part) (v : Value) → type_byte (out-Value v) ≡ 4 → AreElementsOf (out-Value v) b ps → values.Array (values_of ps) ≡ v
arrays b ps v e s = go (out-Value v) (roll-out-Value v) e s where
  go : (x : Value-F Value) → roll-Value x ≡ v → type_byte x ≡ 4 → AreElementsOf x b ps → values.Array (values_of ps) ≡ v
  go (Value-F.Array vs) r e s = ap values.Array s.1 ∙ sym (values.rolls-Array vs) ∙ r
  go _ r e s = absurd (omega (arith, e))

pub array_value : (e : Elem) (ps : List Part) → e.tag ≡ 4 → AreElementsOf (out-Value (elem_value e)) e.value.now ps → values.Array (values_of ps) ≡ elem_value e
array_value e ps is s = arrays e.value.now ps (elem_value e) (sym (checked_value e.tag e.value.now e.spelled).kind ∙ is) s

-- an index that no value has
pub no_value : (vs : List Value) (o : Option ℕ) (m : ℕ) → ((n : ℕ) → o ≡ Some n → m ≤ n) → length vs ≤ m → at_index vs o ≡ None
no_value vs None m h le = refl
no_value vs (Some n) m h le = nth_none vs n (omega (arith, h n refl, le))
