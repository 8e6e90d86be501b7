-- A delta of one touch, at most one level below the document, read as its entry.
use Rattle.std.proofs.Common.{◌≡◌, ℕ, suc, List, [], ◌∷◌, ◌++◌, Bool, true, false, refl, sym, ap, ◌∙◌, subst}
use Rattle.std.specs.Str.{bytes_eq}
use Rattle.std.proofs.lemmas.Slice.Eq.{bytes_eq-Decides}
use Rattle.std.specs.Prelude.{codes, option_map, ◌||◌, if◌then◌else◌, Option, Some, None, Ok, IfSome}
use Rattle.containers.specs.Entries.{lookup}
use Rattle.bson_value.specs.declared.value.Value.{Value, Value-F, out-Value}
use Rattle.bson_value.specs.declared.value.Ts.{Ts}
use Rattle.bson_view.specs.HeldWalk.{fields_in}
use Rattle.bson_value.specs.declared.namespace.NsName.{NsName}
use Rattle.doc_path.specs.declared.parts.Form.{Form}
use Rattle.doc_path.specs.declared.parts.Form.TheVariants.{V2}
use Rattle.doc_path.specs.declared.parts.Part.{Part}
use Rattle.doc_path.specs.declared.parts.Part.TheVariants.{Index, Name}
use Rattle.doc_path.specs.declared.touches.Touch.{Touch}
use Rattle.doc_path.specs.declared.touches.Touch.TheVariants.{Set, Unset}
use Rattle.entry_model.specs.declared.entry.Action.TheVariants.{Delta}
use Rattle.entry_model.specs.Reading.{Read, is_whole, namespace_of}
use Rattle.entry_model.specs.Spelling.{level_limit}
use Rattle.entry_model.specs.Touches.{touches_read}
use Rattle.entry_model.specs.Written.{Fields, a_name, d_name, i_name, u_name}
use Rattle.entry_reader.specs.FieldDeltas.{IsDelta, IsDeltaOf, IsFieldDelta, IsInDiff, IsOnlyField}
use Rattle.entry_reader.specs.declared.field_delta.FieldDelta.{FieldDelta}
use Rattle.entry_reader.specs.Parts.{change_at, delta_by, document_at, entry_by, id_at, text_at, update_by, whole_of}
use Rattle.entry_reader.specs.Singles.{IsSecondForm, IsTouchAt, edits_in, front_of, index_behind}
use Rattle.entry_model.specs.Edits.{mapped}
use Rattle.oplog_entry.specs.DiffFields.{at_front, behind_letter}
use Rattle.entry_reader.proofs.Changes.{change_read}
use Rattle.entry_reader.proofs.Elements.{sets_element}
use Rattle.entry_reader.proofs.Singles.{adds_one, goes_below, letter_is, object_is, second_form, sets_one, takes_one}

-- a document of one field
pub holds_one : (w : Value) (ds : Fields) (m n : List ℕ) (x : Value) → Some ds ≡ fields_in (out-Value w) → ds ≡ (m, x) ∷ [] → n ≡ m → out-Value w ≡ Value-F.Object ((n, x) ∷ [])
holds_one w ds m n x held one same = object_is (out-Value w) ds held ∙ ap (λ (l : Fields). Value-F.Object l) (one ∙ ap (λ (k : List ℕ). (k, x) ∷ []) (sym same))

module _ (front : Option (List Part)) (p : List Part) (k : List ℕ) (w : Value) (n : List ℕ) (x : Value) (at : p ≡ front_of front ++ Name n ∷ []) (is : out-Value w ≡ Value-F.Object ((n, x) ∷ [])) where
  set_there : (fresh : Bool) → Set (front_of front ++ Name n ∷ []) x fresh ≡ Set p x fresh
  set_there fresh = ap (λ (l : List Part). Set l x fresh) (sym at)

  -- a diff's field `u` or `i` with one field sets it
  pub sets_field : (bytes_eq k u_name || bytes_eq k i_name) ≡ true → IsInDiff front p (Some x) ((k, w) ∷ [])
  sets_field h = by (bytes_eq k u_name) refl h
    where
      by : (b : Bool) → bytes_eq k u_name ≡ b → (b || bytes_eq k i_name) ≡ true → IsInDiff front p (Some x) ((k, w) ∷ [])
      by true e g = (Set (front_of front ++ Name n ∷ []) x false, (false, set_there false), sets_one front k w n x is ((bytes_eq-Decides k u_name).0 e))
      by false e g = (Set (front_of front ++ Name n ∷ []) x true, (true, set_there true), adds_one front k w n x is ((bytes_eq-Decides k i_name).0 g))

  -- a field `d` with one field takes it out
  pub takes_field : bytes_eq k d_name ≡ true → IsInDiff front p None ((k, w) ∷ [])
  takes_field h = (Unset (front_of front ++ Name n ∷ []), ap Unset (sym at), takes_one front k w n x is ((bytes_eq-Decides k d_name).0 h))

-- an array's diff of one field with an index sets its element
pub sets_item : (f mark name : List ℕ) (n : ℕ) (x v : Value) → bytes_eq mark a_name ≡ true → Some n ≡ index_behind 117 name → IsInDiff (Some (Name f ∷ [])) (Name f ∷ (Index n ∷ [])) (Some x) ((mark, v) ∷ ((name, x) ∷ []))
sets_item f mark name n x v marked e =
    subst (λ (l : List ℕ). IsInDiff (Some (Name f ∷ [])) (Name f ∷ (Index n ∷ [])) (Some x) ((l, v) ∷ ((name, x) ∷ []))) (sym ((bytes_eq-Decides mark a_name).0 marked))
    (Set (Name f ∷ (Index n ∷ [])) x false, (false, refl), sets_element (Name f ∷ []) name x n e v)

-- the document's own diff says the touch
pub only_own : (p : List Part) (v : Option Value) (f : List ℕ × Value) → IsInDiff None p v (f ∷ []) → IsOnlyField p v f
only_own p v f i = (i.0, i.1, i.2 level_limit)

-- and so does a diff below it
pub only_below : (f k : List ℕ) (w : Value) (ds : Fields) (p : List Part) (v : Option Value) → f ≡ k → Some ds ≡ fields_in (out-Value w) → IsInDiff (Some (Name f ∷ [])) p v ds → IsOnlyField p v (115 ∷ k, w)
only_below f k w ds p v same held i = (i.0, i.1, goes_below None (Name f ∷ []) k w level_limit ds i.0 (ap (λ (l : List ℕ). Name l ∷ []) same) (object_is (out-Value w) ds held) (i.2 199))

pub only_named : (name k : List ℕ) (w : Value) (p : List Part) (v : Option Value) → Some k ≡ behind_letter 115 name → IsOnlyField p v (115 ∷ k, w) → IsOnlyField p v (name, w)
only_named name k w p v letter i = subst (λ (l : List ℕ). IsOnlyField p v (l, w)) (sym (letter_is 115 name k letter)) i

not_whole : (o d : Fields) → IsSecondForm o d → is_whole o ≡ false
not_whole o d p = ap is_whole p.4

-- the diff of a delta has one field, which says the touch
pub delta_is : (o d : Fields) (f : List ℕ × Value) (p : List Part) (v : Option Value) → IsSecondForm o d → d ≡ f ∷ [] → IsOnlyField p v f → IsDelta p v o
delta_is o d f p v form only i =
    let one : IsTouchAt None (suc level_limit) d i.0 = ap (λ (l : Fields). option_map (mapped (at_front [])) (edits_in None (suc level_limit) l)) only ∙ i.2 in
    (i.0, i.1, second_form form.0 form.1 d i.0 form.2 form.3 one o form.4, not_whole o d form)

-- the update of a delta with this `_id`
updated : (o : Fields) (id : Value) (t : Touch) (r : Read (Form × List Touch)) → r ≡ Ok (V2, t ∷ []) → is_whole o ≡ false → (if is_whole o then whole_of id (Some o) else delta_by id r) ≡ Some (Delta id V2 (t ∷ []))
updated o id t r e w = rw (w, e) refl

pub update_is : (op : Option (List ℕ)) (o2 : Option Fields) (o : Fields) (id : Value) (t : Touch) → op ≡ Some (codes "u") → id_at o2 ≡ Some id → touches_read (suc level_limit) o ≡ Ok (V2, t ∷ []) → is_whole o ≡ false →
    (h : Ts × List ℕ) (n : NsName) → namespace_of h.1 ≡ Some n → change_at (Some h) op (Some o) o2 ≡ Some (record { ts = h.0; ns = n; action = Delta id V2 (t ∷ []) })
update_is op o2 o id t is own read w h n name =
    (λ k. change_at (Some h) (is k) (Some o) o2)
    ∙ ((λ k. entry_by h.0 (name k) (update_by (Some o) (own k)))
    ∙ ap (entry_by h.0 (Some n)) (updated o id t (touches_read (suc level_limit) o) read w))

pub if_field : {A : Type 0} (r : Option A) (P Q : A → Type 0) → ((x : A) → P x → Q x) → IfSome r P → IfSome r Q
if_field None P Q f h = tt
if_field (Some x) P Q f h = f x h

-- the same of the fields of the entry
pub entry_is : (d : FieldDelta) (fs : Fields) (op : Option (List ℕ)) (o o2 : Option Fields) → op ≡ text_at (lookup (codes "op") fs) → o ≡ document_at (lookup (codes "o") fs) → o2 ≡ document_at (lookup (codes "o2") fs) → IsDeltaOf d op o o2 → IsFieldDelta d fs
entry_is d fs op o o2 is_op is_o is_o2 i =
    (i.0, i.1, λ h n head name. sym (change_read fs) ∙ ((λ k. change_at (head k) (sym is_op k) (sym is_o k) (sym is_o2 k)) ∙ i.2 h n name))
