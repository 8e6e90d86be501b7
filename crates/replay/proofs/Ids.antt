-- A document that touches are played on stays a document, and keeps its `_id`.
use Rattle.std.proofs.Common.{◌≡◌, ℕ, Bool, true, false, List, [], ◌∷◌, ◌++◌, map, refl, sym, ap, ◌∙◌, arith, lit<, inl, inr, Option, Some, None}
use Rattle.std.specs.Prelude.{◌||◌, if◌then◌else◌}
use Rattle.std.specs.Str.{bytes_eq}
use Rattle.std.proofs.lemmas.Slice.Eq.{bytes_eq-Decides}
use Rattle.std.proofs.lemmas.Bool.{cases_Bool}
use Rattle.std.proofs.lemmas.Nat.{mod_below}
use Rattle.containers.specs.Entries.{lookup, put as put_field, without}
use Rattle.bson_value.specs.declared.value.Value.{Value, Value-F, roll-Value}
use Rattle.bson_value.specs.declared.value.Value.TheVariants.{Object, outs-Object, rolls-Object}
use Rattle.bson_value.specs.Digits.{index_of, digits}
use Rattle.bson_value.specs.Place.{Shape, shape, child, put_in, put, del_in, del, into}
use Rattle.bson_value.proofs.Indexes.{other_digit}
use Rattle.bson_encode.specs.Key.{key_of as key_of_value}
use Rattle.doc_path.specs.declared.parts.Part.{Part}
use Rattle.doc_path.specs.declared.parts.Part.TheVariants.{Name as name, Index as index}
use Rattle.doc_path.specs.declared.parts.Form.{Form}
use Rattle.doc_path.specs.declared.parts.Change.{Change}
use Rattle.doc_path.specs.declared.parts.Change.TheVariants.{Put, Delete, Resize as Length}
use Rattle.doc_path.specs.declared.touches.Touch.{Touch}
use Rattle.doc_path.specs.declared.touches.Touch.TheVariants.{Set as Sets, Unset as Unsets, Resize as Resizes}
use Rattle.doc_path.specs.Touch.{key_of, or_else, walk_by, set_by, unset_by, takes, made, set_last, unset_last, resize_here, play}
use Rattle.doc_path.specs.Played.{id_name, is_id, any_far, left_at, is_left, played, played_all, way_and_last, touch_by, touch_at, touch_of}
use Rattle.coll_state.specs.Rows.{id_of, key_in}
use Rattle.delta_apply.proofs.Others.{fields, fields-object}
use Rattle.entry_model.proofs.Touched.{parted}

abbrev Field : Type 0
Field = List ℕ × Value

pub put_object : (fs : List Field) (k : List ℕ) (a : Value) → put (Object fs) k a ≡ Object (put_field k a fs)
unfolding put
put_object fs k a = ap (λ (f : Value-F Value). roll-Value (put_in f k (index_of k) a)) (outs-Object fs) ∙ rolls-Object (put_field k a fs)

pub del_object : (fs : List Field) (k : List ℕ) → del (Object fs) k ≡ Object (without k fs)
unfolding del
del_object fs k = ap (λ (f : Value-F Value). roll-Value (del_in f k (index_of k))) (outs-Object fs) ∙ rolls-Object (without k fs)

-- ---- fields of another name

put_else : (k : List ℕ) (a : Value) (fs : List Field) → bytes_eq k id_name ≡ false → lookup id_name (put_field k a fs) ≡ lookup id_name fs
put_else k a [] e = rw e refl
put_else k a (f ∷ fs) e =
    elim (cases_Bool (bytes_eq f.0 k)) [
      | inl h ↦ let n : f.0 ≡ k = (bytes_eq-Decides f.0 k).0 h in rw (h, n, e) refl
      | inr h ↦ rw h (ap (λ (z : Option Value). if bytes_eq f.0 id_name then Some f.1 else z) (put_else k a fs e))
    ]

without_else : (k : List ℕ) (fs : List Field) → bytes_eq k id_name ≡ false → lookup id_name (without k fs) ≡ lookup id_name fs
without_else k [] e = refl
without_else k (f ∷ fs) e =
    elim (cases_Bool (bytes_eq f.0 k)) [
      | inl h ↦ let n : f.0 ≡ k = (bytes_eq-Decides f.0 k).0 h in rw (h, n, e) (without_else k fs e)
      | inr h ↦ rw h (ap (λ (z : Option Value). if bytes_eq f.0 id_name then Some f.1 else z) (without_else k fs e))
    ]

-- the value is a document with the same `_id`
abbrev pub Keeps : List Field → Value → Type 0
Keeps fs v = (gs : List Field) × (v ≡ Object gs) × (lookup id_name gs ≡ lookup id_name fs)

stays : (fs : List Field) → Keeps fs (Object fs)
stays fs = (fs, refl, refl)

module _ (fs : List Field) (p : Part) (other : bytes_eq (key_of p) id_name ≡ false) where
  keeps_put : (a : Value) → Keeps fs (put (Object fs) (key_of p) a)
  keeps_put a = (put_field (key_of p) a fs, put_object fs (key_of p) a, put_else (key_of p) a fs other)

  keeps_del : Keeps fs (del (Object fs) (key_of p))
  keeps_del = (without (key_of p) fs, del_object fs (key_of p), without_else (key_of p) fs other)

  keeps_into : (g : Value → Value) (o : Option Value) → Keeps fs (into g (Object fs) (key_of p) o)
  keeps_into g None = stays fs
  keeps_into g (Some c) = keeps_put (g c)

  keeps_walk : (taken : Part → Shape → Bool) (d : Option Value) (ps : List Part) (g : Value → Value) → Keeps fs (walk_by taken d (p ∷ ps) g (Object fs))
  keeps_walk taken d ps g =
      elim (cases_Bool (taken p (shape (Object fs)))) [
        | inl e ↦ rw e (keeps_into (walk_by taken d ps g) (or_else (child (Object fs) (key_of p)) d))
        | inr e ↦ rw e (stays fs)
      ]

  keeps_set : (taken : Part → Shape → Bool) (a : Value) → Keeps fs (set_by taken p a (Object fs))
  keeps_set taken a =
      elim (cases_Bool (taken p (shape (Object fs)))) [
        | inl e ↦ rw e (keeps_put a)
        | inr e ↦ rw e (stays fs)
      ]

  keeps_unset : (taken : Part → Shape → Bool) → Keeps fs (unset_by taken p (Object fs))
  keeps_unset taken =
      elim (cases_Bool (taken p (shape (Object fs)))) [
        | inl e ↦ rw e keeps_del
        | inr e ↦ rw e (stays fs)
      ]

  keeps_play : (f : Form) (ps : List Part) (c : Change) → Keeps fs (play f (touch_by (way_and_last p ps) c) (Object fs))
  keeps_play f [] (Put a) = keeps_set (takes f) a
  keeps_play f [] Delete = keeps_unset (takes f)
  keeps_play f [] (Length n) = keeps_walk (takes f) None [] (resize_here n)
  keeps_play f (q ∷ qs) (Put a) = keeps_walk (takes f) (made f) (way_and_last q qs).0 (set_last f (way_and_last q qs).1 a)
  keeps_play f (q ∷ qs) Delete = keeps_walk (takes f) None (way_and_last q qs).0 (unset_last f (way_and_last q qs).1)
  keeps_play f (q ∷ qs) (Length n) = keeps_walk (takes f) None ((way_and_last q qs).0 ++ ((way_and_last q qs).1 ∷ [])) (resize_here n)

-- ---- what isn't left at once goes to another field

digits_no_id : (n : ℕ) → bytes_eq (digits n) id_name ≡ false
digits_no_id n =
    elim (cases_Bool (bytes_eq (digits n) id_name)) [
      | inl e ↦ absurd (other_digit n 100 (95 ∷ (105 ∷ [])) (λ d. let l = mod_below n 10 (lit< tt) in omega (arith, d, l)) (sym ((bytes_eq-Decides (digits n) id_name).0 e)))
      | inr e ↦ e
    ]

other_part : (p : Part) → is_id p ≡ false → bytes_eq (key_of p) id_name ≡ false
other_part (name k) e = e
other_part (index n) e = digits_no_id n

first_of : (a b : Bool) → a || b ≡ false → a ≡ false
first_of true b e = e
first_of false b e = refl

no_id_at : (p : Part) (ps : List Part) → left_at ((way_and_last p ps).0 ++ ((way_and_last p ps).1 ∷ [])) ≡ false → is_id p ≡ false
no_id_at p ps e = first_of (is_id p) (any_far (p ∷ ps)) (sym (ap left_at (parted p ps)) ∙ e)

no_id_first : (p : Part) (ps : List Part) (c : Change) → is_left (touch_by (way_and_last p ps) c) ≡ false → is_id p ≡ false
no_id_first p ps (Put a) e = no_id_at p ps e
no_id_first p ps Delete e = no_id_at p ps e
no_id_first p ps (Length n) e = no_id_at p ps (first_of (left_at ((way_and_last p ps).0 ++ ((way_and_last p ps).1 ∷ []))) _ e)

keeps_at : (f : Form) (fs : List Field) (place : List Part) (c : Change) → Keeps fs (played f (touch_at place c) (Object fs))
keeps_at f fs [] c = stays fs
keeps_at f fs (p ∷ ps) c =
    elim (cases_Bool (is_left (touch_by (way_and_last p ps) c))) [
      | inl e ↦ rw e (stays fs)
      | inr e ↦ rw e (keeps_play fs p (other_part p (no_id_first p ps c e)) f ps c)
    ]

keeps_touch : (f : Form) (fs : List Field) (t : Touch) → Keeps fs (played f (touch_of t) (Object fs))
keeps_touch f fs (Sets place a fresh) = keeps_at f fs place (Put a)
keeps_touch f fs (Unsets place) = keeps_at f fs place Delete
keeps_touch f fs (Resizes place n) = keeps_at f fs place (Length n)

keeps_all : (f : Form) (ts : List Touch) (fs : List Field) → Keeps fs (played_all f (map touch_of ts) (Object fs))
keeps_all f [] fs = stays fs
keeps_all f (t ∷ ts) fs =
    let one = keeps_touch f fs t in
    let more = keeps_all f ts one.0 in
    (more.0, ap (played_all f (map touch_of ts)) one.1 ∙ more.1, more.2 ∙ one.2)

-- the `_id` after the touches
pub id_kept : (f : Form) (ts : List Touch) (fs gs : List Field) → Object gs ≡ played_all f (map touch_of ts) (Object fs) → id_of gs ≡ id_of fs
id_kept f ts fs gs e =
    let all = keeps_all f ts fs in
    ap (λ (hs : List Field). lookup id_name hs) (sym (fields-object gs) ∙ (ap fields (e ∙ all.1) ∙ fields-object all.0)) ∙ all.2

-- ---- an `_id` that is put

lookup_put : (v : Value) (fs : List Field) → lookup id_name (put_field id_name v fs) ≡ Some v
lookup_put v [] = refl
lookup_put v (f ∷ fs) =
    elim (cases_Bool (bytes_eq f.0 id_name)) [
      | inl h ↦ rw h refl
      | inr h ↦ rw h (rw h (lookup_put v fs))
    ]

pub id_put : (v : Value) (fs : List Field) → id_of (put_field id_name v fs) ≡ Some v
id_put v fs = lookup_put v fs

pub key_put : (v : Value) (fs : List Field) → key_in (id_of (put_field id_name v fs)) ≡ key_of_value v
key_put v fs = ap key_in (id_put v fs)
