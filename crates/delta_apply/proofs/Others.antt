-- A touch leaves the fields as they are to which it doesn't go.
use Rattle.std.proofs.Common.{◌≡◌, ℕ, Bool, true, false, cond, List, [], ◌∷◌, ◌++◌, filter, not, refl, ap, ◌∙◌, inl, inr, Option, Some, None}
use Rattle.std.specs.Str.{bytes_eq}
use Rattle.std.proofs.lemmas.Slice.Eq.{bytes_eq-Decides}
use Rattle.std.proofs.lemmas.Bool.{cases_Bool}
use Rattle.bson_value.specs.declared.value.Value.{Value, Value-F, out-Value, roll-Value}
use Rattle.bson_value.specs.declared.value.Value.TheVariants.{Object, outs-Object, rolls-Object}
use Rattle.containers.specs.Entries.{put as put_field, without}
use Rattle.bson_value.specs.Digits.{index_of}
use Rattle.bson_value.specs.Place.{Shape, shape, child, put_in, put, del_in, del, into}
use Rattle.doc_path.specs.declared.parts.Part.{Part}
use Rattle.doc_path.specs.declared.parts.Form.{Form}
use Rattle.doc_path.specs.declared.parts.Change.{Change}
use Rattle.doc_path.specs.declared.parts.Change.TheVariants.{Put, Delete, Resize as Length}
use Rattle.doc_path.specs.declared.touches.Touch.{Touch}
use Rattle.doc_path.specs.declared.touches.Touch.TheVariants.{Set as Sets, Unset as Unsets, Resize as Resizes}
use Rattle.doc_path.specs.Touch.{key_of, or_else, walk_by, set_by, unset_by, takes, made, set_last, unset_last, resize_here, play}
use Rattle.doc_path.specs.Played.{is_left, played, way_and_last, touch_by, touch_at, touch_of}
use Rattle.delta_apply.specs.Touched.{Field, place_of, untouched, is_touched}

-- the fields of a document
abbrev pub fields_in : Value-F Value → List Field
fields_in (Value-F.Object fs) = fs
fields_in _ = []

abbrev pub fields : Value → List Field
fields v = fields_in (out-Value v)

pub fields-object : (fs : List Field) → fields (Object fs) ≡ fs
fields-object fs = ap fields_in (outs-Object fs)

module _ (other : List ℕ → Bool) (name : List ℕ) where
  abbrev kept : List Field → List Field
  kept fs = filter (λ f. other f.0) fs

  pub kept-put : (v : Value) (fs : List Field) → other name ≡ false → kept (put_field name v fs) ≡ kept fs
  kept-put v [] h = rw h refl
  kept-put v (f ∷ fs) h =
      elim (cases_Bool (bytes_eq f.0 name)) [
        | inl e ↦ let n : f.0 ≡ name = (bytes_eq-Decides f.0 name).0 e in rw (e, n, h) refl
        | inr e ↦ rw e (ap (λ (gs : List Field). cond (other f.0) (f ∷ gs) gs) (kept-put v fs h))
      ]

  pub kept-without : (fs : List Field) → other name ≡ false → kept (without name fs) ≡ kept fs
  kept-without [] h = refl
  kept-without (f ∷ fs) h =
      elim (cases_Bool (bytes_eq f.0 name)) [
        | inl e ↦ let n : f.0 ≡ name = (bytes_eq-Decides f.0 name).0 e in rw (e, n, h) (kept-without fs h)
        | inr e ↦ rw e (ap (λ (gs : List Field). cond (other f.0) (f ∷ gs) gs) (kept-without fs h))
      ]

put-object : (fs : List Field) (k : List ℕ) (a : Value) → put (Object fs) k a ≡ Object (put_field k a fs)
unfolding put
put-object fs k a = ap (λ (f : Value-F Value). roll-Value (put_in f k (index_of k) a)) (outs-Object fs) ∙ rolls-Object (put_field k a fs)

del-object : (fs : List Field) (k : List ℕ) → del (Object fs) k ≡ Object (without k fs)
unfolding del
del-object fs k = ap (λ (f : Value-F Value). roll-Value (del_in f k (index_of k))) (outs-Object fs) ∙ rolls-Object (without k fs)

-- the fields of a value, but those that touches go to, are those of the document
abbrev pub SameOthers : List Touch → List Field → Value → Type 0
SameOthers ts fs v = untouched ts (fields v) ≡ untouched ts fs

module _ (ts : List Touch) (fs : List Field) (p : Part) (goes : is_touched ts (key_of p) ≡ true) where
  same : SameOthers ts fs (Object fs)
  same = ap (untouched ts) (fields-object fs)

  same-put : (a : Value) → SameOthers ts fs (put (Object fs) (key_of p) a)
  same-put a =
      ap (λ (v : Value). untouched ts (fields v)) (put-object fs (key_of p) a)
      ∙ (ap (untouched ts) (fields-object (put_field (key_of p) a fs))
      ∙ kept-put (λ n. not (is_touched ts n)) (key_of p) a fs (ap not goes))

  same-del : SameOthers ts fs (del (Object fs) (key_of p))
  same-del =
      ap (λ (v : Value). untouched ts (fields v)) (del-object fs (key_of p))
      ∙ (ap (untouched ts) (fields-object (without (key_of p) fs))
      ∙ kept-without (λ n. not (is_touched ts n)) (key_of p) fs (ap not goes))

  same-into : (g : Value → Value) (o : Option Value) → SameOthers ts fs (into g (Object fs) (key_of p) o)
  same-into g None = same
  same-into g (Some c) = same-put (g c)

  same-walk : (taken : Part → Shape → Bool) (d : Option Value) (ps : List Part) (g : Value → Value) → SameOthers ts fs (walk_by taken d (p ∷ ps) g (Object fs))
  same-walk taken d ps g =
      elim (cases_Bool (taken p (shape (Object fs)))) [
        | inl e ↦ rw e (same-into (walk_by taken d ps g) (or_else (child (Object fs) (key_of p)) d))
        | inr e ↦ rw e same
      ]

  same-set : (taken : Part → Shape → Bool) (a : Value) → SameOthers ts fs (set_by taken p a (Object fs))
  same-set taken a =
      elim (cases_Bool (taken p (shape (Object fs)))) [
        | inl e ↦ rw e (same-put a)
        | inr e ↦ rw e same
      ]

  same-unset : (taken : Part → Shape → Bool) → SameOthers ts fs (unset_by taken p (Object fs))
  same-unset taken =
      elim (cases_Bool (taken p (shape (Object fs)))) [
        | inl e ↦ rw e same-del
        | inr e ↦ rw e same
      ]

  same-play : (f : Form) (ps : List Part) (c : Change) → SameOthers ts fs (play f (touch_by (way_and_last p ps) c) (Object fs))
  same-play f [] (Put a) = same-set (takes f) a
  same-play f [] Delete = same-unset (takes f)
  same-play f [] (Length n) = same-walk (takes f) None [] (resize_here n)
  same-play f (q ∷ qs) (Put a) = same-walk (takes f) (made f) (way_and_last q qs).0 (set_last f (way_and_last q qs).1 a)
  same-play f (q ∷ qs) Delete = same-walk (takes f) None (way_and_last q qs).0 (unset_last f (way_and_last q qs).1)
  same-play f (q ∷ qs) (Length n) = same-walk (takes f) None ((way_and_last q qs).0 ++ ((way_and_last q qs).1 ∷ [])) (resize_here n)

  same-played : (f : Form) (ps : List Part) (c : Change) → SameOthers ts fs (played f (touch_at (p ∷ ps) c) (Object fs))
  same-played f ps c =
      elim (cases_Bool (is_left (touch_by (way_and_last p ps) c))) [
        | inl e ↦ rw e same
        | inr e ↦ rw e (same-play f ps c)
      ]

-- the first part of a place is one to which the touches go
abbrev pub GoesWith : List Touch → List Part → Type 0
GoesWith ts place = (p : Part) (ps : List Part) → place ≡ p ∷ ps → is_touched ts (key_of p) ≡ true

same-at : (f : Form) (ts : List Touch) (fs : List Field) (place : List Part) (c : Change) → GoesWith ts place → SameOthers ts fs (played f (touch_at place c) (Object fs))
same-at f ts fs [] c goes = ap (untouched ts) (fields-object fs)
same-at f ts fs (p ∷ ps) c goes = same-played ts fs p (goes p ps refl) f ps c

pub same-touch : (f : Form) (ts : List Touch) (fs : List Field) (t : Touch) → GoesWith ts (place_of t) → SameOthers ts fs (played f (touch_of t) (Object fs))
same-touch f ts fs (Sets place a fresh) goes = same-at f ts fs place (Put a) goes
same-touch f ts fs (Unsets place) goes = same-at f ts fs place Delete goes
same-touch f ts fs (Resizes place n) goes = same-at f ts fs place (Length n) goes
