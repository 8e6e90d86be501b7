-- The touches of an accepted update meet what reading them again asks.
use Rattle.std.proofs.Common.{◌≡◌, ◌≤◌, List, [], ◌∷◌, map, Bool, true, false, refl, sym, ap, ◌∙◌, subst, arith, Option, Some, None, inl, inr}
use Rattle.std.specs.Prelude.{is_some, Ok}
use Rattle.bson_value.specs.declared.value.Value.{Value, Object}
use Rattle.bson_value.specs.Levels.{levels_of, levels_in}
use Rattle.bson_value.proofs.Sizes.{levels-object}
use Rattle.doc_path.specs.declared.parts.Part.{Part}
use Rattle.doc_path.specs.declared.parts.Part.TheVariants.{Name as name, Index as index}
use Rattle.doc_path.specs.declared.parts.Form.{Form}
use Rattle.doc_path.specs.declared.parts.Form.TheVariants.{V1, V2}
use Rattle.doc_path.specs.declared.touches.Touch.{Touch}
use Rattle.doc_path.specs.declared.touches.Touch.TheVariants.{Set, Unset, Resize}
use Rattle.doc_path.specs.Touch.{Touch as Played}
use Rattle.doc_path.specs.Played.{NoneLeft, is_left, touch_of, way_and_last}
use Rattle.doc_path.specs.Places.{keys}
use Rattle.doc_path.specs.Ways.{value_in}
use Rattle.doc_path.proofs.Steps.{shape-object}
use Rattle.touch_laws.specs.Agree.{Records}
use Rattle.update_model.specs.declared.updated.Updated.{Updated}
use Rattle.update_model.specs.Arguments.{Fields}
use Rattle.update_model.specs.Reading.{operators, ops_fault}
use Rattle.update_model.specs.Updating.{updated}
use Rattle.update_model.specs.Updating as updating
use Rattle.update_model.proofs.NoneLeftAtOnce.{none_is_left}
use Rattle.update_replay.specs.Forms.{as_name, as_names, set_or_length, first_form, in_form}
use Rattle.update_replay.specs.Plain.{ArePlain as AreUndotted, IsPlainPlace, IsNamed, IsField, IsPlainTouch, ArePlainTouches}
use Rattle.update_replay.proofs.Replayed.{first_form_records, none_first}
use Rattle.update_replay.proofs.Lengths.{second_records}
use Rattle.update_replay.proofs.PlainTouches.{touches_are_plain}
use Rattle.entry_model.specs.Edits.{Sets, In, mapped}
use Rattle.entry_model.specs.Laws.{NewIsNamed, IsPlain, ArePlain}
use Rattle.entry_model.specs.Touches.{IsWritable, AreEnough, Writable, WrittenIsRead}
use Rattle.entry_model.specs.Spelling.{level_limit}
use Rattle.delta_laws.specs.Laws.{DeltaIsRead}

pub mapped_is : {A B : Type 0} (f : A → B) (xs : List A) → mapped f xs ≡ map f xs
mapped_is f [] = refl
mapped_is f (x ∷ xs) = ap (λ (z : List _). f x ∷ z) (mapped_is f xs)

-- ---- the second form

named_last : (p : Part) (ps : List Part) → IsField (p ∷ ps) → IsNamed (way_and_last p ps).1
named_last p [] h = h
named_last p (q ∷ ps) h = named_last q ps h

new_named : (p : Part) (a : Value) (fresh : Bool) → (fresh ≡ true → IsNamed p) → NewIsNamed (Sets p a fresh)
new_named (name k) a fresh h = tt
new_named (index n) a true h = absurd (h refl)
new_named (index n) a false h = refl

writable_second : (z : Value) (t : Touch) → IsPlainTouch z t → IsWritable V2 t
writable_second z (Set [] a fresh) h = absurd (h.0.0 refl)
writable_second z (Set (p ∷ ps) a fresh) h = (h.0.0, new_named (way_and_last p ps).1 a fresh (λ e. named_last p ps (h.1 e)))
writable_second z (Unset []) h = absurd (h.0 refl)
writable_second z (Unset (p ∷ ps)) h = (h.0, tt)
writable_second z (Resize [] n) h = absurd (h.0.0 refl)
writable_second z (Resize (p ∷ ps) n) h = (h.0.0, tt)

all_second : (z : Value) (ts : List Touch) → ArePlainTouches z ts → (t : Touch) → In t ts → IsWritable V2 t
all_second z [] h t i = absurd i
all_second z (u ∷ ts) h t (inl e) = subst (IsWritable V2) (sym e) (writable_second z u h.0)
all_second z (u ∷ ts) h t (inr i) = all_second z ts h.1 t i

-- ---- the first form

plain_name : (p : Part) (ps : List Part) → AreUndotted (keys (p ∷ ps)) → IsPlain (as_name p)
plain_name (name k) ps h = h.0
plain_name (index n) ps h = h.0

plain_way : (p : Part) (ps : List Part) → AreUndotted (keys (p ∷ ps)) → ArePlain (way_and_last (as_name p) (as_names ps)).0 × IsPlain (way_and_last (as_name p) (as_names ps)).1
plain_way p [] h = (tt, plain_name p [] h)
plain_way p (q ∷ ps) h = let r = plain_way q ps h.1 in ((plain_name p (q ∷ ps) h, r.0), r.1)

names_some : (ps : List Part) → (ps ≡ [] → ⊥) → as_names ps ≡ [] → ⊥
names_some [] h e = h refl
names_some (p ∷ ps) h e = cc

set_writable : (place : List Part) (a : Value) → IsPlainPlace place → IsWritable V1 (Set (as_names place) a false)
set_writable [] a h = absurd (h.0 refl)
set_writable (p ∷ ps) a h = let w = plain_way p ps h.1 in (names_some (p ∷ ps) h.0, w.0, (w.1, refl))

unset_writable : (place : List Part) → IsPlainPlace place → IsWritable V1 (Unset (as_names place))
unset_writable [] h = absurd (h.0 refl)
unset_writable (p ∷ ps) h = let w = plain_way p ps h.1 in (names_some (p ∷ ps) h.0, w.0, w.1)

writable_first : (z : Value) (t : Touch) → IsPlainTouch z t → IsWritable V1 (first_form z t)
writable_first z (Set place a fresh) h = set_writable place a h.0
writable_first z (Unset place) h = unset_writable place h
writable_first z (Resize place n) h = by (value_in place z) h.1
  where
    by : (o : Option Value) → is_some o ≡ true → IsWritable V1 (set_or_length (as_names place) n o)
    by None e = cc
    by (Some a) e = set_writable place a h.0

all_first : (z : Value) (ts : List Touch) → ArePlainTouches z ts → (t : Touch) → In t (map (first_form z) ts) → IsWritable V1 t
all_first z [] h t i = absurd i
all_first z (u ∷ ts) h t (inl e) = subst (IsWritable V1) (sym e) (writable_first z u h.0)
all_first z (u ∷ ts) h t (inr i) = all_first z ts h.1 t i

-- ---- either

recorded : (form : Form) (d doc : Fields) (u : Updated) → ops_fault d ≡ None → updated (operators d) doc ≡ Ok u → Records form (map touch_of (in_form form (Object u.doc) u.touches)) (Object doc) (Object u.doc)
recorded V1 d doc u s e = first_form_records (operators d) doc u e
recorded V2 d doc u s e = second_records d doc u s e

pub writable_each : (form : Form) (z : Value) (ts : List Touch) → ArePlainTouches z ts → (t : Touch) → In t (in_form form z ts) → IsWritable form t
writable_each V1 z ts h = all_first z ts h
writable_each V2 z ts h = all_second z ts h

pub enough : (form : Form) (fs : Fields) → levels_of fs ≤ updating.level_limit → AreEnough form level_limit (Object fs)
enough V1 fs l = tt
enough V2 fs l = levels_fit fs l
  where
    levels_fit : (fs : Fields) → levels_of fs ≤ updating.level_limit → levels_in (Object fs) ≤ level_limit
    levels_fit fs l = omega (arith, levels-object fs)

-- ---- none is left at once, in whatever order

left_in : (ts : List Touch) (t : Touch) → NoneLeft (map touch_of ts) → In t ts → is_left (touch_of t) ≡ false
left_in [] t n i = absurd i
left_in (u ∷ ts) t n (inl e) = ap (λ (x : Touch). is_left (touch_of x)) e ∙ n.0
left_in (u ∷ ts) t n (inr i) = left_in ts t n.1 i

none_left_in : (us : List Touch) → ((t : Touch) → In t us → is_left (touch_of t) ≡ false) → NoneLeft (map touch_of us)
none_left_in [] h = tt
none_left_in (u ∷ us) h = (h u (inl refl), none_left_in us (λ t i. h t (inr i)))

none_left : (form : Form) (d doc : Fields) (u : Updated) → ops_fault d ≡ None → updated (operators d) doc ≡ Ok u → NoneLeft (map touch_of (in_form form (Object u.doc) u.touches))
none_left V1 d doc u s e = none_first (Object u.doc) u.touches (none_is_left d doc u s e)
none_left V2 d doc u s e = none_is_left d doc u s e

pub delta_read : WrittenIsRead → DeltaIsRead
delta_read read form d doc u s e =
    let ts = in_form form (Object u.doc) u.touches in
    let plain = touches_are_plain d doc u s e in
    let writable : Writable form level_limit ts (Object doc) (Object u.doc) = record {
      records = subst (λ (z : List Played). Records form z (Object doc) (Object u.doc)) (sym (mapped_is touch_of ts)) (recorded form d doc u s e);
      document = shape-object u.doc;
      levels = enough form u.doc plain.1;
      each = writable_each form (Object u.doc) u.touches plain.0;
    } in
    let r = read form level_limit ts (Object doc) (Object u.doc) writable in
    (r.0, r.1, none_left_in r.0 (λ t i. left_in ts t (none_left form d doc u s e) (r.1.same.from t i)))
