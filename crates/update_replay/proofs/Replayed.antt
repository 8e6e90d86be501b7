-- The touches of an accepted update, played on the document before it.
use Rattle.std.proofs.Common.{◌≡◌, ℕ, List, [], ◌∷◌, ◌++◌, map, Bool, true, false, refl, sym, ap, ◌∙◌, subst, arith, lit<, Option, Some, None}
use Rattle.std.specs.Prelude.{◌||◌, nat_lt, not}
use Rattle.std.specs.Str.{bytes_eq}
use Rattle.std.proofs.lemmas.Slice.Eq.{bytes_eq-Decides}
use Rattle.std.proofs.lemmas.Bool.{cases_Bool}
use Rattle.std.proofs.Common.{inl, inr}
use Rattle.bson_value.specs.declared.value.Value.{Value, Object}
use Rattle.bson_value.specs.Digits.{digits}
use Rattle.bson_value.proofs.Indexes.{other_digit}
use Rattle.std.proofs.lemmas.Nat.{mod_below}
use Rattle.doc_path.specs.declared.parts.Part.{Part}
use Rattle.doc_path.specs.declared.parts.Part.TheVariants.{Name as name, Index as index}
use Rattle.doc_path.specs.declared.parts.Form.TheVariants.{V1, V2}
use Rattle.doc_path.specs.declared.parts.Change.{Change}
use Rattle.doc_path.specs.declared.parts.Change.TheVariants.{Put, Delete, Resize as Length}
use Rattle.doc_path.specs.declared.touches.Touch.{Touch}
use Rattle.doc_path.specs.declared.touches.Touch.TheVariants.{Set as Sets, Unset as Unsets, Resize as Resizes}
use Rattle.doc_path.specs.Touch.{Touch as Played, Resize, limit}
use Rattle.doc_path.specs.Played.{id_name, starts_at_id, any_far, left_at, is_left, NoneLeft, way_and_last, touch_by, touch_at, touch_of}
use Rattle.doc_path.specs.Ways.{value_in}
use Rattle.touch_laws.specs.Agree.{Records}
use Rattle.touch_laws.proofs.Agreement.{record_is_alike}
use Rattle.update_model.specs.Touched.{whole, whole_at}
use Rattle.update_model.proofs.Recording.{update_is_recorded}
use Rattle.update_model.proofs.NoneLeftAtOnce.{none_is_left}
use Rattle.update_replay.specs.Forms.{as_name, as_names, named, set_or_length, first_form}
use Rattle.update_replay.specs.Laws.{first_forms, FirstFormRecords, FirstFormReplays, SecondFormReplays}
use Rattle.update_replay.proofs.Named.{names_recorded}
use Rattle.update_replay.proofs.Lengths.{second_records}

-- ---- the first form of a touch is the touch with names

way_named : (p : Part) (ps : List Part) → way_and_last (as_name p) (as_names ps) ≡ (as_names (way_and_last p ps).0, as_name (way_and_last p ps).1)
way_named p [] = refl
way_named p (q ∷ qs) = ap (λ (w : List Part × Part). (as_name p ∷ w.0, w.1)) (way_named q qs)

names_append : (ws : List Part) (p : Part) → as_names ws ++ (as_name p ∷ []) ≡ as_names (ws ++ (p ∷ []))
names_append [] p = refl
names_append (w ∷ ws) p = ap (λ (qs : List Part). as_name w ∷ qs) (names_append ws p)

by_named : (w : List Part × Part) (c : Change) → touch_by (as_names w.0, as_name w.1) c ≡ named (touch_by w c)
by_named w (Put a) = refl
by_named w Delete = refl
by_named w (Length n) = ap (λ (ps : List Part). Resize ps n) (names_append w.0 w.1)

at_named : (place : List Part) (c : Change) → touch_at (as_names place) c ≡ named (touch_at place c)
at_named [] c = refl
at_named (p ∷ ps) c = ap (λ (w : List Part × Part). touch_by w c) (way_named p ps) ∙ by_named (way_and_last p ps) c

length_named : (place : List Part) (n : ℕ) (o : Option Value) → touch_of (set_or_length (as_names place) n o) ≡ named (whole_at place n o)
length_named place n None = at_named place (Length n)
length_named place n (Some a) = at_named place (Put a)

first_named : (z : Value) (t : Touch) → touch_of (first_form z t) ≡ named (whole z t)
first_named z (Sets place a fresh) = at_named place (Put a)
first_named z (Unsets place) = at_named place Delete
first_named z (Resizes place n) = length_named place n (value_in place z)

all_first_named : (z : Value) (ts : List Touch) → map touch_of (map (first_form z) ts) ≡ map named (map (whole z) ts)
all_first_named z [] = refl
all_first_named z (t ∷ ts) = λ i. first_named z t i ∷ all_first_named z ts i

pub first_form_records : FirstFormRecords
first_form_records ops doc u e =
    subst (λ (ss : List Played). Records V1 ss (Object doc) (Object u.doc)) (sym (all_first_named (Object u.doc) u.touches))
    (names_recorded (map (whole (Object u.doc)) u.touches) (Object doc) (Object u.doc) (update_is_recorded ops doc u e))

-- ---- none is left at once

digits_no_id : (n : ℕ) → bytes_eq (digits n) id_name ≡ false
digits_no_id n =
    elim (cases_Bool (bytes_eq (digits n) id_name)) [
      | inl e ↦ absurd (other_digit n 100 (95 ∷ (105 ∷ [])) (λ d. let l = mod_below n 10 (lit< tt) in omega (arith, d, l)) (sym ((bytes_eq-Decides (digits n) id_name).0 e)))
      | inr e ↦ e
    ]

none_far : (ps : List Part) → any_far (as_names ps) ≡ false
none_far [] = refl
none_far (name k ∷ ps) = none_far ps
none_far (index n ∷ ps) = none_far ps

first_of : (a b : Bool) → a || b ≡ false → a ≡ false
first_of true b e = e
first_of false b e = refl

id_named : (ps : List Part) → starts_at_id ps ≡ false → starts_at_id (as_names ps) ≡ false
id_named [] e = refl
id_named (name k ∷ ps) e = e
id_named (index n ∷ ps) e = digits_no_id n

left_named : (ps : List Part) → left_at ps ≡ false → left_at (as_names ps) ≡ false
left_named ps e = rw (id_named ps (first_of (starts_at_id ps) (any_far ps) e), none_far ps) refl

-- whether a touch of a place is left at once is seen at its place
place_back : (p : Part) (ps : List Part) → (way_and_last p ps).0 ++ ((way_and_last p ps).1 ∷ []) ≡ p ∷ ps
place_back p [] = refl
place_back p (q ∷ qs) = ap (λ (rs : List Part). p ∷ rs) (place_back q qs)

left_put : (p : Part) (ps : List Part) (a : Value) → is_left (touch_at (p ∷ ps) (Put a)) ≡ left_at (p ∷ ps)
left_put p ps a = ap left_at (place_back p ps)

left_delete : (p : Part) (ps : List Part) → is_left (touch_at (p ∷ ps) Delete) ≡ left_at (p ∷ ps)
left_delete p ps = ap left_at (place_back p ps)

left_length : (p : Part) (ps : List Part) (n : ℕ) → is_left (touch_at (p ∷ ps) (Length n)) ≡ left_at (p ∷ ps) || not (nat_lt n limit)
left_length p ps n = ap (λ (rs : List Part). left_at rs || not (nat_lt n limit)) (place_back p ps)

-- a touch of an empty place is left at once
stays_empty : (c : Change) → is_left (touch_at [] c) ≡ false → ⊥
stays_empty c e = let f : true ≡ false = e in cc

put_stays : (place : List Part) (a : Value) → left_at place ≡ false → (place ≡ [] → ⊥) → is_left (touch_at (as_names place) (Put a)) ≡ false
put_stays [] a e some = absurd (some refl)
put_stays (p ∷ ps) a e some = left_put (as_name p) (as_names ps) a ∙ left_named (p ∷ ps) e

delete_stays : (place : List Part) → left_at place ≡ false → (place ≡ [] → ⊥) → is_left (touch_at (as_names place) Delete) ≡ false
delete_stays [] e some = absurd (some refl)
delete_stays (p ∷ ps) e some = left_delete (as_name p) (as_names ps) ∙ left_named (p ∷ ps) e

length_stays : (place : List Part) (n : ℕ) → is_left (touch_at place (Length n)) ≡ false → is_left (touch_at (as_names place) (Length n)) ≡ false
length_stays [] n e = e
length_stays (p ∷ ps) n e = left_length (as_name p) (as_names ps) n ∙ both (left_at (p ∷ ps)) (left_at (as_names (p ∷ ps))) (not (nat_lt n limit)) (left_named (p ∷ ps)) (sym (left_length p ps n) ∙ e)
  where
    both : (a b c : Bool) → (a ≡ false → b ≡ false) → a || c ≡ false → b || c ≡ false
    both true b c h e = absurd (let f : true ≡ false = e in cc)
    both false b c h e = rw (h refl) e

-- the place at which a touch isn't left at once
place_stays : (place : List Part) (c : Change) → is_left (touch_at place c) ≡ false → (left_at place ≡ false) × (place ≡ [] → ⊥)
place_stays [] c e = absurd (stays_empty c e)
place_stays (p ∷ ps) (Put a) e = (sym (left_put p ps a) ∙ e, λ s. cc)
place_stays (p ∷ ps) Delete e = (sym (left_delete p ps) ∙ e, λ s. cc)
place_stays (p ∷ ps) (Length n) e = (first_of (left_at (p ∷ ps)) (not (nat_lt n limit)) (sym (left_length p ps n) ∙ e), λ s. cc)

whole_stays : (place : List Part) (n : ℕ) (o : Option Value) → is_left (touch_at place (Length n)) ≡ false → is_left (touch_of (set_or_length (as_names place) n o)) ≡ false
whole_stays place n None e = length_stays place n e
whole_stays place n (Some a) e = let h = place_stays place (Length n) e in put_stays place a h.0 h.1

first_stays : (z : Value) (t : Touch) → is_left (touch_of t) ≡ false → is_left (touch_of (first_form z t)) ≡ false
first_stays z (Sets place a fresh) e = let h = place_stays place (Put a) e in put_stays place a h.0 h.1
first_stays z (Unsets place) e = let h = place_stays place Delete e in delete_stays place h.0 h.1
first_stays z (Resizes place n) e = whole_stays place n (value_in place z) e

pub none_first : (z : Value) (ts : List Touch) → NoneLeft (map touch_of ts) → NoneLeft (map touch_of (map (first_form z) ts))
none_first z [] h = tt
none_first z (t ∷ ts) h = (first_stays z t h.0, none_first z ts h.1)

pub first_form_replays : FirstFormReplays
first_form_replays d doc u sound e =
    record_is_alike V1 (map touch_of (first_forms u)) (Object doc) (Object u.doc)
    (none_first (Object u.doc) u.touches (none_is_left d doc u sound e))
    (first_form_records _ doc u e)

-- ---- the second form

pub second_form_replays : SecondFormReplays
second_form_replays d doc u sound e =
    record_is_alike V2 (map touch_of u.touches) (Object doc) (Object u.doc)
    (none_is_left d doc u sound e)
    (second_records d doc u sound e)
