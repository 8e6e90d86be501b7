-- The highest places that an update changed, each once, record it.
use Rattle.std.proofs.Common.{◌≡◌, ℕ, List, [], ◌∷◌, ◌++◌, Bool, true, false, refl, sym, ap, ◌∙◌, subst, inl, inr, map, Option, Some, None}
use Rattle.std.specs.Prelude.{◌||◌, ◌&&◌, if◌then◌else◌, Ok, Err}
use Rattle.std.specs.Str.{bytes_eq}
use Rattle.std.proofs.lemmas.Bool.{cases_Bool, and_parts}
use Rattle.bson_value.specs.declared.value.Value.{Value, Value-F, Object, out-Value, roll-Value, roll-out-Value}
use Rattle.bson_value.specs.declared.value.Value.TheVariants.{rolls-Object}
use Rattle.bson_value.specs.Place.{Place, Shape, a_leaf, an_array, an_object, a_code, shape_in, shape, child}
use Rattle.bson_value.proofs.Child.{same_name}
use Rattle.doc_path.specs.declared.parts.Part.{Part}
use Rattle.doc_path.specs.declared.parts.Part.TheVariants.{Name as name, Index as index}
use Rattle.doc_path.specs.declared.parts.Form.TheVariants.{V2}
use Rattle.doc_path.specs.Touch.{key_of, below, from_key, takes, Way, Touch}
use Rattle.doc_path.specs.Places.{keys}
use Rattle.doc_path.specs.Ways.{leads, under, value_from, value_in}
use Rattle.touch_laws.specs.Agree.{AllDone, Records}
use Rattle.update_model.specs.declared.mark.Mark.{Mark}
use Rattle.update_model.specs.Conflicts.{begins}
use Rattle.update_model.specs.Steps.{Trace, after, marks_of}
use Rattle.update_model.specs.Touched as spec
use Rattle.update_model.specs.Touched.{parts_of, place_of, stands_in, firsts, touched, touches, whole, whole_at}
use Rattle.update_model.proofs.MarkTerms.{mark_covers, any_mark, tops, at_keys, Ready, Stands, Steps as AreSteps, touch_by, touch_of, touches_of}
use Rattle.update_model.specs.Arguments.{Fields}
use Rattle.update_model.specs.declared.updated.Updated.{Updated}
use Rattle.update_model.specs.Updating.{fields_in, fields_of, Outcome, outcome, updated_by, updated}
use Rattle.update_model.specs.Laws.{UpdateIsRecorded}
use Rattle.update_model.proofs.ActsGo.{Traced, outcome_traced}
use Rattle.update_model.proofs.MarkTheory.{In, touches_cover, tops_in, top_stands, update_records, steps_frame}
use Rattle.doc_path.specs.Played.{touch_at}
use Rattle.doc_path.specs.declared.parts.Change.TheVariants.{Put, Delete}
use Rattle.doc_path.proofs.Last.{split-append}
use Rattle.doc_path.proofs.Cover.{root_below}
use Rattle.doc_path.proofs.Steps.{shape-object}
use Rattle.bson_value.proofs.Alike.{object_in}
use Rattle.touch_laws.proofs.Replay.{same_shape}
use Rattle.update_model.proofs.StepTheory.{or_parts_false}
use Rattle.touch_laws.proofs.Cover.{or_false}

-- ---- places

pub keys_more : (ps : List Part) (p : Part) → keys (ps ++ (p ∷ [])) ≡ keys ps ++ (key_of p ∷ [])
keys_more [] p = refl
keys_more (q ∷ ps) p = ap (λ (z : Place). key_of q ∷ z) (keys_more ps p)

and_true : (b : Bool) → b ≡ b && true
and_true true = refl
and_true false = refl

below_begins : (ps : List Part) (k : List ℕ) (q : Place) → below ps (from_key k) q ≡ begins (keys ps ++ (k ∷ [])) q
below_begins [] k [] = refl
below_begins [] k (j ∷ q) = and_true (bytes_eq k j)
below_begins (p ∷ ps) k [] = refl
below_begins (p ∷ ps) k (j ∷ q) = ap (λ (b : Bool). bytes_eq (key_of p) j && b) (below_begins ps k q)

pub covers_begins : (m : Mark) (q : Place) → mark_covers m q ≡ begins (place_of m) q
covers_begins m q = below_begins m.way (key_of m.last) q ∙ ap (λ (z : Place). begins z q) (sym (keys_more m.way m.last))

pub any_is : (ms : List Mark) (q : Place) → any_mark ms q ≡ spec.any_mark ms q
any_is [] q = refl
any_is (m ∷ ms) q = (λ i. covers_begins m q i || any_is ms q i)

pub tops_is : (all ms : List Mark) → tops all ms ≡ spec.tops all ms
tops_is all [] = refl
tops_is all (m ∷ ms) = (λ i. if any_is all (keys m.way) i then tops_is all ms i else m ∷ tops_is all ms i)

pub begins_both : (p q : Place) → begins p q ≡ true → begins q p ≡ true → p ≡ q
begins_both [] [] a b = refl
begins_both [] (k ∷ q) a b = cc
begins_both (j ∷ p) [] a b = cc
begins_both (j ∷ p) (k ∷ q) a b =
    let h = and_parts (bytes_eq j k) (begins p q) a in
    let g = and_parts (bytes_eq k j) (begins q p) b in
    (λ i. same_name j k h.0 i ∷ begins_both p q h.1 g.1 i)

-- ---- each place once

before_covers : (m : Mark) (seen : List Mark) (q : Place) → stands_in (place_of m) seen ≡ true → any_mark seen q ≡ false → mark_covers m q ≡ false
before_covers m [] q e f = cc
before_covers m (s ∷ seen) q e f =
    let h = or_parts_false (mark_covers s q) (any_mark seen q) f in
    elim (cases_Bool (begins (place_of s) (place_of m) && begins (place_of m) (place_of s))) [
      | inl c ↦ (let g = and_parts (begins (place_of s) (place_of m)) (begins (place_of m) (place_of s)) c in
          let same = begins_both (place_of s) (place_of m) g.0 g.1 in
          covers_begins m q ∙ (ap (λ (z : Place). begins z q) (sym same) ∙ (sym (covers_begins s q) ∙ h.0)))
      | inr c ↦ (let g : stands_in (place_of m) seen ≡ true = rw c at e in before_covers m seen q g h.1)
    ]

pub firsts_cover : (seen ms : List Mark) (q : Place) → any_mark seen q ≡ false → any_mark (firsts seen ms) q ≡ false → any_mark ms q ≡ false
firsts_cover seen [] q a b = refl
firsts_cover seen (m ∷ ms) q a b = by (stands_in (place_of m) seen) refl b (firsts_cover seen ms q a) (firsts_cover (m ∷ seen) ms q)
  where
    by : (c : Bool) → stands_in (place_of m) seen ≡ c → any_mark (if c then firsts seen ms else m ∷ firsts (m ∷ seen) ms) q ≡ false →
        (any_mark (firsts seen ms) q ≡ false → any_mark ms q ≡ false) → (any_mark (m ∷ seen) q ≡ false → any_mark (firsts (m ∷ seen) ms) q ≡ false → any_mark ms q ≡ false) → mark_covers m q || any_mark ms q ≡ false
    by true e f x y = or_false (mark_covers m q) (any_mark ms q) (before_covers m seen q e a) (x f)
    by false e f x y = let h = or_parts_false (mark_covers m q) (any_mark (firsts (m ∷ seen) ms) q) f in or_false (mark_covers m q) (any_mark ms q) h.0 (y (or_false (mark_covers m q) (any_mark seen q) h.0 a) h.1)

pub firsts_done : (z : Value) (seen ms : List Mark) → AllDone V2 (touches_of z ms) z → AllDone V2 (touches_of z (firsts seen ms)) z
firsts_done z seen [] d = tt
firsts_done z seen (m ∷ ms) d = by (stands_in (place_of m) seen) (firsts_done z seen ms d.1) (firsts_done z (m ∷ seen) ms d.1)
  where
    by : (c : Bool) → AllDone V2 (touches_of z (firsts seen ms)) z → AllDone V2 (touches_of z (firsts (m ∷ seen) ms)) z → AllDone V2 (touches_of z (if c then firsts seen ms else m ∷ firsts (m ∷ seen) ms)) z
    by true x y = x
    by false x y = (d.0, y)

pub firsts_in : (seen ms : List Mark) (m : Mark) → In m (firsts seen ms) → In m ms
firsts_in seen [] m h = absurd h
firsts_in seen (k ∷ ms) m h = by (stands_in (place_of k) seen) h (firsts_in seen ms m) (firsts_in (k ∷ seen) ms m)
  where
    by : (c : Bool) → In m (if c then firsts seen ms else k ∷ firsts (k ∷ seen) ms) → (In m (firsts seen ms) → In m ms) → (In m (firsts (k ∷ seen) ms) → In m ms) → In m (k ∷ ms)
    by true g x y = inr (x g)
    by false (inl e) x y = inl e
    by false (inr g) x y = inr (y g)

-- each that is touched was marked, and none stands above it
pub touched_in : (ms : List Mark) (m : Mark) → In m (touched ms) → In m ms × (any_mark ms (keys m.way) ≡ false)
touched_in ms m h = tops_in ms ms m (subst (λ (z : List Mark). In m z) (sym (tops_is ms ms)) (firsts_in [] (spec.tops ms ms) m h))

touched_records : (ss : Trace) (d z : Value) → AreSteps d ss z → Records V2 (touches_of z (touched (marks_of ss))) d z
touched_records ss d z s =
    let ms = marks_of ss in
    let r = update_records ss d z s in
    let all = tops ms ms in
    let same : firsts [] all ≡ touched ms = ap (firsts []) (tops_is ms ms) in
    subst (λ (k : List Mark). Records V2 (touches_of z k) d z) same (record {
      frame = λ q e. r.frame q (touches_cover z all q ∙ firsts_cover [] all q refl (sym (touches_cover z (firsts [] all) q) ∙ e));
      done = firsts_done z [] all r.done;
    })

-- ---- what stands at a mark

takes_leads : (p : Part) (s : Shape) → takes V2 p s ≡ true → leads p s ≡ true
takes_leads (name k) an_object e = refl
takes_leads (name k) an_array e = cc
takes_leads (name k) (a_leaf c) e = cc
takes_leads (name k) (a_code t) e = cc
takes_leads (index n) an_object e = cc
takes_leads (index n) an_array e = refl
takes_leads (index n) (a_leaf c) e = cc
takes_leads (index n) (a_code t) e = cc

under_taken : (p : Part) (v : Value) → takes V2 p (shape v) ≡ true → under p v ≡ child v (key_of p)
under_taken p v e = rw (takes_leads p (shape v) e) refl

last_value : (o : Option Value) → value_from o [] ≡ at_keys o []
last_value None = refl
last_value (Some v) = refl

pub value_at_mark : (ws : List Part) (p : Part) (v : Value) → Way V2 ws (Ready p) v → value_in (ws ++ (p ∷ [])) v ≡ at_keys (Some v) (keys ws ++ (key_of p ∷ []))
value_at_mark [] p v w = ap (λ (o : Option Value). value_from o []) (under_taken p v w.0) ∙ last_value (child v (key_of p))
value_at_mark (q ∷ ws) p v w =
    ap (λ (o : Option Value). value_from o (ws ++ (p ∷ []))) (under_taken q v w.0 ∙ w.2)
    ∙ (value_at_mark ws p w.1 w.3 ∙ ap (λ (o : Option Value). at_keys o (keys ws ++ (key_of p ∷ []))) (sym w.2))

as_whole : (z : Value) (m : Mark) (a : Value) (n : Option ℕ) → value_in (parts_of m) z ≡ Some a → whole z (spec.set_or_cut m a n) ≡ touch_at (parts_of m) (Put a)
as_whole z m a None e = refl
as_whole z m a (Some n) e = ap (whole_at (parts_of m) n) e

whole_by : (z : Value) (m : Mark) (o : Option Value) → value_in (parts_of m) z ≡ o → whole z (spec.touch_by m o) ≡ touch_by m o
whole_by z m None e = split-append m.way m.last Delete
whole_by z m (Some a) e = as_whole z m a (spec.cut_to_length m.made a) e ∙ split-append m.way m.last (Put a)

wholes_are : (z : Value) (ms : List Mark) → ((m : Mark) → In m ms → Stands m z) → map (whole z) (map (spec.touch_of z) ms) ≡ touches_of z ms
wholes_are z [] h = refl
wholes_are z (m ∷ ms) h =
    (λ i. (whole_by z m (value_in (parts_of m) z) refl ∙ ap (touch_by m) (value_at_mark m.way m.last z (h m (inl refl)))) i ∷ wholes_are z ms (λ n g. h n (inr g)) i)

-- the touches of an update, with whole arrays, record it
pub whole_records : (ss : Trace) (v : Value) → AreSteps v ss (after v ss) → Records V2 (map (whole (after v ss)) (touches (after v ss) (marks_of ss))) v (after v ss)
whole_records ss v s =
    let z = after v ss in
    let ms = marks_of ss in
    subst (λ (ts : List Touch). Records V2 ts v z) (sym (wholes_are z (touched ms) (λ m i. let h = touched_in ms m i in top_stands ss v z m s h.0 h.1))) (touched_records ss v z s)

-- ---- the document after an accepted update is a document

no_root : (ms : List Mark) → any_mark ms [] ≡ false
no_root [] = refl
no_root (m ∷ ms) = rw (root_below m.way (from_key (key_of m.last)) refl, no_root ms) refl

object_level : (f : Value-F Value) → an_object ≡ shape_in f → roll-Value (Value-F.Object (fields_in f)) ≡ roll-Value f
object_level f e = let r = object_in f e in ap (λ (g : Value-F Value). roll-Value (Value-F.Object (fields_in g))) r.1 ∙ sym (ap roll-Value r.1)

pub after_is_document : (ss : Trace) (doc : Fields) → AreSteps (Object doc) ss (after (Object doc) ss) → Object (fields_of (after (Object doc) ss)) ≡ after (Object doc) ss
unfolding shape
after_is_document ss doc s =
    let z = after (Object doc) ss in
    let same = same_shape z (Object doc) (steps_frame ss (Object doc) z s [] (no_root (marks_of ss))) in
    let kind : an_object ≡ shape_in (out-Value z) = sym (same ∙ shape-object doc) in
    sym (rolls-Object (fields_of z)) ∙ (object_level (out-Value z) kind ∙ roll-out-Value z)

-- ---- the law

recorded_by : (doc : Fields) (o : Outcome) (u : Updated) → Traced (Object doc) o → updated_by (Object doc) o ≡ Ok u → Records V2 (map (whole (Object u.doc)) u.touches) (Object doc) (Object u.doc)
recorded_by doc (Err f) u t e = cc
recorded_by doc (Ok ss) u t e =
    let is : record { doc = fields_of (after (Object doc) ss); touches = touches (after (Object doc) ss) (marks_of ss) } ≡ u = cc in
    subst (λ (w : Updated). Records V2 (map (whole (Object w.doc)) w.touches) (Object doc) (Object w.doc)) is
    (subst (λ (z : Value). Records V2 (map (whole z) (touches (after (Object doc) ss) (marks_of ss))) (Object doc) z) (sym (after_is_document ss doc t)) (whole_records ss (Object doc) t))

pub update_is_recorded : UpdateIsRecorded
unfolding updated
update_is_recorded ops doc u e = recorded_by doc (outcome ops false (Object doc)) u (outcome_traced ops false (Object doc)) e
