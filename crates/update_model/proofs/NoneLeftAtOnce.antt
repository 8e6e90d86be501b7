-- The touches of an update are none of those that replay leaves at once, and there are some where there are marks.
use Rattle.std.proofs.Common.{◌≡◌, ℕ, zero, suc, ◌≤◌, List, [], ◌∷◌, ◌++◌, length, Bool, true, false, refl, sym, ap, ◌∙◌, subst, map, arith, Option, Some, None, inl, inr}
use Rattle.std.specs.Prelude.{◌||◌, nat_lt, not, if◌then◌else◌, Ok, Err}
use Rattle.std.proofs.lemmas.Bool.{cases_Bool}
use Rattle.bson_value.specs.declared.value.Value.{Value, Value-F, Object, out-Value}
use Rattle.bson_value.specs.Place.{Shape, a_leaf, an_array, an_object, a_code, shape}
use Rattle.doc_path.specs.declared.parts.Part.{Part}
use Rattle.doc_path.specs.declared.parts.Part.TheVariants.{Name as name, Index as index}
use Rattle.doc_path.specs.declared.parts.Form.TheVariants.{V2}
use Rattle.doc_path.specs.declared.parts.Change.TheVariants.{Put, Delete, Resize as Length}
use Rattle.doc_path.specs.declared.touches.Touch.{Touch as Recorded}
use Rattle.doc_path.specs.Touch.{key_of, limit, takes, Way, Touch}
use Rattle.doc_path.specs.Places.{keys}
use Rattle.doc_path.specs.Played.{starts_at_id, is_far, any_far, left_at, is_left, NoneLeft, touch_at, touch_of}
use Rattle.doc_path.specs.Ways.{value_in}
use Rattle.doc_path.proofs.Last.{split-append}
use Rattle.update_model.specs.declared.mark.Mark.{Mark}
use Rattle.update_model.specs.declared.mark.Made.{Made}
use Rattle.update_model.specs.declared.mark.Made.TheVariants as made
use Rattle.update_model.specs.declared.updated.Updated.{Updated}
use Rattle.update_model.specs.Arguments.{Fields}
use Rattle.update_model.specs.Steps.{Trace, after, marks_of}
use Rattle.update_model.specs.Touched as spec
use Rattle.update_model.specs.Touched.{parts_of, touched, touches}
use Rattle.update_model.specs.Updating.{Outcome, outcome, updated_by, updated, fields_of}
use Rattle.update_model.specs.Reading.{operators}
use Rattle.update_model.specs.Laws.{NoneIsLeftAtOnce}
use Rattle.update_model.proofs.MarkTerms.{Ready, Stands, Steps as AreSteps}
use Rattle.update_model.proofs.MarkTheory.{In, top_stands}
use Rattle.update_model.proofs.Recording.{touched_in}
use Rattle.update_model.proofs.ActsGo.{Traced, outcome_traced}
use Rattle.update_model.proofs.CleanActs.{NotId, CleanTrace, CleanOutcome, outcome_clean, all_not_id}
use Rattle.update_model.proofs.ReadOff.{read_off}

far_taken : (p : Part) (s : Shape) → takes V2 p s ≡ true → is_far p ≡ false
far_taken (name k) s e = refl
far_taken (index n) an_array e = rw e refl
far_taken (index n) an_object e = cc
far_taken (index n) (a_leaf c) e = cc
far_taken (index n) (a_code t) e = cc

way_far : (ps : List Part) (p : Part) (z : Value) → Way V2 ps (Ready p) z → any_far (ps ++ (p ∷ [])) ≡ false
way_far [] p z w = rw (far_taken p (shape z) w.0) refl
way_far (q ∷ ps) p z w = rw (far_taken q (shape z) w.0, way_far ps p w.1 w.3) refl

abbrev LeftNot : List Part → Type 0
LeftNot ps = left_at ps ≡ false

not_left_set : (ws : List Part) (p : Part) (a : Value) → LeftNot (ws ++ (p ∷ [])) → is_left (touch_at (ws ++ (p ∷ [])) (Put a)) ≡ false
not_left_set ws p a h = ap is_left (split-append ws p (Put a)) ∙ h

not_left_unset : (ws : List Part) (p : Part) → LeftNot (ws ++ (p ∷ [])) → is_left (touch_at (ws ++ (p ∷ [])) Delete) ≡ false
not_left_unset ws p h = ap is_left (split-append ws p Delete) ∙ h

not_left_length : (ws : List Part) (p : Part) (n : ℕ) → nat_lt n limit ≡ true → LeftNot (ws ++ (p ∷ [])) → is_left (touch_at (ws ++ (p ∷ [])) (Length n)) ≡ false
not_left_length ws p n l h = ap is_left (split-append ws p (Length n)) ∙ rw (h, l) refl

in_level : (f : Value-F Value) (n : ℕ) → spec.length_in f ≡ Some n → nat_lt n limit ≡ true
in_level (Value-F.Array vs) n e = by (nat_lt (length vs) limit) refl e
  where
    by : (b : Bool) → nat_lt (length vs) limit ≡ b → (if b then Some (length vs) else None) ≡ Some n → nat_lt n limit ≡ true
    by true l e = let f : length vs ≡ n = cc in subst (λ (m : ℕ). nat_lt m limit ≡ true) f l
    by false l e = cc
in_level _ n e = cc

cut_low : (k : Made) (a : Value) (n : ℕ) → spec.cut_to_length k a ≡ Some n → nat_lt n limit ≡ true
cut_low made.Fresh a n e = cc
cut_low made.Changed a n e = cc
cut_low made.Cut a n e = in_level (out-Value a) n e

one_not_left : (z : Value) (m : Mark) → LeftNot (parts_of m) → is_left (touch_of (spec.touch_of z m)) ≡ false
one_not_left z m h = by (value_in (parts_of m) z)
  where
    at : (a : Value) (o : Option ℕ) → spec.cut_to_length m.made a ≡ o → is_left (touch_of (spec.set_or_cut m a o)) ≡ false
    at a None e = not_left_set m.way m.last a h
    at a (Some n) e = not_left_length m.way m.last n (cut_low m.made a n e) h

    by : (o : Option Value) → is_left (touch_of (spec.touch_by m o)) ≡ false
    by None = not_left_unset m.way m.last h
    by (Some a) = at a (spec.cut_to_length m.made a) refl

none_left : (z : Value) (ms : List Mark) → ((m : Mark) → In m ms → LeftNot (parts_of m)) → NoneLeft (map touch_of (map (spec.touch_of z) ms))
none_left z [] h = tt
none_left z (m ∷ ms) h = (one_not_left z m (h m (inl refl)), none_left z ms (λ n i. h n (inr i)))

not_id_at : (ms : List Mark) (m : Mark) → NotId ms → In m ms → starts_at_id (parts_of m) ≡ false
not_id_at [] m n h = absurd h
not_id_at (k ∷ ms) m n (inl e) = subst (λ (z : Mark). starts_at_id (parts_of z) ≡ false) (sym e) n.0
not_id_at (k ∷ ms) m n (inr h) = not_id_at ms m n.1 h

trace_left : (ss : Trace) (v : Value) → AreSteps v ss (after v ss) → CleanTrace ss → NoneLeft (map touch_of (touches (after v ss) (marks_of ss)))
trace_left ss v s c =
    none_left (after v ss) (touched (marks_of ss)) (λ m i.
    let h = touched_in (marks_of ss) m i in
    let st = top_stands ss v (after v ss) m s h.0 h.1 in
    rw (not_id_at (marks_of ss) m (all_not_id ss c) h.0, way_far m.way m.last (after v ss) st) refl)

left_by : (doc : Fields) (o : Outcome) (u : Updated) → Traced (Object doc) o → CleanOutcome o → updated_by (Object doc) o ≡ Ok u → NoneLeft (map touch_of u.touches)
left_by doc (Err f) u t c e = cc
left_by doc (Ok ss) u t c e =
    let is : record { doc = fields_of (after (Object doc) ss); touches = touches (after (Object doc) ss) (marks_of ss) } ≡ u = cc in
    subst (λ (w : Updated). NoneLeft (map touch_of w.touches)) is (trace_left ss (Object doc) t c)

pub none_is_left : NoneIsLeftAtOnce
unfolding updated
none_is_left d doc u e f =
    left_by doc (outcome (operators d) false (Object doc)) u (outcome_traced (operators d) false (Object doc)) (outcome_clean (operators d) false (Object doc) (read_off d e)) f
