-- The touches of an accepted update are such as an entry of the oplog can have.
use Rattle.std.proofs.Common.{◌≡◌, ℕ, ◌≤◌, List, [], ◌∷◌, ◌++◌, map, true, false, refl, sym, ap, subst, arith, Option, Some, None, inl, inr}
use Rattle.std.specs.Prelude.{⊤, is_some, nat_lt, Ok, Err}
use Rattle.std.proofs.lemmas.Grind.{common_steps}
use Rattle.bson_value.specs.declared.value.Value.{Value, Object}
use Rattle.bson_value.specs.Levels.{levels_of}
use Rattle.doc_path.specs.declared.parts.Part.{Part}
use Rattle.doc_path.specs.Ways.{value_in}
use Rattle.update_model.specs.declared.mark.Mark.{Mark}
use Rattle.update_model.specs.declared.mark.Made.{Made}
use Rattle.update_model.specs.declared.mark.Made.TheVariants as made
use Rattle.update_model.specs.declared.updated.Updated.{Updated}
use Rattle.update_model.specs.Arguments.{Fields}
use Rattle.update_model.specs.Reading.{operators, ops_fault}
use Rattle.update_model.specs.Steps.{after, marks_of}
use Rattle.update_model.specs.Touched as spec
use Rattle.update_model.specs.Touched.{parts_of, touched, touches}
use Rattle.update_model.specs.Updating.{Outcome, fields_of, outcome, updated_by, updated, level_limit}
use Rattle.update_model.proofs.MarkTheory.{In}
use Rattle.update_model.proofs.ActsGo.{Traced, outcome_traced}
use Rattle.update_model.proofs.Recording.{keys_more, touched_in, after_is_document}
use Rattle.update_replay.specs.Plain.{ArePlain, IsPlainPlace, IsNamed, IsField, IsPlainTouch, ArePlainTouches, TouchesArePlain}
use Rattle.update_replay.proofs.Spared.{IsMarked}
use Rattle.update_replay.proofs.Cuts.{read_plain, all_marked, last_is_low}

some_parts : (ws : List Part) (p : Part) → ws ++ (p ∷ []) ≡ [] → ⊥
some_parts [] p e = cc
some_parts (w ∷ ws) p e = cc

plain_place : (m : Mark) → IsMarked ⊤ m → IsPlainPlace (parts_of m)
plain_place m h = (some_parts m.way m.last, subst ArePlain (sym (keys_more m.way m.last)) (h.plain tt))

field_last : (ws : List Part) (p : Part) → IsNamed p → IsField (ws ++ (p ∷ []))
field_last [] p h = h
field_last (w ∷ []) p h = h
field_last (w ∷ (x ∷ ws)) p h = field_last (x ∷ ws) p h

fresh_field : (m : Mark) → IsMarked ⊤ m → spec.is_fresh m.made ≡ true → IsField (parts_of m)
fresh_field m h e = field_last m.way m.last (h.fresh (is_made m.made e))
  where
    is_made : (k : Made) → spec.is_fresh k ≡ true → k ≡ made.Fresh
    is_made made.Fresh f = refl
    is_made made.Changed f = cc
    is_made made.Cut f = cc

one_plain : (z : Value) (m : Mark) → IsMarked ⊤ m → IsPlainTouch z (spec.touch_of z m)
one_plain z m h = by (value_in (parts_of m) z) refl
  where
    some : (a : Value) (o : Option ℕ) → value_in (parts_of m) z ≡ Some a → IsPlainTouch z (spec.set_or_cut m a o)
    some a None e = (plain_place m h, fresh_field m h)
    some a (Some n) e = (plain_place m h, ap is_some e)

    by : (o : Option Value) → value_in (parts_of m) z ≡ o → IsPlainTouch z (spec.touch_by m o)
    by None e = plain_place m h
    by (Some a) e = some a (spec.cut_to_length m.made a) e

all_plain : (z : Value) (ms : List Mark) → ((m : Mark) → In m ms → IsMarked ⊤ m) → ArePlainTouches z (map (spec.touch_of z) ms)
all_plain z [] h = tt
all_plain z (m ∷ ms) h = (one_plain z m (h m (inl refl)), all_plain z ms (λ k i. h k (inr i)))

plain_by : (d doc : Fields) (o : Outcome) (u : Updated) → ops_fault d ≡ None → outcome (operators d) false (Object doc) ≡ o → Traced (Object doc) o → updated_by (Object doc) o ≡ Ok u → ArePlainTouches (Object u.doc) u.touches × (levels_of u.doc ≤ level_limit)
plain_by d doc (Err f) u sound r t e = cc
plain_by d doc (Ok ss) u sound r t e =
    let z = after (Object doc) ss in
    let is : record { doc = fields_of z; touches = touches z (marks_of ss) } ≡ u = cc in
    let marked = λ (m : Mark) (i : In m (touched (marks_of ss))). all_marked (operators d) false (Object doc) ss (read_plain d sound) r m (touched_in (marks_of ss) m i).0 in
    let low = last_is_low (operators d) false (Object doc) ss r in
    subst (λ (w : Updated). ArePlainTouches (Object w.doc) w.touches × (levels_of w.doc ≤ level_limit)) is
    (subst (λ (y : Value). ArePlainTouches y (touches z (marks_of ss))) (sym (after_is_document ss doc t)) (all_plain z (touched (marks_of ss)) marked), below (levels_of (fields_of z)) low)
  where
    below : (n : ℕ) → nat_lt level_limit n ≡ false → n ≤ level_limit
    below n e = grind (arith, common_steps)

pub touches_are_plain : TouchesArePlain
unfolding updated
touches_are_plain d doc u sound e = plain_by d doc (outcome (operators d) false (Object doc)) u sound refl (outcome_traced (operators d) false (Object doc)) e
