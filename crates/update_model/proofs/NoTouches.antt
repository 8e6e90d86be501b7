-- Where there is no touch the document is as before.
use Rattle.std.proofs.Common.{◌≡◌, ℕ, ◌≤◌, List, [], ◌∷◌, ◌++◌, length, Bool, true, false, refl, sym, ap, ◌∙◌, subst, map, arith, Option, Some, None, inl}
use Rattle.std.specs.Prelude.{◌&&◌, Ok, Err}
use Rattle.std.specs.Str.{bytes_eq}
use Rattle.bson_value.specs.declared.value.Value.{Value, Object}
use Rattle.bson_value.specs.declared.value.Value.TheVariants.{outs-Object}
use Rattle.bson_value.specs.Place.{Place}
use Rattle.bson_value.proofs.Child.{name_refl}
use Rattle.doc_path.specs.declared.touches.Touch.{Touch as Recorded}
use Rattle.update_model.specs.declared.mark.Mark.{Mark}
use Rattle.update_model.specs.declared.updated.Updated.{Updated}
use Rattle.update_model.specs.Conflicts.{begins}
use Rattle.update_model.specs.Arguments.{Fields}
use Rattle.update_model.specs.Reading.{operators}
use Rattle.update_model.specs.Steps.{Trace, after, marks_of}
use Rattle.update_model.specs.Touched as spec
use Rattle.update_model.specs.Touched.{place_of, firsts, touched, touches}
use Rattle.update_model.specs.Updating.{fields_in, fields_of, Outcome, outcome, updated_by, updated}
use Rattle.update_model.specs.Laws.{NoTouchesNoChange}
use Rattle.update_model.proofs.MarkTerms.{mark_covers, any_mark, tops}
use Rattle.update_model.proofs.MarkTheory.{In, tops_cover}
use Rattle.update_model.proofs.Recording.{covers_begins, tops_is, firsts_cover}
use Rattle.update_model.proofs.CleanActs.{CleanTrace, CleanOutcome, outcome_clean}
use Rattle.update_model.proofs.ReadOff.{read_off}

begins_refl : (p : Place) → begins p p ≡ true
begins_refl [] = refl
begins_refl (k ∷ p) = rw (name_refl k, begins_refl p) refl

-- where there is a mark there is a touch
some_touched : (m : Mark) (ms : List Mark) → touched (m ∷ ms) ≡ [] → ⊥
some_touched m ms e =
    let all = m ∷ ms in
    let q = place_of m in
    let own : mark_covers m q ≡ true = covers_begins m q ∙ begins_refl q in
    let top : any_mark (tops all all) q ≡ true = tops_cover (length m.way) all m q (omega arith) (inl refl) own in
    let same : firsts [] (tops all all) ≡ [] = ap (firsts []) (tops_is all all) ∙ e in
    let none : any_mark (tops all all) q ≡ false = firsts_cover [] (tops all all) q refl (ap (λ (z : List Mark). any_mark z q) same) in
    no (sym top ∙ none)
  where
    no : true ≡ false → ⊥
    no f = cc

unmapped : {A B : Type 0} (f : A → B) (xs : List A) → map f xs ≡ [] → xs ≡ []
unmapped f [] e = refl
unmapped f (x ∷ xs) e = cc

no_step : (ss : Trace) → CleanTrace ss → touched (marks_of ss) ≡ [] → ss ≡ []
no_step [] c e = refl
no_step (s ∷ ss) c e = absurd (by s.0 refl)
  where
    by : (ms : List Mark) → s.0 ≡ ms → ⊥
    by [] f = c.0 f
    by (m ∷ ms) f = some_touched m (ms ++ marks_of ss) (subst (λ (z : List Mark). touched (z ++ marks_of ss) ≡ []) f e)

same_by : (doc : Fields) (o : Outcome) (u : Updated) → CleanOutcome o → updated_by (Object doc) o ≡ Ok u → u.touches ≡ [] → u.doc ≡ doc
same_by doc (Err f) u c e n = cc
same_by doc (Ok ss) u c e n =
    let is : record { doc = fields_of (after (Object doc) ss); touches = touches (after (Object doc) ss) (marks_of ss) } ≡ u = cc in
    let none : touches (after (Object doc) ss) (marks_of ss) ≡ [] = ap (λ (w : Updated). w.touches) is ∙ n in
    let empty = no_step ss c (unmapped (spec.touch_of (after (Object doc) ss)) (touched (marks_of ss)) none) in
    sym (ap (λ (w : Updated). w.doc) is) ∙ (ap (λ (t : Trace). fields_of (after (Object doc) t)) empty ∙ ap fields_in (outs-Object doc))

pub no_touches : NoTouchesNoChange
unfolding updated
no_touches d doc u e f n = same_by doc (outcome (operators d) false (Object doc)) u (outcome_clean (operators d) false (Object doc) (read_off d e)) f n
