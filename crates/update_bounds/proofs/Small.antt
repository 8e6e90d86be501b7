-- The document after an accepted update is within the limits.
use Rattle.std.proofs.Common.{◌≡◌, ◌≤◌, ℕ, List, [], ◌∷◌, ◌++◌, length, Bool, true, false, refl, sym, subst, arith, Some, None}
use Rattle.std.specs.Prelude.{if◌then◌else◌, nat_lt, Ok, Err}
use Rattle.std.proofs.lemmas.Grind.{common_steps}
use Rattle.bson_value.specs.declared.value.Value.{Value, Object}
use Rattle.bson_value.specs.Levels.{levels_of}
use Rattle.bson_value.specs.Spelling.{document_text}
use Rattle.update_model.specs.declared.operator.Operator.{Operator}
use Rattle.update_model.specs.declared.fault.UpdateFault.TheVariants as faults
use Rattle.update_model.specs.declared.updated.Updated.{Updated}
use Rattle.update_model.specs.Arguments.{Fields}
use Rattle.update_model.specs.Steps.{Trace, after, marks_of}
use Rattle.update_model.specs.Touched.{touches}
use Rattle.update_model.specs.Acts.{Act, Steps, Refused, Oversized, act}
use Rattle.update_model.specs.Updating.{Outcome, fields_of, byte_limit, level_limit, refusal_at_end, ended, and_more, on_act, outcome, updated_by, updated}
use Rattle.update_bounds.specs.Laws.{UpdatesAreSmall}

abbrev IsSmall : Fields → Type 0
IsSmall d = (length (document_text d) ≤ byte_limit) × (levels_of d ≤ level_limit)

pub not_above : (a n : ℕ) → nat_lt a n ≡ false → n ≤ a
not_above a n e = grind (arith, common_steps)

abbrev EndsSmall : Value → Outcome → Type 0
EndsSmall v (Ok ss) = IsSmall (fields_of (after v ss))
EndsSmall v (Err f) = Unit {0}

end_small : (large : Bool) (v : Value) → EndsSmall v (ended (refusal_at_end large (fields_of v)))
end_small large v = by large (nat_lt byte_limit (length (document_text (fields_of v)))) refl (nat_lt level_limit (levels_of (fields_of v))) refl
  where
    by : (l b : Bool) → nat_lt byte_limit (length (document_text (fields_of v))) ≡ b → (d : Bool) → nat_lt level_limit (levels_of (fields_of v)) ≡ d →
        EndsSmall v (ended (if l then Some faults.TooLong else if b then Some faults.TooLong else if d then Some faults.Deep else None))
    by true b e d f = tt
    by false true e d f = tt
    by false false e true f = tt
    by false false e false f = (not_above byte_limit (length (document_text (fields_of v))) e, not_above level_limit (levels_of (fields_of v)) f)

after_append : (ss ts : Trace) (v : Value) → after v (ss ++ ts) ≡ after (after v ss) ts
after_append [] ts v = refl
after_append (s ∷ ss) ts v = after_append ss ts s.1

more_small : (ss : Trace) (v : Value) (o : Outcome) → EndsSmall (after v ss) o → EndsSmall v (and_more ss o)
more_small ss v (Ok ts) h = subst (λ (w : Value). IsSmall (fields_of w)) (sym (after_append ss ts v)) h
more_small ss v (Err f) h = tt

act_small : (go : Bool → Value → Outcome) (large : Bool) (v : Value) (a : Act) → ((b : Bool) (w : Value) → EndsSmall w (go b w)) → EndsSmall v (on_act go large v a)
act_small go large v (Steps ss) g = more_small ss v (go large (after v ss)) (g large (after v ss))
act_small go large v (Refused f) g = tt
act_small go large v Oversized g = g true v

outcome_small : (os : List Operator) (large : Bool) (v : Value) → EndsSmall v (outcome os large v)
outcome_small [] large v = end_small large v
outcome_small (o ∷ os) large v = act_small (outcome os) large v (act o v) (λ b w. outcome_small os b w)

pub updates_are_small : UpdatesAreSmall
unfolding updated
updates_are_small os doc u e = by (outcome os false (Object doc)) (outcome_small os false (Object doc)) e
  where
    by : (o : Outcome) → EndsSmall (Object doc) o → updated_by (Object doc) o ≡ Ok u → IsSmall u.doc
    by (Err f) h p = cc
    by (Ok ss) h p =
        let z = after (Object doc) ss in
        let q : record { doc = fields_of z; touches = touches z (marks_of ss) } ≡ u = cc in
        subst (λ (w : Updated). IsSmall w.doc) q h
