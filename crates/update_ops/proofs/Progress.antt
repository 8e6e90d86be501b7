-- One operator after the other.
use Rattle.std.proofs.Common.{◌≡◌, List, [], ◌∷◌, ◌++◌, Bool, true, false, refl, sym, ap, ◌∙◌, subst, Option, Some, None, append_assoc, append-nil}
use Rattle.std.specs.Prelude.{Result, Ok, Err}
use Rattle.bson_value.specs.declared.value.Value.{Value, Object}
use Rattle.bson_value.specs.declared.value.Value.TheVariants.{outs-Object}
use Rattle.update_model.specs.declared.mark.Mark.{Mark}
use Rattle.update_model.specs.declared.operator.Operator.{Operator}
use Rattle.update_model.specs.declared.fault.UpdateFault.{UpdateFault}
use Rattle.update_model.specs.declared.fault.UpdateFault.TheVariants as faults
use Rattle.update_model.specs.declared.updated.Updated.{Updated}
use Rattle.update_model.specs.Arguments.{Fields}
use Rattle.update_model.specs.Steps.{Trace, after, marks_of}
use Rattle.update_model.specs.Acts.{Act, Steps, Refused, Oversized, act}
use Rattle.update_model.specs.Touched.{touches}
use Rattle.update_model.specs.Updating.{fields_in, fields_of, Outcome, refusal_at_end, ended, and_more, on_act, outcome, updated_by, updated, IsRefusal}
use Rattle.update_ops.specs.declared.draft.Draft.{Draft}
use Rattle.update_ops.specs.Drafts.{IsAfter, IsLarge, Does, IsRefused}
use Rattle.update_ops.specs.Ends.{IsLast, IsLeft}

after_append : (ss ts : Trace) (v : Value) → after v (ss ++ ts) ≡ after (after v ss) ts
after_append [] ts v = refl
after_append (s ∷ ss) ts v = after_append ss ts s.1

marks_append : (ss ts : Trace) → marks_of (ss ++ ts) ≡ marks_of ss ++ marks_of ts
marks_append [] ts = refl
marks_append (s ∷ ss) ts = ap (λ (z : List Mark). s.0 ++ z) (marks_append ss ts) ∙ sym (append_assoc s.0 (marks_of ss) (marks_of ts))

more_twice : (ss ts : Trace) (o : Outcome) → and_more ss (and_more ts o) ≡ and_more (ss ++ ts) o
more_twice ss ts (Ok us) = ap Ok (sym (append_assoc ss ts us))
more_twice ss ts (Err f) = refl

no_more : (o : Outcome) → o ≡ and_more [] o
no_more (Ok us) = refl
no_more (Err f) = refl

pub left_all : (ops : List Operator) (doc : Fields) (d : Draft) → d.doc ≡ doc → d.marks ≡ [] → d.is_large ≡ false → IsLeft ops ops doc d
left_all ops doc d a b c = record {
  trace = [];
  doc_is = ap Object a;
  marks_are = b;
  outcome_is = (λ i. outcome ops ((sym c) i) (Object ((sym a) i))) ∙ no_more (outcome ops d.is_large (Object d.doc));
}

pub left_fewer : (ops : List Operator) (o : Operator) (rest : List Operator) (doc : Fields) (d e : Draft) → IsLeft ops (o ∷ rest) doc d → Does (act o (Object d.doc)) d e → IsLeft ops rest doc e
left_fewer ops o rest doc d e h does = by (act o (Object d.doc)) refl does
  where
    by : (a : Act) → act o (Object d.doc) ≡ a → Does a d e → IsLeft ops rest doc e
    by (Steps ss) is x = record {
      trace = h.trace ++ ss;
      doc_is = x.doc ∙ (ap (λ (v : Value). after v ss) h.doc_is ∙ sym (after_append h.trace ss (Object doc)));
      marks_are = x.marks ∙ (ap (λ (z : List Mark). z ++ marks_of ss) h.marks_are ∙ sym (marks_append h.trace ss));
      outcome_is = h.outcome_is
          ∙ (ap (λ (a : Act). and_more h.trace (on_act (outcome rest) d.is_large (Object d.doc) a)) is
          ∙ ((λ i. and_more h.trace (and_more ss (outcome rest ((sym x.is_large) i) ((sym x.doc) i)))) ∙ more_twice h.trace ss (outcome rest e.is_large (Object e.doc))));
    }
    by (Refused f) is x = absurd x
    by Oversized is x = record {
      trace = h.trace;
      doc_is = ap Object x.doc ∙ h.doc_is;
      marks_are = x.marks ∙ h.marks_are;
      outcome_is = h.outcome_is
          ∙ (ap (λ (a : Act). and_more h.trace (on_act (outcome rest) d.is_large (Object d.doc) a)) is
          ∙ (λ i. and_more h.trace (outcome rest ((sym x.is_large) i) (Object ((sym x.doc) i)))));
    }

from_outcome : (ops : List Operator) (doc : Fields) (o : Outcome) → outcome ops false (Object doc) ≡ o → updated ops doc ≡ updated_by (Object doc) o
unfolding updated
from_outcome ops doc o e = ap (updated_by (Object doc)) e

pub refused_at : (ops : List Operator) (o : Operator) (rest : List Operator) (doc : Fields) (d : Draft) (f : UpdateFault) → IsLeft ops (o ∷ rest) doc d → IsRefused f (act o (Object d.doc)) → IsRefusal f (updated ops doc)
refused_at ops o rest doc d f h k = by f k
  where
    told : (g : UpdateFault) → act o (Object d.doc) ≡ Refused g → updated ops doc ≡ Err g
    told g is = from_outcome ops doc (Err g) (h.outcome_is ∙ ap (λ (a : Act). and_more h.trace (on_act (outcome rest) d.is_large (Object d.doc) a)) is)

    by : (g : UpdateFault) → IsRefused g (act o (Object d.doc)) → IsRefusal g (updated ops doc)
    by faults.NoMemory k = tt
    by faults.NotViable k = told faults.NotViable k
    by faults.WrongType k = told faults.WrongType k
    by faults.Overflow k = told faults.Overflow k
    by faults.Backfill k = told faults.Backfill k
    by faults.TooLong k = told faults.TooLong k
    by faults.Deep k = told faults.Deep k

fields-Object : (fs : Fields) → fields_of (Object fs) ≡ fs
fields-Object fs = ap fields_in (outs-Object fs)

at_end : (ops : List Operator) (doc : Fields) (d : Draft) (o : Option UpdateFault) (h : IsLeft ops [] doc d) → refusal_at_end d.is_large d.doc ≡ o → updated ops doc ≡ updated_by (Object doc) (and_more h.trace (ended o))
at_end ops doc d o h e = from_outcome ops doc (and_more h.trace (ended o))
    (h.outcome_is ∙ (ap (λ (fs : Fields). and_more h.trace (ended (refusal_at_end d.is_large fs))) (fields-Object d.doc) ∙ ap (λ (z : Option UpdateFault). and_more h.trace (ended z)) e))

pub ended_well : (ops : List Operator) (doc : Fields) (d : Draft) (u : Updated) → IsLeft ops [] doc d → refusal_at_end d.is_large d.doc ≡ None →
    u.doc ≡ d.doc → u.touches ≡ touches (Object d.doc) d.marks → updated ops doc ≡ Ok u
ended_well ops doc d u h e a b =
    at_end ops doc d None h e
    ∙ (ap (λ (t : Trace). updated_by (Object doc) (Ok t)) (append-nil h.trace)
    ∙ (λ i. Ok (record { doc = is_doc i; touches = are_touches i })))
  where
    is_doc : fields_of (after (Object doc) h.trace) ≡ u.doc
    is_doc = ap fields_of (sym h.doc_is) ∙ (fields-Object d.doc ∙ sym a)

    are_touches : touches (after (Object doc) h.trace) (marks_of h.trace) ≡ u.touches
    are_touches = (λ i. touches ((sym h.doc_is) i) ((sym h.marks_are) i)) ∙ sym b

pub refused_last : (ops : List Operator) (doc : Fields) (d : Draft) (f : UpdateFault) → IsLeft ops [] doc d → IsLast f (refusal_at_end d.is_large d.doc) → IsRefusal f (updated ops doc)
refused_last ops doc d f h k = by f k
  where
    told : (g : UpdateFault) → refusal_at_end d.is_large d.doc ≡ Some g → updated ops doc ≡ Err g
    told g is = at_end ops doc d (Some g) h is

    by : (g : UpdateFault) → IsLast g (refusal_at_end d.is_large d.doc) → IsRefusal g (updated ops doc)
    by faults.NoMemory k = tt
    by faults.NotViable k = told faults.NotViable k
    by faults.WrongType k = told faults.WrongType k
    by faults.Overflow k = told faults.Overflow k
    by faults.Backfill k = told faults.Backfill k
    by faults.TooLong k = told faults.TooLong k
    by faults.Deep k = told faults.Deep k
