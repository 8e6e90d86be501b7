-- How far an update has come.
use Rattle.std.specs.Prelude.{◌≡◌, List, false, Option, Some}
use Rattle.bson_value.specs.declared.value.Value.{Object}
use Rattle.update_model.specs.declared.operator.Operator.{Operator}
use Rattle.update_model.specs.declared.fault.UpdateFault.{UpdateFault}
use Rattle.update_model.specs.declared.fault.UpdateFault.TheVariants as faults
use Rattle.update_model.specs.Arguments.{Fields}
use Rattle.update_model.specs.Steps.{Trace, after, marks_of}
use Rattle.update_model.specs.Updating.{and_more, outcome}
use Rattle.update_ops.specs.declared.draft.Draft.{Draft}

-- the last document has this refusal, unless memory ran out
abbrev pub IsLast : UpdateFault → Option UpdateFault → Type 0
IsLast faults.NoMemory o = Unit {0}
IsLast e o = o ≡ Some e

-- these operators are left, and the others made this draft of the document
pub record IsLeft (ops rest : List Operator) (doc : Fields) (draft : Draft) : Type 0 where
  pub trace : Trace
  pub doc_is : Object draft.doc ≡ after (Object doc) trace
  pub marks_are : draft.marks ≡ marks_of trace
  pub outcome_is : outcome ops false (Object doc) ≡ and_more trace (outcome rest draft.is_large (Object draft.doc))
