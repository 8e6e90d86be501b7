-- What is done to a document that is being updated.
use Rattle.std.specs.Prelude.{◌≡◌, true, List, ◌++◌}
use Rattle.bson_value.specs.declared.value.Value.{Object}
use Rattle.update_model.specs.declared.mark.Mark.{Mark}
use Rattle.update_model.specs.declared.fault.UpdateFault.{UpdateFault}
use Rattle.update_model.specs.declared.fault.UpdateFault.TheVariants as faults
use Rattle.update_model.specs.Steps.{Trace, after, marks_of}
use Rattle.update_model.specs.Acts.{Act, Steps, Refused, Oversized}
use Rattle.update_ops.specs.declared.draft.Draft.{Draft}

-- these changes were made
pub record IsAfter (ss : Trace) (old new : Draft) : Type 0 where
  pub doc : Object new.doc ≡ after (Object old.doc) ss
  pub marks : new.marks ≡ old.marks ++ marks_of ss
  pub is_large : new.is_large ≡ old.is_large

-- nothing was changed, but the update is too long
pub record IsLarge (old new : Draft) : Type 0 where
  pub doc : new.doc ≡ old.doc
  pub marks : new.marks ≡ old.marks
  pub is_large : new.is_large ≡ true

abbrev pub Does : Act → Draft → Draft → Type 0
Does (Steps ss) old new = IsAfter ss old new
Does (Refused f) old new = ⊥
Does Oversized old new = IsLarge old new

-- the act is this refusal, unless memory ran out
abbrev pub IsRefused : UpdateFault → Act → Type 0
IsRefused faults.NoMemory a = Unit {0}
IsRefused e a = a ≡ Refused e
