-- The conditions of the rows that refuse a command on a document, and the first row whose condition holds.
use Rattle.std.specs.Prelude.{Bool, Option, Some, None, if◌then◌else◌}
use Rattle.schedule_model.specs.declared.refused.Refused.{Refused}
use Rattle.schedule_model.specs.declared.refused.Refused.TheVariants.{NoSuchNamespace, DuplicateId, NoSuchDocument, BadDocument, BadUpdate, BadName}
use Rattle.command_refusals.specs.declared.conditions.Conditions.{Conditions}

-- the row where the condition holds, or else what comes later
abbrev pub row_if : Bool → Refused → Option Refused → Option Refused
row_if b r later = if b then Some r else later

abbrev pub or_later : Option Refused → Option Refused → Option Refused
or_later (Some r) later = Some r
or_later None later = later

abbrev pub first_row : Conditions → Option Refused
first_row c =
    row_if c.no_namespace NoSuchNamespace
    (row_if c.duplicate_id DuplicateId
    (row_if c.no_document NoSuchDocument
    (or_later c.tested
    (row_if c.bad_document BadDocument
    (row_if c.bad_update BadUpdate
    (row_if c.bad_name BadName None))))))
