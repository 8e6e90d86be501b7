-- The first row of the conditions is that of the list of rows.
use Rattle.std.proofs.Common.{◌≡◌, Bool, true, false, [], ◌∷◌, refl}
use Rattle.schedule_model.specs.declared.refused.Refused.TheVariants.{NoSuchNamespace, DuplicateId, NoSuchDocument, DuplicateKey, ParallelArrays, BadDocument, BadUpdate, BadName}
use Rattle.history_model.specs.Refusals.{first_of}
use Rattle.command_refusals.specs.declared.conditions.Conditions.{Conditions}
use Rattle.command_refusals.specs.Conditions.{first_row}
use Rattle.command_refusals.specs.Tests.{refusal_by}

abbrev pub conditions_of : Bool → Bool → Bool → Bool → Bool → Bool → Bool → Bool → Conditions
conditions_of a b c d e f g h = record { no_namespace = a; duplicate_id = b; no_document = c; tested = refusal_by d e; bad_document = f; bad_update = g; bad_name = h }

pub first_is : (a b c d e f g h : Bool) → first_row (conditions_of a b c d e f g h) ≡ first_of ((a, NoSuchNamespace) ∷ (b, DuplicateId) ∷ (c, NoSuchDocument) ∷ (d, DuplicateKey) ∷ (e, ParallelArrays) ∷ (f, BadDocument) ∷ (g, BadUpdate) ∷ (h, BadName) ∷ [])
first_is true b c d e f g h = refl
first_is false true c d e f g h = refl
first_is false false true d e f g h = refl
first_is false false false true e f g h = refl
first_is false false false false true f g h = refl
first_is false false false false false true g h = refl
first_is false false false false false false true h = refl
first_is false false false false false false false true = refl
first_is false false false false false false false false = refl
