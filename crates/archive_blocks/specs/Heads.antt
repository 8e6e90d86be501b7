-- What a block's header is read as, and why one isn't.
use Rattle.std.specs.Prelude.{◌≡◌, ℕ, List, Option, Some, Result, Ok, Err}
use Rattle.std.specs.Result.{result_err}
use Rattle.archive_format.specs.Shapes.{Shaped, ShapeFault, missing_field, wrong_type, bad_ns}
use Rattle.archive_blocks.specs.declared.heads.HeadFault.{HeadFault}
use Rattle.archive_blocks.specs.declared.heads.HeadFault.TheVariants as faults

-- the fault is this one, without the field's name
abbrev pub IsHeadFault : HeadFault → Option ShapeFault → Type 0
IsHeadFault faults.MissingField s = (name : List ℕ) × (s ≡ Some (missing_field name))
IsHeadFault faults.WrongType s = (name : List ℕ) × (s ≡ Some (wrong_type name))
IsHeadFault faults.BadNs s = s ≡ Some bad_ns

-- a part is read as it is shaped, or has this fault
abbrev pub ReadsPart : {A B : Type 0} → (A → B) → Result A HeadFault → Shaped B → Type 0
ReadsPart view (Ok a) s = s ≡ Ok (view a)
ReadsPart view (Err f) s = IsHeadFault f (result_err s)
