-- Why a document of a prelude has another shape.
use Rattle.std.specs.Prelude.{⊤, ◌≡◌, Option, Some, Result, Ok, Err}
use Rattle.std.specs.Result.{result_err}
use Rattle.archive_format.specs.Shapes.{Shaped, ShapeFault, missing_field, wrong_type, wrong_version, bad_ns}
use Rattle.archive_prelude.specs.declared.fault.PreludeFault.{PreludeFault}
use Rattle.archive_prelude.specs.declared.fault.PreludeFault.TheVariants as faults

-- the fault is this one, or there was no memory
abbrev pub IsPreludeFault : PreludeFault → Option ShapeFault → Type 0
IsPreludeFault faults.NoMemory s = ⊤
IsPreludeFault (faults.MissingField name) s = s ≡ Some (missing_field name)
IsPreludeFault (faults.WrongType name) s = s ≡ Some (wrong_type name)
IsPreludeFault (faults.Version version) s = s ≡ Some (wrong_version version)
IsPreludeFault faults.BadNs s = s ≡ Some bad_ns

-- a part is read as it is shaped, or has this fault
abbrev pub ReadsPart : {A B : Type 0} → (A → B) → Result A PreludeFault → Shaped B → Type 0
ReadsPart view (Ok a) s = s ≡ Ok (view a)
ReadsPart view (Err f) s = IsPreludeFault f (result_err s)
