-- What is told of a document that is no metadata.
use Rattle.std.proofs.Common.{◌≡◌, ℕ, List, refl}
use Rattle.std.specs.Prelude.{Option, Result, Ok, Err, IfOk, OnOk}
use Rattle.std.specs.Result.{result_err}
use Rattle.archive_format.specs.Shapes.{Shaped, ShapeFault, Metadata}
use Rattle.archive_prelude.specs.declared.fault.PreludeFault.{PreludeFault}
use Rattle.archive_prelude.specs.declared.fault.PreludeFault.TheVariants as faults
use Rattle.archive_prelude.specs.Faults.{IsPreludeFault}
use Rattle.archive_rows.specs.Rows.{meta_answer, shape_answer}

told_at : (fault : PreludeFault) (meta : Shaped Metadata) (answer : List ℕ) → (fault ≡ faults.NoMemory → ⊥) → IsPreludeFault fault (result_err meta)
    → answer ≡ shape_answer (result_err meta) → answer ≡ meta_answer meta
told_at fault (Err f) answer some is told = told
told_at faults.NoMemory (Ok m) answer some is told = absurd (some refl)
told_at (faults.MissingField name) (Ok m) answer some is told = cc
told_at (faults.WrongType name) (Ok m) answer some is told = cc
told_at (faults.Version version) (Ok m) answer some is told = cc
told_at faults.BadNs (Ok m) answer some is told = cc

module _ {A E : Type 0} (text : A → List ℕ) where
  pub no_meta : (r : Result A E) (fault : PreludeFault) (meta : Shaped Metadata)
      → IfOk r (λ answer. (shape : Option ShapeFault) → IsPreludeFault fault shape → text answer ≡ shape_answer shape)
      → OnOk r (fault ≡ faults.NoMemory → ⊥) → IsPreludeFault fault (result_err meta) → IfOk r (λ answer. text answer ≡ meta_answer meta)
  no_meta (Ok answer) fault meta told some is = told_at fault meta (text answer) some is (told (result_err meta) is)
  no_meta (Err e) fault meta told some is = tt
