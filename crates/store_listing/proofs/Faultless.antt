-- Indexes without a fault are counted, or memory runs out.
use Rattle.std.proofs.Common.{◌≡◌, ℕ, List, subst, sym, ◌∙◌}
use Rattle.std.specs.Prelude.{Option, None, Some}
use Rattle.bson_value.specs.declared.namespace.NsName.{NsName}
use Rattle.bson_value.specs.declared.value.Value.{Value}
use Rattle.index_build.specs.declared.fault.CountFault.{CountFault}
use Rattle.index_build.specs.declared.fault.CountFault.TheVariants as faults
use Rattle.index_build.specs.Faults.{IsCountFault}

pub never_parallel : (o : Option CountFault) (e : CountFault) (ns : NsName) (i : List ℕ) (a : Value) → o ≡ None → e ≡ faults.Parallel ns i a → IsCountFault e o → ⊥
never_parallel o e ns i a none is h =
    let some : o ≡ Some (faults.Parallel ns i a) = subst (λ (x : CountFault). IsCountFault x o) is h in
    let clash = sym none ∙ some in cc

pub never_duplicate : (o : Option CountFault) (e : CountFault) (ns : NsName) (i : List ℕ) (a b : Value) → o ≡ None → e ≡ faults.Duplicate ns i a b → IsCountFault e o → ⊥
never_duplicate o e ns i a b none is h =
    let some : o ≡ Some (faults.Duplicate ns i a b) = subst (λ (x : CountFault). IsCountFault x o) is h in
    let clash = sym none ∙ some in cc
