-- What is told of an index, where there is a fault, and where there is none.
use Rattle.std.proofs.Common.{◌≡◌, ◌∙◌, List, ℕ, true, refl, sym, ap}
use Rattle.std.specs.Prelude.{Option, Some, None, codes, is_some}
use Rattle.bson_value.specs.declared.namespace.NsName.{NsName}
use Rattle.coll_state.specs.Rows.{Rows, state_of}
use Rattle.index_build.specs.Faults.{fault}
use Rattle.index_build.specs.Numbers.{counts, number_at}
use Rattle.index_build.specs.declared.fault.CountFault.{CountFault}
use Rattle.index_rows.specs.Rows.{fault_in, fault_text, number_in, number_unless}

no_number_by : (f : Option CountFault) (number : Option ℕ) → is_some f ≡ true → None ≡ number_unless f number
no_number_by None number some = cc
no_number_by (Some f) number some = refl

pub no_number : (s : Rows) (ns : NsName) (index : List ℕ) → is_some (fault (state_of s)) ≡ true → None ≡ number_in s ns index
unfolding number_in
no_number s ns index some = no_number_by (fault (state_of s)) (number_at (counts (state_of s)) ns index) some

pub number_of_faultless : (s : Rows) (ns : NsName) (index : List ℕ) (number : Option ℕ) → fault (state_of s) ≡ None → number ≡ number_at (counts (state_of s)) ns index → number ≡ number_in s ns index
unfolding number_in
number_of_faultless s ns index number none is = is ∙ ap (λ (f : Option CountFault). number_unless f (number_at (counts (state_of s)) ns index)) (sym none)

pub no_fault : (s : Rows) → fault (state_of s) ≡ None → codes "none" ≡ fault_text (fault_in s)
unfolding fault_in
no_fault s none = ap fault_text (sym none)

pub is_fault : (s : Rows) → fault_text (fault (state_of s)) ≡ fault_text (fault_in s)
unfolding fault_in
is_fault s = refl
