-- What a call on an index answers, and what is in then.
use Rattle.std.proofs.Common.{◌≡◌, ◌∙◌, List, ℕ, refl, sym, ap}
use Rattle.std.specs.Prelude.{Option, Result, Ok, Err, IfErr}
use Rattle.bson_value.specs.declared.value.Value.{Value}
use Rattle.coll_state.specs.Rows.{Document}
use Rattle.index_build.specs.Owned.{Holding, Refusal}
use Rattle.index_build.specs.declared.index_fault.IndexFault.{IndexFault}
use Rattle.index_build.specs.declared.index_fault.IndexFault.TheVariants as faults
use Rattle.index_rows.specs.Rows.{Answers, IsAnswer, owned_by, owned_unless, refusal_of}

abbrev Answer : Type 0
Answer = Result (Unit {0}) IndexFault

pub is_answer : (verb : List ℕ) (id : Value) (doc : Document) (old new : Holding) (answer : Answer) → Answers verb id doc old new answer → IsAnswer answer id (refusal_of verb id doc old)
is_answer verb id doc old new (Ok u) answers = answers.0
is_answer verb id doc old new (Err fault) answers = answers.0

module _ (verb : List ℕ) (id : Value) (doc : Document) (old new : Holding) where
  abbrev IsOwned : Option Refusal → Type 0
  IsOwned refusal = new.owned ≡ owned_unless refusal (owned_by verb id doc old) old.owned

  pub owned_is : (answer : Answer) → IfErr answer (λ fault. fault ≡ faults.NoMemory → ⊥) → Answers verb id doc old new answer → IsOwned (refusal_of verb id doc old)
  owned_is (Ok u) some answers = answers.1 ∙ sym (ap (λ (o : Option Refusal). owned_unless o (owned_by verb id doc old) old.owned) answers.0)
  owned_is (Err faults.NoMemory) some answers = absurd (some refl)
  owned_is (Err (faults.ParallelArrays v)) some answers = answers.1 ∙ sym (ap (λ (o : Option Refusal). owned_unless o (owned_by verb id doc old) old.owned) answers.0.1)
  owned_is (Err (faults.DuplicateKey first second)) some answers = answers.1 ∙ sym (ap (λ (o : Option Refusal). owned_unless o (owned_by verb id doc old) old.owned) answers.0.1)
