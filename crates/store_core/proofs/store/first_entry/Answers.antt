use Rattle.std.proofs.Common.{◌≡◌, ℕ, List, IfOk, ◌∙◌, subst}
use Rattle.bson_value.specs.Spelling.{document_text}
use Rattle.entry_model.specs.Spelling.{entry_fields}
use Rattle.history_model.specs.Entries.{Nothing, entry_with}
use Rattle.history_model.specs.Stages.{first_ts}
use Rattle.entry_model.specs.declared.entry.Action.TheVariants as actions
use Rattle.store_core.proofs.Bytes.{entry_text}
use Rattle.store_core.proofs.store.first_entry.Goals as goal

pub returns : goal.returns
returns c =
    subst (λ (t : List ℕ). IfOk c.spelled.result (λ bytes. bytes ≡ t))
    ((λ i. document_text (entry_fields (entry_with first_ts (record { db = c.new.ensures i; coll = c.new-2.ensures i }) actions.Nothing))) ∙ entry_text first_ts Nothing)
    c.spelled.ensures
