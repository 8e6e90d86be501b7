use Rattle.std.proofs.Common.{◌≡◌, ℕ, List, IfOk, refl, subst}
use Rattle.bson_value.specs.Spelling.{document_text}
use Rattle.entry_model.specs.Spelling.{entry_fields}
use Rattle.entry_model.specs.declared.entry.Action.TheVariants as actions
use Rattle.history_model.specs.Entries.{entry_with}
use Rattle.store_core.proofs.InsertEffects.{creation_text}
use Rattle.store_core.proofs.store.Store.creation_bytes.Goals as goal

pub returns : goal.returns
returns c =
    subst (λ (t : List ℕ). IfOk c.spelled_of.result (λ bytes. bytes ≡ t))
    (creation_text c.args.ns.now c.args.self.now.log (document_text (entry_fields (entry_with c.next_ts.result c.args.ns.now (actions.Create c.new-options.result)))) c.next_ts.result c.new-options.result c.new-options.ensures c.next_ts.ensures refl)
    c.spelled_of.ensures
