use Rattle.std.proofs.Common.{ℕ, List, refl, sym, ap, ◌∙◌, subst}
use Rattle.schedule_model.specs.declared.command.Command.TheVariants as commands
use Rattle.copy_model.specs.Writes as writes
use Rattle.history_model.specs.Entries as entries
use Rattle.bson_value.specs.Spelling.{document_text}
use Rattle.entry_model.specs.Spelling.{entry_fields}
use Rattle.entry_model.specs.declared.entry.Action.TheVariants as actions
use Rattle.history_model.specs.Entries.{entry_with}
use Rattle.history_model.specs.Indexes.{IndexesHold}
use Rattle.coll_state.specs.Rows.{Rows}
use Rattle.coll_state.specs.Changes.{drop_index}
use Rattle.store_log.specs.Logged.{Logged, logged}
use Rattle.store_core.specs.Stores.{Stored}
use Rattle.store_core.proofs.Made.{holds_one, made_one}
use Rattle.store_core.proofs.store.Store.drop_index.Goals as goal

abbrev stored : Rows → Logged → Stored
stored r l = record { rows = r; log = l }

pub take_index-requires-clause-holds : goal.take_index-requires-clause-holds
take_index-requires-clause-holds c =
    subst (λ (k : List ℕ). IndexesHold (drop_index c.args.ns.now k c.args.self.now.rows)) (sym c.as_str.ensures)
    (holds_one (commands.DropIndex c.args.ns.now c.args.name.now) c.args.self.now (writes.DropIndex c.args.ns.now c.args.name.now) (entries.DropIndex c.args.ns.now c.args.name.now) (subst (λ s. IndexesHold s.rows) c.self.view_is c.self.invariant.holds) c.in_ok-drop_of_index.ensures)

pub returns : goal.returns
returns c =
    made_one (commands.DropIndex c.args.ns.now c.args.name.now) (writes.DropIndex c.args.ns.now c.args.name.now) (entries.DropIndex c.args.ns.now c.args.name.now) c.args.self.now c.take_index.new.self c.in_ok-bytes.bytes c.next_ts.result refl c.in_ok-drop_of_index.ensures c.next_ts.ensures
    (c.in_ok-bytes.ensures ∙ ap (λ o. document_text (entry_fields (entry_with c.next_ts.result c.args.ns.now (actions.DropIndex o)))) c.in_ok-copy.ensures)
    (c.take_index.ensures ∙ ap (λ (k : List ℕ). stored (drop_index c.args.ns.now k c.args.self.now.rows) (logged c.in_ok-bytes.bytes c.args.self.now.log)) c.as_str.ensures)
