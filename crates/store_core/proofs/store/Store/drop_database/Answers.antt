use Rattle.std.proofs.Common.{ℕ, List, refl, sym, ap, ◌∙◌, subst}
use Rattle.bson_value.specs.Spelling.{document_text}
use Rattle.entry_model.specs.Spelling.{entry_fields}
use Rattle.entry_model.specs.declared.entry.Action.TheVariants as actions
use Rattle.coll_state.specs.Changes.{drop_db}
use Rattle.schedule_model.specs.declared.command.Command.TheVariants as commands
use Rattle.copy_model.specs.Writes as writes
use Rattle.history_model.specs.Entries as entries
use Rattle.history_model.specs.Entries.{entry_with, database}
use Rattle.history_model.specs.Indexes.{IndexesHold}
use Rattle.store_log.specs.Logged.{Logged, logged}
use Rattle.coll_state.specs.Rows.{Rows}
use Rattle.store_core.specs.Stores.{Stored}
use Rattle.store_core.proofs.Made.{holds_one, made_one}
use Rattle.store_core.proofs.store.Store.drop_database.Goals as goal

abbrev stored : Rows → Logged → Stored
stored r l = record { rows = r; log = l }

pub take_database-requires-clause-holds : goal.take_database-requires-clause-holds
take_database-requires-clause-holds c =
    subst (λ (db : List ℕ). IndexesHold (drop_db db c.args.self.now.rows)) (sym c.as_str-2.ensures)
    (holds_one (commands.DropDatabase c.args.db.now) c.args.self.now (writes.DropDb c.args.db.now) (entries.DropDb c.args.db.now) (subst (λ s. IndexesHold s.rows) c.self.view_is c.self.invariant.holds) c.in_ok-drop_of_database.ensures)

pub returns : goal.returns
returns c =
    made_one (commands.DropDatabase c.args.db.now) (writes.DropDb c.args.db.now) (entries.DropDb c.args.db.now) c.args.self.now c.take_database.new.self c.in_ok-bytes.bytes c.next_ts.result refl c.in_ok-drop_of_database.ensures c.next_ts.ensures
    (c.in_ok-bytes.ensures ∙ ap (λ (db : List ℕ). document_text (entry_fields (entry_with c.next_ts.result (database db) actions.DropDb))) c.as_str.ensures)
    (c.take_database.ensures ∙ ap (λ (db : List ℕ). stored (drop_db db c.args.self.now.rows) (logged c.in_ok-bytes.bytes c.args.self.now.log)) c.as_str-2.ensures)
