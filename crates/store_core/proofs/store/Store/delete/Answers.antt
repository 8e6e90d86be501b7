use Rattle.std.proofs.Common.{refl, ap, ◌∙◌, subst}
use Rattle.bson_value.specs.declared.value.Value.{Value}
use Rattle.bson_value.specs.Spelling.{document_text}
use Rattle.bson_encode.specs.Key.{key_of}
use Rattle.entry_model.specs.Spelling.{entry_fields}
use Rattle.entry_model.specs.declared.entry.Action.TheVariants as actions
use Rattle.schedule_model.specs.declared.command.Command.TheVariants as commands
use Rattle.schedule_model.specs.declared.command.DocumentCommand.TheVariants as changes
use Rattle.copy_model.specs.Writes as writes
use Rattle.history_model.specs.Entries.{entry_with}
use Rattle.history_model.specs.Entries as entries
use Rattle.history_model.specs.Indexes.{IndexesHold}
use Rattle.store_core.proofs.Made.{holds_one, made_one}
use Rattle.store_core.proofs.store.Store.delete.Goals as goal

pub remove-requires-clause-holds : goal.remove-requires-clause-holds
remove-requires-clause-holds c = holds_one (commands.Document (changes.Delete c.args.ns.now c.args.id.now)) c.args.self.now (writes.Remove c.args.ns.now (key_of c.args.id.now)) (entries.Remove c.args.ns.now c.args.id.now) (subst (λ s. IndexesHold s.rows) c.self.view_is c.self.invariant.holds) c.in_ok-removal.ensures

pub returns : goal.returns
returns c =
    made_one (commands.Document (changes.Delete c.args.ns.now c.args.id.now)) (writes.Remove c.args.ns.now (key_of c.args.id.now)) (entries.Remove c.args.ns.now c.args.id.now) c.args.self.now c.remove.new.self c.in_ok-bytes.bytes c.next_ts.result refl c.in_ok-removal.ensures c.next_ts.ensures
    (c.in_ok-bytes.ensures ∙ ap (λ (v : Value). document_text (entry_fields (entry_with c.next_ts.result c.args.ns.now (actions.Remove v)))) c.in_ok-copy.ensures) c.remove.ensures
