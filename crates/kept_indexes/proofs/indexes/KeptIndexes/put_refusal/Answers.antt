use Rattle.std.proofs.Common.{◌≡◌, Option, Some, ap, sym, ◌∙◌}
use Rattle.std.specs.Option.{option_copied}
use Rattle.bson_encode.specs.Key.{key_of}
use Rattle.coll_state.specs.Changes.{put_row}
use Rattle.history_model.specs.Refusals.{rows_in, definitions_in}
use Rattle.schedule_model.specs.declared.refused.Refused.{Refused}
use Rattle.command_refusals.specs.Tests.{rows_refusal}
use Rattle.kept_indexes.proofs.Told.{if_ok, told_rows}
use Rattle.kept_indexes.proofs.indexes.KeptIndexes.put_refusal.Goals as goal

pub returns-in-Some : goal.returns-in-Some
returns-in-Some c =
    if_ok c.told.result c.told.ensures (λ o e. e ∙ told_rows c.args.self.now c.args.state.now c.args.ns.now c.in-Some.indexes.now (key_of c.args.id.now) c.args.doc.now c.requires.kept (sym c.get.ensures ∙ ap option_copied c.in-Some.is))
