use Rattle.std.proofs.Common.{◌≡◌, Option, Some, ap, sym, ◌∙◌}
use Rattle.std.specs.Option.{option_copied}
use Rattle.std.specs.FinMap as map
use Rattle.bson_encode.specs.Key.{key_of}
use Rattle.coll_state.specs.Changes.{put_row}
use Rattle.history_model.specs.Refusals.{rows_in}
use Rattle.kept_indexes.proofs.Told.{if_ok, told_rows, nothing_told}
use Rattle.kept_indexes.proofs.indexes.KeptIndexes.kept_refusal.Goals as goal

pub returns-in-Some : goal.returns-in-Some
returns-in-Some c r kept has =
    if_ok c.told.result c.told.ensures (λ o e. e ∙ told_rows c.args.self.now r c.args.ns.now c.in-Some.indexes.now (key_of c.args.id.now) c.args.doc.now kept (sym c.get.ensures ∙ ap option_copied c.in-Some.is))

pub returns-in-None : goal.returns-in-None
returns-in-None c r kept has =
    nothing_told c.args.self.now r c.args.ns.now (put_row 0 (key_of c.args.id.now) c.args.doc.now (rows_in (map.get r.tables c.args.ns.now))) has (sym c.get.ensures ∙ ap option_copied c.in-None.is)
