use Rattle.std.proofs.Common.{◌≡◌, ◌∙◌}
use Rattle.std.specs.Str.{bytes_eq}
use Rattle.command_refusals.proofs.RowTests.{bytes_key}
use Rattle.command_refusals.proofs.collection_rows.same_database.Goals as goal

pub returns : goal.returns
returns c =
    let e : c.eq.result ≡ bytes_eq c.args.from.now.db c.args.to.now.db = cc in
    e ∙ bytes_key c.args.from.now.db c.args.to.now.db
