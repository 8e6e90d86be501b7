use Rattle.std.proofs.Common.{rules, ◌↔◌, ◌<◌, length}
use Rattle.std.specs.Prelude.{IsOk}
use Rattle.std.specs.List.{position_or_len}
use Rattle.row_script.specs.Rows.{is_blank}
use Rattle.row_script.proofs.Parts.{first_blank}
use Rattle.row_script.proofs.texts.words.Goals as goal

pub returns-clause-ok : goal.returns-clause-ok
returns-clause-ok c =
    let e : IsOk c.context.result ↔ (position_or_len is_blank c.args.text.now < length c.args.text.now) = search rules in
    let f = first_blank c.args.text.now in
    ((λ ok. f.0 (e.0 ok)), λ has. e.1 (f.1 has))
