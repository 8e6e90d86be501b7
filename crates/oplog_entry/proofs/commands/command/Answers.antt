use Rattle.std.proofs.Common.{◌≡◌, ◌∷◌, sym, ap, ◌∙◌}
use Rattle.std.specs.Prelude.{Ok}
use Rattle.entry_model.specs.Reading.{command, no_group, other}
use Rattle.oplog_entry.specs.Parts.{further}
use Rattle.oplog_entry.proofs.Parts.{first_field, unlike, unknown_command}
use Rattle.oplog_entry.proofs.commands.command.Goals as goal

pub returns-in_ok-other-in_default-as_str : goal.returns-in_ok-other-in_default-as_str
returns-in_ok-other-in_default-as_str c =
    let n = c.as_str.result.now in
    let item = c.in-Some.ensures.item in
    let f = c.in-Some.field-0.now in
    let whole : c.entries.result.now ≡ f ∷ further c.entries.result.now = first_field c.entries.result.now f item.0 item.1 in
    let key : f.0 ≡ n = sym c.as_str.ensures.text in
    let parts : f ≡ (n, f.1) = λ i. (key i, f.1) in
    let d = c.in_default-as_str in
    let last : c.in_ok-other-in_default-as_str.field-0 ≡ other c.args.db.now n f.1 = c.in_ok-other-in_default-as_str.ensures in
    ap (command no_group c.args.db.now) (sym c.entries.ensures.entries ∙ (whole ∙ ap (λ g. g ∷ further c.entries.result.now) parts))
    ∙ (unknown_command c.args.db.now n f.1 (further c.entries.result.now) (record {
      create = unlike n _ d.not-create;
      drop = unlike n _ d.not-drop;
      drop_database = unlike n _ d.not-dropDatabase;
      create_indexes = unlike n _ d.not-createIndexes;
      commit = unlike n _ d.not-commitIndexBuild;
      start = unlike n _ d.not-startIndexBuild;
      abort = unlike n _ d.not-abortIndexBuild;
      drop_indexes = unlike n _ d.not-dropIndexes;
      rename = unlike n _ d.not-renameCollection;
    })
    ∙ ap Ok (sym last))
