use Rattle.std.proofs.Common.{◌∙◌, sym}
use Rattle.containers.proofs.Entries.{place_is, has_not}
use Rattle.doc_path.proofs.Steps.{on_ok}
use Rattle.doc_path.proofs.writing.set_field.Goals as goal

pub returns-in-Some-clause-ok : goal.returns-in-Some-clause-ok
returns-in-Some-clause-ok c =
    let place = rw c.as_str.ensures.text at c.in-Some.ensures.place in
    c.replace.ensures.new ∙ sym ((place_is c.args.name.now c.args.doc.now c.in-Some.at place).written c.args.value)

pub returns-in_ok-name-in-None-clause-ok : goal.returns-in_ok-name-in-None-clause-ok
returns-in_ok-name-in-None-clause-ok c =
    let place = rw c.as_str.ensures.text at c.in-None.ensures.place in
    on_ok c.add.result (λ e. rw c.in_ok-name-in-None.ensures at e ∙ sym ((has_not c.args.name.now c.args.doc.now place).written c.args.value)) c.add.ensures.ok
