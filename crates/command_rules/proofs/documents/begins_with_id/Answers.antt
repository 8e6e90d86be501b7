use Rattle.std.proofs.Common.{sym, ap, ◌∙◌}
use Rattle.std.specs.Prelude.{slice_get}
use Rattle.std.proofs.lemmas.Slice.Eq.{bytes_eq-Decides}
use Rattle.coll_state.specs.Rows.{Document}
use Rattle.doc_path.specs.Played.{id_name}
use Rattle.command_rules.proofs.Spelled.{begins, has_first, begins_otherwise}
use Rattle.command_rules.proofs.documents.begins_with_id.Goals as goal

pub returns-in-Some-clause-there : goal.returns-in-Some-clause-there
returns-in-Some-clause-there c = λ yes.
    has_first c.args.doc.now c.in-Some.field-0.now (c.in-Some.ensures.value ∙ ap (λ (d : Document). slice_get d 0) c.entries.ensures.entries)
    (sym c.as_str.ensures.text ∙ (bytes_eq-Decides c.as_str.result.now id_name).0 (sym c.eq.ensures ∙ yes))

pub returns-in-Some-clause-first : goal.returns-in-Some-clause-first
returns-in-Some-clause-first c = λ yes.
    begins c.args.doc.now c.in-Some.field-0.now c.entries.ensures.distinct (c.in-Some.ensures.value ∙ ap (λ (d : Document). slice_get d 0) c.entries.ensures.entries)
    (sym c.as_str.ensures.text ∙ (bytes_eq-Decides c.as_str.result.now id_name).0 (sym c.eq.ensures ∙ yes))

pub returns-in-Some-clause-no : goal.returns-in-Some-clause-no
returns-in-Some-clause-no c = λ otherwise.
    begins_otherwise c.args.doc.now c.in-Some.field-0.now (c.in-Some.ensures.value ∙ ap (λ (d : Document). slice_get d 0) c.entries.ensures.entries)
    (λ named.
    let same = (bytes_eq-Decides c.as_str.result.now id_name).1 (c.as_str.ensures.text ∙ named) in
    let other = sym c.eq.ensures ∙ otherwise in
    cc)
