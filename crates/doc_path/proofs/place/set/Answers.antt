use Rattle.bson_value.specs.declared.value.Value.TheVariants.{Object}
use Rattle.doc_path.proofs.Changed.{is_set_at}
use Rattle.doc_path.proofs.Steps.{on_ok}
use Rattle.doc_path.proofs.place.set.Goals as goal

pub returns-in-Some-clause-document : goal.returns-in-Some-clause-document
returns-in-Some-clause-document c =
    on_ok c.change_in.result (λ e. (is_set_at c.args.place.now c.in-Some.way.now c.in-Some.last.now c.args.value (Object c.args.doc.now) (Object c.change_in.new.doc) (rw (c.as_slice.ensures, c.parts.ensures.parts) at c.in-Some.ensures.cases.0) c.requires e).document) c.change_in.ensures.ok

pub returns-in-Some-clause-there : goal.returns-in-Some-clause-there
returns-in-Some-clause-there c =
    on_ok c.change_in.result (λ e. (is_set_at c.args.place.now c.in-Some.way.now c.in-Some.last.now c.args.value (Object c.args.doc.now) (Object c.change_in.new.doc) (rw (c.as_slice.ensures, c.parts.ensures.parts) at c.in-Some.ensures.cases.0) c.requires e).there) c.change_in.ensures.ok

pub returns-in-Some-clause-elsewhere : goal.returns-in-Some-clause-elsewhere
returns-in-Some-clause-elsewhere c =
    on_ok c.change_in.result (λ e. (is_set_at c.args.place.now c.in-Some.way.now c.in-Some.last.now c.args.value (Object c.args.doc.now) (Object c.change_in.new.doc) (rw (c.as_slice.ensures, c.parts.ensures.parts) at c.in-Some.ensures.cases.0) c.requires e).elsewhere) c.change_in.ensures.ok
