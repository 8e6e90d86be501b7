use Rattle.bson_value.specs.declared.value.Value.TheVariants.{Object}
use Rattle.doc_path.proofs.Emptied.{is_unset_at}
use Rattle.doc_path.proofs.place.unset.Goals as goal

pub returns-in-Some-clause-document : goal.returns-in-Some-clause-document
returns-in-Some-clause-document c =
    (is_unset_at c.args.place.now c.in-Some.way.now c.in-Some.last.now (Object c.args.doc.now) (Object c.take_out.new.doc) (rw (c.as_slice.ensures, c.parts.ensures.parts) at c.in-Some.ensures.cases.0) c.take_out.ensures).document

pub returns-in-Some-clause-after : goal.returns-in-Some-clause-after
returns-in-Some-clause-after c =
    (is_unset_at c.args.place.now c.in-Some.way.now c.in-Some.last.now (Object c.args.doc.now) (Object c.take_out.new.doc) (rw (c.as_slice.ensures, c.parts.ensures.parts) at c.in-Some.ensures.cases.0) c.take_out.ensures).after

pub returns-in-Some-clause-elsewhere : goal.returns-in-Some-clause-elsewhere
returns-in-Some-clause-elsewhere c =
    (is_unset_at c.args.place.now c.in-Some.way.now c.in-Some.last.now (Object c.args.doc.now) (Object c.take_out.new.doc) (rw (c.as_slice.ensures, c.parts.ensures.parts) at c.in-Some.ensures.cases.0) c.take_out.ensures).elsewhere
