use Rattle.std.proofs.Common.{sym, ◌∙◌}
use Rattle.bson_value.specs.declared.value.Value.TheVariants.{Object}
use Rattle.doc_path.proofs.Steps.{on_ok}
use Rattle.delta_apply.proofs.Changed.{plays_if, leaves_if}
use Rattle.delta_apply.proofs.playing.play_at.Goals as goal

pub returns-then-is_left-clause-ok : goal.returns-then-is_left-clause-ok
returns-then-is_left-clause-ok c =
    leaves_if c.args.form c.args.place.now c.in-Some.way.now c.in-Some.last.now c.args.action (Object c.args.doc.now) (rw (c.as_slice-parts.ensures, c.parts.ensures.parts) at c.in-Some.ensures.cases.0) (sym (rw (c.as_slice-parts.ensures, c.parts.ensures.parts) at c.is_left.ensures) ∙ c.if-is_left.true)

pub returns-else-is_left-clause-ok : goal.returns-else-is_left-clause-ok
returns-else-is_left-clause-ok c =
    on_ok c.change_document.result (λ e.
    plays_if c.args.form c.args.place.now c.in-Some.way.now c.in-Some.last.now c.args.action (Object c.args.doc.now) (Object c.change_document.new.doc) (rw (c.as_slice-parts.ensures, c.parts.ensures.parts) at c.in-Some.ensures.cases.0) (sym (rw (c.as_slice-parts.ensures, c.parts.ensures.parts) at c.is_left.ensures) ∙ c.if-is_left.false) e) c.change_document.ensures.ok
