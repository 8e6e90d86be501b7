use Rattle.std.proofs.Common.{sym, ◌∙◌}
use Rattle.std.proofs.lemmas.Result.{err_from_is_err_and}
use Rattle.metadata_text.proofs.Shapes.{meta_empty, json_fails, no_object, no_options, no_indexes, both_there}
use Rattle.metadata_text.proofs.reading.metadata.Goals as goal

pub returns-then-is_empty : goal.returns-then-is_empty
returns-then-is_empty c = rw (c.new.ensures, c.new-then-is_empty.ensures) (meta_empty c.args.text.now (sym c.is_empty.ensures ∙ c.if-is_empty.true))

pub returns-in_err-tree : goal.returns-in_err-tree
returns-in_err-tree c =
    let p = err_from_is_err_and c.from_residual.result c.from_residual.ensures.1 in
    rw p.1 (json_fails c.args.text.now (sym c.is_empty.ensures ∙ c.if-is_empty.false) _ _ p.2 c.in_err-tree.ensures.gives)

pub returns-in_default : goal.returns-in_default
returns-in_default c = no_object c.args.text.now (sym c.is_empty.ensures ∙ c.if-is_empty.false) c.in_ok-tree.tree c.in_ok-tree.ensures.gives c.in_default.not-Object

pub returns-in_default-2 : goal.returns-in_default-2
returns-in_default-2 c = no_options c.args.text.now (sym c.is_empty.ensures ∙ c.if-is_empty.false) c.in-Object.fields (rw c.in-Object.is at c.in_ok-tree.ensures.gives) (sym c.in_ok-options.ensures ∙ c.in_default-2.is)

pub returns-in_default-3 : goal.returns-in_default-3
returns-in_default-3 c = no_indexes c.args.text.now (sym c.is_empty.ensures ∙ c.if-is_empty.false) c.in-Object.fields (rw c.in-Object.is at c.in_ok-tree.ensures.gives) _ (sym c.in_ok-options.ensures ∙ c.in-Some.is) (sym c.in_ok-defs.ensures ∙ c.in_default-3.is)

pub returns : goal.returns
returns c = both_there c.args.text.now (sym c.is_empty.ensures ∙ c.if-is_empty.false) c.in-Object.fields (rw c.in-Object.is at c.in_ok-tree.ensures.gives) _ _ (sym c.in_ok-options.ensures ∙ c.in-Some.is) (sym c.in_ok-defs.ensures ∙ c.in-Some-2.is)
