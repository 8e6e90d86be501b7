use Rattle.std.proofs.Common.{ℕ, List, ap, ◌∙◌}
use Rattle.bson_value.specs.declared.value.Value.TheVariants as values
use Rattle.bson_view.specs.Meaning.{document_in}
use Rattle.bson_view.proofs.Nested.{code_long, code_there, is_scope, code_value}
use Rattle.bson_view.proofs.value_ref.scoped_code.Goals as goal

pub slice_bounds-behind-count : goal.slice_bounds-behind-count
slice_bounds-behind-count c = let e = c.args.elem.now in code_long e.tag e.value.now e.spelled c.requires e.short

pub slice_bounds-behind-start : goal.slice_bounds-behind-start
slice_bounds-behind-start c = let e = c.args.elem.now in code_long e.tag e.value.now e.spelled c.requires e.short

pub of_element-requires : goal.of_element-requires
of_element-requires c = let e = c.args.elem.now in is_scope e.tag e.value.now e.spelled c.requires e.short c.in-Ok.code.now c.in-Ok.scope.now c.in-Ok.ensures.gives

pub returns-in-Ok : goal.returns-in-Ok
returns-in-Ok c =
    let e = c.args.elem.now in
    ap (λ (b : List ℕ). values.ScopedCode c.in-Ok.code.now (document_in b)) c.of_element.ensures ∙ code_value e.tag e.value.now e.spelled c.requires e.short c.in-Ok.code.now c.in-Ok.scope.now c.in-Ok.ensures.gives

pub returns-in-Err : goal.returns-in-Err
returns-in-Err c = let e = c.args.elem.now in absurd (code_there e.tag e.value.now e.spelled c.requires e.short c.in-Err.field-0 c.in-Err.ensures.gives)
