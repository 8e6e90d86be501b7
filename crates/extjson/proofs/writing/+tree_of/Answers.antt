use Rattle.std.proofs.Common.{◌≡◌, ap, sym, subst, ◌∙◌}
use Rattle.std.specs.Prelude.{IfOk}
use Rattle.std.proofs.lemmas.List.{take_all}
use Rattle.json_tree.specs.declared.tree.Tree.{Tree}
use Rattle.extjson.specs.Trees.{tree_of, fields_of}
use Rattle.extjson.proofs.Wraps.{names_kept, scoped_is, scoped_same}
use Rattle.extjson.proofs.writing.+tree_of.Goals as goal

pub fields-of_distinct-requires : goal.fields-of_distinct-requires
fields-of_distinct-requires t c =
    let all = ap fields_of (take_all c.loop-field.field-index c.args.list.now c.loop-field-test.false) in
    rw (c.loop-field.invariant ∙ all, names_kept) c.requires

pub tree-returns-in_ok-scope-in-ScopedCode : goal.tree-returns-in_ok-scope-in-ScopedCode
tree-returns-in_ok-scope-in-ScopedCode t c =
    let made = scoped_same _ _ _ _ c.as_str-in-ScopedCode.ensures (c.in_ok-scope-in-ScopedCode.ensures ∙ ap fields_of c.entries-in-ScopedCode.ensures.entries) in
    let told = ap tree_of c.in-ScopedCode.is ∙ scoped_is c.in-ScopedCode.code c.in-ScopedCode.scope in
    subst (λ (u : Tree). IfOk c.scoped.result (λ x. x ≡ u)) (made ∙ sym told) c.scoped.ensures
