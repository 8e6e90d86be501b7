use Rattle.std.proofs.Common.{refl, sym, ap, ◌∙◌}
use Rattle.std.specs.Prelude.{codes}
use Rattle.json_text.specs.Print.{escaped, quoted}
use Rattle.json_tree.specs.declared.tree.Tree.TheVariants as trees
use Rattle.extjson.specs.Trees.{pointer_tree, oid_tree}
use Rattle.document_lines.proofs.Texts.{nested_put, str_text}
use Rattle.document_lines.proofs.leaves.put_pointer.Goals as goal

pub returns : goal.returns
unfolding pointer_tree escaped
returns c =
    nested_put (codes "$dbPointer") (codes "$ref") (trees.Str c.args.ns.now) (codes "$id") (oid_tree c.args.id) c.args.out.now.items _ _ _ _ _ _ _ _ _
    refl (ap quoted c.as_bytes.ensures.value ∙ sym (str_text c.args.ns.now)) refl refl
    c.in_ok-extend_from_slice.ensures.items c.in_ok-put_quoted.ensures c.in_ok-extend_from_slice-2.ensures.items c.in_ok-put_object_id.ensures c.in_ok-extend_from_slice-3.ensures.items
