use Rattle.std.proofs.Common.{refl, sym, ap, ◌∙◌}
use Rattle.std.specs.Prelude.{codes}
use Rattle.json_text.specs.Print.{escaped, quoted}
use Rattle.json_tree.specs.declared.tree.Tree.TheVariants as trees
use Rattle.extjson.specs.Trees.{symbol_tree}
use Rattle.document_lines.proofs.Texts.{wrapped_put, str_text}
use Rattle.document_lines.proofs.leaves.put_symbol.Goals as goal

pub returns : goal.returns
unfolding symbol_tree escaped
returns c =
    wrapped_put (codes "$symbol") (trees.Str c.args.text.now) c.args.out.now.items _ _ _ _ _ refl (ap quoted c.as_bytes.ensures.value ∙ sym (str_text c.args.text.now))
    c.in_ok-extend_from_slice.ensures.items c.in_ok-put_quoted.ensures c.in_ok-push.ensures.items
