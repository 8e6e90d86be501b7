use Rattle.std.proofs.Common.{refl, sym, ap, ◌∙◌}
use Rattle.std.specs.Prelude.{codes}
use Rattle.json_text.specs.Print.{escaped, quoted}
use Rattle.json_tree.specs.declared.tree.Tree.TheVariants as trees
use Rattle.extjson.specs.Trees.{regex_tree}
use Rattle.document_lines.proofs.Texts.{nested_put, str_text}
use Rattle.document_lines.proofs.leaves.put_regex.Goals as goal

pub returns : goal.returns
unfolding regex_tree escaped
returns c =
    nested_put (codes "$regularExpression") (codes "pattern") (trees.Str c.args.pattern.now) (codes "options") (trees.Str c.args.options.now) c.args.out.now.items _ _ _ _ _ _ _ _ _
    refl (ap quoted c.as_bytes.ensures.value ∙ sym (str_text c.args.pattern.now)) refl (ap quoted c.as_bytes-2.ensures.value ∙ sym (str_text c.args.options.now))
    c.in_ok-extend_from_slice.ensures.items c.in_ok-put_quoted.ensures c.in_ok-extend_from_slice-2.ensures.items c.in_ok-put_quoted-2.ensures c.in_ok-extend_from_slice-3.ensures.items
