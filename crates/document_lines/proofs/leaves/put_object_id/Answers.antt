use Rattle.std.proofs.Common.{refl}
use Rattle.std.specs.Prelude.{codes}
use Rattle.json_text.specs.Print.{escaped}
use Rattle.json_tree.specs.declared.tree.Tree.TheVariants as trees
use Rattle.hex.specs.Hex.{encode_lower}
use Rattle.extjson.specs.Trees.{oid_tree}
use Rattle.document_lines.proofs.Texts.{wrapped_put}
use Rattle.document_lines.proofs.leaves.put_object_id.Goals as goal

pub returns : goal.returns
unfolding oid_tree escaped
returns c =
    wrapped_put (codes "$oid") (trees.Str (encode_lower c.args.id)) c.args.out.now.items _ _ _ _ _ refl refl
    c.in_ok-extend_from_slice.ensures.items c.in_ok-put_digits.ensures c.in_ok-push.ensures.items
