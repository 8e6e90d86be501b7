use Rattle.std.proofs.Common.{refl, sym}
use Rattle.std.specs.Prelude.{codes}
use Rattle.json_text.specs.Print.{escaped}
use Rattle.json_tree.specs.declared.tree.Tree.TheVariants as trees
use Rattle.std.specs.Fmt.{decimal}
use Rattle.extjson.specs.Trees.{stamp_tree}
use Rattle.document_lines.proofs.Texts.{nested_put, number_text}
use Rattle.document_lines.proofs.leaves.put_stamp.Goals as goal

pub returns : goal.returns
unfolding stamp_tree escaped
returns c =
    let ts = c.args.ts in
    nested_put (codes "$timestamp") (codes "t") (trees.Number (decimal ts.secs)) (codes "i") (trees.Number (decimal ts.inc)) c.args.out.now.items _ _ _ _ _ _ _ _ _
    refl (sym (number_text (decimal ts.secs))) refl (sym (number_text (decimal ts.inc)))
    c.in_ok-extend_from_slice.ensures.items c.in_ok-put_number.ensures c.in_ok-extend_from_slice-2.ensures.items c.in_ok-put_number-2.ensures c.in_ok-extend_from_slice-3.ensures.items
