use Rattle.std.proofs.Common.{◌≡◌, refl, sym, ap, ◌∙◌, rules}
use Rattle.std.specs.Prelude.{codes}
use Rattle.json_text.specs.Print.{escaped, quoted}
use Rattle.json_tree.specs.declared.tree.Tree.TheVariants as trees
use Rattle.std.specs.Prelude.{◌∷◌, []}
use Rattle.base64.specs.Engines.{standard}
use Rattle.base64.specs.GeneralPurpose.{encode_of}
use Rattle.extjson.specs.Trees.{binary_tree, hex_text}
use Rattle.document_lines.proofs.Texts.{nested_put, str_text}
use Rattle.document_lines.proofs.leaves.put_binary.Goals as goal

pub returns : goal.returns
unfolding binary_tree escaped
returns c =
    let text : c.as_bytes.result.now ≡ encode_of standard c.args.bytes.now = search rules in
    nested_put (codes "$binary") (codes "base64") (trees.Str (encode_of standard c.args.bytes.now)) (codes "subType") (hex_text (c.args.subtype ∷ [])) c.args.out.now.items _ _ _ _ _ _ _ _ _
    refl (ap quoted text ∙ sym (str_text (encode_of standard c.args.bytes.now))) refl refl
    c.in_ok-extend_from_slice.ensures.items c.in_ok-put_quoted.ensures c.in_ok-extend_from_slice-2.ensures.items c.in_ok-put_digits.ensures c.in_ok-extend_from_slice-3.ensures.items
