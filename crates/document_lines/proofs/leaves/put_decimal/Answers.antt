use Rattle.std.proofs.Common.{◌≡◌, refl, ap, rules}
use Rattle.std.specs.Prelude.{codes}
use Rattle.json_text.specs.Print.{escaped}
use Rattle.std.specs.Prelude.{reverse}
use Rattle.extjson.specs.Trees.{decimal_tree, hex_text}
use Rattle.json_text.specs.Print.{text_of}
use Rattle.document_lines.proofs.Texts.{wrapped_put}
use Rattle.document_lines.proofs.leaves.put_decimal.Goals as goal

pub returns : goal.returns
unfolding decimal_tree escaped
returns c =
    let bits : c.reverse.new.self ≡ reverse c.args.bits = search rules in
    wrapped_put (codes "$numberDecimalBits") (hex_text (reverse c.args.bits)) c.args.out.now.items _ _ _ _ _ refl (ap (λ z. text_of (hex_text z)) bits)
    c.in_ok-extend_from_slice.ensures.items c.in_ok-put_digits.ensures c.in_ok-push.ensures.items
