use Rattle.std.proofs.Common.{◌≡◌, refl, rules, arith}
use Rattle.std.specs.Prelude.{codes}
use Rattle.json_text.specs.Print.{escaped}
use Rattle.std.specs.Fmt.{signed_decimal}
use Rattle.extjson.specs.Trees.{long_tree}
use Rattle.document_lines.proofs.NumberTexts.{plain_number, plain_put}
use Rattle.document_lines.proofs.leaves.put_long.Goals as goal

pub returns : goal.returns
unfolding long_tree escaped
returns c =
    let digits : c.as_bytes.result.now ≡ signed_decimal c.args.n = search rules in
    plain_put (codes "$numberLong") (signed_decimal c.args.n) c.args.out.now.items _ _ _ _ _ _ refl digits (plain_number c.args.n (omega (arith, c.ranges.n.sfits)))
    c.in_ok-extend_from_slice.ensures.items c.in_ok-extend_from_slice-2.ensures.items c.in_ok-push.ensures.items c.in_ok-push-2.ensures.items
