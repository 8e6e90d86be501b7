use Rattle.std.proofs.Common.{arith, sym, subst, ◌∙◌}
use Rattle.json_tree.specs.Numbers.{IsNumber}
use Rattle.extjson.proofs.Decimals.{decimal_number}
use Rattle.extjson.proofs.writing.number.Goals as goal

pub of-requires : goal.of-requires
of-requires c = subst IsNumber (sym (c.in_ok-digits.ensures ∙ c.in_ok-to_string.ensures.ok)) (decimal_number c.args.n (omega (arith, c.ranges.n.fits)))
