use Rattle.std.proofs.Common.{sym, ap, ◌∙◌}
use Rattle.std.specs.List.{list_all}
use Rattle.std.specs.Char.{is_ascii_digit}
use Rattle.index_keys.proofs.Loops.{one_passes}
use Rattle.index_keys.proofs.plan.has_digits.Goals as goal

pub returns-then-are_digits : goal.returns-then-are_digits
returns-then-are_digits c =
    one_passes (list_all is_ascii_digit) c.args.names.now c.loop-name.name-index c.name-item.result c.loop-name-test.true c.name-item.is
    (ap (list_all is_ascii_digit) (sym c.as_str.ensures.text) ∙ (sym c.are_digits.ensures ∙ c.if-are_digits.true))
