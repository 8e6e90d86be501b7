use Rattle.std.proofs.Common.{sym, ◌∙◌}
use Rattle.plain_json.proofs.Digits.{natural_read}
use Rattle.plain_json.proofs.numbers.natural.Goals as goal

pub returns-clause-read : goal.returns-clause-read
returns-clause-read c =
    natural_read c.args.bytes.now c.in_ok-number.number c.in_ok-number.count c.split_at.result.1.now (λ e. c.if-count-eq0.false e) c.in_ok-number.ensures.fits c.in_ok-number.ensures.digits c.in_ok-number.ensures.value
    c.in_ok-number.ensures.ends (rw c.if-is_padded.false at c.is_padded.ensures) c.split_at.ensures.back (sym c.goes_on.ensures ∙ c.if-goes_on.false)
