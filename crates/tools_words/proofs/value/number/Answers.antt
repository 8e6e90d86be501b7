use Rattle.std.proofs.Common.{◌≡◌, true, false, sym, ap, ◌∙◌, arith}
use Rattle.std.specs.Str.{bytes_eq}
use Rattle.std.proofs.lemmas.Slice.Eq.{bytes_eq-Decides}
use Rattle.tools_words.proofs.DecimalTexts.{is_number, no_number, other_digits}
use Rattle.tools_words.proofs.value.number.Goals as goal

pub returns-in-Err : goal.returns-in-Err
returns-in-Err c = sym (no_number c.args.text.now c.in-Err.ensures.value.0)

pub returns-then-eq : goal.returns-then-eq
returns-then-eq c =
    let same : bytes_eq c.format.result.now c.args.text.now ≡ true = sym c.eq.ensures ∙ c.if-eq.true in
    sym (is_number c.in-Ok.number c.args.text.now (omega arith) (sym ((bytes_eq-Decides c.format.result.now c.args.text.now).0 same) ∙ c.format.ensures.text))

pub returns-else-eq : goal.returns-else-eq
returns-else-eq c =
    let differ : bytes_eq c.format.result.now c.args.text.now ≡ false = sym c.eq.ensures ∙ c.if-eq.false in
    sym (other_digits c.args.text.now c.in-Ok.number c.in-Ok.ensures.value.0.1 (ap (λ z. bytes_eq z c.args.text.now) (sym c.format.ensures.text) ∙ differ))
