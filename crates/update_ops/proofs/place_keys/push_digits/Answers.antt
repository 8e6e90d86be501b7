use Rattle.std.proofs.Common.{◌≡◌, ◌++◌, ◌∷◌, [], sym, ap, ◌∙◌, subst, OnOk, arith, List, ℕ}
use Rattle.std.specs.Fmt.{decimal}
use Rattle.bson_value.specs.Digits.{digits}
use Rattle.bson_value.proofs.Digits.{digits-is_decimal}
use Rattle.doc_path.proofs.Decimals.{decimal-no_zero}
use Rattle.doc_path.proofs.Steps.{on_ok}
use Rattle.update_ops.specs.Keys.{HasNoZero}
use Rattle.update_ops.proofs.Zeros.{no_zero}
use Rattle.update_ops.proofs.place_keys.push_digits.Goals as goal

pub returns-in_err-name-clause-clean : goal.returns-in_err-name-clause-clean
returns-in_err-name-clause-clean c = subst HasNoZero (sym (digits-is_decimal c.args.at (omega (arith, c.ranges.at.fits)))) (no_zero (decimal c.args.at) (decimal-no_zero c.args.at (omega (arith, c.ranges.at.fits))))

pub returns-clause-text : goal.returns-clause-text
returns-clause-text c =
    let is : c.as_bytes.result.now ≡ digits c.args.at = c.as_bytes.ensures.value ∙ (c.in_ok-name.ensures.ok ∙ sym (digits-is_decimal c.args.at (omega (arith, c.ranges.at.fits)))) in
    on_ok c.push_ended.result (λ e. e ∙ ap (λ (z : List ℕ). c.args.text.now ++ (z ++ (0 ∷ []))) is) c.push_ended.ensures

pub returns-clause-clean : goal.returns-clause-clean
returns-clause-clean c = subst HasNoZero (sym (digits-is_decimal c.args.at (omega (arith, c.ranges.at.fits)))) (no_zero (decimal c.args.at) (decimal-no_zero c.args.at (omega (arith, c.ranges.at.fits))))
