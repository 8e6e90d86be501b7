use Rattle.std.proofs.Common.{◌∙◌, arith, slice_index}
use Rattle.std.proofs.lemmas.Nat.{le_or_l, le_or_r}
use Rattle.std.proofs.lemmas.Str.Ascii.{IsAscii-more}
use Rattle.bson_check.proofs.Texts.{later_place, no_zero_more}
use Rattle.bson_check.proofs.parts.name_span.Goals as goal

pub loop-at-preserved : goal.loop-at-preserved
loop-at-preserved c =
    let bytes = c.args.bytes.now in
    let at = c.loop-at.at in
    let seen = c.loop-at.seen in
    let byte = slice_index bytes at in
    record {
      place = later_place bytes at (omega (arith, c.loop-at-test.true)) (omega (arith, c.if-byte-eq0.false)) ∙ c.loop-at.invariant.place;
      ascii = λ low. IsAscii-more bytes at (omega (arith, c.loop-at-test.true))
          (c.loop-at.invariant.ascii (omega (arith, low, le_or_l seen byte)))
          (omega (arith, low, le_or_r seen byte));
      no_zero = no_zero_more bytes at (omega (arith, c.loop-at-test.true)) (omega (arith, c.if-byte-eq0.false)) c.loop-at.invariant.no_zero;
    }
