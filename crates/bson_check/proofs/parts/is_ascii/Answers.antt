use Rattle.std.proofs.Common.{arith, slice_index}
use Rattle.std.proofs.lemmas.Nat.{le_or_l, le_or_r}
use Rattle.std.proofs.lemmas.Str.Ascii.{IsAscii-more}
use Rattle.bson_check.proofs.parts.is_ascii.Goals as goal

pub loop-byte-preserved : goal.loop-byte-preserved
loop-byte-preserved c = λ low.
    let bytes = c.args.bytes.now in
    let seen = c.loop-byte.seen in
    let byte = slice_index bytes c.loop-byte.byte-index in
    IsAscii-more bytes c.loop-byte.byte-index (omega (arith, c.loop-byte-test.true))
    (c.loop-byte.invariant (omega (arith, low, le_or_l seen byte)))
    (omega (arith, low, le_or_r seen byte))
