use Rattle.std.proofs.Common.{sym, ◌∙◌, arith, slice_index}
use Rattle.std.proofs.lemmas.Nat.{le_or_l, le_or_r}
use Rattle.std.proofs.lemmas.Str.Ascii.{IsAscii-more}
use Rattle.plain_json.proofs.Spans.{span_more}
use Rattle.plain_json.proofs.tokens.plain_span.Goals as goal

pub bytes-preserved : goal.bytes-preserved
bytes-preserved c =
    let bytes = c.args.bytes.now in
    let len = c.bytes.len in
    let seen = c.bytes.seen in
    let byte = slice_index bytes len in
    record {
      value = span_more bytes len c.bytes-test.true (sym c.stands_for_itself.ensures ∙ c.if-not-stands_for_itself.false) ∙ c.bytes.invariant.value;
      within = omega (arith, c.bytes-test.true);
      ascii = λ low. IsAscii-more bytes len c.bytes-test.true
          (c.bytes.invariant.ascii (omega (arith, low, le_or_l seen byte)))
          (omega (arith, low, le_or_r seen byte));
    }
