use Rattle.std.proofs.Common.{◌≡◌, ℕ, ◌+◌, List, ◌++◌, take, sym, ap, ◌∙◌, arith, rules}
use Rattle.tool_io.proofs.Writes.{pieces_more, pieces_front, flat_more, whatever_err}
use Rattle.archive_format.specs.Crc.{crc_on}
use Rattle.archive_format.specs.Written.{joined}
use Rattle.archive_blocks.proofs.Linear.{after_both}
use Rattle.archive_blocks.proofs.writer.write_all.Goals as goal

pub returns-in_err-write-clause-err : goal.returns-in_err-write-clause-err
returns-in_err-write-clause-err g c =
    let docs = c.args.docs.now in
    let d = c.doc-item.result in
    whatever_err c.from_residual.result (pieces_front (λ (x : List ℕ). x) (g.K.Sink.end c.args.sink.now).bytes (g.K.Sink.end c.loop-doc.sink).bytes (g.K.Sink.end c.write.new.self).bytes docs c.loop-doc.doc-index d (omega arith) c.doc-item.is c.loop-doc.invariant.appends (search rules))

pub loop-doc-preserved : goal.loop-doc-preserved
loop-doc-preserved g c =
    let docs = c.args.docs.now in
    let i = c.loop-doc.doc-index in
    let d = c.doc-item.result in
    let more : joined (take (i + 1) docs) ≡ joined (take i docs) ++ d = flat_more (λ (x : List ℕ). x) docs i d (omega arith) c.doc-item.is in
    record {
      appends = pieces_more (λ (x : List ℕ). x) (g.K.Sink.end c.args.sink.now).bytes (g.K.Sink.end c.loop-doc.sink).bytes (g.K.Sink.end c.write.new.self).bytes docs i d (omega arith) c.doc-item.is c.loop-doc.invariant.appends (search rules);
      summed = c.add.ensures ∙ ap (crc_on c.loop-doc.sum) c.as_slice-in-loop-doc.ensures ∙ ap (λ (s : ℕ). crc_on s d) c.loop-doc.invariant.summed ∙ sym (ap (crc_on c.args.sum.now) more ∙ after_both (joined (take i docs)) d c.args.sum.now);
      later = omega (arith, c.loop-doc.invariant.later, c.in_ok-write.ensures.later);
    }
