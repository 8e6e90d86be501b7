use Rattle.std.proofs.Common.{arith, rules}
use Rattle.tool_io.proofs.Writes.{front_none, pieces_front, whatever_err}
use Rattle.archive_prelude.proofs.Pieces.{meta_bytes}
use Rattle.archive_prelude.proofs.writing.write_metas.Goals as goal

pub returns-in_err-bytes-clause-err : goal.returns-in_err-bytes-clause-err
returns-in_err-bytes-clause-err g c =
    let m = c.meta-item.result in
    whatever_err c.from_residual.result (pieces_front meta_bytes (g.K.Sink.end c.args.sink.now).bytes (g.K.Sink.end c.loop-meta.sink).bytes (g.K.Sink.end c.loop-meta.sink).bytes c.args.metas.now c.loop-meta.meta-index m (omega arith) c.meta-item.is c.loop-meta.invariant.appends (front_none (g.K.Sink.end c.loop-meta.sink).bytes (meta_bytes m)))

pub returns-in_err-write-clause-err : goal.returns-in_err-write-clause-err
returns-in_err-write-clause-err g c =
    let m = c.meta-item.result in
    whatever_err c.from_residual-in_err-write.result (pieces_front meta_bytes (g.K.Sink.end c.args.sink.now).bytes (g.K.Sink.end c.loop-meta.sink).bytes (g.K.Sink.end c.write.new.self).bytes c.args.metas.now c.loop-meta.meta-index m (omega arith) c.meta-item.is c.loop-meta.invariant.appends (search rules))
