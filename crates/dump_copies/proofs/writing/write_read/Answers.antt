use Rattle.tool_io.proofs.Writes.{on_err, front_first, front_next}
use Rattle.dump_copies.specs.Writing.{end_if}
use Rattle.std.proofs.Common.{subst}
use Rattle.std.specs.Prelude.{OnErr}
use Rattle.tool_io.specs.Causes.{AppendsFront}
use Rattle.archive_format.specs.Written.{Writing}
use Rattle.dump_copies.proofs.writing.write_read.Goals as goal

pub returns-in-Ok-clause-err : goal.returns-in-Ok-clause-err
returns-in-Ok-clause-err g c =
    let before = (g.K.Sink.end c.args.sink.now).bytes in
    let mid = (g.K.Sink.end c.block.new.sink).bytes in
    let after = (g.K.Sink.end c.write_end.new.sink).bytes in
    on_err c.write_end.result (λ w. front_next before mid after _ _ c.in-Ok.ensures.ok w)
    (subst (λ (x : Writing). OnErr c.write_end.result (AppendsFront mid after (end_if c.args.ended x.ns x.sum))) c.in-Ok.ensures.sum c.write_end.ensures.err)

pub returns-in-Err-clause-err : goal.returns-in-Err-clause-err
returns-in-Err-clause-err g c = front_first (g.K.Sink.end c.args.sink.now).bytes (g.K.Sink.end c.block.new.sink).bytes _ _ c.in-Err.ensures.err
