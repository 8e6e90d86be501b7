use Rattle.std.proofs.Common.{◌≡◌, List, ℕ, subst, rules}
use Rattle.tool_io.specs.Causes.{AppendsFront}
use Rattle.archive_format.specs.Written.{end_text}
use Rattle.tool_io.proofs.Writes.{on_err}
use Rattle.archive_blocks.proofs.writer.BlockWriter.end.Goals as goal

pub returns-clause-err : goal.returns-clause-err
returns-clause-err g c =
    let is : c.as_slice.result.now ≡ end_text c.args.self.now.ns c.args.self.now.sum = search rules in
    on_err c.write.result (subst (λ (z : List ℕ). AppendsFront (g.K.Sink.end c.args.sink.now).bytes (g.K.Sink.end c.write.new.self).bytes z) is) c.write.ensures.err
