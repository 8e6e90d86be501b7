use Rattle.std.proofs.Common.{◌≡◌, ◌∙◌, List, ℕ, false, ap, subst}
use Rattle.std.specs.Prelude.{pos}
use Rattle.std.specs.Io.KnownBytes.{Appends}
use Rattle.tool_io.specs.Causes.{AppendsFront}
use Rattle.archive_format.specs.Written.{joined, head_text}
use Rattle.tool_io.proofs.Writes.{on_ok, on_err, whatever_err}
use Rattle.archive_blocks.proofs.Blocks.{head_front, documents_front, stop_front, whole_block}
use Rattle.archive_blocks.proofs.writer.BlockWriter.block.Goals as goal

pub returns-in_err-write-clause-err : goal.returns-in_err-write-clause-err
returns-in_err-write-clause-err g c =
    let a = (g.K.Sink.end c.args.sink.now).bytes in
    let b = (g.K.Sink.end c.write.new.self).bytes in
    let is : c.in_ok-head.head ≡ head_text c.args.self.now.ns false (pos 0) = c.in_ok-head.ensures ∙ ap (λ z. head_text z.ns false (pos 0)) c.self.view_is in
    whatever_err c.from_residual-in_err-write.result (head_front a b b b c.args.self.now.ns c.args.docs.now (λ e. let k = c.if-is_empty.ensures.1 e in cc) c.in_ok-head.head is (subst (λ (z : List ℕ). AppendsFront a b z) c.as_slice.ensures c.in_err-write.ensures.err))

pub returns-in_err-write_all-clause-err : goal.returns-in_err-write_all-clause-err
returns-in_err-write_all-clause-err g c =
    let a = (g.K.Sink.end c.args.sink.now).bytes in
    let b = (g.K.Sink.end c.write.new.self).bytes in
    let e = (g.K.Sink.end c.write_all.new.sink).bytes in
    let is : c.in_ok-head.head ≡ head_text c.args.self.now.ns false (pos 0) = c.in_ok-head.ensures ∙ ap (λ z. head_text z.ns false (pos 0)) c.self.view_is in
    whatever_err c.from_residual-in_err-write_all.result
    (documents_front a b e e c.args.self.now.ns c.args.docs.now (λ k. let j = c.if-is_empty.ensures.1 k in cc) c.in_ok-head.head is (subst (λ (z : List ℕ). Appends a b z) c.as_slice.ensures c.in_ok-write.ensures.ok)
    (subst (λ (z : List (List ℕ)). AppendsFront b e (joined z)) c.as_slice-2.ensures c.in_err-write_all.ensures.err))

pub returns-clause-ok : goal.returns-clause-ok
returns-clause-ok g c =
    let a = (g.K.Sink.end c.args.sink.now).bytes in
    let b = (g.K.Sink.end c.write.new.self).bytes in
    let e = (g.K.Sink.end c.write_all.new.sink).bytes in
    let f = (g.K.Sink.end c.write-2.new.self).bytes in
    let is : c.in_ok-head.head ≡ head_text c.args.self.now.ns false (pos 0) = c.in_ok-head.ensures ∙ ap (λ z. head_text z.ns false (pos 0)) c.self.view_is in
    on_ok c.write-2.result
    (whole_block a b e f c.args.self.now.ns c.args.docs.now (λ k. let j = c.if-is_empty.ensures.1 k in cc) c.in_ok-head.head is (subst (λ (z : List ℕ). Appends a b z) c.as_slice.ensures c.in_ok-write.ensures.ok)
    (subst (λ (z : List (List ℕ)). Appends b e (joined z)) c.as_slice-2.ensures c.in_ok-write_all.ensures.ok))
    c.write-2.ensures.ok

pub returns-clause-err : goal.returns-clause-err
returns-clause-err g c =
    let a = (g.K.Sink.end c.args.sink.now).bytes in
    let b = (g.K.Sink.end c.write.new.self).bytes in
    let e = (g.K.Sink.end c.write_all.new.sink).bytes in
    let f = (g.K.Sink.end c.write-2.new.self).bytes in
    let is : c.in_ok-head.head ≡ head_text c.args.self.now.ns false (pos 0) = c.in_ok-head.ensures ∙ ap (λ z. head_text z.ns false (pos 0)) c.self.view_is in
    on_err c.write-2.result
    (stop_front a b e f c.args.self.now.ns c.args.docs.now (λ k. let j = c.if-is_empty.ensures.1 k in cc) c.in_ok-head.head is (subst (λ (z : List ℕ). Appends a b z) c.as_slice.ensures c.in_ok-write.ensures.ok)
    (subst (λ (z : List (List ℕ)). Appends b e (joined z)) c.as_slice-2.ensures c.in_ok-write_all.ensures.ok))
    c.write-2.ensures.err
