use Rattle.std.proofs.Common.{length, ap, inl, inr, arith}
use Rattle.std.proofs.lemmas.Bool.{cases_lt}
use Rattle.tool_io.proofs.Feeding.{feeds_copy}
use Rattle.tool_io.proofs.memory.MemSource.give.Goals as goal

pub returns-clause-bytes : goal.returns-clause-bytes
returns-clause-bytes c =
    let bytes = c.self.inside.bytes in
    let some = c.count-count.ensures.positive (c.piece-most.ensures.positive (rw c.deref.ensures.value c.self.invariant.1)) c.requires in
    feeds_copy _ bytes.items c.args.buf.now c.copy_from_slice.new.self c.self.inside.at c.count-count.result (ap (λ f. f.left) c.self.view_is) (rw c.deref-2.ensures.value at c.copy_from_slice.ensures.after)
    c.self.invariant.0 (omega (arith, bytes.ok.0)) (omega arith)
    (λ none. elim (cases_lt c.self.inside.at (length bytes.items)) [ inl lt ↦ absurd (omega (arith, some (omega (arith, bytes.ok.0)))) | inr le ↦ le ])
