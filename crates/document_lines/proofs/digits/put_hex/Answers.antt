use Rattle.std.proofs.Common.{sym, ◌∙◌}
use Rattle.document_lines.proofs.HexRuns.{run_put, nothing_left}
use Rattle.document_lines.proofs.digits.put_hex.Goals as goal

pub loop-rest-preserved : goal.loop-rest-preserved
loop-rest-preserved c =
    run_put c.args.out.now.items c.loop-rest.out.items c.extend_from_slice.new.self.items c.args.bytes.now c.loop-rest.rest.now c.split_at.result.0.now c.split_at.result.1.now _ _ c.min-n.result
    c.loop-rest.invariant c.split_at.ensures.front c.split_at.ensures.back c.split_at.ensures.front_len c.write_digits.ensures c.in_ok-extend_from_slice.ensures.items

pub returns : goal.returns
returns c = nothing_left _ _ _ _ (sym c.loop-rest-test.false ∙ c.is_empty.ensures) c.loop-rest.invariant
