use Rattle.std.proofs.Common.{arith, rules}
use Rattle.std.proofs.lemmas.List.{length-take}
use Rattle.std.proofs.lemmas.Grind.{common_steps}
use Rattle.tool_io.proofs.Writes.{whatever_err}
use Rattle.schedule_input.proofs.Pieces.{no_room, piece_read}
use Rattle.schedule_input.proofs.piece.read_more.Goals as goal

pub returns-then-most-eq0-clause-more : goal.returns-then-most-eq0-clause-more
returns-then-most-eq0-clause-more g c = no_room c.args.room c.args.unread.now (g.S.Source.end c.args.input.now).bytes (omega arith)

pub returns-in_err-push-in-Ok-clause-kept : goal.returns-in_err-push-in-Ok-clause-kept
returns-in_err-push-in-Ok-clause-kept g c = whatever_err c.from_residual.result c.in_err-push-in-Ok.ensures.err

pub returns-in_ok-push-in-Ok-clause-more : goal.returns-in_ok-push-in-Ok-clause-more
returns-in_ok-push-in-Ok-clause-more g c =
    piece_read c.args.room c.in-Ok.count c.args.unread.now c.push.new.self _ c.read.new.buf (g.S.Source.end c.args.input.now).bytes (g.S.Source.end c.read.new.self).bytes c.in_ok-push-in-Ok.ensures.ok (grind (arith, common_steps)) (search rules) (omega (arith, length-take c.min-most.result c.args.piece.now)) (omega (arith, length-take c.min-most.result c.args.piece.now)) c.in-Ok.ensures.bytes
