use Rattle.std.proofs.Common.{Ok, Err, ℕ, subst}
use Rattle.tool_io.specs.Causes.{Rose}
use Rattle.demux.specs.Steps.{stage_of}
use Rattle.demux.specs.Told.{Fault_told}
use Rattle.demux.proofs.Begin.{turned}
use Rattle.demux.proofs.run.Demux.run.Goals as goal

pub returns-in-Ok-None-clause-told : goal.returns-in-Ok-None-clause-told
returns-in-Ok-None-clause-told g c =
    let taker = g.T.DocTaker in
    let i = c.turns.invariant in
    let k = turned (Ok c.in-Ok-None.field-0) (g.S.Source.end c.args.source.now).bytes (g.S.Source.end c.turns.source).bytes (g.S.Source.end c.turn.new.source).bytes (stage_of c.turns.progress) (stage_of c.turn.new.progress) c.turns.at c.turns.window.bytes c.turn.new.window.bytes
    (taker.adds c.args.taker.now) (taker.adds c.turns.taker) (taker.halted c.turn.new.taker) (taker.known c.args.taker.now) (taker.known c.turns.taker) (taker.known c.turn.new.taker) (Rose (taker.starved c.turns.taker) (taker.starved c.turn.new.taker)) i.same (c.in-Ok-None.ensures.turns (g.S.Source.end c.args.source.now).bytes (taker.known c.args.taker.now)) i.stands in
    rw c.in-Ok-None.field-0-is at k

pub returns-in-Err-clause-told : goal.returns-in-Err-clause-told
returns-in-Err-clause-told g c =
    let taker = g.T.DocTaker in
    let i = c.turns.invariant in
    let k = turned (Err c.in-Err.fault) (g.S.Source.end c.args.source.now).bytes (g.S.Source.end c.turns.source).bytes (g.S.Source.end c.turn.new.source).bytes (stage_of c.turns.progress) (stage_of c.turn.new.progress) c.turns.at c.turns.window.bytes c.turn.new.window.bytes
    (taker.adds c.args.taker.now) (taker.adds c.turns.taker) (taker.halted c.turn.new.taker) (taker.known c.args.taker.now) (taker.known c.turns.taker) (taker.known c.turn.new.taker) (Rose (taker.starved c.turns.taker) (taker.starved c.turn.new.taker)) i.same
    (c.in-Err.ensures.turns (g.S.Source.end c.args.source.now).bytes (taker.known c.args.taker.now)) i.stands in
    subst (λ (n : ℕ). Fault_told c.in-Err.fault (g.S.Source.end c.args.source.now).bytes (g.S.Source.end c.turn.new.source).bytes (taker.adds c.args.taker.now) (taker.known c.args.taker.now) (taker.known c.turn.new.taker) (taker.halted c.turn.new.taker) (Rose n (taker.starved c.turn.new.taker))) i.starved k
