use Rattle.std.proofs.lemmas.Result.{err_from_is_err_and}
use Rattle.schedule_source.proofs.Following.{advances_by, advances_not_by}
use Rattle.schedule_source.proofs.input.advance.Goals as goal

pub returns-in_err-taken-clause-err : goal.returns-in_err-taken-clause-err
returns-in_err-taken-clause-err g c =
    let p = err_from_is_err_and c.from_residual.result c.from_residual.ensures.1 in
    rw (p.1, p.2) (λ all w. tt)

pub returns-clause-behind : goal.returns-clause-behind
returns-clause-behind g c =
    let before = g.S.Source.end c.args.input.now in
    let after = g.S.Source.end c.next.new.input in
    advances_by c.args.limit c.args.lines.now c.next.new.self c.args.line c.args.run.now c.take-taken.new.self before after c.next.result c.in_ok-taken.ensures c.next.ensures.gives c.next.ensures.further c.next.ensures.keeps

pub returns-clause-err : goal.returns-clause-err
returns-clause-err g c =
    let before = g.S.Source.end c.args.input.now in
    let after = g.S.Source.end c.next.new.input in
    advances_not_by c.args.limit c.args.lines.now c.next.new.self c.args.line c.args.run.now c.take-taken.new.self before after c.next.result c.next.ensures.gives

pub returns-clause-further : goal.returns-clause-further
returns-clause-further g c = c.next.ensures.further

pub returns-clause-later : goal.returns-clause-later
returns-clause-later g c = c.next.ensures.later
