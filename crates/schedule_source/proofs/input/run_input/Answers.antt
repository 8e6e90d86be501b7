use Rattle.std.proofs.Common.{◌<◌, sym, subst, Option}
use Rattle.schedule_text.specs.declared.schedule.NumberedLine.{NumberedLine}
use Rattle.schedule_source.specs.Reading.{Behind, bytes_left}
use Rattle.schedule_source.proofs.Following.{lessens, none_left, ends}
use Rattle.schedule_source.proofs.input.run_input.Goals as goal

pub lines-smaller : goal.lines-smaller
lines-smaller g c =
    let all = (g.S.Source.end c.args.input.now).bytes in
    let now = (g.S.Source.end c.lines.input).bytes in
    let p = c.lines.lines in
    let q = c.advance.new.lines in
    let next = c.in_ok-next.next in
    let behind = subst (λ (o : Option NumberedLine). Behind c.args.limit all o p c.lines.run now) c.in-Some.is c.lines.invariant.behind in
    subst (λ (o : Option NumberedLine). bytes_left next q < bytes_left o p) (sym c.in-Some.is) (lessens c.args.limit all now c.in-Some.line p q c.lines.run next behind c.in_ok-next.ensures.further)

pub returns-clause-runs : goal.returns-clause-runs
returns-clause-runs g c =
    let all = (g.S.Source.end c.args.input.now).bytes in
    let now = (g.S.Source.end c.lines.input).bytes in
    let none = none_left c.lines.next c.in_default.not-Some in
    ends c.args.limit c.lines.lines c.lines.run all now c.source_is_before.ensures (subst (λ (o : Option NumberedLine). Behind c.args.limit all o c.lines.lines c.lines.run now) none c.lines.invariant.behind)
