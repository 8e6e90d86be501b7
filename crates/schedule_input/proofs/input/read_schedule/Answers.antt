use Rattle.std.proofs.Common.{◌∷◌, [], List, sym, subst, arith}
use Rattle.std.specs.Prelude.{Option, Ok}
use Rattle.schedule_text.specs.declared.schedule.NumberedLine.{NumberedLine}
use Rattle.schedule_input.specs.Inputs.{Gives, Led}
use Rattle.schedule_input.proofs.Following.{led_first, led_more, starts_least, starts_most}
use Rattle.schedule_input.proofs.input.read_schedule.Goals as goal

pub lines-init : goal.lines-init
lines-init g c =
    let p = c.in_ok-read.read in
    let e = c.in_ok-read.ensures in
    let a = (g.S.Source.end c.args.input.now).bytes in
    record {
      led = subst (λ (ls : List NumberedLine). Led ls p a a) (sym c.new-lines.ensures) (led_first p a e.reader e.number e.end e.left);
      least = starts_least p.reader e.reader;
      most = starts_most p.reader e.reader;
      later = omega arith;
    }

pub lines-preserved : goal.lines-preserved
lines-preserved g c =
    let p = c.lines.read in
    let q = c.next.new.self in
    let first = g.S.Source.end c.args.input.now in
    let a = g.S.Source.end c.lines.input in
    let b = g.S.Source.end c.next.new.input in
    let gives = subst (λ (o : Option NumberedLine). Gives p q (Ok o) a b) c.in-Some.is c.in_ok-line.ensures.gives in
    record {
      led = subst (λ (ls : List NumberedLine). Led ls q first.bytes b.bytes) (sym c.in_ok-push.ensures.ok) (led_more c.lines.lines (c.in-Some.line ∷ []) p q first.bytes a.bytes b.bytes c.lines.invariant.led gives);
      least = c.in_ok-line.ensures.keeps.least c.lines.invariant.least;
      most = c.in_ok-line.ensures.keeps.most c.lines.invariant.most;
      later = omega (arith, c.lines.invariant.later, c.next.ensures.later);
    }
