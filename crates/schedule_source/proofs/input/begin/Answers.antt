use Rattle.std.proofs.Common.{◌≡◌, ℕ, ap, ◌∙◌, subst, Option}
use Rattle.std.proofs.lemmas.Result.{err_from_is_err_and}
use Rattle.history_model.specs.Stages.{Caps}
use Rattle.schedule_source.specs.Progress.{RunsTo, at_first}
use Rattle.schedule_source.specs.Reading.{caps_in}
use Rattle.schedule_source.proofs.Following.{begins, begins_not}
use Rattle.schedule_source.proofs.input.begin.Goals as goal

pub returns-in_err-next-clause-err : goal.returns-in_err-next-clause-err
returns-in_err-next-clause-err g c =
    let before = g.S.Source.end c.args.input.now in
    let after = g.S.Source.end c.next.new.input in
    let p = err_from_is_err_and c.from_residual.result c.from_residual.ensures.1 in
    rw (p.1, p.2) (begins_not c.args.lines.now _ before after c.requires.unread c.in_err-next.ensures.gives)

pub returns-in-Ok-clause-behind : goal.returns-in-Ok-clause-behind
returns-in-Ok-clause-behind g c =
    let before = g.S.Source.end c.args.input.now in
    let after = g.S.Source.end c.next.new.input in
    let reader = c.next.new.self.reader in
    let caps : record { entries = c.cap.result; bytes = c.bytes.result } ≡ caps_in reader =
    ap (λ (n : ℕ). record { entries = n; bytes = c.bytes.result }) c.cap.ensures ∙ ap (λ (b : Option ℕ). record { entries = reader.cap; bytes = b }) c.bytes.ensures in
    begins c.args.limit c.args.lines.now c.next.new.self c.in_ok-next.next c.in-Ok.run' before after c.requires.unread c.in_ok-next.ensures.gives c.in_ok-next.ensures.further (subst (λ (x : Caps). RunsTo c.in-Ok.run' (at_first x)) caps c.in-Ok.ensures)
