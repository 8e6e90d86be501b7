use Rattle.std.proofs.Common.{◌≡◌, ◌+◌, ◌++◌, List, [], ◌∷◌, take, take_all, sym, ap, ◌∙◌, subst}
use Rattle.std.proofs.lemmas.List.{take_more}
use Rattle.schedule_model.specs.declared.command.DocumentCommand.{DocumentCommand}
use Rattle.transactions.specs.Shown.{ShowAll}
use Rattle.transactions.proofs.Parts.{IsShowing, showing_none, showing_more, all_shown}
use Rattle.transactions.proofs.scratch.touched.Goals as goal

pub loop-command-init : goal.loop-command-init
loop-command-init c = showing_none c.new-part.result c.args.state.now c.new-part.ensures

pub loop-command-preserved : goal.loop-command-preserved
loop-command-preserved c =
    let all = c.args.commands.now in
    let i = c.loop-command.command-index in
    let more : take (i + 1) all ≡ take i all ++ c.command-item.result ∷ [] = take_more all i c.command-item.result c.loop-command-test.true ∙ ap (λ (z : DocumentCommand). take i all ++ z ∷ []) (sym c.command-item.is) in
    subst (λ (cs : List DocumentCommand). IsShowing cs c.show.new.part c.args.state.now) (sym more)
    (showing_more (take i all) c.command-item.result c.loop-command.part c.show.new.part c.args.state.now c.loop-command.invariant c.in_ok-show.ensures)

pub returns-clause-shows : goal.returns-clause-shows
returns-clause-shows c =
    subst (λ (cs : List DocumentCommand). ShowAll cs c.loop-command.part c.args.state.now) (take_all c.loop-command.command-index c.args.commands.now c.loop-command-test.false)
    (all_shown (take c.loop-command.command-index c.args.commands.now) c.loop-command.part c.args.state.now c.loop-command.invariant.part.part c.loop-command.invariant.covered)
