use Rattle.std.proofs.Common.{◌≡◌, ◌+◌, ◌++◌, [], ◌∷◌, List, take, take_all, refl, sym, ap, ◌∙◌, subst}
use Rattle.std.proofs.lemmas.List.{take_more}
use Rattle.bson_value.specs.declared.namespace.NsName.{NsName}
use Rattle.state_model.specs.Keys.{same_ns}
use Rattle.schedule_model.specs.declared.command.DocumentCommand.{DocumentCommand}
use Rattle.transaction_indexes.specs.Following.{AreForgotten}
use Rattle.transaction_indexes.proofs.Indexes.{forgotten_none, forgotten_more, none_at}
use Rattle.transaction_indexes.proofs.following.forget_all.Goals as goal

pub loop-command-init : goal.loop-command-init
loop-command-init c = (forgotten_none c.args.commands.now c.args.indexes.now, λ n h. refl)

pub loop-command-preserved : goal.loop-command-preserved
loop-command-preserved c =
    let all = c.args.commands.now in
    let i = c.loop-command.command-index in
    let more : take (i + 1) all ≡ take i all ++ c.command-item.result ∷ [] = take_more all i c.command-item.result c.loop-command-test.true ∙ ap (λ (z : DocumentCommand). take i all ++ z ∷ []) (sym c.command-item.is) in (
      subst (λ (cs : List DocumentCommand). AreForgotten cs c.args.indexes.now c.forget.new.self) (sym more)
          (forgotten_more (take i all) c.command-item.result c.namespace_of.result.now c.args.indexes.now c.loop-command.indexes c.forget.new.self c.namespace_of.ensures c.loop-command.invariant.0 c.forget.ensures.gone c.forget.ensures.others),
      (λ n h. c.forget.ensures.others n (ap (λ (m : NsName). same_ns m n) c.namespace_of.ensures ∙ none_at all i c.command-item.result n c.loop-command-test.true c.command-item.is h) ∙ c.loop-command.invariant.1 n h),
    )

pub returns-clause-forgotten : goal.returns-clause-forgotten
returns-clause-forgotten c =
    subst (λ (cs : List DocumentCommand). AreForgotten cs c.args.indexes.now c.loop-command.indexes) (take_all c.loop-command.command-index c.args.commands.now c.loop-command-test.false) c.loop-command.invariant.0

pub returns-clause-others : goal.returns-clause-others
returns-clause-others c = c.loop-command.invariant.1
