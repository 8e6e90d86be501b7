use Rattle.std.proofs.Common.{◌≡◌, ◌+◌, ◌++◌, List, [], ◌∷◌, take, take_all, refl, sym, ap, ◌∙◌, subst}
use Rattle.std.proofs.lemmas.List.{take_more}
use Rattle.bson_value.specs.declared.namespace.NsName.{NsName}
use Rattle.schedule_model.specs.declared.command.DocumentCommand.{DocumentCommand}
use Rattle.state_model.specs.Keys.{same_ns}
use Rattle.kept_indexes.specs.Kept.{HasIndexes}
use Rattle.transaction_indexes.specs.Following.{HaveIndexes}
use Rattle.transaction_indexes.proofs.Indexes.{have_joined, have_still, keep_stays, have_none, none_at}
use Rattle.transaction_indexes.proofs.following.keep_all.Goals as goal

pub loop-command-init : goal.loop-command-init
loop-command-init c = (c.requires.kept, have_none c.args.commands.now c.args.indexes.now c.args.state.now, λ n h. refl)

pub loop-command-preserved : goal.loop-command-preserved
loop-command-preserved c =
    let all = c.args.commands.now in
    let i = c.loop-command.command-index in
    let ks = c.loop-command.indexes in
    let ks' = c.keep.new.self in
    let r = c.args.state.now in
    let more : take (i + 1) all ≡ take i all ++ c.command-item.result ∷ [] = take_more all i c.command-item.result c.loop-command-test.true ∙ ap (λ (z : DocumentCommand). take i all ++ z ∷ []) (sym c.command-item.is) in (
      c.keep.ensures.kept,
      subst (λ (cs : List DocumentCommand). HaveIndexes cs ks' r) (sym more)
          (have_joined (take i all) c.command-item.result ks' r (have_still (take i all) ks ks' r r (keep_stays ks ks' c.namespace_of.result.now c.keep.ensures.stays c.keep.ensures.others) (λ n. refl) c.loop-command.invariant.1)
          (subst (λ (n : NsName). HasIndexes ks' n r) c.namespace_of.ensures c.in_ok-keep.ensures.taken)),
      (λ n h. c.keep.ensures.others n (ap (λ (m : NsName). same_ns m n) c.namespace_of.ensures ∙ none_at all i c.command-item.result n c.loop-command-test.true c.command-item.is h) ∙ c.loop-command.invariant.2 n h),
    )

pub returns-clause-taken : goal.returns-clause-taken
returns-clause-taken c =
    subst (λ (cs : List DocumentCommand). HaveIndexes cs c.loop-command.indexes c.args.state.now) (take_all c.loop-command.command-index c.args.commands.now c.loop-command-test.false) c.loop-command.invariant.1
