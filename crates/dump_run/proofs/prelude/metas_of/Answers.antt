use Rattle.std.proofs.Common.{[], ◌∷◌, ◌++◌, sym, subst, List}
use Rattle.std.specs.Prelude.{All}
use Rattle.std.proofs.lemmas.List.Elements.{All-push, All-nil}
use Rattle.archive_format.specs.Written.{MetaFits}
use Rattle.archive_prelude.specs.Parts.{metadata_of}
use Rattle.archive_prelude.specs.declared.prelude.Meta.{Meta}
use Rattle.coll_state.specs.Walks.{names_left}
use Rattle.dump_run.proofs.Metas.{next_there, front_on, metas_init, metas_on, metas_all}
use Rattle.dump_run.proofs.prelude.metas_of.Goals as goal

pub collections-init : goal.collections-init
collections-init c = record {
  names = ([], c.namespaces-left.ensures);
  metas = metas_init c.args.state.now.tables c.new-metas.result (names_left c.namespaces-left.result) c.new-metas.ensures c.namespaces-left.ensures;
  fit = subst (λ (ms : List Meta). All (λ m. MetaFits (metadata_of m)) ms) (sym c.new-metas.ensures) (All-nil (λ m. MetaFits (metadata_of m)));
}

pub meta_of-requires : goal.meta_of-requires
meta_of-requires c = next_there c.args.state.now.tables c.collections.invariant.names.0 (names_left c.collections.left) (names_left c.next.new.self) c.in-Some.ns.now c.collections.invariant.names.1 c.in-Some.ensures.steps

pub collections-preserved : goal.collections-preserved
collections-preserved c =
    let n = c.in-Some.ns.now in
    let m = c.in_ok-meta.meta in
    record {
      names = (c.collections.invariant.names.0 ++ (n ∷ []), front_on c.collections.invariant.names.0 (names_left c.collections.left) (names_left c.next.new.self) _ n c.collections.invariant.names.1 c.in-Some.ensures.steps);
      metas = metas_on c.args.state.now.tables c.collections.metas c.push.new.self (names_left c.collections.left) (names_left c.next.new.self) n m _ c.collections.invariant.metas c.in-Some.ensures.steps c.in_ok-push.ensures.ok c.in_ok-meta.ensures.meta;
      fit = subst (λ (ms : List Meta). All (λ m. MetaFits (metadata_of m)) ms) (sym c.in_ok-push.ensures.ok) (All-push (λ m. MetaFits (metadata_of m)) c.collections.metas m c.collections.invariant.fit c.in_ok-meta.ensures.fits);
    }

pub returns-clause-metas : goal.returns-clause-metas
returns-clause-metas c = metas_all c.args.state.now c.collections.metas (names_left c.collections.left) c.collections.invariant.metas c.in_default.ensures.steps.0
