use Rattle.std.proofs.Common.{◌≡◌, List, [], ◌++◌, map as each, sym, ap, ◌∙◌, subst}
use Rattle.std.specs.FinMap as map
use Rattle.bson_value.specs.declared.namespace.NsName.{NsName}
use Rattle.coll_state.specs.Rows.{state_of}
use Rattle.coll_state.specs.Walks.{names_left}
use Rattle.index_build.specs.Faults.{fault_among}
use Rattle.index_build.specs.Sorted.{NumbersVec, numbers_told, AreByName}
use Rattle.index_build.proofs.Names.{counted, counts_by_name}
use Rattle.index_build.proofs.Walks.{names_of_state, all_made}
use Rattle.index_build.proofs.count.count_all.Goals as goal

pub loop-ns-init : goal.loop-ns-init
loop-ns-init c =
    let s = state_of c.args.state.now in
    let names : names_left c.namespaces-left.result ≡ map.keys s = c.namespaces-left.ensures ∙ sym (names_of_state c.args.state.now) in (
      ap (λ (z : List (NsName × NumbersVec)). numbers_told z ++ each (counted s) (names_left c.namespaces-left.result)) c.new-collections.ensures.items ∙ ap (each (counted s)) names,
      ap (fault_among s) names,
    )

pub of-requires : goal.of-requires
of-requires c =
    let s = state_of c.args.state.now in
    let none : names_left c.loop-ns.left ≡ [] = c.in_default.ensures.steps.0 in
    let done = sym (all_made (numbers_told c.loop-ns.collections.items)) ∙ (ap (λ ns. numbers_told c.loop-ns.collections.items ++ each (counted s) ns) (sym none) ∙ c.loop-ns.invariant.0) in
    subst AreByName (sym done) (counts_by_name s)
