use Rattle.std.proofs.Common.{rules}
use Rattle.std.proofs.lemmas.Fn.{always_returns_same}
use Rattle.state_model.specs.Keys.{key_cmp}
use Rattle.state_model.proofs.Keys.{key_total, key_anti}
use Rattle.coll_state.specs.Stock.{beside}
use Rattle.coll_state.proofs.Keyed.{rise_ordered}
use Rattle.sorted_list.proofs.Order.{searched}
use Rattle.index_build.specs.Holders.{holder_key}
use Rattle.index_build.proofs.newest.search.Goals as goal

pub returns-clause-place : goal.returns-clause-place
returns-clause-place c =
    let k = c.args.key.now in
    let hs = c.args.holders.now in
    searched (beside key_cmp holder_key k) hs c.binary_search_by.result (rise_ordered key_cmp key_total key_anti holder_key hs k c.requires) c.binary_search_by.ensures.bound
    (c.binary_search_by.ensures.position (beside key_cmp holder_key k) (always_returns_same _ _ _ (λ a r f called. (search rules, search rules))))
