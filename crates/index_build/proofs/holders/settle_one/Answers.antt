use Rattle.std.proofs.Common.{rules, sym, ap, ◌∙◌, subst}
use Rattle.std.proofs.lemmas.Fn.{always_returns_same}
use Rattle.state_model.specs.Keys.{key_cmp}
use Rattle.state_model.proofs.Keys.{key_total, key_anti}
use Rattle.coll_state.specs.Stock.{Rise, beside}
use Rattle.coll_state.proofs.Keyed.{rise_ordered, rise_take}
use Rattle.index_build.specs.Holders.{holder_key, found_key}
use Rattle.index_build.proofs.Swapped.{found_placed, rise_placed, taken_placed}
use Rattle.index_build.proofs.holders.settle_one.Goals as goal

pub returns-clause-rise : goal.returns-clause-rise
returns-clause-rise c =
    let k = c.args.holder.key in
    let hs = c.args.settled.now.items in
    let taken = c.remove.ensures.items (beside key_cmp holder_key k) (always_returns_same _ _ _ (λ a r f called. (search rules, search rules))) (rise_ordered key_cmp key_total key_anti holder_key hs k c.requires.rise) in
    let rise = subst (Rise key_cmp holder_key) (sym taken) (rise_take key_cmp key_total key_anti holder_key hs k c.requires.rise) in
    let put = c.put.ensures.items (λ a b. key_cmp a.key b.key) (always_returns_same _ _ _ (λ a r f called. (search rules, search rules))) (rise_ordered key_cmp key_total key_anti holder_key _ k rise) in
    subst (Rise key_cmp holder_key) (sym (put ∙ taken_placed holder_key c.args.holder _ _ taken)) (rise_placed holder_key hs c.args.holder c.requires.rise)

pub returns-clause-found : goal.returns-clause-found
returns-clause-found c = λ t.
    let k = c.args.holder.key in
    let hs = c.args.settled.now.items in
    let taken = c.remove.ensures.items (beside key_cmp holder_key k) (always_returns_same _ _ _ (λ a r f called. (search rules, search rules))) (rise_ordered key_cmp key_total key_anti holder_key hs k c.requires.rise) in
    let rise = subst (Rise key_cmp holder_key) (sym taken) (rise_take key_cmp key_total key_anti holder_key hs k c.requires.rise) in
    let put = c.put.ensures.items (λ a b. key_cmp a.key b.key) (always_returns_same _ _ _ (λ a r f called. (search rules, search rules))) (rise_ordered key_cmp key_total key_anti holder_key _ k rise) in
    ap (found_key t) (put ∙ taken_placed holder_key c.args.holder _ _ taken) ∙ found_placed holder_key hs c.args.holder t c.requires.rise
