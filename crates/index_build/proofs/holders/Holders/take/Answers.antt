use Rattle.std.proofs.Common.{rules, sym, ap, ◌∙◌, subst}
use Rattle.std.specs.Prelude.{List}
use Rattle.std.proofs.lemmas.Fn.{always_returns_same}
use Rattle.state_model.specs.Keys.{key_cmp}
use Rattle.state_model.proofs.Keys.{key_total, key_anti}
use Rattle.coll_state.specs.Stock.{Rise, beside}
use Rattle.coll_state.proofs.Keyed.{rise_ordered, rise_take}
use Rattle.index_build.specs.declared.holder.Holder.{Holder}
use Rattle.index_build.specs.Holders.{holder_key, holder_of}
use Rattle.index_build.proofs.Searches.{taken_one}
use Rattle.index_build.proofs.holders.Holders.take.Goals as goal

pub returns-clause-rise : goal.returns-clause-rise
returns-clause-rise c =
    let k = c.args.key.now in
    let hs = c.args.self.now.settled.items in
    let taken = c.remove.ensures.items (beside key_cmp holder_key k) (always_returns_same _ _ _ (λ a r f called. (search rules, search rules))) (rise_ordered key_cmp key_total key_anti holder_key hs k c.requires.rise) in
    subst (Rise key_cmp holder_key) (sym taken) (rise_take key_cmp key_total key_anti holder_key hs k c.requires.rise)

pub returns-clause-holders : goal.returns-clause-holders
returns-clause-holders c = λ t.
    let k = c.args.key.now in
    let hs = c.args.self.now.settled.items in
    let taken = c.remove.ensures.items (beside key_cmp holder_key k) (always_returns_same _ _ _ (λ a r f called. (search rules, search rules))) (rise_ordered key_cmp key_total key_anti holder_key hs k c.requires.rise) in
    ap (λ (held : List Holder). holder_of c.remove-2.new.self.items held t) taken
    ∙ taken_one c.args.self.now.recent.items hs c.remove-2.new.self.items k c.remove-2.ensures.found c.requires.rise t
