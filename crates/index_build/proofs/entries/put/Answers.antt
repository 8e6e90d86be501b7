use Rattle.std.proofs.Common.{rules, sym, ap, ◌∙◌, subst}
use Rattle.std.specs.FinMap as map
use Rattle.std.proofs.lemmas.Fn.{always_returns_same}
use Rattle.state_model.specs.Keys.{key_cmp}
use Rattle.coll_state.specs.Stock.{Rise}
use Rattle.index_build.specs.Entries.{entry_key, owned_in}
use Rattle.index_build.specs.Owned.{Owned}
use Rattle.index_build.proofs.Owned.{entries_ordered, owned_put, rise_more, insert_over}
use Rattle.index_build.proofs.entries.put.Goals as goal

pub returns-clause-rise : goal.returns-clause-rise
returns-clause-rise c =
    let k = c.args.entry.key in
    let put = c.put.ensures.items (λ a b. key_cmp a.key b.key) (always_returns_same _ _ _ (λ a r f called. (search rules, search rules))) (entries_ordered c.remove.new.entries.items k c.remove.ensures.rise) in
    subst (Rise key_cmp entry_key) (sym put) (rise_more c.remove.new.entries.items c.args.entries.now.items c.args.entry c.remove.ensures.owned c.remove.ensures.rise)

pub returns-clause-owned : goal.returns-clause-owned
returns-clause-owned c =
    let k = c.args.entry.key in
    let put = c.put.ensures.items (λ a b. key_cmp a.key b.key) (always_returns_same _ _ _ (λ a r f called. (search rules, search rules))) (entries_ordered c.remove.new.entries.items k c.remove.ensures.rise) in
    ap owned_in put ∙ (owned_put c.remove.new.entries.items c.args.entry
    ∙ (ap (λ (m : Owned). map.insert m k c.args.entry.keys) c.remove.ensures.owned ∙ insert_over (owned_in c.args.entries.now.items) k c.args.entry.keys))
