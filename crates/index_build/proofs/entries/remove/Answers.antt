use Rattle.std.proofs.Common.{rules, sym, ap, ◌∙◌, subst}
use Rattle.std.specs.Prelude.{is_some}
use Rattle.std.proofs.lemmas.Fn.{always_returns_same}
use Rattle.state_model.specs.Keys.{key_cmp}
use Rattle.state_model.proofs.Keys.{key_total, key_anti}
use Rattle.coll_state.specs.Stock.{Rise}
use Rattle.coll_state.proofs.Keyed.{rise_take}
use Rattle.index_build.specs.Entries.{entry_key, owned_in}
use Rattle.index_build.proofs.Owned.{at_entry, entries_ordered, owned_taken, owned_there}
use Rattle.index_build.proofs.entries.remove.Goals as goal

pub returns-clause-rise : goal.returns-clause-rise
returns-clause-rise c =
    let k = c.args.key.now in
    let es = c.args.entries.now.items in
    let taken = c.remove.ensures.items (at_entry k) (always_returns_same _ _ _ (λ a r f called. (search rules, search rules))) (entries_ordered es k c.requires.rise) in
    subst (Rise key_cmp entry_key) (sym taken) (rise_take key_cmp key_total key_anti entry_key es k c.requires.rise)

pub returns-clause-owned : goal.returns-clause-owned
returns-clause-owned c =
    let k = c.args.key.now in
    let es = c.args.entries.now.items in
    let taken = c.remove.ensures.items (at_entry k) (always_returns_same _ _ _ (λ a r f called. (search rules, search rules))) (entries_ordered es k c.requires.rise) in
    ap owned_in taken ∙ owned_taken es k c.requires.rise

pub returns-clause-there : goal.returns-clause-there
returns-clause-there c =
    let k = c.args.key.now in
    let es = c.args.entries.now.items in
    let value = c.remove.ensures.value (at_entry k) (always_returns_same _ _ _ (λ a r f called. (search rules, search rules))) (entries_ordered es k c.requires.rise) in
    c.is_some.ensures ∙ (ap is_some value ∙ owned_there es k)
