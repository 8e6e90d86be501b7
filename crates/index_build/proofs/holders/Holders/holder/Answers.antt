use Rattle.std.proofs.Common.{◌≡◌, rules, sym, ap, ◌∙◌, Option, Some, None}
use Rattle.std.specs.Option.{option_copied}
use Rattle.std.proofs.lemmas.Fn.{always_returns_same}
use Rattle.state_model.specs.Keys.{key_cmp}
use Rattle.state_model.proofs.Keys.{key_total, key_anti}
use Rattle.coll_state.specs.Stock.{beside}
use Rattle.coll_state.proofs.Keyed.{rise_ordered}
use Rattle.index_build.specs.declared.holder.Holder.{Holder}
use Rattle.index_build.specs.Faults.{or_else}
use Rattle.index_build.specs.Holders.{holder_key, found_key}
use Rattle.index_build.proofs.holders.Holders.holder.Goals as goal

pub returns-in-Some : goal.returns-in-Some
returns-in-Some c =
    let k = c.args.key.now in
    let first : found_key k c.args.self.now.recent.items ≡ Some c.in-Some.holder.now = sym c.find.ensures ∙ ap option_copied c.in-Some.is in
    sym (ap (λ (o : Option Holder). or_else o (found_key k c.args.self.now.settled.items)) first)

pub returns-in-None : goal.returns-in-None
returns-in-None c =
    let k = c.args.key.now in
    let hs = c.args.self.now.settled.items in
    let first : found_key k c.args.self.now.recent.items ≡ None = sym c.find.ensures ∙ ap option_copied c.in-None.is in
    let found = c.find-in-None.ensures (beside key_cmp holder_key k) (always_returns_same _ _ _ (λ a r f called. (search rules, search rules))) (rise_ordered key_cmp key_total key_anti holder_key hs k c.requires.rise) in
    found ∙ sym (ap (λ (o : Option Holder). or_else o (found_key k hs)) first)
