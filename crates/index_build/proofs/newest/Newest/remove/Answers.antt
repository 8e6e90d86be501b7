use Rattle.std.proofs.Common.{◌≡◌, List, None, ap, sym, ◌∙◌, subst}
use Rattle.std.specs.Prelude.{if◌then◌else◌}
use Rattle.state_model.specs.Keys.{key_cmp, same_key}
use Rattle.coll_state.specs.Stock.{Rise, beside}
use Rattle.sorted_list.specs.Order.{IsFound}
use Rattle.index_build.specs.declared.holder.Holder.{Holder}
use Rattle.index_build.specs.Holders.{NewestHolders, holder_key, found_key}
use Rattle.index_build.proofs.Rising.{rise_less, found_less, found_none}
use Rattle.index_build.proofs.newest.Newest.remove.Goals as goal

pub invariant_of-self : goal.invariant_of-self
invariant_of-self c =
    let k = c.args.key.now in
    let hs = c.self.inside.holders.items in
    let at = subst (λ (l : List Holder). IsFound (beside key_cmp holder_key k) l c.in-Ok.at) c.as_slice.ensures.value c.in-Ok.ensures.place in
    subst (Rise key_cmp holder_key) (sym c.remove.ensures.items) (rise_less hs k c.in-Ok.at at c.self.invariant)

pub returns-in-Ok-clause-found : goal.returns-in-Ok-clause-found
returns-in-Ok-clause-found c = λ t.
    let k = c.args.key.now in
    let hs = c.self.inside.holders.items in
    let at = subst (λ (l : List Holder). IsFound (beside key_cmp holder_key k) l c.in-Ok.at) c.as_slice.ensures.value c.in-Ok.ensures.place in
    ap (found_key t) c.remove.ensures.items
    ∙ (found_less hs k c.in-Ok.at at c.self.invariant t ∙ ap (λ (s : NewestHolders). if same_key t k then None else found_key t s.items) c.self.view_is)

pub returns-in_default-clause-found : goal.returns-in_default-clause-found
returns-in_default-clause-found c = λ t.
    let k = c.args.key.now in
    let none : found_key k c.args.self.now.items ≡ None =
    ap (λ (s : NewestHolders). found_key k s.items) (sym c.self.view_is) ∙ (ap (found_key k) (sym c.as_slice.ensures.value) ∙ c.in_default.ensures.place.is_absent) in
    found_none c.args.self.now.items k none t
