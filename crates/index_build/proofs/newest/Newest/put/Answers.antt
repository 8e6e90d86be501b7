use Rattle.std.proofs.Common.{◌≡◌, [], ◌∷◌, None, ap, sym, ◌∙◌, subst}
use Rattle.state_model.specs.Keys.{key_cmp}
use Rattle.coll_state.specs.Stock.{Rise, beside}
use Rattle.sorted_list.specs.Order.{place}
use Rattle.index_build.specs.Faults.{or_else}
use Rattle.index_build.specs.Holders.{NewestHolders, holder_key, found_key}
use Rattle.index_build.proofs.Rising.{rise_more, found_more}
use Rattle.index_build.proofs.newest.Newest.put.Goals as goal

pub invariant_of-self : goal.invariant_of-self
invariant_of-self c =
    let h = c.args.holder in
    let hs = c.self.inside.holders.items in
    let none : found_key h.key hs ≡ None = ap (λ (s : NewestHolders). found_key h.key s.items) c.self.view_is ∙ c.requires.new in
    let at = c.place-at.ensures.place ∙ ap (place (beside key_cmp holder_key h.key)) c.as_slice.ensures.value in
    subst (Rise key_cmp holder_key) (sym c.in-Ok.ensures.items) (rise_more hs h c.place-at.result at none c.self.invariant)

pub returns-clause-found : goal.returns-clause-found
returns-clause-found c = λ t.
    let h = c.args.holder in
    let hs = c.self.inside.holders.items in
    let none : found_key h.key hs ≡ None = ap (λ (s : NewestHolders). found_key h.key s.items) c.self.view_is ∙ c.requires.new in
    let at = c.place-at.ensures.place ∙ ap (place (beside key_cmp holder_key h.key)) c.as_slice.ensures.value in
    ap (found_key t) c.in-Ok.ensures.items
    ∙ (found_more hs h c.place-at.result at none t ∙ ap (λ (s : NewestHolders). or_else (found_key t s.items) (found_key t (h ∷ []))) c.self.view_is)
