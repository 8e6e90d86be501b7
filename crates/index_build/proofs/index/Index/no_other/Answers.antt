use Rattle.std.proofs.Common.{◌≡◌, rules, sym, ap, ◌∙◌, refl, true, false, subst, Some, None}
use Rattle.std.specs.Option.{option_copied}
use Rattle.std.specs.FinMap as map
use Rattle.state_model.specs.Keys.{Key}
use Rattle.index_build.specs.Entries.{owned_in}
use Rattle.index_build.specs.Owned.{Holding, Shared, refusal_by, first_other, IsIndexFault}
use Rattle.index_build.proofs.Swapped.{other_is, no_first, other_there, shared_by}
use Rattle.index_build.proofs.index.Index.no_other.Goals as goal

pub returns-in_default-clause-apart : goal.returns-in_default-clause-apart
returns-in_default-clause-apart c =
    let k = c.args.key.now in
    let ts = c.args.keys.now in
    let inside = c.self.inside in
    let u : inside.plan.unique ≡ true = search rules in
    let none : option_copied c.first_other.result ≡ None = search rules in
    let first = no_first (first_other k ts (owned_in inside.entries.items)) (other_is inside.plan inside.entries.items inside.holders.recent.items inside.holders.settled.items k ts u c.self.invariant ∙ (sym c.first_other.ensures ∙ none)) in
    sym (ap (λ (h : Holding). refusal_by false h.plan.unique (first_other k ts h.owned)) c.self.view_is) ∙ (λ i. refusal_by false (u i) (first i))

pub unreachable-requires : goal.unreachable-requires
unreachable-requires c =
    let k = c.args.key.now in
    let ts = c.args.keys.now in
    let inside = c.self.inside in
    let u : inside.plan.unique ≡ true = search rules in
    let gone : map.get (owned_in inside.entries.items) c.in-Some.other.now ≡ None = search rules in
    other_there inside.entries.items k c.in-Some.other.now ts c.self.invariant.rise
    (other_is inside.plan inside.entries.items inside.holders.recent.items inside.holders.settled.items k ts u c.self.invariant ∙ (sym c.first_other.ensures ∙ ap option_copied c.in-Some.is)) gone

some_is : (a b : Key) → Some a ≡ Some b → a ≡ b
some_is a b e = cc

pub returns-clause-fault : goal.returns-clause-fault
returns-clause-fault c =
    let k = c.args.key.now in
    let ts = c.args.keys.now in
    let inside = c.self.inside in
    let id = c.args.id.now in
    let entry = c.in-Some-find.entry.now in
    let u : inside.plan.unique ≡ true = search rules in
    let first = other_is inside.plan inside.entries.items inside.holders.recent.items inside.holders.settled.items k ts u c.self.invariant ∙ (sym c.first_other.ensures ∙ ap option_copied c.in-Some.is) in
    let key = some_is entry.key c.in-Some.other.now c.in-Some-find.ensures.key in
    let shared = (λ i. refusal_by false (u i) (first_other k ts (owned_in inside.entries.items))) ∙ (shared_by (first_other k ts (owned_in inside.entries.items)) c.in-Some.other.now first ∙ ap (λ (z : Key). Some (Shared z)) (sym key ∙ entry.keyed)) in
    let here = sym (ap (λ (h : Holding). refusal_by false h.plan.unique (first_other k ts h.owned)) c.self.view_is) ∙ shared in
    subst (λ e. IsIndexFault e id (refusal_by false c.args.self.now.plan.unique (first_other k ts c.args.self.now.owned))) (sym c.in_ok-duplicate-in-Some-find.ensures) (refl, here)
