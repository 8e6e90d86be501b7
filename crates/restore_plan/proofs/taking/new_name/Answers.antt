use Rattle.std.proofs.Common.{◌≡◌, List, [], ◌∷◌, refl, sym}
use Rattle.restore_plan.proofs.taking.new_name.Goals as goal

none_but : {A : Type 0} (xs : List A) → ((xs ≡ [] → ⊥) → ⊥) → xs ≡ []
none_but [] f = refl
none_but (x ∷ xs) f = absurd (f (λ e. cc))

pub returns-else-is_renaming : goal.returns-else-is_renaming
returns-else-is_renaming c =
    let none = none_but c.args.filter.now.renames (λ f. let k = c.is_renaming.ensures.1 f in cc) in
    sym (c.names_stay.ensures c.args.filter.now c.args.ns.now none)
