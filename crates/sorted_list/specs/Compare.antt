-- What a comparison of two elements answers.
use Rattle.std.specs.Prelude.{◌≡◌}
use Rattle.std.specs.Borrow.{Bor}
use Rattle.std.specs.Fn.{AlwaysReturns, Mut}
use Rattle.std.specs.declared.cmp.Ordering.{Ordering}

abbrev pub Compares : {F T : Type 0} → Mut F (Bor T × (Bor T × Unit {0})) Ordering → (T → T → Ordering) → F → Type 0
Compares g cmp = AlwaysReturns g (λ a r. r ≡ cmp a.0.now a.1.0.now)
