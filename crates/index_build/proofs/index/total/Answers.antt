use Rattle.std.proofs.Common.{◌≡◌, [], ◌+◌, sym, ap, ◌∙◌, rules}
use Rattle.std.specs.Prelude.{min}
use Rattle.index_build.specs.Entries.{owned_of}
use Rattle.index_build.specs.Owned.{texts_count}
use Rattle.index_build.proofs.Owned.{capped_end}
use Rattle.index_build.proofs.index.total.Goals as goal

pub returns : goal.returns
returns c =
    let none : c.loop-entry.left ≡ [] = search rules in
    capped_end c.loop-entry.count (texts_count (owned_of c.args.entries.now.items)) 18446744073709551615 c.loop-entry.invariant.1
    (ap (λ es. min (c.loop-entry.count + texts_count (owned_of es)) 18446744073709551615) (sym none) ∙ c.loop-entry.invariant.0)
