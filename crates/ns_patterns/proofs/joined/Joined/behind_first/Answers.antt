use Rattle.ns_patterns.specs.Search.{whole}
use Rattle.ns_patterns.proofs.Search.{Begins, found, lacking, one_on}
use Rattle.ns_patterns.proofs.joined.Joined.behind_first.Goals as goal

pub returns-in-Some : goal.returns-in-Some
returns-in-Some c = (c.places.invariant.front, found _ _ _ _ c.places.invariant c.in-Some.ensures)

pub returns-in_default-split_first : goal.returns-in_default-split_first
returns-in_default-split_first c = lacking _ _ _ c.places.invariant c.in_default.ensures c.in_default-split_first.ensures

pub places-preserved : goal.places-preserved
places-preserved c = one_on (Begins c.args.text.now) _ (whole c.places.rest) _ _ c.places.invariant (λ b. c.in_default.ensures b.0 b.1) c.in-Some-split_first.ensures
