use Rattle.std.proofs.Common.{◌≡◌, subst, IsTrue}
use Rattle.ns_patterns.specs.Search.{whole}
use Rattle.ns_patterns.proofs.Search.{one_on, more_behind, not_behind}
use Rattle.ns_patterns.proofs.joined.Joined.ends_behind.Goals.{in-Some+else-is_empty, in_default}
use Rattle.ns_patterns.proofs.joined.Joined.ends_behind.Goals as goal

pub places-preserved : goal.places-preserved
places-preserved c =
    let missing : whole c.places.rest ≡ c.args.text.now → ⊥ = elim c.match-strip_prefix.branch [ in-Some+else-is_empty w ↦ more_behind _ _ _ w.in-Some.ensures (λ e. let q = subst IsTrue w.if-is_empty.false (w.is_empty.ensures.1 e) in absurd cc) | in_default w ↦ not_behind _ _ w.in_default.ensures ] in
    one_on (λ v. v ≡ c.args.text.now) _ (whole c.places.rest) _ _ c.places.invariant missing c.in-Some-split_first.ensures
