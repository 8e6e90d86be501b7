use Rattle.std.proofs.Common.{◌≡◌, ◌<◌, Option, sym, ap, ◌∙◌, subst, List, ℕ, Bool, true, false, length}
use Rattle.std.specs.Prelude.{◌||◌, IfSome}
use Rattle.std.specs.List.{list_any}
use Rattle.std.specs.Set.{remove_key}
use Rattle.std.specs.BTreeMap.{is_at}
use Rattle.std.specs.Ordering.{nat_cmp}
use Rattle.std.specs.Cmp.Lexicographic.{slice_cmp}
use Rattle.update_ops.specs.Prefixes.{Text, starts, has, has_front, IsBehind, IsPrefixFree}
use Rattle.update_ops.proofs.TextOrder.{fewer_removed, free_removed, front_removed, shorter}
use Rattle.update_ops.proofs.prefixes.PrefixSet.drop_behind.Goals as goal

pub invariant_of-self : goal.invariant_of-self
invariant_of-self c =
    let next = c.in-Some.next in
    let behind : IsBehind c.args.text.now next c.behind.self = subst (λ (o : Option Text). IfSome o (λ n. IsBehind c.args.text.now n c.behind.self)) c.in-Some.is c.in_ok-next.ensures.some in
    subst IsPrefixFree (sym c.remove.ensures.keys) (free_removed c.self.inside.texts.keys next (subst (λ (ts : List Text). has ts next ≡ true) (sym c.self.view_is) behind.0) c.self.invariant)

pub behind-smaller : goal.behind-smaller
behind-smaller c =
    let next = c.in-Some.next in
    let keys = c.self.inside.texts.keys in
    let behind : IsBehind c.args.text.now next c.behind.self = subst (λ (o : Option Text). IfSome o (λ n. IsBehind c.args.text.now n c.behind.self)) c.in-Some.is c.in_ok-next.ensures.some in
    let less = shorter keys next (subst (λ (ts : List Text). has ts next ≡ true) (sym c.self.view_is) behind.0) in
    subst (λ (ts : List Text). length ts < length c.behind.self) (sym c.remove.ensures.keys) (subst (λ (ts : List Text). length (remove_key (is_at (slice_cmp nat_cmp next)) keys) < length ts) c.self.view_is less)

pub behind-preserved : goal.behind-preserved
behind-preserved c =
    let next = c.in-Some.next in
    let keys = c.self.inside.texts.keys in
    let behind : IsBehind c.args.text.now next c.behind.self = subst (λ (o : Option Text). IfSome o (λ n. IsBehind c.args.text.now n c.behind.self)) c.in-Some.is c.in_ok-next.ensures.some in
    let here = subst (λ (ts : List Text). IsBehind c.args.text.now next ts) (sym c.self.view_is) behind in
    record {
      fewer = λ p e. ap (list_any p) c.remove.ensures.keys ∙ fewer_removed p keys next here.0 (ap (list_any p) c.self.view_is ∙ c.behind.invariant.fewer p e);
      covers = λ t. ap (λ (ts : List Text). starts c.args.text.now t || has_front ts t) c.remove.ensures.keys ∙ (front_removed keys c.args.text.now next t here ∙ (ap (λ (ts : List Text). starts c.args.text.now t || has_front ts t) c.self.view_is ∙ c.behind.invariant.covers t));
    }
