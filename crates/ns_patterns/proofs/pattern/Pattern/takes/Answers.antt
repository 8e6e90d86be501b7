use Rattle.std.proofs.Common.{ap, sym, ◌∙◌, ◌++◌, List, ℕ}
use Rattle.ns_patterns.specs.Search.{whole}
use Rattle.ns_patterns.proofs.Takes.{begins, goes_on, ends}
use Rattle.ns_patterns.proofs.pattern.Pattern.takes.Goals as goal

pub literals-init : goal.literals-init
literals-init c =
    begins _ _ _ (whole c.in-Some.rest) _ _ c.self.view_is (c.in-Some.ensures ∙ ap (λ (x : List ℕ). x ++ whole c.in-Some.rest) (c.as_bytes.ensures.value ∙ c.as_str.ensures))
    (sym c.as_slice.ensures ∙ c.in-Some-split_last.ensures.cases.0)

pub literals-preserved : goal.literals-preserved
literals-preserved c =
    goes_on _ c.in-Some-split_last.inner.now c.in-Some-split_last.last.now c.literal-item.result _ _ _ _ c.literals.literal-index c.literals.invariant c.literals-test.true c.literal-item.is
    (c.as_bytes-in-literals.ensures.value ∙ c.as_str-in-literals.ensures) c.in-Some-behind_first.ensures.1

pub returns : goal.returns
returns c =
    ends _ _ c.in-Some-split_last.inner.now c.in-Some-split_last.last.now _ _ c.literals.literal-index c.literals.invariant c.literals-test.false (c.as_bytes-2.ensures.value ∙ c.as_str-2.ensures) c.ends_with.ensures
