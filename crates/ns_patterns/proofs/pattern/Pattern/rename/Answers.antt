use Rattle.std.proofs.Common.{rules, ap, ◌∙◌, ◌++◌, List, ℕ}
use Rattle.ns_patterns.specs.Literals.{Literals}
use Rattle.ns_patterns.proofs.Renaming.{going_begins, gone_on, stopped}
use Rattle.ns_patterns.proofs.pattern.Pattern.rename.Goals as goal

pub stars-init : goal.stars-init
stars-init c =
    let first = c.as_str.ensures ∙ ap (λ (p : Literals). p.first) c.from.view_is in
    (search rules, going_begins c.args.from.now c.args.to.now c.args.name.now c.in_ok-new.new c.in-Some.rest.now (c.in-Some.ensures ∙ ap (λ (x : List ℕ). x ++ c.in-Some.rest.now) first) (c.in_ok-new.ensures ∙ ap (λ (p : Literals). p.first) c.to.view_is))

pub returns-in_default-cut-clause-none : goal.returns-in_default-cut-clause-none
returns-in_default-cut-clause-none c =
    stopped c.args.from.now c.args.to.now c.args.name.now _ _ c.stars.i c.stars.invariant.1 _ c.from.view_is _ c.as_slice-literals.ensures _ c.stars-stars.ensures
    c.index-literals-i.result _ c.index-literals-i.is c.as_str-in-stars.ensures c.stars-test.true c.in_default-cut.ensures

pub stars-preserved : goal.stars-preserved
stars-preserved c = (
  search rules,
  gone_on c.args.from.now c.args.to.now c.args.name.now _ _ c.stars.i c.stars.invariant.1 _ c.from.view_is _ c.as_slice-literals.ensures _ c.stars-stars.ensures
      c.index-literals-i.result _ c.index-literals-i.is c.as_str-in-stars.ensures c.stars-test.true c.in-Some-cut.text.now c.in-Some-cut.after.now c.in-Some-cut.ensures
      _ c.to.view_is _ c.as_slice.ensures c.index-as_slice-i.result c.index-as_slice-i.is c.requires c.push_str-in-stars.new.self
      (c.in_ok-push_str-2.ensures.ok ∙ (ap (λ (x : List ℕ). x ++ c.as_str-in-stars-2.result.now) c.in_ok-push_str.ensures.ok ∙ ap (λ (x : List ℕ). (c.stars.new ++ c.in-Some-cut.text.now) ++ x) c.as_str-in-stars-2.ensures)),
)
