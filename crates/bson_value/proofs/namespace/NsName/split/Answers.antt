use Rattle.std.proofs.Common.{lit<, inl, inr, subst, List, ℕ, sym}
use Rattle.bson_value.specs.Namespace.{IsSplit}
use Rattle.bson_value.proofs.FirstDot.{without_dot, empty_side, at_first_dot, is_empty_list, is_no_empty_list}
use Rattle.bson_value.proofs.namespace.NsName.split.Goals as goal
use Rattle.bson_value.proofs.namespace.NsName.split.Goals.{then-is_empty-via-then-is_empty, then-is_empty-via-else-is_empty+then-is_empty-2}

pub returns-in_default-clause-none : goal.returns-in_default-clause-none
returns-in_default-clause-none c = without_dot _ (c.in_default.ensures.byte (lit< tt) (λ w o f. f))

pub returns-then-is_empty-clause-none : goal.returns-then-is_empty-clause-none
returns-then-is_empty-clause-none c db coll =
    let r = c.in-Some.ensures.byte (lit< tt) (λ w o f. f) in
    elim c.then-is_empty.branch [
      | then-is_empty-via-then-is_empty w ↦ empty_side _ db coll _ _ r.0 r.1 (inl (is_empty_list _ _ c.is_empty.ensures w.if-is_empty.true))
      | then-is_empty-via-else-is_empty+then-is_empty-2 w ↦ empty_side _ db coll _ _ r.0 r.1 (inr (is_empty_list _ _ w.is_empty-else-is_empty.ensures w.if-is_empty-2.true))
    ]

pub returns-clause-some : goal.returns-clause-some
returns-clause-some c =
    let r = c.in-Some.ensures.byte (lit< tt) (λ w o f. f) in
    let at = at_first_dot c.args.text.now c.in-Some.db.now c.in-Some.coll.now r.2 r.0 r.1 (is_no_empty_list _ _ c.is_empty.ensures c.if-is_empty.false) (is_no_empty_list _ _ c.is_empty-else-is_empty.ensures c.if-is_empty-2.false) in
    subst (λ (x : List ℕ). IsSplit c.args.text.now x c.in_ok-of-2.field-0) (sym c.in_ok-of.ensures) (subst (λ (y : List ℕ). IsSplit c.args.text.now c.in-Some.db.now y) (sym c.in_ok-of-2.ensures) at)
