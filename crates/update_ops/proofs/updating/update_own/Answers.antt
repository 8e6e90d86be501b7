use Rattle.std.proofs.Common.{◌≡◌, ◌<◌, ◌≤◌, ◌+◌, ◌∷◌, [], List, ℕ, sym, ap, ◌∙◌, subst, rules, drop, length, get_or, refl, suc, arith}
use Rattle.std.specs.Prelude.{Result, Ok, Err, IfOk, IfErr, OnOk, None, false}
use Rattle.std.proofs.Math.Seq.{drop-cons}
use Rattle.std.proofs.lemmas.List.{drop_all}
use Rattle.update_model.specs.declared.operator.Operator.{Operator}
use Rattle.update_ops.specs.Ends.{IsLeft}
use Rattle.update_ops.proofs.Progress.{left_fewer, refused_at, ended_well, refused_last}
use Rattle.update_ops.proofs.updating.update_own.Goals as goal

all_ok : {T E : Type 0} (r : Result T E) (P Q S : T → Type 0) (R : Type 0) → IfOk r P → IfOk r Q → OnOk r R → ((u : T) → P u → Q u → R → S u) → IfOk r S
all_ok (Ok u) P Q S R p q w h = h u p q w
all_ok (Err e) P Q S R p q w h = tt

all_err : {T E : Type 0} (r : Result T E) (P S : E → Type 0) → IfErr r P → ((e : E) → P e → S e) → IfErr r S
all_err (Ok u) P S p h = tt
all_err (Err e) P S p h = h e p

next : (os : List Operator) (i : ℕ) (o : Operator) → i < length os → o ≡ get_or os i o → drop i os ≡ o ∷ drop (suc i) os
next os i o l e = drop-cons os i o l ∙ ap (λ (x : Operator). x ∷ drop (suc i) os) (sym e)

pub returns-in_err-apply-clause-fault : goal.returns-in_err-apply-clause-fault
returns-in_err-apply-clause-fault c =
    let is : c.from_residual.result ≡ Err c.in_err-apply.field-0.0 = search rules in
    let os = c.as_slice-operator-items.result.now in
    let i = c.loop-operator.operator-index in
    let o = c.operator-item.result in
    let same : os ≡ c.args.ops.now = c.as_slice-operator-items.ensures ∙ c.operators.ensures in
    let left = subst (λ (r : List Operator). IsLeft os r c.args.doc c.loop-operator.draft) (next os i o c.loop-operator-test.true c.operator-item.is) c.loop-operator.invariant in
    let here = subst (λ (all : List Operator). IsLeft all (o ∷ drop (suc i) os) c.args.doc c.loop-operator.draft) same left in
    rw is (refused_at c.args.ops.now o (drop (suc i) os) c.args.doc c.loop-operator.draft c.in_err-apply.field-0.0 here c.in_err-apply.ensures.stops)

pub loop-operator-preserved : goal.loop-operator-preserved
loop-operator-preserved c =
    let os = c.as_slice-operator-items.result.now in
    let i = c.loop-operator.operator-index in
    let o = c.operator-item.result in
    let left = subst (λ (r : List Operator). IsLeft os r c.args.doc c.loop-operator.draft) (next os i o c.loop-operator-test.true c.operator-item.is) c.loop-operator.invariant in
    let one : suc i ≡ i + 1 = omega arith in
    subst (λ (n : ℕ). IsLeft os (drop n os) c.args.doc c.apply.new.self) one (left_fewer os o (drop (suc i) os) c.args.doc c.loop-operator.draft c.apply.new.self left c.in_ok-apply.ensures.does)

pub returns-clause-ok : goal.returns-clause-ok
returns-clause-ok c =
    let os = c.as_slice-operator-items.result.now in
    let same : os ≡ c.args.ops.now = c.as_slice-operator-items.ensures ∙ c.operators.ensures in
    let left = subst (λ (r : List Operator). IsLeft os r c.args.doc c.loop-operator.draft) (drop_all c.loop-operator.operator-index os c.loop-operator-test.false) c.loop-operator.invariant in
    let here = subst (λ (all : List Operator). IsLeft all [] c.args.doc c.loop-operator.draft) same left in
    all_ok c.finish.result _ _ _ _ c.finish.ensures.doc c.finish.ensures.touches c.finish.ensures.ok (λ u a b e. ended_well c.args.ops.now c.args.doc c.loop-operator.draft u here e a b)

pub returns-clause-fault : goal.returns-clause-fault
returns-clause-fault c =
    let os = c.as_slice-operator-items.result.now in
    let same : os ≡ c.args.ops.now = c.as_slice-operator-items.ensures ∙ c.operators.ensures in
    let left = subst (λ (r : List Operator). IsLeft os r c.args.doc c.loop-operator.draft) (drop_all c.loop-operator.operator-index os c.loop-operator-test.false) c.loop-operator.invariant in
    let here = subst (λ (all : List Operator). IsLeft all [] c.args.doc c.loop-operator.draft) same left in
    all_err c.finish.result _ _ c.finish.ensures.fault (λ e k. refused_last c.args.ops.now c.args.doc c.loop-operator.draft e here k)
