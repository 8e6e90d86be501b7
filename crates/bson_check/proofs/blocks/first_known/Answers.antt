use Rattle.std.proofs.Common.{◌≡◌, ◌<◌, ℕ, List, length, sym, ap, subst, ◌∙◌, arith}
use Rattle.bson_check.specs.Passing.{first_name, passed}
use Rattle.bson_check.specs.Blocks.{IsEnd, Known}
use Rattle.bson_check.proofs.Starts.{end_on, way_start, name_here, first_none, first_here, none_on}
use Rattle.bson_check.proofs.blocks.first_known.Goals as goal

pub names-init : goal.names-init
names-init c = record {
  end = c.requires.end;
  fits = omega arith;
  none = λ ns to p le. (way_start ns c.args.from.now to p, λ k d known. omega (arith, d.1));
}

pub returns-then-rest-stop-clause-first : goal.returns-then-rest-stop-clause-first
returns-then-rest-stop-clause-first c = λ ns to p le.
    let w = c.names.invariant.none ns to p le in
    first_none c.args.body.now c.args.block.now ns c.args.from.now c.names.rest.now to c.args.stop w.0 w.1 c.if-rest-stop.true

pub returns-then-stands_before-clause-first : goal.returns-then-stands_before-clause-first
returns-then-stands_before-clause-first c = λ ns to p le.
    let w = c.names.invariant.none ns to p le in
    let name : first_name c.names.rest.now ≡ c.step.result.0.now = ap first_name c.in-Some.ensures.cases.0 ∙ sym c.step.ensures.name in
    let known = c.stands_before.ensures.0 c.if-stands_before.true in
    first_here c.args.body.now c.args.block.now ns c.args.from.now c.names.rest.now to c.args.stop w.0 w.1 (omega (arith, le, c.if-rest-stop.false)) (subst (λ (n : List ℕ). Known c.args.body.now c.args.block.now n (length c.names.rest.now)) (sym name ∙ sym (name_here c.args.body.now c.names.rest.now c.names.invariant.end)) known)

pub names-preserved : goal.names-preserved
names-preserved c =
    let rest = c.names.rest.now in
    let next = c.step.result.1.now in
    let is : passed rest ≡ next = ap passed c.in-Some.ensures.cases.0 ∙ sym c.step.ensures.after in
    let less : length next < length rest = omega (arith, c.step.ensures.fits, ap length c.in-Some.ensures.cases.0) in
    let name : first_name rest ≡ c.step.result.0.now = ap first_name c.in-Some.ensures.cases.0 ∙ sym c.step.ensures.name in
    record {
      end = subst (IsEnd c.args.body.now) is (end_on c.args.body.now rest c.names.invariant.end);
      fits = omega (arith, less, c.names.invariant.fits);
      none = λ ns to p le.
          let w = c.names.invariant.none ns to p le in
          none_on c.args.body.now c.args.block.now ns c.args.from.now rest to c.args.stop w.0 w.1 next (omega (arith, le, c.if-rest-stop.false)) is less
          (λ known. let yes = c.stands_before.ensures.1 (subst (λ (n : List ℕ). Known c.args.body.now c.args.block.now n (length rest)) (name_here c.args.body.now rest c.names.invariant.end ∙ name) known) in let no = c.if-stands_before.false in absurd cc);
    }

pub returns-clause-first : goal.returns-clause-first
returns-clause-first c = λ ns to p le.
    let w = c.names.invariant.none ns to p le in
    first_none c.args.body.now c.args.block.now ns c.args.from.now c.names.rest.now to c.args.stop w.0 w.1 (omega (arith, c.in_default.ensures.cases))
