use Rattle.std.proofs.Common.{◌≡◌, ◌<◌, ◌++◌, ◌∷◌, [], ℕ, List, length, refl, sym, ap, subst, ◌∙◌, arith, length-set}
use Rattle.std.proofs.lemmas.List.{take_more_set}
use Rattle.bson_check.specs.Passing.{first_name, passed}
use Rattle.bson_check.specs.Blocks.{IsEnd, starts}
use Rattle.bson_check.proofs.Starts.{way_start, way_on, starts-push, end_on}
use Rattle.bson_check.proofs.blocks.fill.Goals as goal

pub names-init : goal.names-init
names-init c = record {
  end = λ body e. e;
  count = omega arith;
  less = omega arith;
  way = λ ns to p e. (way_start ns c.args.from.now to p, refl);
}

pub names-preserved : goal.names-preserved
names-preserved c =
    let rest = c.names.rest.now in
    let next = c.step.result.1.now in
    let is : passed rest ≡ next = ap passed c.in-Some.ensures.cases.0 ∙ sym c.step.ensures.after in
    let less : length next < length rest = omega (arith, c.step.ensures.fits, ap length c.in-Some.ensures.cases.0) in
    record {
      end = λ body e. subst (IsEnd body) is (end_on body rest (c.names.invariant.end body e));
      count = omega (arith, length-set {A = ℕ}, c.if-block-count.false);
      less = omega (arith, less, c.names.invariant.less);
      way = λ ns to p e.
          let w = c.names.invariant.way ns to p e in
          let v = way_on ns c.args.from.now rest next to (omega (arith, e, c.if-rest-left.false)) is less w.0 in
          (v.0, ap (λ (ms : List (List ℕ)). starts ms c.args.from.now) v.1 ∙ starts-push w.0.gone (first_name rest) c.args.from.now rest w.0.so_far ∙ ap (λ (xs : List ℕ). xs ++ length rest ∷ []) w.1 ∙ sym (take_more_set c.names.block c.names.count (length rest) c.if-block-count.false));
    }
