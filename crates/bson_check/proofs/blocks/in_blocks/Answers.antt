use Rattle.std.proofs.Common.{ℕ, List, take, sym, subst, arith, Contains}
use Rattle.std.proofs.lemmas.List.Sorted.{Contains-permutation, IsPermutation-sym}
use Rattle.bson_check.proofs.Starts.{end_itself, searched_start, searched_on, stop_is_first, none_repeats}
use Rattle.bson_check.proofs.blocks.in_blocks.Goals as goal

pub parts-init : goal.parts-init
parts-init c = record {
  end = end_itself c.args.body.now;
  fits = omega arith;
  least = omega arith;
  most = omega arith;
  searched = λ ns to p e. searched_start c.args.body.now c.args.left ns to p;
}

pub parts-preserved : goal.parts-preserved
parts-preserved c =
    let inv = c.parts.invariant in
    let rest = c.parts.rest.now in
    let after = c.fill-count.result.1.now in
    let block = c.sort.new.block in
    record {
      end = c.fill-count.ensures.end c.args.body.now inv.end;
      fits = omega (arith, c.fill-count.ensures.fits, inv.fits);
      least = omega (arith, c.first_known-stop.ensures.least, inv.least);
      most = omega (arith, c.first_known-stop.ensures.most, inv.most, inv.fits);
      searched = λ ns to p e.
          let s = inv.searched ns to p e in
          let v = c.fill-count.ensures.way s.way.left to s.way.path e in
          searched_on c.args.body.now c.args.left ns rest after to c.parts.stop c.first_known-stop.result c.first_known-stop.ensures.least s v.0 block
          (λ l d. Contains-permutation (take c.fill-count.result.0 c.fill-count.new.block) block l c.sort.ensures.same (subst (λ (xs : List ℕ). Contains xs l) v.1 d))
          (λ l d. subst (λ (xs : List ℕ). Contains xs l) (sym v.1) (Contains-permutation block (take c.fill-count.result.0 c.fill-count.new.block) l (IsPermutation-sym (take c.fill-count.result.0 c.fill-count.new.block) block c.sort.ensures.same) d))
          (c.first_known-stop.ensures.first s.way.left to s.way.path (omega (arith, e, inv.least)));
    }

pub returns-then-left-stop : goal.returns-then-left-stop
returns-then-left-stop c = λ ns to p e.
    stop_is_first c.args.end c.args.body.now c.args.left ns c.parts.rest.now to c.parts.stop e c.parts.invariant.least c.parts-test.false (c.parts.invariant.searched ns to p e) c.if-left-stop.true

pub returns-else-left-stop : goal.returns-else-left-stop
returns-else-left-stop c = λ ns to p e.
    none_repeats c.args.end c.args.body.now c.args.left ns c.parts.rest.now to c.parts.stop e c.parts.invariant.least c.parts-test.false (c.parts.invariant.searched ns to p e) (omega (arith, c.parts.invariant.least, c.if-left-stop.false))
