use Rattle.std.proofs.Common.{arith, ap, sym, subst, ◌∙◌, ◌≡◌, ◌<◌, ◌+◌, ◌∷◌, [], ◌++◌, true, false, List, ℕ, length, drop}
use Rattle.std.specs.Prelude.{Some}
use Rattle.bson_check.specs.Reading.{place}
use Rattle.bson_check.specs.Passing.{first_name, passed, has}
use Rattle.bson_check.specs.Slots.{IsMarked}
use Rattle.bson_check.specs.Sieve.{IsKept, StandsTwice}
use Rattle.bson_check.proofs.Search.{seen_start, seen_end, seen_found, seen_on, not_true, of_all}
use Rattle.bson_check.proofs.Sifting.{next_twice}
use Rattle.bson_check.proofs.repeats.in_slots.Goals as goal

pub names-init : goal.names-init
names-init c = record { seen = λ ns to p e. (seen_start c.args.end c.args.body.now ns to p, λ n h. let f : false ≡ true = h in absurd cc); fits = omega (arith, c.requires.fits) }

pub returns-then-bytes-left : goal.returns-then-bytes-left
returns-then-bytes-left c = λ ns to p e.
    seen_end c.args.end c.args.body.now ns to c.names.rest.now (omega (arith, c.if-bytes-left.true, e, ap length c.in-Some.ensures.cases.0)) (c.names.invariant.seen ns to p e).0

pub returns-then-was_there : goal.returns-then-was_there
returns-then-was_there c = λ ns to p e.
    let s = (c.names.invariant.seen ns to p e).0 in
    let n : first_name c.names.rest.now ≡ c.step.result.0.now = ap first_name c.in-Some.ensures.cases.0 ∙ sym c.step.ensures.name in
    let l : length c.names.rest.now ≡ length c.in-Some.bytes.now + 1 = omega (arith, ap length c.in-Some.ensures.cases.0) in
    let h : has (first_name c.names.rest.now) s.seen ≡ true = ap (λ (x : List ℕ). has x s.seen) n ∙ c.was_there.ensures s.seen c.names.rest.now s.so_far l ∙ c.if-was_there.true in
    seen_found c.args.end c.args.body.now ns to c.names.rest.now (omega (arith, c.if-bytes-left.false, e, l)) s h
    ∙ ap (λ (x : List ℕ). Some (place c.args.end (drop 1 x))) c.in-Some.ensures.cases.0

pub names-preserved-else-tries-eq0 : goal.names-preserved-else-tries-eq0
names-preserved-else-tries-eq0 c = record {
  seen = λ ns to p e.
      let b = c.names.invariant.seen ns to p e in
      let s = b.0 in
      let K = IsKept c.args.sieve.every c.args.sieve.factor c.args.sieve.words.now in
      let n : first_name c.names.rest.now ≡ c.step.result.0.now = ap first_name c.in-Some.ensures.cases.0 ∙ sym c.step.ensures.name in
      let l : length c.names.rest.now ≡ length c.in-Some.bytes.now + 1 = omega (arith, ap length c.in-Some.ensures.cases.0) in
      let h : has (first_name c.names.rest.now) s.seen ≡ false = ap (λ (x : List ℕ). has x s.seen) n ∙ c.was_there.ensures s.seen c.names.rest.now s.so_far l ∙ c.if-was_there.false in
      let t = seen_on c.args.end c.args.body.now ns to c.names.rest.now c.step.result.1.now (omega (arith, c.if-bytes-left.false, e, l)) (omega (arith, c.step.ensures.fits, l)) (ap passed c.in-Some.ensures.cases.0 ∙ sym c.step.ensures.after) s h in (
        t.0,
        λ m f. of_all (λ x. K x → IsMarked c.names.words c.args.factor x) (λ x. K x → IsMarked c.put_kept.new.words c.args.factor x) s.seen c.step.result.0.now (λ x put k. c.put_kept.ensures.others x (put k)) c.put_kept.ensures.itself b.1 m
            (subst (λ (xs : List (List ℕ)). has m xs ≡ true) (t.1 ∙ ap (λ (x : List ℕ). s.seen ++ x ∷ []) n) f),
      );
  fits = omega (arith, c.step.ensures.fits, c.names.invariant.fits, ap length c.in-Some.ensures.cases.0);
}

pub names-preserved : goal.names-preserved
names-preserved c = record {
  seen = λ ns to p e.
      let b = c.names.invariant.seen ns to p e in
      let s = b.0 in
      let K = IsKept c.args.sieve.every c.args.sieve.factor c.args.sieve.words.now in
      let n : first_name c.names.rest.now ≡ c.step.result.0.now = ap first_name c.in-Some.ensures.cases.0 ∙ sym c.step.ensures.name in
      let l : length c.names.rest.now ≡ length c.in-Some.bytes.now + 1 = omega (arith, ap length c.in-Some.ensures.cases.0) in
      let h : has (first_name c.names.rest.now) s.seen ≡ false = ap (λ (x : List ℕ). has x s.seen) n ∙ not_true (has c.step.result.0.now s.seen) (λ t.
      let lt : length to < length c.names.rest.now = omega (arith, c.if-bytes-left.false, e, l) in
      let twice = subst (λ (x : List ℕ). StandsTwice x ns) n (next_twice c.args.end c.args.body.now ns to c.names.rest.now lt s (subst (λ (x : List ℕ). has x s.seen ≡ true) (sym n) t)) in
      let k = c.requires.kept ns to p e c.step.result.0.now twice in
      let f = c.if-put_kept.ensures.there k (b.1 c.step.result.0.now t k) in absurd cc) in
      let t = seen_on c.args.end c.args.body.now ns to c.names.rest.now c.step.result.1.now (omega (arith, c.if-bytes-left.false, e, l)) (omega (arith, c.step.ensures.fits, l)) (ap passed c.in-Some.ensures.cases.0 ∙ sym c.step.ensures.after) s h in (
        t.0,
        λ m f. of_all (λ x. K x → IsMarked c.names.words c.args.factor x) (λ x. K x → IsMarked c.put_kept.new.words c.args.factor x) s.seen c.step.result.0.now (λ x put k. c.put_kept.ensures.others x (put k)) c.put_kept.ensures.itself b.1 m
            (subst (λ (xs : List (List ℕ)). has m xs ≡ true) (t.1 ∙ ap (λ (x : List ℕ). s.seen ++ x ∷ []) n) f),
      );
  fits = omega (arith, c.step.ensures.fits, c.names.invariant.fits, ap length c.in-Some.ensures.cases.0);
}

pub returns : goal.returns
returns c = λ ns to p e.
    seen_end c.args.end c.args.body.now ns to c.names.rest.now (omega (arith, c.in_default.ensures.cases)) (c.names.invariant.seen ns to p e).0
