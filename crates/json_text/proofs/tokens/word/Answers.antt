use Rattle.std.proofs.Common.{sym, ◌∙◌, arith, ap, length}
use Rattle.std.proofs.lemmas.List.{nil_from_length}
use Rattle.json_text.proofs.Skips.{word_ends, word_fails, word_goes, word_done}
use Rattle.json_text.proofs.tokens.word.Goals as goal

pub returns-in-None-clause-gives : goal.returns-in-None-clause-gives
returns-in-None-clause-gives c =
    rw (c.bad.ensures, ← c.loop-letter.invariant.same) (word_ends c.args.word.now c.loop-letter.letter-index c.args.start c.args.end c.loop-letter.rest.now c.loop-letter-test.true (nil_from_length _ c.in-None.ensures.cases))

pub returns-then-b-letter-clause-gives : goal.returns-then-b-letter-clause-gives
returns-then-b-letter-clause-gives c =
    rw (c.bad-then-b-letter.ensures, ← c.loop-letter.invariant.same) (word_fails c.args.word.now c.loop-letter.letter-index c.args.start c.args.end c.loop-letter.rest.now c.in-Some.b.now c.in-Some.after.now c.loop-letter-test.true c.in-Some.ensures.cases.0 c.if-b-letter.true)

pub loop-letter-preserved : goal.loop-letter-preserved
loop-letter-preserved c = record {
  same = word_goes c.args.word.now c.loop-letter.letter-index c.args.start c.args.end c.loop-letter.rest.now c.in-Some.b.now c.in-Some.after.now c.loop-letter-test.true c.in-Some.ensures.cases.0 c.if-b-letter.false ∙ c.loop-letter.invariant.same;
  fits = omega (arith, c.loop-letter.invariant.fits, ap length c.in-Some.ensures.cases.0);
}

pub returns-clause-gives : goal.returns-clause-gives
returns-clause-gives c =
    sym c.loop-letter.invariant.same ∙ word_done c.args.word.now c.loop-letter.letter-index c.args.start c.args.end c.loop-letter.rest.now c.loop-letter-test.false
