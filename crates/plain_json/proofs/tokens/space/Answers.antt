use Rattle.std.proofs.Common.{sym, ◌∙◌, arith, ap, length}
use Rattle.std.proofs.lemmas.List.{nil_from_length}
use Rattle.json_text.proofs.Skips.{space_skips, space_stops, space_ends}
use Rattle.plain_json.proofs.tokens.space.Goals as goal

pub spaces-preserved : goal.spaces-preserved
spaces-preserved c = record {
  same = space_skips c.spaces.rest.now c.in-Some.after.now c.in-Some.b.now c.in-Some.ensures.cases.0 (sym c.is_white.ensures ∙ c.if-not-is_white.false) ∙ c.spaces.invariant.same;
  fits = omega (arith, c.spaces.invariant.fits, ap length c.in-Some.ensures.cases.0);
}

pub returns-then-not-is_white-clause-value : goal.returns-then-not-is_white-clause-value
returns-then-not-is_white-clause-value c =
    sym (space_stops c.spaces.rest.now c.in-Some.after.now c.in-Some.b.now c.in-Some.ensures.cases.0 (sym c.is_white.ensures ∙ c.if-not-is_white.true)) ∙ c.spaces.invariant.same

pub returns-clause-value : goal.returns-clause-value
returns-clause-value c = sym (space_ends c.spaces.rest.now (nil_from_length _ c.in_default.ensures.cases)) ∙ c.spaces.invariant.same
