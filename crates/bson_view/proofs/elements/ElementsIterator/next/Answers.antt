use Rattle.std.proofs.Common.{◌+◌, ◌-◌, ◌<◌, List, ◌∷◌, ℕ, length, take, drop, sym, ap, subst, ◌∙◌, rules, arith}
use Rattle.std.proofs.lemmas.List.{length-take, length-drop}
use Rattle.std.specs.Prelude.{IsTrue}
use Rattle.bson_view.specs.Meaning.{is_value}
use Rattle.bson_view.specs.Parts.{AreElements, parts_of}
use Rattle.bson_view.proofs.Parting.{no_parts}
use Rattle.bson_view.proofs.Stepping.{left_on, some_zero, value_on, to_the_end, rest_cut, value_cut, step_cut}
use Rattle.bson_view.proofs.elements.ElementsIterator.next.Goals as goal

pub returns-in_err-tag-clause-steps : goal.returns-in_err-tag-clause-steps
returns-in_err-tag-clause-steps c = let none = no_parts c.args.self.now.rest.now c.in_err-tag.ensures.cases in rw c.from_residual.ensures (none, none)

pub returns-in_err-zero-clause-steps : goal.returns-in_err-zero-clause-steps
returns-in_err-zero-clause-steps c =
    let there : ∥ AreElements (c.in_ok-tag.tag.now ∷ c.in_ok-tag.bytes.now) ∥₁ = subst (λ (z : List ℕ). ∥ AreElements z ∥₁) c.in_ok-tag.ensures.cases.0 c.args.self.now.spelled in
    absurd (some_zero c.in_ok-tag.tag.now c.in_ok-tag.bytes.now there (sym c.in_err-zero.ensures.place))

pub invariant_of-self : goal.invariant_of-self
invariant_of-self c =
    let tag = c.in_ok-tag.tag.now in
    let bytes = c.in_ok-tag.bytes.now in
    let i = c.in_ok-zero.zero in
    let there : ∥ AreElements (tag ∷ bytes) ∥₁ = subst (λ (z : List ℕ). ∥ AreElements z ∥₁) c.in_ok-tag.ensures.cases.0 c.args.self.now.spelled in
    let cut = rest_cut tag i bytes _ c.after-rest.result.now (sym c.in_ok-zero.ensures.place) (to_the_end (i + 1) bytes) c.after-rest.ensures.place in
    record {
      spelled = subst (λ (z : List ℕ). ∥ AreElements z ∥₁) cut (left_on tag bytes there);
      short = omega (arith, c.after-rest.ensures.fits, c.args.self.now.short, ap length c.in_ok-tag.ensures.cases.0, length-take (length bytes - (i + 1)) (drop (i + 1) bytes), length-drop (i + 1) bytes);
    }

pub invariant_of-result : goal.invariant_of-result
invariant_of-result c =
    let tag = c.in_ok-tag.tag.now in
    let bytes = c.in_ok-tag.bytes.now in
    let i = c.in_ok-zero.zero in
    let there : ∥ AreElements (tag ∷ bytes) ∥₁ = subst (λ (z : List ℕ). ∥ AreElements z ∥₁) c.in_ok-tag.ensures.cases.0 c.args.self.now.spelled in
    let cut = value_cut tag i bytes _ c.after-rest.result.now (sym c.in_ok-zero.ensures.place) (to_the_end (i + 1) bytes) c.after-rest.ensures.place in
    let behind = take (length bytes - (i + 1)) (drop (i + 1) bytes) in
    record {
      spelled = subst (λ (z : List ℕ). IsTrue (is_value tag z)) cut (value_on tag bytes there);
      short = omega (arith, length-take (length behind - length c.after-rest.result.now) behind, c.args.self.now.short, ap length c.in_ok-tag.ensures.cases.0, length-take (length bytes - (i + 1)) (drop (i + 1) bytes), length-drop (i + 1) bytes);
    }

pub returns-clause-steps : goal.returns-clause-steps
returns-clause-steps c =
    let tag = c.in_ok-tag.tag.now in
    let bytes = c.in_ok-tag.bytes.now in
    let i = c.in_ok-zero.zero in
    let rest = c.after-rest.result.now in
    let there : ∥ AreElements (tag ∷ bytes) ∥₁ = subst (λ (z : List ℕ). ∥ AreElements z ∥₁) c.in_ok-tag.ensures.cases.0 c.args.self.now.spelled in
    ap parts_of c.in_ok-tag.ensures.cases.0 ∙ step_cut tag i bytes _ rest (sym c.in_ok-zero.ensures.place) (to_the_end (i + 1) bytes) c.after-rest.ensures.place there

pub returns-clause-goes : goal.returns-clause-goes
returns-clause-goes c =
    let tag = c.in_ok-tag.tag.now in
    let bytes = c.in_ok-tag.bytes.now in
    let i = c.in_ok-zero.zero in
    let rest = c.after-rest.result.now in
    let there : ∥ AreElements (tag ∷ bytes) ∥₁ = subst (λ (z : List ℕ). ∥ AreElements z ∥₁) c.in_ok-tag.ensures.cases.0 c.args.self.now.spelled in
    let step = step_cut tag i bytes _ rest (sym c.in_ok-zero.ensures.place) (to_the_end (i + 1) bytes) c.after-rest.ensures.place there in
    let less : length (parts_of rest) < length (parts_of c.args.self.now.rest.now) = omega (arith, ap (λ z. length (parts_of z)) c.in_ok-tag.ensures.cases.0, ap length step) in
    search (rules, less)
