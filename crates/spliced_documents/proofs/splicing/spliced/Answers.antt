use Rattle.std.proofs.Common.{◌≡◌, ℕ, ◌∙◌, true, false, List, [], ◌∷◌, ◌++◌, ap, arith, rules}
use Rattle.bson_view.specs.Parts.{elements_in}
use Rattle.bson_view.specs.Views.{document, view_bytes}
use Rattle.spliced_documents.specs.Splicing.{front_of, rest_of}
use Rattle.spliced_documents.proofs.Whole.{all_fit, all_made, value_within}
use Rattle.spliced_documents.proofs.splicing.spliced.Goals as goal

pub returns-then-not-is_shallow-clause-fits : goal.returns-then-not-is_shallow-clause-fits
returns-then-not-is_shallow-clause-fits c =
    let fails : c.is_shallow.result ≡ false = search rules in
    (λ some. cc, λ h. absurd (c.is_shallow.ensures.deep fails (omega (arith, h.0, value_within c.args.name.now c.args.value.now (view_bytes c.args.view.now))) (omega (arith, h.1))))

pub returns-clause-some : goal.returns-clause-some
returns-clause-some c =
    let b = view_bytes c.args.view.now in
    let holds : c.is_shallow.result ≡ true = search rules in
    let front = c.around.ensures.front ∙ ap (λ (n : List ℕ). front_of n (elements_in b)) c.as_str.ensures.text in
    let rest = c.around.ensures.rest ∙ ap (λ (n : List ℕ). rest_of n (elements_in b) ++ 0 ∷ []) c.as_str.ensures.text in
    all_made c.args.name.now c.args.value.now b (document c.args.view.now) c.around.ensures.spelled c.requires c.are_well_formed.ensures.name c.are_well_formed.ensures.value (omega (arith, c.is_shallow.ensures.shallow holds))
    c.around.result.0.now c.around.result.1.now front rest c.counted.result c.counted.ensures.bytes c.counted.ensures.fits

pub returns-clause-fits : goal.returns-clause-fits
returns-clause-fits c =
    let b = view_bytes c.args.view.now in
    let holds : c.is_shallow.result ≡ true = search rules in
    let front = c.around.ensures.front ∙ ap (λ (n : List ℕ). front_of n (elements_in b)) c.as_str.ensures.text in
    let rest = c.around.ensures.rest ∙ ap (λ (n : List ℕ). rest_of n (elements_in b) ++ 0 ∷ []) c.as_str.ensures.text in
    all_fit c.args.name.now c.args.value.now b (document c.args.view.now) c.around.ensures.spelled c.requires c.are_well_formed.ensures.name c.are_well_formed.ensures.value (omega (arith, c.is_shallow.ensures.shallow holds))
    c.around.result.0.now c.around.result.1.now front rest c.counted.result c.counted.ensures.fits
