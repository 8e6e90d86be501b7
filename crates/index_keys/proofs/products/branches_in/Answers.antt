use Rattle.std.proofs.Common.{◌≡◌, sym, ap, ◌∙◌, option_map, List, Some, None, [], ◌∷◌, ◌++◌, ℕ}
use Rattle.bson_value.specs.declared.value.Value.{Object}
use Rattle.containers.specs.Entries.{lookup}
use Rattle.bson_view.specs.Held.{held_document, held_value}
use Rattle.index_keys.specs.declared.branches.HeldBranch.{HeldBranch}
use Rattle.index_keys.specs.declared.branches.HeldBranch.TheVariants as held
use Rattle.index_keys.specs.Branches.{Path, branches, from_field}
use Rattle.index_keys.specs.HeldBranches.{branches_of}
use Rattle.index_keys.proofs.Ways.{from_document}
use Rattle.index_keys.proofs.products.branches_in.Goals as goal

pub returns-in_ok-push-in-None-field : goal.returns-in_ok-push-in-None-field
returns-in_ok-push-in-None-field c =
    let doc = held_document c.args.doc in
    let found : lookup c.in-Some.name.now doc ≡ None = ap (λ (n : List ℕ). lookup n doc) (sym c.as_str.ensures.text) ∙ (sym c.field.ensures ∙ ap (option_map held_value) c.in-None-field.is) in
    let way = ap (λ (p : Path). branches p (Object doc)) c.in-Some.ensures.cases.0 ∙ (from_document c.in-Some.name.now c.in-Some.rest.now doc ∙ ap (from_field (branches c.in-Some.rest.now)) found) in
    ap branches_of (c.in_ok-push-in-None-field.ensures.items ∙ ap (λ (l : List HeldBranch). l ++ held.Missing ∷ []) c.new-out.ensures.items) ∙ sym way

pub returns-in_ok-walk-in-Some-field : goal.returns-in_ok-walk-in-Some-field
returns-in_ok-walk-in-Some-field c =
    let doc = held_document c.args.doc in
    let found : lookup c.in-Some.name.now doc ≡ Some (held_value c.in-Some-field.value) = ap (λ (n : List ℕ). lookup n doc) (sym c.as_str.ensures.text) ∙ (sym c.field.ensures ∙ ap (option_map held_value) c.in-Some-field.is) in
    let way = ap (λ (p : Path). branches p (Object doc)) c.in-Some.ensures.cases.0 ∙ (from_document c.in-Some.name.now c.in-Some.rest.now doc ∙ ap (from_field (branches c.in-Some.rest.now)) found) in
    c.in_ok-walk-in-Some-field.ensures ∙ (ap (λ (l : List HeldBranch). branches_of l ++ branches c.in-Some.rest.now (held_value c.in-Some-field.value)) c.new-out.ensures.items ∙ sym way)
