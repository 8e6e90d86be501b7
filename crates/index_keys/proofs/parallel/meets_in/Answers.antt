use Rattle.std.proofs.Common.{◌≡◌, sym, ap, ◌∙◌, option_map, List, Some, None, ℕ, length}
use Rattle.bson_value.specs.declared.value.Value.{Object}
use Rattle.containers.specs.Entries.{lookup}
use Rattle.bson_view.specs.Held.{held_document, held_value}
use Rattle.index_keys.specs.Branches.{Path, meets_array, in_field}
use Rattle.index_keys.proofs.Ways.{meets_document, no_name_left}
use Rattle.index_keys.proofs.parallel.meets_in.Goals as goal

pub returns-in-None : goal.returns-in-None
returns-in-None c = absurd (no_name_left c.args.path.now (ap length (sym (c.as_slice.ensures ∙ c.names.ensures.names)) ∙ c.in-None.ensures.cases) c.names.ensures.some)

pub returns-in-None-field : goal.returns-in-None-field
returns-in-None-field c =
    let doc = held_document c.args.doc in
    let path = sym (c.as_slice.ensures ∙ c.names.ensures.names) ∙ c.in-Some.ensures.cases.0 in
    let found : lookup c.in-Some.name.now doc ≡ None = ap (λ (n : List ℕ). lookup n doc) (sym c.as_str.ensures.text) ∙ (sym c.field.ensures ∙ ap (option_map held_value) c.in-None-field.is) in
    sym (ap (λ (p : Path). meets_array p (Object doc)) path ∙ (meets_document c.in-Some.name.now c.in-Some.rest.now doc ∙ ap (in_field (meets_array c.in-Some.rest.now)) found))

pub returns-in-Some-field : goal.returns-in-Some-field
returns-in-Some-field c =
    let doc = held_document c.args.doc in
    let path = sym (c.as_slice.ensures ∙ c.names.ensures.names) ∙ c.in-Some.ensures.cases.0 in
    let found : lookup c.in-Some.name.now doc ≡ Some (held_value c.in-Some-field.value) = ap (λ (n : List ℕ). lookup n doc) (sym c.as_str.ensures.text) ∙ (sym c.field.ensures ∙ ap (option_map held_value) c.in-Some-field.is) in
    c.meets.ensures ∙ sym (ap (λ (p : Path). meets_array p (Object doc)) path ∙ (meets_document c.in-Some.name.now c.in-Some.rest.now doc ∙ ap (in_field (meets_array c.in-Some.rest.now)) found))
