use Rattle.std.proofs.Common.{ℕ, ◌∷◌, ap, sym, ◌∙◌}
use Rattle.std.specs.Prelude.{is_some}
use Rattle.extjson.specs.Wrappers.{wrapper_of}
use Rattle.plain_json.proofs.NewNames.{none_named}
use Rattle.plain_json.proofs.Members.{name_read}
use Rattle.plain_json.proofs.reading.name.Goals as goal

pub returns-clause-read : goal.returns-clause-read
returns-clause-read c =
    let first = c.in-Some-eq34-default.ensures.cases.0 ∙ ap (λ (b : ℕ). b ∷ c.in-Some-eq34-default.rest.now) c.in-Some-eq34-default.field-0-0-test in
    let new = ap is_some (sym c.place.ensures.place) ∙ sym c.is_some.ensures ∙ c.if-is_some.false in
    let unnamed = none_named (wrapper_of c.in-Some.name.now) c.names_wrapper.result c.names_wrapper.ensures c.if-names_wrapper.false in
    rw first (name_read c.args.before.now _ _ _ c.in-Some.ensures.gives new unnamed c.in-Some.ensures.no_zero)
