use Rattle.std.proofs.Common.{◌≡◌, ◌∷◌, ◌∙◌, rules, arith}
use Rattle.std.proofs.lemmas.Grind.{common_steps}
use Rattle.std.specs.Str.{bytes_eq}
use Rattle.coll_state.specs.Definitions.{definition_name}
use Rattle.command_refusals.proofs.RowTests.{bytes_key, among_found, among_passed}
use Rattle.command_refusals.proofs.collection_rows.is_among.Goals as goal

pub returns-then-eq : goal.returns-then-eq
returns-then-eq c =
    let e : c.eq.result ≡ bytes_eq (definition_name c.in-Some.def.now) c.args.name.now = cc in
    let s : c.definitions.left.now ≡ c.in-Some.def.now ∷ c.in-Some.rest.now = first_of (search rules, grind (arith, common_steps)) in
    among_found c.args.name.now c.in-Some.def.now c.definitions.left.now c.in-Some.rest.now c.args.defs.now c.eq.result c.definitions.invariant s (e ∙ bytes_key (definition_name c.in-Some.def.now) c.args.name.now) c.if-eq.true

pub definitions-preserved : goal.definitions-preserved
definitions-preserved c =
    let e : c.eq.result ≡ bytes_eq (definition_name c.in-Some.def.now) c.args.name.now = cc in
    let s : c.definitions.left.now ≡ c.in-Some.def.now ∷ c.in-Some.rest.now = first_of (search rules, grind (arith, common_steps)) in
    among_passed c.args.name.now c.in-Some.def.now c.definitions.left.now c.in-Some.rest.now c.args.defs.now c.eq.result c.definitions.invariant s (e ∙ bytes_key (definition_name c.in-Some.def.now) c.args.name.now) c.if-eq.false
