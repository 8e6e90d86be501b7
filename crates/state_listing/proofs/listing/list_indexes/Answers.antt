use Rattle.std.proofs.Common.{◌≡◌, ◌∷◌, ◌++◌, ℕ, Option, sym, ap, ◌∙◌, subst, arith, rules}
use Rattle.coll_state.specs.Definitions.{definition_name}
use Rattle.index_build.specs.Numbers.{number_at}
use Rattle.state_listing.specs.Listing.{index_line}
use Rattle.state_listing.specs.Listed.{index_lines}
use Rattle.state_listing.proofs.Fronts.{Left, left_on, left_stop}
use Rattle.state_listing.proofs.Texts.{index_first}
use Rattle.state_listing.proofs.listing.list_indexes.Goals as goal

pub indexes-preserved : goal.indexes-preserved
indexes-preserved g c =
    let before = (g.K.Sink.end c.args.sink.now).bytes in
    let now = (g.K.Sink.end c.indexes.sink).bytes in
    let counts = c.args.counts.now in
    let n = c.args.ns.now in
    let text = index_lines counts n c.args.defs.now in
    let def = c.in-Some.def.now in
    let defs : c.indexes.left.now ≡ def ∷ c.in-Some.rest.now = search rules in
    let number : c.get-number.result ≡ number_at counts n (definition_name def) = c.get-number.ensures ∙ ap (number_at counts n) c.name_of.ensures in
    record {
      left = left_on before now (g.K.Sink.end c.write_index.new.sink).bytes text (index_line c.get-number.result def) (index_lines counts n c.in-Some.rest.now)
          (subst (λ (o : Option ℕ). Left before now text (index_line o def ++ index_lines counts n c.in-Some.rest.now)) (sym number) (subst (Left before now text) (index_first counts n c.indexes.left.now c.in-Some.rest.now def defs) c.indexes.invariant.left)) c.in-Ok.ensures.ok;
      later = omega (arith, c.indexes.invariant.later, c.write_index.ensures.later);
    }

pub returns-in-Err-clause-err : goal.returns-in-Err-clause-err
returns-in-Err-clause-err g c =
    let before = (g.K.Sink.end c.args.sink.now).bytes in
    let now = (g.K.Sink.end c.indexes.sink).bytes in
    let counts = c.args.counts.now in
    let n = c.args.ns.now in
    let text = index_lines counts n c.args.defs.now in
    let def = c.in-Some.def.now in
    let defs : c.indexes.left.now ≡ def ∷ c.in-Some.rest.now = search rules in
    let number : c.get-number.result ≡ number_at counts n (definition_name def) = c.get-number.ensures ∙ ap (number_at counts n) c.name_of.ensures in
    left_stop before now (g.K.Sink.end c.write_index.new.sink).bytes text (index_line c.get-number.result def) (index_lines counts n c.in-Some.rest.now)
    (subst (λ (o : Option ℕ). Left before now text (index_line o def ++ index_lines counts n c.in-Some.rest.now)) (sym number) (subst (Left before now text) (index_first counts n c.indexes.left.now c.in-Some.rest.now def defs) c.indexes.invariant.left)) c.in-Err.ensures.err
