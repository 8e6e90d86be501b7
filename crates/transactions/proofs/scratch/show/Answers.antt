use Rattle.std.proofs.Common.{◌≡◌, true, false, arith, sym, ◌∙◌}
use Rattle.std.proofs.lemmas.Grind.{common_steps}
use Rattle.history_model.specs.Refusals.{is_there}
use Rattle.transactions.proofs.Parts.{has_collection, missing_shown, unnamed_shown, named_shown}
use Rattle.transactions.proofs.scratch.show.Goals as goal
use Rattle.transaction_indexes.proofs.Indexes.{on_ok}

pub returns-then-not-has : goal.returns-then-not-has
returns-then-not-has c =
    let n : c.has.result ≡ false = first_of (cc, grind (arith, common_steps)) in
    missing_shown c.args.command.now c.namespace_of-ns.result.now c.args.part.now c.args.state.now c.namespace_of-ns.ensures c.requires.part (sym c.has.ensures ∙ n)

pub returns-in-Some : goal.returns-in-Some
returns-in-Some c =
    let n = c.namespace_of-ns.result.now in
    let b : c.has.result ≡ true = first_of (cc, grind (arith, common_steps)) in
    let there : is_there n c.args.state.now ≡ true = sym c.has.ensures ∙ b in
    on_ok c.add_document.result c.add_document.ensures
    (λ a. named_shown c.args.command.now n c.in-Some.id.now c.args.part.now c.have_collection.new.part c.add_document.new.part c.args.state.now c.namespace_of-ns.ensures
    (has_collection n c.args.part.now c.have_collection.new.part c.args.state.now c.in_ok-have_collection.ensures there c.requires.part) c.requires.keyed (sym c.in-Some.ensures) a)

pub returns-in-None : goal.returns-in-None
returns-in-None c =
    let n = c.namespace_of-ns.result.now in
    let b : c.has.result ≡ true = first_of (cc, grind (arith, common_steps)) in
    let there : is_there n c.args.state.now ≡ true = sym c.has.ensures ∙ b in
    unnamed_shown c.args.command.now n c.args.part.now c.have_collection.new.part c.args.state.now c.namespace_of-ns.ensures
    (has_collection n c.args.part.now c.have_collection.new.part c.args.state.now c.in_ok-have_collection.ensures there c.requires.part) (sym c.in-None.ensures)
