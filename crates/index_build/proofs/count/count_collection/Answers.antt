use Rattle.std.proofs.Common.{◌≡◌, None, refl, sym, ap, ◌∙◌, subst}
use Rattle.std.specs.Prelude.{IfOk, IfErr, OnOk, Option}
use Rattle.std.specs.FinMap as map
use Rattle.coll_state.specs.Stock.{named}
use Rattle.index_build.specs.declared.fault.CountFault.{CountFault}
use Rattle.index_build.specs.Counting.{held}
use Rattle.index_build.specs.Faults.{definitions_fault, collection_fault, IsCountFault}
use Rattle.index_build.specs.Numbers.{numbers_of, numbers_in}
use Rattle.index_build.proofs.Walks.{collection_there, collection_absent, collection_bare}
use Rattle.index_build.proofs.count.count_collection.Goals as goal

pub returns-in-None-clause-numbers : goal.returns-in-None-clause-numbers
returns-in-None-clause-numbers c = c.new.ensures.items ∙ ap numbers_in (sym (collection_absent c.args.state.now c.args.ns.now c.in-None.ensures.definitions))

pub returns-in-None-clause-faultless : goal.returns-in-None-clause-faultless
returns-in-None-clause-faultless c = ap (collection_fault c.args.ns.now) (collection_absent c.args.state.now c.args.ns.now c.in-None.ensures.definitions)

pub returns-in_ok-docs-in-Some-clause-numbers : goal.returns-in_ok-docs-in-Some-clause-numbers
returns-in_ok-docs-in-Some-clause-numbers c =
    let there = collection_there c.args.state.now c.args.ns.now c.in-Some.defs.now c.in_ok-docs-in-Some.docs.items (map.get c.args.state.now.tables c.args.ns.now) refl c.in-Some.ensures.definitions c.in-Some.ensures.names c.in_ok-docs-in-Some.ensures in
    subst (λ z. IfOk c.count_definitions.result (λ v. v.items ≡ z)) ((λ i. numbers_of (named (c.as_slice.ensures i)) (held (c.as_slice-in-Some.ensures.value i))) ∙ there.numbers) c.count_definitions.ensures.numbers

pub returns-in_ok-docs-in-Some-clause-faultless : goal.returns-in_ok-docs-in-Some-clause-faultless
returns-in_ok-docs-in-Some-clause-faultless c =
    let there = collection_there c.args.state.now c.args.ns.now c.in-Some.defs.now c.in_ok-docs-in-Some.docs.items (map.get c.args.state.now.tables c.args.ns.now) refl c.in-Some.ensures.definitions c.in-Some.ensures.names c.in_ok-docs-in-Some.ensures in
    subst (λ (z : Option CountFault). OnOk c.count_definitions.result (z ≡ None)) ((λ i. definitions_fault c.args.ns.now (named (c.as_slice.ensures i)) (held (c.as_slice-in-Some.ensures.value i))) ∙ there.fault) c.count_definitions.ensures.faultless

pub returns-in_ok-docs-in-Some-clause-fault : goal.returns-in_ok-docs-in-Some-clause-fault
returns-in_ok-docs-in-Some-clause-fault c =
    let there = collection_there c.args.state.now c.args.ns.now c.in-Some.defs.now c.in_ok-docs-in-Some.docs.items (map.get c.args.state.now.tables c.args.ns.now) refl c.in-Some.ensures.definitions c.in-Some.ensures.names c.in_ok-docs-in-Some.ensures in
    subst (λ (z : Option CountFault). IfErr c.count_definitions.result (λ e. IsCountFault e z)) ((λ i. definitions_fault c.args.ns.now (named (c.as_slice.ensures i)) (held (c.as_slice-in-Some.ensures.value i))) ∙ there.fault) c.count_definitions.ensures.fault

pub returns-then-is_empty-clause-numbers : goal.returns-then-is_empty-clause-numbers
returns-then-is_empty-clause-numbers c =
    c.new-then-is_empty.ensures.items ∙ sym (collection_bare c.args.state.now c.args.ns.now c.in-Some.defs.now (map.get c.args.state.now.tables c.args.ns.now) (c.is_empty.ensures.0 c.if-is_empty.true) refl c.in-Some.ensures.definitions).0

pub returns-then-is_empty-clause-faultless : goal.returns-then-is_empty-clause-faultless
returns-then-is_empty-clause-faultless c =
    (collection_bare c.args.state.now c.args.ns.now c.in-Some.defs.now (map.get c.args.state.now.tables c.args.ns.now) (c.is_empty.ensures.0 c.if-is_empty.true) refl c.in-Some.ensures.definitions).1
