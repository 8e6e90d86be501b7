use Rattle.std.proofs.Common.{List, ap, ◌∙◌, sym, subst}
use Rattle.json_tree.specs.declared.tree.Tree.{Tree}
use Rattle.coll_state.specs.Definitions.{definition_name}
use Rattle.coll_state.specs.Stock.{named}
use Rattle.index_keys.specs.Definition.{plan_of}
use Rattle.index_build.specs.Counting.{held}
use Rattle.index_build.specs.Faults.{definitions_fault, IsCountFault}
use Rattle.command_refusals.proofs.Shared.{apart_said, fault_said}
use Rattle.command_refusals.proofs.clashes.judge.Goals as goal

pub returns-in-Ok : goal.returns-in-Ok
returns-in-Ok c =
    apart_said c.args.ns.now (definition_name c.args.def.now) (plan_of c.args.def.now) (held c.args.docs.now)
    (ap (λ (ds : List Tree). definitions_fault c.args.ns.now (named ds) (held c.args.docs.now)) (sym c.from_ref.ensures.value) ∙ c.in-Ok.ensures.faultless)

pub returns-in-Some : goal.returns-in-Some
returns-in-Some c =
    fault_said c.args.ns.now (definition_name c.args.def.now) c.in-Err.fault c.in-Some.verdict (plan_of c.args.def.now) (held c.args.docs.now) (sym c.verdict_of.ensures ∙ c.in-Some.is)
    (subst (λ (ds : List Tree). IsCountFault c.in-Err.fault (definitions_fault c.args.ns.now (named ds) (held c.args.docs.now))) c.from_ref.ensures.value c.in-Err.ensures.fault)
