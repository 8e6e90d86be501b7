use Rattle.std.proofs.Common.{◌≡◌, List, true, false, map as each, Bor, sym, ap, ◌∙◌}
use Rattle.std.specs.Prelude.{option_map}
use Rattle.json_tree.specs.declared.tree.Tree.{Tree}
use Rattle.coll_state.specs.Definitions.{definition_name}
use Rattle.command_refusals.specs.Collections.{is_among}
use Rattle.command_refusals.proofs.RowTests.{drop_missing, drop_told}
use Rattle.command_refusals.proofs.collection_rows.drop_index_refusal.Goals as goal

pub returns-in_default : goal.returns-in_default
returns-in_default c = drop_missing c.args.ns.now c.args.name.now c.args.state.now (ap (option_map (λ (defs : Bor (List Tree)). each definition_name defs.now)) (sym c.in_default.is) ∙ c.indexes.ensures.names)

pub returns-then-is_among : goal.returns-then-is_among
returns-then-is_among c =
    let s : c.as_slice.result.now ≡ c.in-Some.defs.now = cc in
    drop_told c.args.ns.now c.args.name.now c.args.state.now c.in-Some.defs.now true (ap (option_map (λ (defs : Bor (List Tree)). each definition_name defs.now)) (sym c.in-Some.is) ∙ c.indexes.ensures.names)
    (ap (is_among c.args.name.now) (sym s) ∙ (sym c.is_among.ensures ∙ c.if-is_among.true))

pub returns-else-is_among : goal.returns-else-is_among
returns-else-is_among c =
    let s : c.as_slice.result.now ≡ c.in-Some.defs.now = cc in
    drop_told c.args.ns.now c.args.name.now c.args.state.now c.in-Some.defs.now false (ap (option_map (λ (defs : Bor (List Tree)). each definition_name defs.now)) (sym c.in-Some.is) ∙ c.indexes.ensures.names)
    (ap (is_among c.args.name.now) (sym s) ∙ (sym c.is_among.ensures ∙ c.if-is_among.false))
