use Rattle.std.proofs.Common.{◌≡◌, List, length, map as each, Bor, sym, ap, ◌∙◌}
use Rattle.std.specs.Prelude.{option_map}
use Rattle.std.specs.Option.{option_copied}
use Rattle.json_tree.specs.declared.tree.Tree.{Tree}
use Rattle.coll_state.specs.Definitions.{definition_name}
use Rattle.command_refusals.specs.Collections.{index_row, is_taken}
use Rattle.command_refusals.proofs.RowTests.{index_told, index_missing}
use Rattle.command_refusals.proofs.collection_rows.index_refusal.Goals as goal

pub returns-in_default : goal.returns-in_default
returns-in_default c = index_missing c.args.ns.now c.args.def.now c.args.state.now (ap (option_map (λ (defs : Bor (List Tree)). each definition_name defs.now)) (sym c.in_default.is) ∙ c.indexes.ensures.names)

pub returns : goal.returns
returns c =
    let s : c.as_slice.result.now ≡ c.in-Some.defs.now = cc in
    index_told c.args.ns.now c.args.def.now c.args.state.now c.in-Some.defs.now (option_copied c.args.form) (option_copied c.name_of.result) c.in_ok-good.good c.in_ok-tested.tested c.index_row.result
    (ap (option_map (λ (defs : Bor (List Tree)). each definition_name defs.now)) (sym c.in-Some.is) ∙ c.indexes.ensures.names) c.in_ok-good.ensures c.requires c.name_of.ensures c.in_ok-tested.ensures
    (c.index_row.ensures ∙ ap (λ (ds : List Tree). index_row c.in_ok-tested.tested (is_taken (option_copied c.name_of.result) ds) c.in_ok-good.good (length ds)) s)
