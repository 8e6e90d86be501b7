use Rattle.std.proofs.Common.{◌≡◌, Some, refl, sym, ap, ◌∙◌}
use Rattle.std.specs.Option.{option_copied}
use Rattle.std.specs.FinMap as map
use Rattle.bson_encode.specs.Key.{key_of}
use Rattle.coll_state.specs.Changes.{put_row}
use Rattle.history_model.specs.Refusals.{rows_in}
use Rattle.index_build.specs.Counting.{held}
use Rattle.command_refusals.proofs.RowTests.{put_told, none_told, empty_told}
use Rattle.command_refusals.proofs.index_tests.put_refusal.Goals as goal

pub returns-in_default : goal.returns-in_default
returns-in_default c =
    let o = map.get c.args.state.now.tables c.args.ns.now in
    none_told o (put_row 0 (key_of c.args.id.now) c.args.doc.now (rows_in o)) (ap option_copied (sym c.in_default.is) ∙ c.indexes.ensures.definitions)

pub returns-then-is_empty : goal.returns-then-is_empty
returns-then-is_empty c =
    let o = map.get c.args.state.now.tables c.args.ns.now in
    empty_told o (put_row 0 (key_of c.args.id.now) c.args.doc.now (rows_in o)) c.in-Some.defs.now (ap option_copied (sym c.in-Some.is) ∙ c.indexes.ensures.definitions) (c.if-is_empty.ensures.0 refl)

pub documents_after-requires : goal.documents_after-requires
documents_after-requires c = c.requires

pub returns : goal.returns
returns c =
    let o = map.get c.args.state.now.tables c.args.ns.now in
    let defs : c.as_slice.result.now ≡ c.in-Some.defs.now = cc in
    let docs : c.as_slice-2.result.now ≡ c.in_ok-docs.docs.items = cc in
    c.refusal_by.ensures
    ∙ put_told o (put_row 0 (key_of c.args.id.now) c.args.doc.now (rows_in o)) c.as_slice.result.now (held c.as_slice-2.result.now) c.in_ok-tested.tested.clash c.in_ok-tested.tested.parallel
    (ap Some defs ∙ (ap option_copied (sym c.in-Some.is) ∙ c.indexes.ensures.definitions)) (ap held docs ∙ c.in_ok-docs.ensures) c.in_ok-tested.ensures.clash c.in_ok-tested.ensures.parallel
