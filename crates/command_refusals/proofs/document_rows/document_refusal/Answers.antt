use Rattle.std.proofs.Common.{◌≡◌, true, false, Option, Some, IfOk, refl, sym, ap, ◌∙◌, subst, arith}
use Rattle.std.proofs.lemmas.Grind.{common_steps}
use Rattle.std.specs.Option.{option_copied}
use Rattle.std.specs.FinMap as map
use Rattle.bson_encode.specs.Key.{key_of}
use Rattle.coll_state.specs.Changes.{put_row}
use Rattle.schedule_model.specs.declared.refused.Refused.{Refused}
use Rattle.history_model.specs.Refusals.{rows_in, definitions_in}
use Rattle.command_refusals.specs.Tests.{rows_refusal}
use Rattle.command_refusals.proofs.RowTests.{good_told, bad_told, unnamed_told}
use Rattle.command_refusals.proofs.document_rows.document_refusal.Goals as goal

pub returns-then-not-is_good_document : goal.returns-then-not-is_good_document
returns-then-not-is_good_document c =
    let o = map.get c.args.state.now.tables c.args.ns.now in
    let n : c.is_good_document.result ≡ false = first_of (cc, grind (arith, common_steps)) in
    bad_told c.args.doc.now (rows_in o) (definitions_in o) (sym c.is_good_document.ensures ∙ n)

pub returns-in-Some : goal.returns-in-Some
returns-in-Some c =
    let o = map.get c.args.state.now.tables c.args.ns.now in
    let n : c.is_good_document.result ≡ true = first_of (cc, grind (arith, common_steps)) in
    subst (λ (z : Option Refused). IfOk c.put_refusal.result (λ x. x ≡ z))
    (good_told c.args.doc.now c.args.first.now c.in-Some.id.now (rows_in o) (definitions_in o) (rows_refusal (Some (put_row 0 (key_of c.in-Some.id.now) c.args.first.now (rows_in o))) (definitions_in o))
    (sym c.is_good_document.ensures ∙ n) (ap option_copied (sym c.in-Some.is) ∙ c.get.ensures) c.requires.first refl)
    c.put_refusal.ensures

pub returns-in-None : goal.returns-in-None
returns-in-None c =
    let o = map.get c.args.state.now.tables c.args.ns.now in
    let n : c.is_good_document.result ≡ true = first_of (cc, grind (arith, common_steps)) in
    unnamed_told c.args.doc.now (rows_in o) (definitions_in o) (sym c.is_good_document.ensures ∙ n) (ap option_copied (sym c.in-None.is) ∙ c.get.ensures)
