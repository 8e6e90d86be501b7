use Rattle.std.proofs.Common.{ap, subst, ◌∙◌, Option, ℕ}
use Rattle.std.specs.Prelude.{IfSome}
use Rattle.bson_view.specs.declared.document_bytes.DocumentBytes.{DocumentBytes}
use Rattle.bson_view.specs.Kept.{kept_bytes, kept_document}
use Rattle.spliced_documents.specs.Splicing.{IsShortSpelling}
use Rattle.state_model.specs.Keys.{Key}
use Rattle.coll_state.specs.Changes.{number_at}
use Rattle.coll_state.specs.Rows.{key_in}
use Rattle.replay.specs.Splicing.{IsPlayedThere}
use Rattle.replay.proofs.Ids.{id_kept}
use Rattle.replay.proofs.Spellings.{is_kept}
use Rattle.replay.proofs.Calls.{played_put}
use Rattle.replay.proofs.actions.play_touches.Goals as goal

pub replace_spelling-requires-clause-number : goal.replace_spelling-requires-clause-number
replace_spelling-requires-clause-number c =
    let n = c.args.ns.now in
    let v = c.args.id.now in
    let ts = c.args.touches.now in
    let p = subst (λ (o : Option (ℕ × DocumentBytes)). IfSome o (λ p. IsPlayedThere n v c.args.form ts c.args.state.now p.0 (kept_document p.1))) c.in-Some.is c.in_ok-number.ensures.played in
    ap (λ (k : Key). number_at n k c.args.state.now.tables) (ap key_in (id_kept c.args.form ts p.0 (kept_document c.in-Some.bytes) p.2) ∙ p.1.2) ∙ p.1.1

pub returns-in-Some-clause-ok : goal.returns-in-Some-clause-ok
returns-in-Some-clause-ok c =
    let n = c.args.ns.now in
    let v = c.args.id.now in
    let ts = c.args.touches.now in
    let p = subst (λ (o : Option (ℕ × DocumentBytes)). IfSome o (λ p. IsPlayedThere n v c.args.form ts c.args.state.now p.0 (kept_document p.1))) c.in-Some.is c.in_ok-number.ensures.played in
    played_put n v c.args.form ts p.0 (kept_document c.in-Some.bytes) c.args.state.now c.replace_spelling.new.self p.1.0 p.1.2 p.2 c.replace_spelling.ensures

pub replace_spelling-requires-clause-spelling : goal.replace_spelling-requires-clause-spelling
replace_spelling-requires-clause-spelling c = (subst (λ (o : Option (ℕ × DocumentBytes)). IfSome o (λ p. IsShortSpelling (kept_bytes p.1) (kept_document p.1))) c.in-Some.is c.in_ok-number.ensures.spelling).text

pub replace_spelling-requires-clause-short : goal.replace_spelling-requires-clause-short
replace_spelling-requires-clause-short c = is_kept (kept_bytes c.in-Some.bytes) (kept_document c.in-Some.bytes) (subst (λ (o : Option (ℕ × DocumentBytes)). IfSome o (λ p. IsShortSpelling (kept_bytes p.1) (kept_document p.1))) c.in-Some.is c.in_ok-number.ensures.spelling)
