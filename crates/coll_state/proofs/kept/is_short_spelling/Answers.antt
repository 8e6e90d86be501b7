use Rattle.std.proofs.Common.{◌≡◌, ℕ, ◌≤◌, List, length, ap, ◌∙◌, subst, arith}
use Rattle.std.specs.Prelude.{◌↔◌, IsTrue}
use Rattle.bson_value.specs.declared.value.Value.{Value}
use Rattle.bson_value.specs.Levels.{levels_of}
use Rattle.bson_value.specs.Spelling.{document_text}
use Rattle.bson_view.specs.Kept.{kept_bytes, kept_document}
use Rattle.bson_view.specs.Views.{document}
use Rattle.coll_state.proofs.Shortness.{too_long, short_spelling}
use Rattle.coll_state.proofs.kept.is_short_spelling.Goals as goal

pub returns-then-bytes-gt-MAX_KEPT_BYTES : goal.returns-then-bytes-gt-MAX_KEPT_BYTES
returns-then-bytes-gt-MAX_KEPT_BYTES c =
    let is = c.bytes.ensures.bytes ∙ c.view-view.ensures.bytes in
    too_long (kept_bytes c.args.bytes.now) (kept_document c.args.bytes.now) (omega (arith, ap length is, c.if-bytes-gt-MAX_KEPT_BYTES.true))

pub returns : goal.returns
returns c =
    let b = kept_bytes c.args.bytes.now in
    let d = kept_document c.args.bytes.now in
    let is = c.bytes.ensures.bytes ∙ c.view-view.ensures.bytes in
    let bytes = subst (λ (z : List ℕ). IsTrue c.is_spelling.result ↔ (z ≡ document_text (document c.view-view.result)) × (levels_of (document c.view-view.result) ≤ 100)) c.view-view.ensures.bytes c.is_spelling.ensures in
    let whole = subst (λ (z : List (List ℕ × Value)). IsTrue c.is_spelling.result ↔ (b ≡ document_text z) × (levels_of z ≤ 100)) c.view-view.ensures.document bytes in
    short_spelling b d c.is_spelling.result (omega (arith, ap length is, c.if-bytes-gt-MAX_KEPT_BYTES.false)) whole
