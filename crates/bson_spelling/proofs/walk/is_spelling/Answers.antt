use Rattle.std.proofs.Common.{◌≡◌, ℕ, List, ◌≤◌, subst, arith, suc, ◌-◌}
use Rattle.std.specs.Prelude.{◌↔◌, IsTrue}
use Rattle.bson_value.specs.Levels.{levels_of}
use Rattle.bson_value.specs.Spelling.{document_text}
use Rattle.bson_value.specs.WellFormed.{AreBytes}
use Rattle.bson_check.specs.Spells.{Spells}
use Rattle.bson_view.specs.Views.{document, parts_left, view_bytes}
use Rattle.bson_spelling.proofs.Frames.{whole_is, short_of, through}
use Rattle.bson_spelling.proofs.walk.is_spelling.Goals as goal

pub are_fields-requires : goal.are_fields-requires
are_fields-requires c = short_of (view_bytes c.args.view.now) (document c.args.view.now) (parts_left c.elements.result) (subst (λ (b : List ℕ). Spells b (document c.args.view.now)) c.bytes-bytes.ensures.bytes c.bytes-bytes.ensures.spelled) c.elements.ensures.places

pub returns-in-Some : goal.returns-in-Some
returns-in-Some c =
    let b = view_bytes c.args.view.now in
    let fs = document c.args.view.now in
    let h = c.in-Some.ensures in
    let is : suc c.in-Some.inner ≡ c.args.levels = omega arith in
    let whole = whole_is b fs (parts_left c.elements.result) c.in-Some.inner (subst AreBytes c.bytes-bytes.ensures.bytes c.are_bytes.ensures) c.elements.ensures.places c.elements.ensures.fields in
    subst (λ n. IsTrue c.are_fields.result ↔ (b ≡ document_text fs) × (levels_of fs ≤ n)) is (through whole c.are_fields.ensures)
