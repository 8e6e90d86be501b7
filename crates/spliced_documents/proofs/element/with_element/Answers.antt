use Rattle.std.proofs.Common.{ℕ, ◌≤◌, ◌∙◌, List, length, sym, ap, subst, Option}
use Rattle.bson_value.specs.declared.value.Value.{Value}
use Rattle.bson_value.specs.Levels.{levels_of}
use Rattle.bson_value.specs.Spelling.{document_text}
use Rattle.bson_value.specs.WellFormed.{AreBytes}
use Rattle.std.specs.Prelude.{IfSome}
use Rattle.containers.specs.Entries.{put}
use Rattle.bson_check.specs.Spells.{Spells}
use Rattle.bson_view.specs.Kept.{kept_bytes}
use Rattle.bson_view.specs.Views.{document, elem_value, view_bytes}
use Rattle.spliced_documents.specs.Splicing.{IsSpliced}
use Rattle.spliced_documents.proofs.Spellings.{spelling_put, wider}
use Rattle.spliced_documents.proofs.element.with_element.Goals as goal

pub of_checked-requires : goal.of_checked-requires
of_checked-requires c =
    let k = c.args.name.now in
    let v = elem_value c.args.elem.now in
    let fs = document c.args.view.now in
    let made = subst (λ (o : Option (List ℕ)). IfSome o (IsSpliced k v (view_bytes c.args.view.now) fs)) c.in-Some.is c.in_ok-bytes.ensures.some in
    (c.faultless_if_spelled.ensures 16793600 200 c.in-Some.bytes).1 (put k v fs, wider c.in-Some.bytes (put k v fs) made.1)

pub returns-clause-bytes : goal.returns-clause-bytes
returns-clause-bytes c =
    let k = c.args.name.now in
    let v = elem_value c.args.elem.now in
    let made = subst (λ (o : Option (List ℕ)). IfSome o (IsSpliced k v (view_bytes c.args.view.now) (document c.args.view.now))) c.in-Some.is c.in_ok-bytes.ensures.some in
    c.of_checked.ensures ∙ made.0

pub returns-clause-document : goal.returns-clause-document
returns-clause-document c =
    let k = c.args.name.now in
    let v = elem_value c.args.elem.now in
    let fs = document c.args.view.now in
    let made = subst (λ (o : Option (List ℕ)). IfSome o (IsSpliced k v (view_bytes c.args.view.now) fs)) c.in-Some.is c.in_ok-bytes.ensures.some in
    c.one_document.ensures (kept_bytes c.of_checked.result) (put k v fs) (subst (λ (z : List ℕ). Spells z (put k v fs)) (sym c.of_checked.ensures) made.1.spells)

pub returns-clause-spelling : goal.returns-clause-spelling
returns-clause-spelling c =
    λ text. let k = c.args.name.now in
    let v = elem_value c.args.elem.now in
    let b = view_bytes c.args.view.now in
    let fs = document c.args.view.now in
    let made = subst (λ (o : Option (List ℕ)). IfSome o (IsSpliced k v b fs)) c.in-Some.is c.in_ok-bytes.ensures.some in
    let is = c.bytes.ensures.bytes in
    let kept = c.one_document.ensures (kept_bytes c.of_checked.result) (put k v fs) (subst (λ (z : List ℕ). Spells z (put k v fs)) (sym c.of_checked.ensures) made.1.spells) in
    record {
      text = c.of_checked.ensures ∙ made.0 ∙ spelling_put k v b fs (subst (λ (z : List ℕ). Spells z fs) is c.bytes.ensures.spelled) text (subst AreBytes is c.are_bytes.ensures) ∙ ap document_text (sym kept);
      size = subst (λ (z : List ℕ). length z ≤ 16777216) (sym c.of_checked.ensures) made.1.short;
      levels = subst (λ (d : List (List ℕ × Value)). levels_of d ≤ 100) (sym kept) made.1.shallow;
    }
