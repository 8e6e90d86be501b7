use Rattle.std.proofs.Common.{ℕ, ◌≤◌, List, Option, length, ap, subst, sym, ◌∙◌}
use Rattle.std.specs.Prelude.{IfSome}
use Rattle.bson_value.specs.declared.value.Value.{Value}
use Rattle.bson_value.specs.Levels.{levels_of}
use Rattle.bson_value.specs.Spelling.{document_text}
use Rattle.bson_view.specs.Kept.{kept_bytes, kept_document}
use Rattle.bson_view.specs.Views.{document, view_bytes}
use Rattle.spliced_documents.specs.Splicing.{AreSplicedBelow, IsPutBelow, SpellsNew}
use Rattle.spliced_documents.proofs.below.with_field_below.Goals as goal

pub kept-requires : goal.kept-requires
kept-requires c =
    let f = c.as_str.result.now in
    let d = document c.args.view.now in
    let new = subst (λ (o : Option (List ℕ)). IfSome o (SpellsNew (IsPutBelow f c.args.name.now c.args.value.now d) (view_bytes c.args.view.now) d)) c.in-Some.is c.in_ok-bytes.ensures.new in
    (new.fields, new.spells)

pub returns-clause-bytes : goal.returns-clause-bytes
returns-clause-bytes c =
    let f = c.as_str.result.now in
    let are = λ (f : List ℕ). AreSplicedBelow f c.args.name.now c.args.value.now (view_bytes c.args.view.now) in
    let made = subst (λ (o : Option (List ℕ)). IfSome o (are f)) c.in-Some.is c.in_ok-bytes.ensures.bytes in
    subst (λ (k : List ℕ). are k (kept_bytes c.kept.result)) c.as_str.ensures.text (subst (are f) (sym c.kept.ensures.bytes) made)

pub returns-clause-document : goal.returns-clause-document
returns-clause-document c =
    let f = c.as_str.result.now in
    let d = document c.args.view.now in
    let is = λ (f : List ℕ). IsPutBelow f c.args.name.now c.args.value.now d in
    let new = subst (λ (o : Option (List ℕ)). IfSome o (SpellsNew (is f) (view_bytes c.args.view.now) d)) c.in-Some.is c.in_ok-bytes.ensures.new in
    subst (λ (k : List ℕ). is k (kept_document c.kept.result)) c.as_str.ensures.text (subst (is f) (sym (c.kept.ensures.document new.fields new.spells.spells)) new.meant)

pub returns-clause-spelling : goal.returns-clause-spelling
returns-clause-spelling c =
    λ text. let f = c.as_str.result.now in
    let d = document c.args.view.now in
    let new = subst (λ (o : Option (List ℕ)). IfSome o (SpellsNew (IsPutBelow f c.args.name.now c.args.value.now d) (view_bytes c.args.view.now) d)) c.in-Some.is c.in_ok-bytes.ensures.new in
    let kept = c.kept.ensures.document new.fields new.spells.spells in
    record {
      text = c.kept.ensures.bytes ∙ new.text text ∙ ap document_text (sym kept);
      size = subst (λ (z : List ℕ). length z ≤ 16777216) (sym c.kept.ensures.bytes) new.spells.short;
      levels = subst (λ (fs : List (List ℕ × Value)). levels_of fs ≤ 100) (sym kept) new.spells.shallow;
    }
