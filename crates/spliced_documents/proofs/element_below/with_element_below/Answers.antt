use Rattle.std.proofs.Common.{ℕ, ◌≤◌, List, Option, length, ap, subst, sym, ◌∙◌}
use Rattle.std.specs.Prelude.{IfSome}
use Rattle.bson_value.specs.declared.value.Value.{Value}
use Rattle.bson_value.specs.Levels.{levels_of}
use Rattle.bson_value.specs.Spelling.{document_text}
use Rattle.bson_view.specs.Views.{document, elem_value, view_bytes}
use Rattle.spliced_documents.specs.Splicing.{AreSplicedBelow, IsPutBelow, SpellsNew}
use Rattle.spliced_documents.proofs.element_below.with_element_below.Goals as goal

pub kept-requires : goal.kept-requires
kept-requires c =
    let d = document c.args.view.now in
    let new = subst (λ (o : Option (List ℕ)). IfSome o (SpellsNew (IsPutBelow c.args.field.now c.args.name.now (elem_value c.args.elem.now) d) (view_bytes c.args.view.now) d)) c.in-Some.is c.in_ok-bytes.ensures.new in
    (new.fields, new.spells)

pub returns-clause-bytes : goal.returns-clause-bytes
returns-clause-bytes c =
    let are = AreSplicedBelow c.args.field.now c.args.name.now (elem_value c.args.elem.now) (view_bytes c.args.view.now) in
    let made = subst (λ (o : Option (List ℕ)). IfSome o are) c.in-Some.is c.in_ok-bytes.ensures.bytes in
    subst are (sym c.kept.ensures.bytes) made

pub returns-clause-document : goal.returns-clause-document
returns-clause-document c =
    let d = document c.args.view.now in
    let is = IsPutBelow c.args.field.now c.args.name.now (elem_value c.args.elem.now) d in
    let new = subst (λ (o : Option (List ℕ)). IfSome o (SpellsNew is (view_bytes c.args.view.now) d)) c.in-Some.is c.in_ok-bytes.ensures.new in
    subst is (sym (c.kept.ensures.document new.fields new.spells.spells)) new.meant

pub returns-clause-spelling : goal.returns-clause-spelling
returns-clause-spelling c =
    λ text. let d = document c.args.view.now in
    let new = subst (λ (o : Option (List ℕ)). IfSome o (SpellsNew (IsPutBelow c.args.field.now c.args.name.now (elem_value c.args.elem.now) d) (view_bytes c.args.view.now) d)) c.in-Some.is c.in_ok-bytes.ensures.new in
    let kept = c.kept.ensures.document new.fields new.spells.spells in
    record {
      text = c.kept.ensures.bytes ∙ new.text text ∙ ap document_text (sym kept);
      size = subst (λ (z : List ℕ). length z ≤ 16777216) (sym c.kept.ensures.bytes) new.spells.short;
      levels = subst (λ (fs : List (List ℕ × Value)). levels_of fs ≤ 100) (sym kept) new.spells.shallow;
    }
