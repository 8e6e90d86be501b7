use Rattle.std.proofs.Common.{◌≡◌, List, [], ◌∷◌, ◌++◌, sym, ap, ◌∙◌, arith, rules}
use Rattle.std.specs.Prelude.{Some}
use Rattle.std.proofs.lemmas.Str.Pattern.{split_parts}
use Rattle.doc_path.specs.declared.parts.Part.{Part}
use Rattle.doc_path.specs.declared.parts.Part.TheVariants.{Name as name}
use Rattle.doc_path.specs.Paths.{parts_of}
use Rattle.entry_model.specs.Edits.{mapped}
use Rattle.oplog_entry.proofs.PathParts.{one_name, next_name, back_no_zero, name_pushed, last_pushed, if_ok}
use Rattle.oplog_entry.proofs.paths.path_place.Goals as goal

pub returns-in_default : goal.returns-in_default
returns-in_default c =
    let none = rw c.in_default.is at (split_parts 46 c.args.path.now c.split_once.result c.split_once.ensures.cases (omega arith)) in
    if_ok c.new.result _ _ c.new.ensures (λ p h. h ∙ (ap (λ (q : Part). q ∷ []) c.in_ok-name_part.ensures ∙ sym (one_name c.args.path.now none)))

pub parts-init : goal.parts-init
parts-init c =
    let cut = split_parts 46 c.args.path.now (Some (c.in-Some.first, c.in-Some.behind)) c.in-Some.ensures.cases (omega arith) in
    let place : c.in_ok-place.place ≡ name c.in-Some.first.now ∷ [] = c.in_ok-place.ensures ∙ ap (λ (p : Part). p ∷ []) c.in_ok-name_part-2.ensures in (
      next_name c.args.path.now c.in-Some.first.now c.in-Some.behind.now cut.0 cut.1 ∙ ap (λ (l : List Part). l ++ mapped name (parts_of c.in-Some.behind.now)) (sym place),
      back_no_zero c.args.path.now c.in-Some.first.now c.in-Some.behind.now cut.0 c.requires,
      search rules,
    )

pub split_once-requires-in-parts-text-self : goal.split_once-requires-in-parts-text-self
split_once-requires-in-parts-text-self c κs = search rules

pub parts-preserved : goal.parts-preserved
parts-preserved c =
    let cut = split_parts 46 c.parts.rest.now (Some (c.in-Some-split_once.part, c.in-Some-split_once.more)) c.in-Some-split_once.ensures.cases (omega arith) in (
      name_pushed (mapped name (parts_of c.args.path.now)) c.parts.rest.now c.in-Some-split_once.part.now c.in-Some-split_once.more.now c.parts.place c.push.new.self c.parts.invariant.0 cut.0 cut.1
          (c.in_ok-push.ensures.ok ∙ ap (λ (p : Part). c.parts.place ++ p ∷ []) c.in_ok-name_part-3.ensures),
      back_no_zero c.parts.rest.now c.in-Some-split_once.part.now c.in-Some-split_once.more.now cut.0 c.parts.invariant.1,
      search rules,
    )

pub name_part-requires-3-text-text : goal.name_part-requires-3-text-text
name_part-requires-3-text-text c κs = search rules

pub returns : goal.returns
returns c =
    let none = rw c.in_default-split_once.is at (split_parts 46 c.parts.rest.now c.split_once-in-parts.result c.split_once-in-parts.ensures.cases (omega arith)) in
    last_pushed (mapped name (parts_of c.args.path.now)) c.parts.rest.now c.parts.place c.push-2.new.self c.parts.invariant.0 none
    (c.in_ok-push-2.ensures.ok ∙ ap (λ (p : Part). c.parts.place ++ p ∷ []) c.in_ok-name_part-4.ensures)
