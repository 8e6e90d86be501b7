use Rattle.std.proofs.Common.{◌≡◌, ◌<◌, ◌∷◌, [], ℕ, length, sym, subst, ap, ◌∙◌}
use Rattle.std.specs.Prelude.{Some, None, if◌then◌else◌}
use Rattle.std.proofs.lemmas.Result.{on_ok_weaker}
use Rattle.entry_model.specs.Edits.{same_part}
use Rattle.entry_writer.specs.Edits.{edit_in}
use Rattle.entry_writer.specs.Groups.{groups_in, place_of}
use Rattle.entry_writer.proofs.Groups.{length-mapped, within, joined_is, place_joined, begun_is, place_begun}
use Rattle.entry_writer.specs.Groups.{group_in}
use Rattle.entry_writer.proofs.parts.add.Goals as goal

pub join-requires : goal.join-requires
join-requires c =
    let at : place_of c.args.part.now (groups_in c.args.groups.now.items) ≡ Some c.in-Some.at = sym (c.requires c.args.part.now) ∙ sym c.in-Some.ensures in
    subst (λ (n : ℕ). c.in-Some.at < n) (length-mapped group_in c.args.groups.now.items) (within c.args.part.now (groups_in c.args.groups.now.items) c.in-Some.at at)

pub returns-in-Some-clause-groups : goal.returns-in-Some-clause-groups
returns-in-Some-clause-groups c =
    let at : place_of c.args.part.now (groups_in c.args.groups.now.items) ≡ Some c.in-Some.at = sym (c.requires c.args.part.now) ∙ sym c.in-Some.ensures in
    on_ok_weaker c.join.result (λ h. h ∙ joined_is c.args.part.now (edit_in c.args.edit.now) (groups_in c.args.groups.now.items) c.in-Some.at at) c.join.ensures

pub returns-in-Some-clause-index : goal.returns-in-Some-clause-index
returns-in-Some-clause-index c =
    on_ok_weaker c.join.result (λ h q. c.requires q ∙ sym (ap (place_of q) h ∙ place_joined q (edit_in c.args.edit.now) (groups_in c.args.groups.now.items) c.in-Some.at)) c.join.ensures

pub returns-in_ok-insert-in-None-clause-groups : goal.returns-in_ok-insert-in-None-clause-groups
returns-in_ok-insert-in-None-clause-groups c =
    let none : place_of c.args.part.now (groups_in c.args.groups.now.items) ≡ None = sym (c.requires c.args.part.now) ∙ sym c.in-None.ensures in
    on_ok_weaker c.begin.result (λ h. h ∙ begun_is c.args.part.now (edit_in c.args.edit.now) (groups_in c.args.groups.now.items) none) c.begin.ensures

pub returns-in_ok-insert-in-None-clause-index : goal.returns-in_ok-insert-in-None-clause-index
returns-in_ok-insert-in-None-clause-index c =
    let gs = groups_in c.args.groups.now.items in
    let none : place_of c.args.part.now gs ≡ None = sym (c.requires c.args.part.now) ∙ sym c.in-None.ensures in
    let count : c.len.result ≡ length gs = c.len.ensures ∙ (c.args.groups.now.ok.0 ∙ sym (length-mapped group_in c.args.groups.now.items)) in
    on_ok_weaker c.begin.result
    (λ h q. c.in_ok-insert-in-None.ensures q
    ∙ ((λ i. if same_part c.args.part.now q then Some (count i) else c.requires q i)
    ∙ sym (ap (place_of q) h ∙ place_begun q c.args.part.now (edit_in c.args.edit.now ∷ []) gs none)))
    c.begin.ensures
