use Rattle.std.proofs.Common.{◌&&◌, sym, ap, ◌∙◌, List, fold, map}
use Rattle.std.specs.List.{list_all}
use Rattle.bson_value.specs.declared.value.Value.{Object}
use Rattle.index_keys.specs.Branches.{Path, branches}
use Rattle.bson_view.specs.Held.{held_document}
use Rattle.index_keys.specs.Keys.{is_missing}
use Rattle.index_keys.specs.HeldBranches.{HeldField, branches_of, texts_behind}
use Rattle.index_keys.specs.Texts.{put_text}
use Rattle.index_keys.proofs.Tuples.{left_all, given_all}
use Rattle.index_keys.proofs.products.key_set.Goals as goal

pub returns-then-leaves_all_out : goal.returns-then-leaves_all_out
returns-then-leaves_all_out c =
    let fs = c.in_ok-fields.fields.items in
    let met = c.in_ok-fields.ensures ∙ ap (map (λ (p : Path). branches p (Object (held_document c.args.doc)))) c.as_slice.ensures in
    let test = ap (λ (l : List HeldField). c.args.plan.now.sparse && list_all (λ (f : HeldField). list_all is_missing (branches_of f.items)) l) (sym c.as_slice-2.ensures.value) ∙ (sym c.leaves_all_out.ensures ∙ c.if-leaves_all_out.true) in
    c.new-keys.ensures.empty ∙ sym (left_all fs c.args.plan.now (held_document c.args.doc) met test)

pub returns : goal.returns
returns c =
    let fs = c.in_ok-fields.fields.items in
    let met = c.in_ok-fields.ensures ∙ ap (map (λ (p : Path). branches p (Object (held_document c.args.doc)))) c.as_slice.ensures in
    let test = ap (λ (l : List HeldField). c.args.plan.now.sparse && list_all (λ (f : HeldField). list_all is_missing (branches_of f.items)) l) (sym c.as_slice-2.ensures.value) ∙ (sym c.leaves_all_out.ensures ∙ c.if-leaves_all_out.false) in
    c.in_ok-product.ensures.keys
    ∙ ((λ i. fold put_text (c.new-keys.ensures.empty i) (texts_behind (c.new-front.ensures.items i) (c.as_slice-3.ensures.value i)))
    ∙ sym (given_all fs c.args.plan.now (held_document c.args.doc) met test))
