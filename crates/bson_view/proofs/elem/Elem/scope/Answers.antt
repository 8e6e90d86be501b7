use Rattle.std.proofs.Common.{List, ◌-◌, length, take, drop, sym, ap, subst, ◌∙◌, arith}
use Rattle.std.proofs.lemmas.List.{length-take, length-drop}
use Rattle.bson_value.specs.declared.value.Value.{out-Value}
use Rattle.bson_view.specs.Parts.{Part, AreScopedParts, HasElements, elements_in}
use Rattle.bson_view.specs.Views.{elem_value}
use Rattle.bson_view.proofs.Scopes.{behind_total, scope_of}
use Rattle.bson_view.proofs.elem.Elem.scope.Goals as goal

pub slice_bounds-behind-count : goal.slice_bounds-behind-count
slice_bounds-behind-count c =
    let e = c.args.self.now in
    (scope_of e.tag e.value.now e.spelled c.requires).long

pub slice_bounds-behind-start : goal.slice_bounds-behind-start
slice_bounds-behind-start c =
    let e = c.args.self.now in
    (scope_of e.tag e.value.now e.spelled c.requires).long

pub of_frame-requires : goal.of_frame-requires
of_frame-requires c =
    let e = c.args.self.now in
    record {
      elements = subst HasElements (sym c.after-scope.ensures.place) (scope_of e.tag e.value.now e.spelled c.requires).has;
      short = omega (arith, c.after-scope.ensures.fits, e.short, length-take (length e.value.now - 4) (drop 4 e.value.now), length-drop 4 e.value.now);
    }

pub returns : goal.returns
returns c =
    let e = c.args.self.now in
    let s = scope_of e.tag e.value.now e.spelled c.requires in
    let behind = behind_total e.value.now in
    let text = take (length behind - length c.after-scope.result.now) behind in
    subst (λ (ps : List Part). AreScopedParts (out-Value (elem_value e)) e.value.now text ps) (sym (c.of_frame.ensures ∙ ap elements_in c.after-scope.ensures.place))
    (s.parts text (ap (λ z. take (length behind - length z) behind) c.after-scope.ensures.place) c.are_bytes.ensures)
