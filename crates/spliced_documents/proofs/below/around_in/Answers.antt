use Rattle.std.proofs.Common.{ℕ, List, [], ◌∷◌, ◌++◌, ap, subst, ◌∙◌}
use Rattle.bson_view.specs.Meaning.{AreValue}
use Rattle.bson_view.specs.Parts.{Part}
use Rattle.bson_view.specs.Views.{elem_value, parts_left}
use Rattle.spliced_documents.specs.Splicing.{front_of, rest_of}
use Rattle.spliced_documents.proofs.Nested.{document_frame, own_parts}
use Rattle.spliced_documents.proofs.below.around_in.Goals as goal

pub returns-clause-front : goal.returns-clause-front
returns-clause-front c =
    let e = c.args.elem.now in
    let es = c.elements.result in
    let v = subst (λ (t : ℕ). AreValue t e.value.now (elem_value e)) c.requires c.spells.ensures.spelled in
    c.parted.ensures.front ∙ ap (λ (ps : List Part). front_of c.args.name.now ps) (own_parts es.rest.now e.value.now es.spelled (document_frame e.value.now (parts_left es) (elem_value e) v c.elements.ensures))

pub returns-clause-rest : goal.returns-clause-rest
returns-clause-rest c =
    let e = c.args.elem.now in
    let es = c.elements.result in
    let v = subst (λ (t : ℕ). AreValue t e.value.now (elem_value e)) c.requires c.spells.ensures.spelled in
    c.parted.ensures.rest ∙ ap (λ (ps : List Part). rest_of c.args.name.now ps ++ 0 ∷ []) (own_parts es.rest.now e.value.now es.spelled (document_frame e.value.now (parts_left es) (elem_value e) v c.elements.ensures))
