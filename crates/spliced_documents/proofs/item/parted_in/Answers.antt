use Rattle.std.proofs.Common.{ℕ, ◌≤◌, List, length, subst}
use Rattle.std.specs.Prelude.{IfNone, IfSome}
use Rattle.bson_view.specs.Meaning.{AreValue}
use Rattle.bson_view.specs.Parts.{Part}
use Rattle.bson_view.specs.Views.{elem_value, parts_left}
use Rattle.spliced_documents.specs.Splicing.{IsParted}
use Rattle.spliced_documents.proofs.ItemPut.{array_frame}
use Rattle.spliced_documents.proofs.Nested.{own_parts}
use Rattle.spliced_documents.proofs.item.parted_in.Goals as goal

pub returns-clause-parted : goal.returns-clause-parted
returns-clause-parted c =
    let e = c.args.held.now in
    let es = c.elements.result in
    let v = subst (λ (t : ℕ). AreValue t e.value.now (elem_value e)) c.requires c.spells.ensures.spelled in
    let parts = own_parts es.rest.now e.value.now es.spelled (array_frame e.value.now (parts_left es) (elem_value e) v c.elements.ensures) in
    subst (λ (ps : List Part). IfSome c.parted_at.result (λ t. IsParted c.args.index ps t.0.now t.1.now t.2.now)) parts c.parted_at.ensures.parted

pub returns-clause-none : goal.returns-clause-none
returns-clause-none c =
    let e = c.args.held.now in
    let es = c.elements.result in
    let v = subst (λ (t : ℕ). AreValue t e.value.now (elem_value e)) c.requires c.spells.ensures.spelled in
    let parts = own_parts es.rest.now e.value.now es.spelled (array_frame e.value.now (parts_left es) (elem_value e) v c.elements.ensures) in
    subst (λ (ps : List Part). IfNone c.parted_at.result (length ps ≤ c.args.index)) parts c.parted_at.ensures.none
