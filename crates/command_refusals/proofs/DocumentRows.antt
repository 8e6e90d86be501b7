-- The conditions that the code finds are those of the rows.
use Rattle.std.proofs.Common.{◌≡◌, Bool, true, false, not, refl, ap, ◌∙◌, Option, None}
use Rattle.std.specs.Prelude.{◌&&◌, is_some}
use Rattle.std.specs.FinMap as map
use Rattle.bson_value.specs.declared.namespace.NsName.{NsName}
use Rattle.bson_value.specs.declared.value.Value.{Value}
use Rattle.bson_encode.specs.Key.{key_of}
use Rattle.coll_state.specs.Rows.{Document as Fields, Rows, id_of}
use Rattle.update_model.specs.declared.updated.Updated.{Updated}
use Rattle.schedule_model.specs.declared.command.DocumentCommand.TheVariants.{Insert, Replace, Update, Delete}
use Rattle.schedule_model.specs.declared.refused.Refused.{Refused}
use Rattle.history_model.specs.Documents.{is_good_document, is_bad_name}
use Rattle.history_model.specs.Refusals.{is_there, rows_in, row_at, row_named, definitions_in, with_good, with_update, rows_with, update_of, any_definition, unique_clash, any_parallel, document_refusal}
use Rattle.command_refusals.specs.Conditions.{first_row}
use Rattle.command_refusals.specs.Tests.{rows_refusal}
use Rattle.command_refusals.proofs.Rows.{first_is}

and_no : (b : Bool) → false ≡ (b && false)
and_no true = refl
and_no false = refl

and_yes : (b : Bool) → b ≡ (b && true)
and_yes true = refl
and_yes false = refl

pub insert_row : (n : NsName) (d : Fields) (r : Rows) (named good new : Bool) (tested : Option Refused) →
    named ≡ is_some (row_named n (id_of d) r) → good ≡ is_good_document d → new ≡ (not (is_there n r) && is_bad_name n) →
    tested ≡ rows_refusal (with_good (is_good_document d) d (rows_in (map.get r.tables n))) (definitions_in (map.get r.tables n)) →
    first_row (record { no_namespace = false; duplicate_id = named; no_document = false; tested = tested; bad_document = not good; bad_update = false; bad_name = new }) ≡ document_refusal false (Insert n d) r
insert_row n d r named good new tested a c e f =
    (let after = rows_with (Insert n d) r in
    let ds = definitions_in (map.get r.tables n) in
    (λ i. first_row (record { no_namespace = and_no (not (is_there n r)) i; duplicate_id = a i; no_document = false; tested = f i; bad_document = not (c i); bad_update = false; bad_name = e i }))
    ∙ first_is (not (is_there n r) && false) (is_some (row_named n (id_of d) r)) false (any_definition unique_clash after ds) (any_definition any_parallel after ds) (not (is_good_document d)) false (not (is_there n r) && is_bad_name n))

pub replace_row : (n : NsName) (d : Fields) (r : Rows) (lone there good new : Bool) (tested : Option Refused) →
    lone ≡ (is_some (id_of d) && not (is_some (row_named n (id_of d) r))) → there ≡ map.contains_key r.tables n → good ≡ is_good_document d → new ≡ (not (is_there n r) && is_bad_name n) →
    tested ≡ rows_refusal (with_good (is_good_document d) d (rows_in (map.get r.tables n))) (definitions_in (map.get r.tables n)) →
    first_row (record { no_namespace = not there; duplicate_id = false; no_document = lone; tested = tested; bad_document = not good; bad_update = false; bad_name = new }) ≡ document_refusal false (Replace n d) r
replace_row n d r lone there good new tested a b c e f =
    (let after = rows_with (Replace n d) r in
    let ds = definitions_in (map.get r.tables n) in
    (λ i. first_row (record { no_namespace = (ap not b ∙ and_yes (not (is_there n r))) i; duplicate_id = false; no_document = a i; tested = f i; bad_document = not (c i); bad_update = false; bad_name = e i }))
    ∙ first_is (not (is_there n r) && true) false (is_some (id_of d) && not (is_some (row_named n (id_of d) r))) (any_definition unique_clash after ds) (any_definition any_parallel after ds) (not (is_good_document d)) false (not (is_there n r) && is_bad_name n))

pub update_row : (n : NsName) (id : Value) (ops : Fields) (r : Rows) (at there new : Bool) (tested : Option Refused) (u : Option Updated) (none : Bool) →
    at ≡ is_some (row_at n (key_of id) r) → there ≡ map.contains_key r.tables n → new ≡ (not (is_there n r) && is_bad_name n) → u ≡ update_of (row_at n (key_of id) r) ops → none ≡ not (is_some u) →
    tested ≡ rows_refusal (with_update id u (rows_in (map.get r.tables n))) (definitions_in (map.get r.tables n)) →
    first_row (record { no_namespace = not there; duplicate_id = false; no_document = not at; tested = tested; bad_document = false; bad_update = none; bad_name = new }) ≡ document_refusal false (Update n id ops) r
update_row n id ops r at there new tested u none a b e g m f =
    (let after = rows_with (Update n id ops) r in
    let ds = definitions_in (map.get r.tables n) in
    let told : tested ≡ rows_refusal after ds = f ∙ ap (λ (o : Option Updated). rows_refusal (with_update id o (rows_in (map.get r.tables n))) ds) g in
    let bad : none ≡ not (is_some (update_of (row_at n (key_of id) r) ops)) = m ∙ ap (λ (o : Option Updated). not (is_some o)) g in
    (λ i. first_row (record { no_namespace = (ap not b ∙ and_yes (not (is_there n r))) i; duplicate_id = false; no_document = not (a i); tested = told i; bad_document = false; bad_update = bad i; bad_name = e i }))
    ∙ first_is (not (is_there n r) && true) false (not (is_some (row_at n (key_of id) r))) (any_definition unique_clash after ds) (any_definition any_parallel after ds) false (not (is_some (update_of (row_at n (key_of id) r) ops))) (not (is_there n r) && is_bad_name n))

pub delete_row : (n : NsName) (id : Value) (r : Rows) (at there new : Bool) →
    at ≡ is_some (row_at n (key_of id) r) → there ≡ map.contains_key r.tables n → new ≡ (not (is_there n r) && is_bad_name n) →
    first_row (record { no_namespace = not there; duplicate_id = false; no_document = not at; tested = None; bad_document = false; bad_update = false; bad_name = new }) ≡ document_refusal false (Delete n id) r
delete_row n id r at there new a b e =
    (λ i. first_row (record { no_namespace = (ap not b ∙ and_yes (not (is_there n r))) i; duplicate_id = false; no_document = not (a i); tested = None; bad_document = false; bad_update = false; bad_name = e i }))
    ∙ first_is (not (is_there n r) && true) false (not (is_some (row_at n (key_of id) r))) false false false false (not (is_there n r) && is_bad_name n)
