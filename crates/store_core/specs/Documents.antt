-- What commands on documents do, by the document that is kept.
use Rattle.std.specs.Prelude.{◌≡◌, List, [], ◌∷◌, Bool, true, false, Option, Some, None, is_some, option_map, Result, Ok, Err}
use Rattle.bson_value.specs.declared.namespace.NsName.{NsName}
use Rattle.bson_value.specs.declared.value.Value.{Value}
use Rattle.bson_encode.specs.Key.{key_of}
use Rattle.doc_path.specs.declared.parts.Form.{Form}
use Rattle.coll_state.specs.Kept.{is_short}
use Rattle.coll_state.specs.Rows.{Document as Fields, Row, Rows, key_in, id_of}
use Rattle.schedule_model.specs.declared.command.DocumentCommand.{DocumentCommand}
use Rattle.schedule_model.specs.declared.command.Command.TheVariants.{Document}
use Rattle.update_model.specs.declared.updated.Updated.{Updated}
use Rattle.history_model.specs.Documents.{id_first}
use Rattle.history_model.specs.Refusals.{row_named, document_refusal}
use Rattle.store_core.specs.Stores.{Stored}
use Rattle.store_core.specs.Applying.{Refuses}
use Rattle.store_core.specs.declared.fault.StoreFault.{StoreFault}
use Rattle.history_model.specs.Entries.{update_item}
use Rattle.history_model.specs.Entries as entries
use Rattle.history_model.specs.Stages.{Effect}
use Rattle.history_model.specs.Commands.{put_change, insert_changes, under_id, one_each}

-- a document is inserted; a collection that isn't there is made first
abbrev pub insert_effects : Bool → NsName → Fields → List Effect
insert_effects there n first = one_each (under_id (λ id. insert_changes there n id first) (id_of first))

-- a document takes the place of the one with its `_id`; none where that is as before
abbrev pub replace_effects : NsName → Option Fields → List Effect
replace_effects n None = []
replace_effects n (Some d) = one_each (under_id (λ id. put_change n id d (entries.Whole n id d) ∷ []) (id_of d))

-- an update gives a document and its touches; none where the document is as before
abbrev pub update_effects : Form → NsName → Value → Option Updated → List Effect
update_effects f n id None = []
update_effects f n id (Some u) = one_each (put_change n id u.doc (update_item f n id u.doc u.touches) ∷ [])

-- a document that may be kept
pub record IsKept (d : Fields) : Type 0 where
  pub id : is_some (id_of d) ≡ true
  pub short : is_short d ≡ true

-- and that stands under the key of this `_id`
pub record IsKeptUnder (id : Value) (d : Fields) : Type 0 where
  pub named : is_some (id_of d) ≡ true
  pub key : key_in (id_of d) ≡ key_of id
  pub short : is_short d ≡ true

-- no row refuses a command, of which this is known; or one does
abbrev pub IsAccepted : {A : Type 0} → DocumentCommand → Stored → (A → Type 0) → Result A StoreFault → Type 0
IsAccepted d s P (Ok a) = (document_refusal false d s.rows ≡ None) × P a
IsAccepted d s P (Err f) = Refuses (Document d) s f

-- the document that stands under the `_id` of a replacement, and the new one
pub record Replaces (n : NsName) (doc : Fields) (r : Rows) (old first : Fields) : Type 0 where
  pub first_is : first ≡ id_first doc
  pub stands : option_map (λ (x : Row). x.document) (row_named n (id_of first) r) ≡ Some old
