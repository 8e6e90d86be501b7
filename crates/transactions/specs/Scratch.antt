-- A part of collections: what commands look at in them, without definitions of indexes.
use Rattle.std.specs.Prelude.{◌≡◌, [], true, false, Option, Some, None, is_some, if◌then◌else◌}
use Rattle.std.specs.FinMap as map
use Rattle.bson_value.specs.declared.namespace.NsName.{NsName}
use Rattle.bson_value.specs.declared.value.Value.{Value}
use Rattle.bson_encode.specs.Key.{key_of}
use Rattle.state_model.specs.Keys.{Key, same_ns}
use Rattle.state_model.specs.States.{no_options}
use Rattle.coll_state.specs.Changes.{describe, document_in, put}
use Rattle.coll_state.specs.Rows.{Document, Rows, Table}
use Rattle.schedule_model.specs.declared.command.DocumentCommand.{DocumentCommand}
use Rattle.history_model.specs.Refusals.{is_there, definitions_in, namespace_of}
use Rattle.command_refusals.specs.Keyed.{AreKeyed}
use Rattle.transaction_indexes.specs.Shown.{id_in}

-- the second has what the first has
pub record GrowsIn (o p : Option Table) : Type 0 where
  pub there : is_some o ≡ true → is_some p ≡ true
  pub document : (k : Key) (d : Document) → document_in k o ≡ Some d → document_in k p ≡ Some d

abbrev pub Grows : Rows → Rows → Type 0
Grows s t = (n : NsName) → GrowsIn (map.get s.tables n) (map.get t.tables n)

-- the first has what the command looks at in the second
pub record CoversIn (id : Option Value) (o p : Option Table) : Type 0 where
  pub there : is_some p ≡ true → is_some o ≡ true
  pub document : (v : Value) (d : Document) → id ≡ Some v → document_in (key_of v) p ≡ Some d → document_in (key_of v) o ≡ Some d

abbrev pub Covers : DocumentCommand → Rows → Rows → Type 0
Covers c s r = CoversIn (id_in c) (map.get s.tables (namespace_of c)) (map.get r.tables (namespace_of c))

-- no collection has a definition
abbrev pub HaveNoIndexes : Rows → Type 0
HaveNoIndexes s = (n : NsName) → definitions_in (map.get s.tables n) ≡ []

-- all other collections are as before
abbrev pub Others : NsName → Rows → Rows → Type 0
Others n old new = (m : NsName) → same_ns m n ≡ false → map.get new.tables m ≡ map.get old.tables m

-- a collection without options and definitions is made, where it is missing
abbrev pub with_collection : NsName → Rows → Rows
with_collection n s = if is_there n s then s else describe n no_options [] s

-- a document is put, if there is one
abbrev pub MayAdd : NsName → Option Document → Rows → Rows → Type 0
MayAdd n None old new = new ≡ old
MayAdd n (Some d) old new = new ≡ put n d old

-- a part of other collections, of keyed documents and without definitions
pub record IsPart (s r : Rows) : Type 0 where
  pub part : Grows s r
  pub plain : HaveNoIndexes s
  pub keyed : AreKeyed s

-- a part that has the collection
pub record HasCollection (n : NsName) (old new r : Rows) : Type 0 where
  pub part : IsPart new r
  pub grows : Grows old new
  pub there : is_there n new ≡ true

-- what the command looks at was added to a part
pub record IsShown (c : DocumentCommand) (old new r : Rows) : Type 0 where
  pub part : IsPart new r
  pub grows : Grows old new
  pub covers : Covers c new r
