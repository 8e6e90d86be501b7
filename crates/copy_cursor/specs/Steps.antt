-- A cursor over a collection of a store, and what its steps read.
use Rattle.std.specs.Prelude.{ℕ, ◌==◌, List, [], Bool, false, Option, Some, None, if◌then◌else◌}
use Rattle.bson_value.specs.declared.namespace.NsName.{NsName}
use Rattle.coll_state.specs.Rows.{Row, Table}
use Rattle.copy_model.specs.Cursors.{Cursor}
use Rattle.copy_model.specs.Copies.{begun}
use Rattle.history_model.specs.Runs.{looked}

-- with the name of its collection
pub record NamedCursor : Type 0 where
  pub ns : NsName
  pub cursor : Cursor

-- before the first document of the collection as it stands
abbrev pub begun_on : NsName → Table → NamedCursor
begun_on n t = record { ns = n; cursor = begun t }

-- what a step of n reads, and the cursor behind it; one that has ended reads nothing more
abbrev pub stepped : ℕ → Cursor → Option Table → List Row × Cursor
stepped n c t = if c.ended then ([], c) else looked n c t

-- the collection is there, and is still the one on which the cursor was begun
abbrev pub is_begun_on : Cursor → Option Table → Bool
is_begun_on c None = false
is_begun_on c (Some t) = t.incarnation == c.incarnation
