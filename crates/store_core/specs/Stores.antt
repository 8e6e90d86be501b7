-- What a store holds, and the stage at which it stands.
use Rattle.std.specs.Prelude.{⊤, ◌≡◌, ◌*◌, ◌≤◌, ◌^◌, List, [], ◌∷◌, true, Some}
use Rattle.std.specs.FinMap as map
use Rattle.bson_value.specs.declared.namespace.NsName.{NsName}
use Rattle.coll_state.specs.Kept.{is_short}
use Rattle.coll_state.specs.Rows.{Row, Rows, Table}
use Rattle.capped_oplog.specs.Ring.{Ring}
use Rattle.store_log.specs.Logged.{Logged}
use Rattle.history_model.specs.Indexes.{IndexesHold}
use Rattle.history_model.specs.Stages.{Stage, turned}
use Rattle.command_refusals.specs.Keyed.{AreKeyed}
use Rattle.kept_indexes.specs.Kept.{KeptCollections, AreKept}

-- collections, and what is recorded
pub record Stored : Type 0 where
  pub rows : Rows
  pub log : Logged

-- the ring of a stage's oplog
abbrev pub ring_of : Stage → Ring
ring_of st = record { entries = turned st.oplog; cap = st.caps.entries; limit = st.caps.bytes }

-- the store stands at this stage: its entries are those of the stage, as bytes
pub record StandsAt (s : Stored) (st : Stage) : Type 0 where
  pub rows : s.rows ≡ st.rows
  pub clock : s.log.clock ≡ st.clock
  pub form : s.log.form ≡ st.form
  pub newest : s.log.newest ≡ st.newest
  pub renamed : s.log.renamed ≡ st.renamed
  pub ring : s.log.ring ≡ ring_of st

-- each document has at most 16,777,216 bytes and 100 levels
abbrev pub AllShort : List Row → Type 0
AllShort [] = ⊤
AllShort (r ∷ rs) = (is_short r.document ≡ true) × AllShort rs

abbrev pub AreShort : Rows → Type 0
AreShort s = (n : NsName) (t : Table) → map.get s.tables n ≡ Some t → AllShort t.rows

-- what holds of a store at each moment: each document stands under the key of its `_id` and is short; the indexes hold, and those that are kept are built over the documents; and the calls that the collections count are at most 2^64 for each entry that was recorded
pub record IsSoundStore (rows : Rows) (log : Logged) (indexes : KeptCollections) : Type 0 where
  pub keyed : AreKeyed rows
  pub short : AreShort rows
  pub holds : IndexesHold rows
  pub counted : rows.count ≤ log.recorded * 2 ^ 64
  pub recorded : log.recorded ≤ 4000000001
  pub kept : AreKept indexes rows
