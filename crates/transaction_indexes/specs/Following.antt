-- What is kept of indexes while they follow the changes of a transaction.
use Rattle.std.specs.Prelude.{⊤, ◌≡◌, List, [], ◌∷◌, true, false, Option, Some, None, is_some}
use Rattle.std.specs.FinMap as map
use Rattle.bson_value.specs.declared.namespace.NsName.{NsName}
use Rattle.bson_encode.specs.Key.{key_of}
use Rattle.state_model.specs.Keys.{Key, same_ns}
use Rattle.coll_state.specs.declared.change.Change.{Change}
use Rattle.coll_state.specs.ChangeAll.{change_one}
use Rattle.coll_state.specs.Changes.{put_row}
use Rattle.coll_state.specs.Rows.{Document, Rows, AreSound}
use Rattle.schedule_model.specs.declared.command.DocumentCommand.{DocumentCommand}
use Rattle.schedule_model.specs.declared.refused.Refused.{Refused}
use Rattle.history_model.specs.Indexes.{IndexesHold}
use Rattle.history_model.specs.Refusals.{namespace_of, rows_in, definitions_in}
use Rattle.command_refusals.specs.Tests.{rows_refusal}
use Rattle.index_build.specs.Owned.{Holding}
use Rattle.kept_indexes.specs.Kept.{KeptCollections, kept_at, AreKept, HasIndexes}

-- each collection that is kept stays so
abbrev pub StayKept : KeptCollections → KeptCollections → Type 0
StayKept old new = (n : NsName) → is_some (kept_at old n) ≡ true → is_some (kept_at new n) ≡ true

-- no command names the collection
abbrev pub NoneNames : List DocumentCommand → NsName → Type 0
NoneNames [] n = ⊤
NoneNames (c ∷ cs) n = (same_ns (namespace_of c) n ≡ false) × NoneNames cs n

-- what is kept of collections that no command names stays as it is
abbrev pub OthersStay : List DocumentCommand → KeptCollections → KeptCollections → Type 0
OthersStay cs old new = (n : NsName) → NoneNames cs n → kept_at new n ≡ kept_at old n

-- what is kept was kept before, and of a collection that no command names
abbrev pub AreForgotten : List DocumentCommand → KeptCollections → KeptCollections → Type 0
AreForgotten cs old new = (n : NsName) (hs : List Holding) → kept_at new n ≡ Some hs → NoneNames cs n × (kept_at old n ≡ Some hs)

-- the indexes of all collections that the commands name are kept
abbrev pub HaveIndexes : List DocumentCommand → KeptCollections → Rows → Type 0
HaveIndexes [] ks r = ⊤
HaveIndexes (c ∷ cs) ks r = HasIndexes ks (namespace_of c) r × HaveIndexes cs ks r

-- why the indexes of a collection refuse a document under a key; they don't refuse that it is taken out
abbrev pub tested_in : NsName → Key → Option Document → Rows → Option Refused
tested_in n k None r = None
tested_in n k (Some d) r = rows_refusal (Some (put_row 0 k d (rows_in (map.get r.tables n)))) (definitions_in (map.get r.tables n))

abbrev pub tested_by : Change → Rows → Option Refused
tested_by c r = tested_in c.ns (key_of c.id) c.doc r

-- a change is refused by the indexes, which stay as they are, or they follow it
unfoldable pub Passes : Change → KeptCollections → Option Refused → KeptCollections → Type 0
Passes x old (Some e) new = (new ≡ old) × ((r : Rows) → AreKept old r → HasIndexes old x.ns r → tested_by x r ≡ Some e)
Passes x old None new =
    StayKept old new
    × ((r : Rows) → AreKept old r → HasIndexes old x.ns r → tested_by x r ≡ None)
    × ((r : Rows) → AreKept old r → AreSound r → IndexesHold (change_one x r) → AreKept new (change_one x r))
