-- What a transaction makes: its changes, and the entries that record them.
use Rattle.std.specs.Prelude.{⊤, ◌≡◌, ◌≤◌, ◌+◌, List, [], ◌∷◌, length, map as each, Bool, true, Option, Some, None, Result, Ok, Err}
use Rattle.std.specs.FinMap as map
use Rattle.bson_value.specs.declared.namespace.NsName.{NsName}
use Rattle.bson_value.specs.declared.value.Ts.{Ts}
use Rattle.bson_encode.specs.Key.{key_of}
use Rattle.state_model.specs.Keys.{Key}
use Rattle.coll_state.specs.declared.change.Change.{Change}
use Rattle.coll_state.specs.ChangeAll.{AreThere, HasId, HaveIds, change_all}
use Rattle.coll_state.specs.Changes.{Tables}
use Rattle.coll_state.specs.Kept.{is_short}
use Rattle.coll_state.specs.Rows.{Document, Row, Rows, Table}
use Rattle.copy_model.specs.Writes.{SingleWrite, Put, Remove}
use Rattle.entry_model.specs.declared.entry.Entry.{Entry}
use Rattle.schedule_model.specs.declared.refused.Refused.{Refused}
use Rattle.history_model.specs.Commands.{RecordedWrite}
use Rattle.history_model.specs.Entries.{item_entry}
use Rattle.history_model.specs.Stages.{rows_all}
use Rattle.command_refusals.specs.Keyed.{AreKeyed}
use Rattle.kept_indexes.specs.Kept.{KeptCollections, AreKept}
use Rattle.transactions.specs.declared.transaction.Transaction.{Transaction}

abbrev pub write_by : NsName → Key → Option Document → SingleWrite
write_by n k None = Remove n k
write_by n k (Some d) = Put n k d

-- the write that a change is
abbrev pub write_of : Change → SingleWrite
write_of c = write_by c.ns (key_of c.id) c.doc

-- the changes are these writes, and the entries have this timestamp and record them, all in their order
pub record AreMade (ts : Ts) (changes : List Change) (entries : List Entry) (ms : List RecordedWrite) : Type 0 where
  pub writes : each write_of changes ≡ each (λ (m : RecordedWrite). m.0) ms
  pub records : entries ≡ each (item_entry ts) (each (λ (m : RecordedWrite). m.1) ms)

-- the first refusal, or what is made
abbrev pub Answers : Ts → Result Transaction Refused → Result (List RecordedWrite) Refused → Type 0
Answers ts (Ok t) (Ok ms) = AreMade ts t.changes t.entries ms
Answers ts (Err x) (Err y) = x ≡ y
Answers ts (Ok t) (Err y) = ⊥
Answers ts (Err x) (Ok ms) = ⊥

-- the indexes are those behind the changes, or else those of the rows as they are
abbrev pub AreKeptBehind : {E : Type 0} → Result (Result Transaction Refused) E → KeptCollections → Rows → Type 0
AreKeptBehind (Ok (Ok t)) ks r = AreKept ks (change_all t.changes r)
AreKeptBehind (Ok (Err x)) ks r = AreKept ks r
AreKeptBehind (Err e) ks r = AreKept ks r

-- a change of a collection that is there: the document that is put has the `_id` that is named, at most 16,777,216 bytes and at most 100 levels
pub record IsGood (c : Change) (ts : Tables) : Type 0 where
  pub there : map.contains_key ts c.ns ≡ true
  pub id : HasId c.id c.doc
  pub short : (d : Document) → c.doc ≡ Some d → is_short d ≡ true

abbrev pub AreGood : List Change → Tables → Type 0
AreGood [] ts = ⊤
AreGood (c ∷ cs) ts = IsGood c ts × AreGood cs ts

-- ---- laws of changes

-- what changes make of rows is what their writes make
abbrev pub ChangesAreWrites : Type 0
ChangesAreWrites = (cs : List Change) (r : Rows) → change_all cs r ≡ rows_all (each write_of cs) r

-- rows stay under the keys of their documents
abbrev pub ChangesKeepKeys : Type 0
ChangesKeepKeys = (cs : List Change) (r : Rows) → HaveIds cs → AreKeyed r → AreKeyed (change_all cs r)

-- each document passes a test
abbrev pub AllPass : (Document → Bool) → List Row → Type 0
AllPass p [] = ⊤
AllPass p (r ∷ rs) = (p r.document ≡ true) × AllPass p rs

abbrev pub DocumentsPass : (Document → Bool) → Rows → Type 0
DocumentsPass p s = (n : NsName) (t : Table) → map.get s.tables n ≡ Some t → AllPass p t.rows

abbrev pub ChangesPass : (Document → Bool) → List Change → Type 0
ChangesPass p [] = ⊤
ChangesPass p (c ∷ cs) = ((d : Document) → c.doc ≡ Some d → p d ≡ true) × ChangesPass p cs

-- where each document that is put passes a test, as those that stand, all that stand afterwards do
abbrev pub ChangesKeepTest : Type 0
ChangesKeepTest = (p : Document → Bool) (cs : List Change) (r : Rows) → ChangesPass p cs → DocumentsPass p r → DocumentsPass p (change_all cs r)

-- a state counts the documents that are put
abbrev pub ChangesAreCounted : Type 0
ChangesAreCounted = (cs : List Change) (r : Rows) → (change_all cs r).count ≤ r.count + length cs

-- good changes put short documents, under the `_id` that each names, in collections that are there
abbrev pub GoodChanges : Type 0
GoodChanges = (cs : List Change) (ts : Tables) → AreGood cs ts → AreThere cs ts × HaveIds cs × ChangesPass is_short cs
