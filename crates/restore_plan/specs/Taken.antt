-- What a restore makes of its takings, as it takes them, and what it makes of all at the end.
use Rattle.std.specs.Prelude.{◌≡◌, ℕ, List, [], ◌∷◌, ◌++◌, length, fold, map as each, Bool, true, false, not, ◌&&◌, ◌==◌, Option, Some, None, option_map, if◌then◌else◌}
use Rattle.std.specs.List.{list_any}
use Rattle.std.specs.BTreeMap.{is_at}
use Rattle.std.specs.BTreeSet.{insert_key}
use Rattle.std.specs.FinMap as map
use Rattle.bson_value.specs.declared.value.Ts.{Ts}
use Rattle.bson_value.specs.declared.namespace.NsName.{NsName}
use Rattle.bson_value.specs.NamespaceOrder.{namespace_cmp}
use Rattle.archive_format.specs.Shapes.{is_oplog}
use Rattle.archive_format.specs.Archive.{Taking, meta, doc, end, same_ns}
use Rattle.state_model.specs.States.{State}
use Rattle.state_model.specs.Replay.{replay_all}
use Rattle.coll_state.specs.Rows.{state_of}
use Rattle.entry_model.specs.declared.entry.Entry.{Entry}
use Rattle.entry_model.specs.declared.entry.Action.{out-Action}
use Rattle.replay.specs.Moves.{moves_of}
use Rattle.replay.specs.Refusals.{first, first_refused}
use Rattle.restore_entries.specs.Documents.{is_of_document}
use Rattle.restore_entries.specs.declared.reading.EntryReading.{EntryReading}
use Rattle.restore_entries.specs.declared.reading.EntryReading.TheVariants.{Kept}
use Rattle.index_build.specs.Faults.{fault}
use Rattle.restore_plan.specs.declared.plan.Plan.{Plan}
use Rattle.restore_plan.specs.declared.fault.RestoreFault.{RestoreFault}
use Rattle.restore_plan.specs.declared.fault.RestoreFault.TheVariants.{NoId, Metadata, Entry as Unread}
use Rattle.restore_plan.specs.declared.restore.Restore.{Restore}
use Rattle.restore_plan.specs.Faults.{of_replay, of_indexes}
use Rattle.restore_plan.specs.Base.{is_of_base, base_step, entries_in, played, bad_at, or_later}

-- what was made of the takings so far: a state, the entries that wait to be replayed on it, and the namespaces whose ends were noted, in the order of names
pub record Contents : Type 0 where
  pub state : State
  pub entries : List Entry
  pub ended : List NsName

abbrev pub nothing : Contents
nothing = record { state = map.empty; entries = []; ended = [] }

abbrev pub contents_of : Restore → Contents
contents_of r = record { state = state_of r.state; entries = r.entries; ended = r.ended.keys }

-- ---- entries that are replayed as they come

-- entries are replayed, and no namespace gets the name of another
abbrev pub plays_early : Plan → Bool
plays_early p = p.replaying && length p.filter.renames == 0

abbrev pub is_ended : NsName → List NsName → Bool
is_ended n ns = list_any (is_at (namespace_cmp n)) ns

-- an entry needn't wait where none waits before it, and it changes a document of a namespace whose end was noted
abbrev pub is_ripe : Contents → Entry → Bool
is_ripe c e = length c.entries == 0 && is_of_document (out-Action e.action) && is_ended e.ns c.ended

abbrev pub with_entry : Contents → Entry → Contents
with_entry c e = if is_ripe c e then record c { state = replay_all (moves_of e) c.state } else record c { entries = c.entries ++ e ∷ [] }

-- an entry is kept, and these contents have become those with it
abbrev pub IsTakenAs : Contents → EntryReading → Contents → Type 0
IsTakenAs c r d = (e : Entry) × (r ≡ Kept e) × (d ≡ with_entry c e)

-- an end is noted of a collection that is there
abbrev pub is_noted : Plan → State → NsName → Bool
is_noted p s n = not (is_oplog n) && plays_early p && map.contains_key s n

abbrev pub ended_with : Plan → Contents → Taking → List NsName
ended_with p c (meta n t) = c.ended
ended_with p c (doc n b) = c.ended
ended_with p c (end n) = if is_noted p c.state n then insert_key namespace_cmp c.ended n else c.ended

-- ---- takings

-- the state and the ends with one taking more
abbrev pub with_collection : Plan → Contents → Taking → Contents
with_collection p c t = record { state = (if is_of_base p t then base_step p c.state t else c.state); entries = c.entries; ended = ended_with p c t }

-- the same, and the entries
abbrev pub with_taking : Plan → Contents → Taking → Contents
with_taking p c t = fold with_entry (with_collection p c t) (entries_in p t)

abbrev pub unless_bad : Option RestoreFault → Contents → Option Contents
unless_bad None c = Some c
unless_bad (Some f) c = None

-- nothing once a taking was refused
abbrev pub and_taking : Plan → Option Contents → Taking → Option Contents
and_taking p None t = None
and_taking p (Some c) t = unless_bad (bad_at p t) (with_taking p c t)

abbrev pub count_of : Option RestoreFault → ℕ
count_of None = 0
count_of (Some f) = 1

-- why it stopped, if it did
abbrev pub stopped_for : Restore → Option RestoreFault
stopped_for r = r.fault

-- how often it stopped, and how often it found no memory
abbrev pub stops_of : Restore → ℕ
stops_of r = count_of r.fault

abbrev pub starved_of : Restore → ℕ
starved_of r = if r.starved then 1 else 0

-- ---- whether a fault is the one at a taking

abbrev pub is_no_id : NsName → RestoreFault → Bool
is_no_id n (NoId m) = same_ns n m
is_no_id n _ = false

abbrev pub is_metadata : NsName → ℕ → RestoreFault → Bool
is_metadata n at (Metadata m other) = same_ns n m && at == other
is_metadata n at _ = false

abbrev pub same_ts : Option Ts → Option Ts → Bool
same_ts None None = true
same_ts (Some a) (Some b) = a.secs == b.secs && a.inc == b.inc
same_ts _ _ = false

abbrev pub is_unread : Option Ts → RestoreFault → Bool
is_unread ts (Unread other) = same_ts ts other
is_unread ts _ = false

abbrev pub is_same : RestoreFault → RestoreFault → Bool
is_same f (NoId n) = is_no_id n f
is_same f (Metadata n at) = is_metadata n at f
is_same f (Unread ts) = is_unread ts f
is_same f _ = false

abbrev pub same_fault : Option RestoreFault → Option RestoreFault → Bool
same_fault (Some f) (Some g) = is_same f g
same_fault _ _ = false

-- ---- at the end

abbrev pub finished : Contents → State
finished c = played c.entries c.state

abbrev pub first_unknown : List Entry → Option RestoreFault
first_unknown es = option_map of_replay (first (each first_refused es))

abbrev pub index_fault : State → Option RestoreFault
index_fault s = option_map of_indexes (fault s)

-- the first entry that isn't replayed, or else the first fault of the indexes
abbrev pub end_fault : Contents → Option RestoreFault
end_fault c = or_later (first_unknown c.entries) (index_fault (finished c))

-- why a restore gives nothing: what it stopped for, or else what is met at the end
abbrev pub fault_of : Restore → Option RestoreFault
fault_of r = or_later r.fault (end_fault (contents_of r))
