-- What an archive's takings make: the base, the entries that are replayed on it, and the first taking that a restore refuses.
use Rattle.std.specs.Prelude.{ℕ, List, [], ◌∷◌, fold, Bool, not, ◌&&◌, filter, Option, Some, None, is_some, Ok, Err, if◌then◌else◌}
use Rattle.std.specs.Result.{result_unwrap_or}
use Rattle.std.specs.FinMap as map
use Rattle.bson_value.specs.declared.namespace.NsName.{NsName}
use Rattle.bson_value.specs.declared.value.Value.{Object}
use Rattle.json_tree.specs.declared.tree.Tree.{Tree}
use Rattle.state_model.specs.States.{State, Collection, no_options, fresh_collection, or_fresh}
use Rattle.state_model.specs.Moves.{Put}
use Rattle.state_model.specs.Replay.{replay, replay_all}
use Rattle.coll_state.specs.Rows.{key_in, id_of}
use Rattle.coll_state.specs.Changes.{under_names}
use Rattle.index_keys.specs.Definition.{normal}
use Rattle.metadata_text.specs.Metadata.{Meta, metadata_of}
use Rattle.entry_model.specs.declared.entry.Entry.{Entry}
use Rattle.entry_model.specs.Edits.{gathered}
use Rattle.replay.specs.Moves.{moves_of}
use Rattle.restore_filter.specs.Names.{takes, new_name}
use Rattle.restore_entries.specs.declared.reading.EntryReading.{EntryReading}
use Rattle.restore_entries.specs.declared.reading.EntryReading.TheVariants.{Passed, Kept, Unreadable}
use Rattle.restore_entries.specs.Oplog.{reading_of}
use Rattle.archive_format.specs.Shapes.{is_oplog}
use Rattle.archive_format.specs.Archive.{Taking, meta, doc, end, fields_of}
use Rattle.document_lines.specs.Lines.{Document}
use Rattle.restore_plan.specs.declared.plan.Plan.{Plan}
use Rattle.restore_plan.specs.declared.fault.RestoreFault.{RestoreFault}
use Rattle.restore_plan.specs.declared.fault.RestoreFault.TheVariants.{NoId, Metadata, Entry as Unread}

abbrev pub ns_of : Taking → NsName
ns_of (meta n t) = n
ns_of (doc n b) = n
ns_of (end n) = n

-- the oplog is no collection
abbrev pub is_of_base : Plan → Taking → Bool
is_of_base p t = not (is_oplog (ns_of t)) && takes p.filter (ns_of t)

-- the document that a taking's bytes spell
abbrev pub document_taken : List ℕ → Document
document_taken b = result_unwrap_or (fields_of b) []

-- the options that a metadata text has
abbrev pub options_in : Meta → Tree
options_in (Ok x) = x.0
options_in (Err at) = no_options

abbrev pub options_taken : List ℕ → Tree
options_taken t = options_in (metadata_of t)

abbrev pub with_normal : Option Tree → List Tree → List Tree
with_normal None ds = ds
with_normal (Some n) ds = n ∷ ds

-- the normal forms of definitions
abbrev pub normal_forms : List Tree → List Tree
normal_forms [] = []
normal_forms (d ∷ ds) = with_normal (normal d) (normal_forms ds)

-- the definitions that a metadata text has, in normal form, by name
abbrev pub definitions_in : Meta → List Tree
definitions_in (Ok x) = normal_forms x.1
definitions_in (Err at) = []

abbrev pub definitions_taken : List ℕ → List Tree
definitions_taken t = definitions_in (metadata_of t)

-- other options and definitions; the documents stay
abbrev pub described : Tree → List Tree → Collection → Collection
described o ds c = record { options = o; indexes = under_names ds; documents = c.documents }

abbrev pub described_in : State → NsName → Tree → List Tree → State
described_in s n o ds = map.insert s n (described o ds (or_fresh (map.get s n)))

-- a collection that isn't there is made
abbrev pub made : NsName → Option Collection → State → State
made n None s = map.insert s n (fresh_collection no_options)
made n (Some c) s = s

-- what a taking makes of the state, under this name: of two documents with one _id the later stands, and so do the later options and definitions
abbrev pub named_step : NsName → State → Taking → State
named_step m s (meta n t) = described_in s m (options_taken t) (definitions_taken t)
named_step m s (doc n b) = replay (Put m (key_in (id_of (document_taken b))) (Object (document_taken b))) s
named_step m s (end n) = made m (map.get s m) s

-- under the name that the filter gives
abbrev pub base_step : Plan → State → Taking → State
base_step p s t = named_step (new_name p.filter (ns_of t)) s t

-- the state that the takings of collections make that are taken
abbrev pub base : Plan → List Taking → State
base p ts = fold (base_step p) map.empty (filter (is_of_base p) ts)

-- ---- the oplog

-- what a document of the oplog is to the restore; where nothing is replayed, nothing is asked of it
abbrev pub oplog_reading : Plan → List ℕ → EntryReading
oplog_reading p b = if p.replaying then reading_of p.filter p.limit (document_taken b) else Passed

abbrev pub kept_in : EntryReading → List Entry
kept_in Passed = []
kept_in (Kept e) = e ∷ []
kept_in (Unreadable ts) = []

-- the entries that are replayed of a taking
abbrev pub entries_in : Plan → Taking → List Entry
entries_in p (meta n t) = []
entries_in p (doc n b) = if is_oplog n then kept_in (oplog_reading p b) else []
entries_in p (end n) = []

abbrev pub entries : Plan → List Taking → List Entry
entries p ts = gathered (entries_in p) ts

-- ---- the whole

-- what entries make of a state, one after the other
abbrev pub played : List Entry → State → State
played es s = replay_all (gathered moves_of es) s

-- the state that an archive restores to: the base, on which the entries were replayed
abbrev pub restored : Plan → List Taking → State
restored p ts = played (entries p ts) (base p ts)

-- ---- why a taking is refused: a text is no metadata, a document has no _id, or one of the oplog is no entry

abbrev pub has_id : Document → Bool
has_id d = is_some (id_of d)

abbrev pub metadata_fault : NsName → Meta → Option RestoreFault
metadata_fault n (Err at) = Some (Metadata n at)
metadata_fault n (Ok x) = None

abbrev pub id_fault : NsName → Bool → Option RestoreFault
id_fault n has = if has then None else Some (NoId n)

abbrev pub entry_fault : EntryReading → Option RestoreFault
entry_fault Passed = None
entry_fault (Kept e) = None
entry_fault (Unreadable ts) = Some (Unread ts)

abbrev pub bad_at : Plan → Taking → Option RestoreFault
bad_at p (meta n t) = if is_oplog n then None else metadata_fault n (metadata_of t)
bad_at p (doc n b) = if is_oplog n then entry_fault (oplog_reading p b) else id_fault n (has_id (document_taken b))
bad_at p (end n) = None

abbrev pub or_later : Option RestoreFault → Option RestoreFault → Option RestoreFault
or_later None later = later
or_later (Some s) later = Some s

-- the first taking that is refused
abbrev pub first_bad : Plan → List Taking → Option RestoreFault
first_bad p [] = None
first_bad p (t ∷ ts) = or_later (bad_at p t) (first_bad p ts)
