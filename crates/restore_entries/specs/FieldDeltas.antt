-- Entries of a delta of one touch.
use Rattle.std.specs.Prelude.{◌≡◌, [], ◌∷◌, option_map}
use Rattle.bson_value.specs.declared.value.Ts.{Ts}
use Rattle.bson_value.specs.declared.namespace.NsName.{NsName}
use Rattle.bson_view.specs.Views.{elem_value}
use Rattle.doc_path.specs.declared.parts.Form.TheVariants.{V2}
use Rattle.doc_path.specs.declared.touches.Touch.{Touch}
use Rattle.entry_model.specs.declared.entry.Entry.{Entry}
use Rattle.entry_model.specs.declared.entry.Action.TheVariants.{Delta}
use Rattle.entry_reader.specs.FieldDeltas.{place_of, SaysAt}
use Rattle.entry_reader.specs.declared.field_delta.FieldDelta.{FieldDelta}
use Rattle.restore_entries.specs.declared.reading.EntryReading.{EntryReading}
use Rattle.restore_entries.specs.declared.reading.EntryReading.TheVariants.{Kept}

-- the entry of this touch
abbrev pub entry_of_touch : Ts → NsName → FieldDelta → Touch → Entry
entry_of_touch ts n d t = record { ts = ts; ns = n; action = Delta (elem_value d.id) V2 (t ∷ []) }

-- an entry of such a touch is kept
abbrev pub IsKeptAs : NsName → FieldDelta → EntryReading → Type 0
IsKeptAs n d r = (ts : Ts) × (t : Touch) × SaysAt (place_of d.place) (option_map elem_value d.value) t × (r ≡ Kept (entry_of_touch ts n d t))
