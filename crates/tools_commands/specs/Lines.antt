-- The line of each status on the report.
use Rattle.std.specs.Prelude.{ℕ, List, [], ◌∷◌, ◌++◌, codes, Option, Some, None}
use Rattle.std.specs.Fmt.{decimal}
use Rattle.std.specs.Int.{w64, to_be_bytes}
use Rattle.hex.specs.Hex.{encode_lower}
use Rattle.bson_value.specs.declared.namespace.NsName.{NsName}
use Rattle.bson_value.specs.declared.value.Ts.{Ts}
use Rattle.bson_value.specs.declared.value.Value.{Value}
use Rattle.extjson.specs.Trees.{tree_of}
use Rattle.json_text.specs.Print.{quoted, text_of}
use Rattle.bson_check.specs.declared.fault.BsonKind.{BsonKind}
use Rattle.bson_check.specs.declared.fault.BsonKind.TheVariants as kinds
use Rattle.archive_format.specs.declared.fault.FormatFault.{FormatFault}
use Rattle.archive_format.specs.declared.fault.FormatFault.TheVariants as faults
use Rattle.schedule_text.specs.declared.fault.LineKind.{LineKind}
use Rattle.schedule_text.specs.declared.fault.LineKind.TheVariants as line_kinds
use Rattle.schedule_report.specs.Lines.{ts_text}
use Rattle.schedule_dump.specs.Texts.{rolled_line, renamed_line}
use Rattle.state_listing.specs.Listing.{name_text}
use Rattle.restore_plan.specs.declared.fault.RestoreFault.{RestoreFault}
use Rattle.restore_plan.specs.declared.fault.RestoreFault.TheVariants as restores
use Rattle.tools_commands.specs.declared.status.Status.{Status}
use Rattle.tools_commands.specs.declared.status.Status.TheVariants as is

abbrev pub line : List ℕ → List ℕ
line text = text ++ 10 ∷ []

abbrev pub numbered : List ℕ → ℕ → List ℕ
numbered text n = text ++ decimal n

-- the number of a kind of fault
abbrev pub kind_text : BsonKind → List ℕ
kind_text kinds.Short = codes "1"
kind_text kinds.Length = codes "2"
kind_text kinds.Tag = codes "3"
kind_text kinds.Text = codes "4"
kind_text kinds.Repeat = codes "5"
kind_text kinds.Deep = codes "6"
kind_text kinds.Bool = codes "7"
kind_text kinds.TooLong = codes "8"

-- database and collection, as a JSON string
abbrev pub quoted_name : NsName → List ℕ
quoted_name n = name_text n.db n.coll

-- 16 hexadecimal digits
abbrev pub sum_text : ℕ → List ℕ
sum_text n = encode_lower (to_be_bytes w64 n)

-- what stands behind `bad archive: `
abbrev pub format_text : FormatFault → List ℕ
format_text faults.BadMagic = codes "bad magic"
format_text (faults.Truncated at) = numbered (codes "truncated at ") at
format_text (faults.BadBson at kind) = numbered (codes "bad document at ") at ++ codes " kind " ++ kind_text kind
format_text (faults.BadPrelude at) = numbered (codes "bad prelude at ") at
format_text (faults.BadHeader at) = numbered (codes "bad header at ") at
format_text (faults.AfterEnd ns at) = numbered (codes "after end of " ++ quoted_name ns ++ codes " at ") at
format_text (faults.DocsInEnd at) = numbered (codes "document in end at ") at
format_text (faults.Crc ns said found) = codes "crc of " ++ quoted_name ns ++ codes " said " ++ sum_text said ++ codes " found " ++ sum_text found
format_text (faults.NotEnded ns) = quoted_name ns ++ codes " not ended"
format_text faults.TooLong = codes "too long"

abbrev pub usage_line : ℕ → List ℕ
usage_line at = line (numbered (codes "usage: word ") at)

-- what is wrong with a line of a schedule
abbrev pub line_kind_text : LineKind → List ℕ
line_kind_text line_kinds.Utf8 = codes "Utf8"
line_kind_text line_kinds.Command = codes "Command"
line_kind_text line_kinds.Words = codes "Words"
line_kind_text line_kinds.Number = codes "Number"
line_kind_text line_kinds.Name = codes "Name"
line_kind_text line_kinds.Json = codes "Json"
line_kind_text line_kinds.Extended = codes "Extended"
line_kind_text line_kinds.Shape = codes "Shape"
line_kind_text line_kinds.Place = codes "Place"
line_kind_text line_kinds.Limit = codes "Limit"

-- the number of the first line that isn't one of a schedule, and what is wrong with it
abbrev pub schedule_line : ℕ → LineKind → List ℕ
schedule_line number kind = line (numbered (codes "bad schedule: line ") number ++ codes " " ++ line_kind_text kind)

abbrev pub archive_line : List ℕ → List ℕ
archive_line text = line (codes "bad archive: " ++ text)

abbrev pub no_memory_line : List ℕ
no_memory_line = codes "no memory\n"

-- an _id, as canonical Extended JSON in its own order
abbrev pub id_text : Value → List ℕ
id_text v = text_of (tree_of v)

-- a collection and an index of it
abbrev pub index_text : NsName → List ℕ → List ℕ
index_text ns i = quoted_name ns ++ codes " " ++ quoted i

abbrev pub duplicate_line : NsName → List ℕ → Value → Value → List ℕ
duplicate_line ns i a b = line (codes "duplicate key: " ++ index_text ns i ++ codes " " ++ id_text a ++ codes " " ++ id_text b)

abbrev pub parallel_line : NsName → List ℕ → Value → List ℕ
parallel_line ns i a = line (codes "parallel arrays: " ++ index_text ns i ++ codes " " ++ id_text a)

abbrev pub no_id_text : NsName → List ℕ
no_id_text ns = codes "no _id in " ++ quoted_name ns

abbrev pub metadata_text : NsName → ℕ → List ℕ
metadata_text ns at = numbered (codes "bad metadata of " ++ quoted_name ns ++ codes " at ") at

abbrev pub unknown_line : List ℕ → List ℕ
unknown_line text = line (codes "unknown operation: " ++ text)

-- an operation of the oplog that isn't known, at its timestamp
abbrev pub operation_text : Ts → List ℕ → List ℕ
operation_text ts name = ts_text ts ++ codes " " ++ name

-- of an entry that can't be read, with its timestamp where that can be read
abbrev pub unreadable_text : Option Ts → List ℕ
unreadable_text None = codes "unreadable"
unreadable_text (Some ts) = operation_text ts (codes "unreadable")

abbrev pub restore_line : RestoreFault → List ℕ
restore_line (restores.Metadata ns at) = archive_line (metadata_text ns at)
restore_line (restores.NoId ns) = archive_line (no_id_text ns)
restore_line (restores.Entry ts) = unknown_line (unreadable_text ts)
restore_line (restores.Rename ts) = unknown_line (operation_text ts (codes "renameCollection"))
restore_line (restores.OtherCommand ts name) = unknown_line (operation_text ts name)
restore_line (restores.Parallel ns i a) = parallel_line ns i a
restore_line (restores.Duplicate ns i a b) = duplicate_line ns i a b
restore_line restores.NoMemory = no_memory_line

abbrev pub line_of : Status → List ℕ
line_of is.Done = []
line_of (is.Usage at) = usage_line at
line_of (is.BadSchedule number kind) = schedule_line number kind
line_of (is.BadArchive f) = archive_line (format_text f)
line_of (is.Rolled start oldest) = rolled_line start oldest
line_of (is.Renamed ts) = renamed_line ts
line_of (is.NotRestored f) = restore_line f
line_of is.ReadFault = codes "read fault\n"
line_of is.WriteFault = codes "write fault\n"
line_of is.NoMemory = no_memory_line
