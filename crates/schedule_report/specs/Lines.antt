-- What is told of a schedule while it runs: a line for each refused line, and at the end of a dump its moments and counts.
use Rattle.std.specs.Prelude.{ℕ, List, [], ◌∷◌, ◌++◌, flat_map, codes}
use Rattle.std.specs.Fmt.{decimal}
use Rattle.bson_value.specs.declared.value.Ts.{Ts}
use Rattle.schedule_model.specs.declared.refused.Refused.{Refused}
use Rattle.schedule_model.specs.declared.refused.Refused.TheVariants as rows
use Rattle.history_model.specs.Runs.{Refusal, NotTaken, NotNow, NoCursor}
use Rattle.schedule_report.specs.declared.refusal.LineRefusal.{LineRefusal}
use Rattle.schedule_report.specs.declared.refusal.LineRefusal.TheVariants as refusals

abbrev pub row_name : Refused → List ℕ
row_name rows.NoSuchNamespace = codes "NoSuchNamespace"
row_name rows.NamespaceExists = codes "NamespaceExists"
row_name rows.DuplicateId = codes "DuplicateId"
row_name rows.NoSuchDocument = codes "NoSuchDocument"
row_name rows.DuplicateKey = codes "DuplicateKey"
row_name rows.ParallelArrays = codes "ParallelArrays"
row_name rows.IndexExists = codes "IndexExists"
row_name rows.NoSuchIndex = codes "NoSuchIndex"
row_name rows.BadDocument = codes "BadDocument"
row_name rows.BadUpdate = codes "BadUpdate"
row_name rows.BadName = codes "BadName"
row_name rows.ClockBack = codes "ClockBack"
row_name rows.TooManyIndexes = codes "TooManyIndexes"
row_name rows.TooLarge = codes "TooLarge"

abbrev pub refusal_name : Refusal → List ℕ
refusal_name (NotTaken r) = row_name r
refusal_name NotNow = codes "NotNow"
refusal_name NoCursor = codes "NoCursor"

abbrev pub refusal_of : LineRefusal → Refusal
refusal_of (refusals.NotTaken r) = NotTaken r
refusal_of refusals.NotNow = NotNow
refusal_of refusals.NoCursor = NoCursor

abbrev pub line_with : ℕ → List ℕ → List ℕ
line_with number name = codes "line " ++ (decimal number ++ (codes " refused " ++ (name ++ codes "\n")))

abbrev pub refusal_line : ℕ × Refusal → List ℕ
refusal_line r = line_with r.0 (refusal_name r.1)

-- of all refused lines, in their order
abbrev pub refusals_text : List (ℕ × Refusal) → List ℕ
refusals_text rs = flat_map refusal_line rs

abbrev pub ts_text : Ts → List ℕ
ts_text ts = decimal ts.secs ++ codes ":" ++ decimal ts.inc
