-- The line of a drill: what its dump counts, and that what is restored of its archive is the source.
use Rattle.std.specs.Prelude.{ℕ, ◌+◌, List, [], ◌++◌, length, codes, Some, None}
use Rattle.std.specs.FinMap as map
use Rattle.std.specs.Fmt.{decimal}
use Rattle.history_model.specs.Entries.{OplogEntry}
use Rattle.history_model.specs.Runs.{Schedule, run, window, entries_from}
use Rattle.history_model.specs.Histories.{Moments, moments, before, reads, documents_in}
use Rattle.dump_model.specs.Archives.{written}
use Rattle.dump_run.specs.Dumps.{counted}
use Rattle.schedule_report.specs.Schedules.{schedule_in}
use Rattle.drill_schedule.specs.Drills.{drill}
use Rattle.drill_run.specs.declared.line.Counts.{Counts}

-- the schedule of a drill, in the words of histories
abbrev pub drilled : ℕ → Schedule
drilled n = schedule_in (drill n)

-- the entries of the window
abbrev pub window_of : Moments → List OplogEntry → List OplogEntry
window_of m es = elim m.start [ None ↦ [] | Some start ↦ elim m.end_ts [ None ↦ [] | Some last ↦ window start last es ] ]

-- the lines of its text, of which the first one has the cap; the documents that its dump reads, and the entries in its window; the collections of the source; and the bytes of the archive
abbrev pub counts_of : ℕ → Counts
counts_of n = record {
  lines = length (drill n).lines + 1;
  documents = counted (documents_in (reads (drilled n)));
  entries = counted (length (window_of (moments (drilled n)) (entries_from (run (drilled n)))));
  namespaces = length (map.keys (before (drilled n) None));
  bytes = length (written (drilled n));
}

abbrev pub dump_text : Counts → List ℕ
dump_text c = codes "lines " ++ (decimal c.lines ++ (codes " documents " ++ (decimal c.documents ++ (codes " entries " ++ decimal c.entries))))

abbrev pub counts_line : Counts → List ℕ → List ℕ
counts_line c equal = dump_text c ++ (codes " namespaces " ++ (decimal c.namespaces ++ (codes " bytes " ++ (decimal c.bytes ++ (codes " equal " ++ (equal ++ codes "\n"))))))

-- what a drill tells
abbrev pub drill_line : ℕ → List ℕ
drill_line n = counts_line (counts_of n) (codes "yes")
