-- The archive of a dump is one, and a restore knows its entries.
use Rattle.std.specs.Prelude.{◌≡◌, ◌≤◌, List, length, None}
use Rattle.archive_format.specs.Archive.{Taking, Content, limit}
use Rattle.restore_plan.specs.declared.plan.Plan.{Plan}
use Rattle.restore_plan.specs.Base.{entries}
use Rattle.restore_plan.specs.Taken.{first_unknown}
use Rattle.history_model.specs.Runs.{Schedule}
use Rattle.dump_model.specs.Archives.{written}
use Rattle.dump_content.specs.Laws.{Dumped}

-- no archive is longer than the limit
abbrev pub ArchiveHasContent : Type 0
ArchiveHasContent = (s : Schedule) → Dumped s → length (written s) ≤ limit → (ts : List Taking) × Content (written s) ts

-- no entry that is kept of its takings is a rename or a command that isn't known
abbrev pub EntriesAreKnown : Type 0
EntriesAreKnown = (s : Schedule) → Dumped s → (p : Plan) → (ts : List Taking) → Content (written s) ts → first_unknown (entries p ts) ≡ None
