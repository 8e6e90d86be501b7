-- What a restore replays of the oplog of a dump's archive.
use Rattle.std.specs.Prelude.{◌≡◌, List, true}
use Rattle.archive_format.specs.Archive.{Taking, Content}
use Rattle.entry_model.specs.Edits.{gathered}
use Rattle.state_model.specs.Cut.{taken}
use Rattle.replay.specs.Moves.{moves_of}
use Rattle.restore_filter.specs.Names.{takes}
use Rattle.restore_plan.specs.declared.plan.Plan.{Plan}
use Rattle.restore_plan.specs.Base.{entries}
use Rattle.history_model.specs.Runs.{Schedule, run}
use Rattle.history_model.specs.Laws.{HealedBefore, window_before}
use Rattle.dump_model.specs.Archives.{written}
use Rattle.dump_content.specs.Laws.{Dumped}

-- the moves of the window's entries before the limit that the filter takes
abbrev pub EntriesAreTaken : Type 0
EntriesAreTaken = (s : Schedule) → Dumped s → (h : HealedBefore s) → (p : Plan) → p.replaying ≡ true → (ts : List Taking) → Content (written s) ts →
    gathered moves_of (entries p ts) ≡ taken (takes p.filter) (window_before p.limit h.start h.last (run s))
