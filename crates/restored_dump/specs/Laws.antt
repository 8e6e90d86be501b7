-- What a restore of a dump's archive comes to.
use Rattle.std.specs.Prelude.{◌≡◌, ◌≤◌, length, Some}
use Rattle.bson_value.specs.declared.value.Ts.{Ts}
use Rattle.state_model.specs.States.{State}
use Rattle.archive_format.specs.Archive.{limit}
use Rattle.restore_plan.specs.declared.plan.Plan.{Plan}
use Rattle.restore_plan.specs.Outcome.{restores, IsOutcome}
use Rattle.history_model.specs.Runs.{Schedule}
use Rattle.history_model.specs.Histories.{moments}
use Rattle.dump_model.specs.Archives.{written}
use Rattle.dump_content.specs.Laws.{Dumped}
use Rattle.archive_heals.specs.Laws.{Replays}

-- a restore that replays the archive of a dump up to a limit later than LastRead, or to its end, makes a state, where the archive is no longer than an archive may be
abbrev pub ArchiveRestores : Type 0
ArchiveRestores = (s : Schedule) (p : Plan) (last_read : Ts) → Dumped s → (moments s).last_read ≡ Some last_read → Replays p last_read → length (written s) ≤ limit → (made : State) × IsOutcome p (written s) (restores made)
