-- What a restore makes of the archive of a dump.
use Rattle.std.specs.Prelude.{◌≡◌, List, true, None}
use Rattle.bson_value.specs.declared.value.Ts.{Ts}
use Rattle.state_model.specs.Agreement.{SameStates}
use Rattle.state_model.specs.Cut.{cut}
use Rattle.state_model.specs.Shown.{shown}
use Rattle.archive_format.specs.Archive.{Taking, Content}
use Rattle.restore_filter.specs.Names.{takes}
use Rattle.restore_plan.specs.declared.plan.Plan.{Plan}
use Rattle.restore_plan.specs.Base.{restored, first_bad}
use Rattle.restore_plan.specs.Taken.{Contents, finished}
use Rattle.restore_plan.specs.Outcome.{TakesAll}
use Rattle.history_model.specs.Runs.{Schedule}
use Rattle.history_model.specs.Histories.{at}
use Rattle.history_model.specs.Laws.{IsLate, HealedBefore}
use Rattle.dump_model.specs.Archives.{written}
use Rattle.dump_content.specs.Laws.{Dumped}
use Rattle.archive_base.specs.Laws.{RenamesNone}

-- a restore that replays up to a limit later than LastRead, and gives no new names
pub record Replays (p : Plan) (last_read : Ts) : Type 0 where
  pub replaying : p.replaying ≡ true
  pub late : IsLate p.limit last_read
  pub plain : RenamesNone p.filter

-- the state just before the limit, or at End, of what the filter takes, up to the order of fields
pub record Heals (s : Schedule) (p : Plan) (ts : List Taking) : Type 0 where
  pub same : SameStates (restored p ts) (cut (takes p.filter) (at s p.limit))
  -- so that a listing shows the same
  pub listed : shown (restored p ts) ≡ shown (cut (takes p.filter) (at s p.limit))

abbrev pub ArchiveHeals : Type 0
ArchiveHeals = (s : Schedule) → Dumped s → (h : HealedBefore s) → (p : Plan) → Replays p h.last_read → (ts : List Taking) → Content (written s) ts → Heals s p ts

-- and so is the state that `Restore::finish` makes of what a restore holds that has taken all of the archive
abbrev pub FinishHeals : Type 0
FinishHeals = (s : Schedule) → Dumped s → (h : HealedBefore s) → (p : Plan) → Replays p h.last_read → (held : Contents) → TakesAll p (written s) held → SameStates (finished held) (cut (takes p.filter) (at s p.limit))

-- and none of its takings is refused
abbrev pub ArchiveIsTaken : Type 0
ArchiveIsTaken = (s : Schedule) → Dumped s → (p : Plan) → (ts : List Taking) → Content (written s) ts → first_bad p ts ≡ None
