-- A restore of a dump's archive makes a state.
use Rattle.std.proofs.Common.{◌≡◌, false, refl, sym, ap, ◌∙◌, subst, Option, Some, None}
use Rattle.std.specs.Prelude.{option_map, is_some}
use Rattle.state_model.specs.Cut.{cut}
use Rattle.index_build.specs.declared.fault.CountFault.{CountFault}
use Rattle.index_build.specs.Faults.{fault}
use Rattle.index_build.specs.Laws.{SameFaults}
use Rattle.restore_filter.specs.Names.{takes}
use Rattle.restore_plan.specs.Base.{restored, or_later}
use Rattle.restore_plan.specs.Faults.{of_indexes}
use Rattle.restore_plan.specs.Outcome.{met_at_end}
use Rattle.history_model.specs.Histories.{Moments, at}
use Rattle.history_model.specs.Laws.{DoneIsHealedBefore}
use Rattle.dump_steps.proofs.DumpRuns.{lines_formed}
use Rattle.archive_heals.specs.Laws.{Replays, ArchiveHeals, ArchiveIsTaken}
use Rattle.archive_known.specs.Laws.{ArchiveHasContent, EntriesAreKnown}
use Rattle.held_moments.specs.Laws.{MomentsAreFaultless, TakenAreFaultless}
use Rattle.restored_dump.specs.Laws.{ArchiveRestores}
use Rattle.history_model.proofs.Answered.{same_some as same_ts}

none_is : (o : Option CountFault) → is_some o ≡ false → o ≡ None
none_is None e = refl
none_is (Some f) e = cc

pub it_restores : ArchiveHasContent → ArchiveIsTaken → EntriesAreKnown → ArchiveHeals → DoneIsHealedBefore → MomentsAreFaultless → TakenAreFaultless → SameFaults → ArchiveRestores
it_restores content taken known heals healed moment part alike s p last_read d read replays within =
    let c = content s d within in
    let h = healed s (lines_formed s.lines d.given) d.done in
    let late : Replays p h.last_read = subst (Replays p) (same_ts last_read h.last_read (sym read ∙ ap (λ (m : Moments). m.last_read) h.moments_are)) replays in
    let source = cut (takes p.filter) (at s p.limit) in
    let none : fault (restored p c.0) ≡ None =
    none_is (fault (restored p c.0)) (alike (restored p c.0) source (heals s d h p late c.0 c.1).same ∙ ap is_some (part (takes p.filter) (at s p.limit) (moment s p.limit))) in
    let met : met_at_end p c.0 ≡ None = λ i. or_later (known s d p c.0 c.1 i) (option_map of_indexes (none i)) in
    (restored p c.0, (c.0, (c.1, taken s d p c.0 c.1), met, refl))
