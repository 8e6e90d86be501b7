-- A restore of a dump's archive makes the state before its limit.
use Rattle.std.proofs.Common.{◌≡◌, [], sym, ◌∙◌, subst}
use Rattle.state_model.specs.States.{State}
use Rattle.state_model.specs.Replay.{replay_all}
use Rattle.state_model.specs.Agreement.{SameStates}
use Rattle.state_model.specs.Cut.{cut}
use Rattle.state_model.specs.Laws.{CutReplay, SameIsShownAlike}
use Rattle.copy_model.specs.Copies.{copy_of}
use Rattle.copy_model.proofs.Filtered.{same_cut}
use Rattle.restore_filter.specs.Names.{takes}
use Rattle.restore_plan.specs.Base.{restored}
use Rattle.history_model.specs.Runs.{run}
use Rattle.history_model.specs.Histories.{at, reads}
use Rattle.history_model.specs.Recordings.{reads_in}
use Rattle.history_model.specs.Laws.{window_before}
use Rattle.archive_base.specs.Laws.{BaseIsCopy}
use Rattle.archive_entries.specs.Laws.{EntriesAreTaken}
use Rattle.metadata_again.specs.Laws.{StartIsReadAgain}
use Rattle.archive_heals.specs.Laws.{ArchiveHeals, FinishHeals}

pub heals : StartIsReadAgain → BaseIsCopy → EntriesAreTaken → CutReplay → SameIsShownAlike → ArchiveHeals
heals again base_is entries_are replayed alike s d h p r ts c =
    let f = takes p.filter in
    let w = window_before p.limit h.start h.last (run s) in
    let y = copy_of h.rows (reads_in (reads s) []) in
    let made : restored p ts ≡ cut f (replay_all w y) =
    (λ i. replay_all (entries_are s d h p r.replaying ts c i) (base_is s d (again s d) h p r.plain ts c i)) ∙ replayed f w y in
    let same : SameStates (restored p ts) (cut f (at s p.limit)) = subst (λ (x : State). SameStates x (cut f (at s p.limit))) (sym made) (same_cut f (replay_all w y) (at s p.limit) (h.healed p.limit r.late)) in
    record { same = same; listed = (alike (restored p ts) (cut f (at s p.limit))).0 same }

pub finish_heals : ArchiveHeals → FinishHeals
finish_heals law s d h p r held t =
    subst (λ (x : State). SameStates x (cut (takes p.filter) (at s p.limit))) (sym t.2) (law s d h p r t.0 t.1.0).same
