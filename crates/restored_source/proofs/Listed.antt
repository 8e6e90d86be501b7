-- What is listed of a restored archive is the listing of the source.
use Rattle.std.proofs.Common.{◌≡◌, sym, ap, ◌∙◌, subst}
use Rattle.std.specs.Prelude.{if◌then◌else◌, None}
use Rattle.state_model.specs.Spots.{Spot, stands}
use Rattle.state_model.specs.Cut.{cut, space_of}
use Rattle.state_model.specs.Laws.{CutStands, SameIsShownAlike}
use Rattle.index_build.specs.Laws.{SameCounts}
use Rattle.restore_filter.specs.Names.{takes}
use Rattle.restore_plan.specs.Base.{restored}
use Rattle.state_listing.specs.Listing.{listing}
use Rattle.history_model.specs.Histories.{Moments, at}
use Rattle.history_model.specs.Laws.{DoneIsHealedBefore}
use Rattle.dump_steps.proofs.DumpRuns.{lines_formed}
use Rattle.archive_heals.specs.Laws.{Replays, ArchiveHeals}
use Rattle.whole_transactions.specs.Laws.{AtIsWhole}
use Rattle.restored_source.specs.Laws.{SameAreListedAlike, ListsSource, ListsWholeSource, ListsWholeTransactions}
use Rattle.restored_source.proofs.Lines.{listed_alike}
use Rattle.history_model.proofs.Answered.{same_some as some_ts}

pub same_listed : SameCounts → SameIsShownAlike → SameAreListedAlike
same_listed counted alike form a b h = listed_alike form a b ((alike a b).0 h) (counted a b h)

pub source_listed : ArchiveHeals → DoneIsHealedBefore → SameAreListedAlike → ListsSource
source_listed heals healed alike s p r made o form =
    let h = healed s (lines_formed s.lines r.dumped.given) r.dumped.done in
    let read : r.last_read ≡ h.last_read = some_ts r.last_read h.last_read (sym r.read ∙ ap (λ (m : Moments). m.last_read) h.moments_are) in
    let same = (heals s r.dumped h p (subst (Replays p) read r.replays) o.0 o.1.0).same in
    ap (listing form) o.3 ∙ alike form (restored p o.0) (cut (takes p.filter) (at s p.limit)) same

pub whole_listed : ListsSource → CutStands → SameAreListedAlike → ListsWholeSource
whole_listed lists stand alike s p r all made o form =
    lists s p r made o form ∙ alike form (cut (takes p.filter) (at s p.limit)) (at s p.limit) (λ (q : Spot). stand (takes p.filter) (at s p.limit) q ∙ ap (λ b. if b then stands (at s p.limit) q else None) (all (space_of q)))

pub transactions_listed : ListsSource → AtIsWhole → ListsWholeTransactions
transactions_listed lists wholes s p r made o earlier ts ws later h form =
    (at s p.limit, wholes s (lines_formed s.lines r.dumped.given) earlier ts ws later h p.limit, lists s p r made o form)
