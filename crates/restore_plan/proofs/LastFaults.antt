-- What is met at the end of a restore.
use Rattle.std.proofs.Common.{◌≡◌, List, refl, sym, ap, ◌∙◌, Option, Some, None}
use Rattle.std.specs.Prelude.{map as each, option_map, Err}
use Rattle.state_model.specs.States.{State}
use Rattle.entry_model.specs.declared.entry.Entry.{Entry}
use Rattle.replay.specs.declared.fault.ReplayFault.{ReplayFault}
use Rattle.replay.specs.declared.fault.ReplayFault.TheVariants as entries
use Rattle.replay.specs.Refusals.{first, first_refused, Answers}
use Rattle.index_build.specs.declared.fault.CountFault.{CountFault}
use Rattle.index_build.specs.declared.fault.CountFault.TheVariants as counts
use Rattle.index_build.specs.Faults.{fault, IsCountFault}
use Rattle.restore_plan.specs.declared.fault.RestoreFault.{RestoreFault}
use Rattle.restore_plan.specs.declared.fault.RestoreFault.TheVariants.{NoMemory, Metadata, NoId, Entry as Unread, Rename, OtherCommand, Parallel, Duplicate}
use Rattle.restore_plan.specs.Faults.{of_replay, of_indexes, IsFault}
use Rattle.restore_plan.specs.Base.{or_later}
use Rattle.restore_plan.specs.Taken.{first_unknown, index_fault}

pub is_fault : (f : RestoreFault) (o : Option RestoreFault) → o ≡ Some f → IsFault f o
is_fault NoMemory o e = tt
is_fault (Metadata ns at) o e = e
is_fault (NoId ns) o e = e
is_fault (Unread ts) o e = e
is_fault (Rename ts) o e = e
is_fault (OtherCommand ts name) o e = e
is_fault (Parallel ns i a) o e = e
is_fault (Duplicate ns i a b) o e = e

pub is_met : (f : RestoreFault) (o : Option RestoreFault) → IsFault f o → (f ≡ NoMemory → ⊥) → o ≡ Some f
is_met NoMemory o e not = absurd (not refl)
is_met (Metadata ns at) o e not = e
is_met (NoId ns) o e not = e
is_met (Unread ts) o e not = e
is_met (Rename ts) o e not = e
is_met (OtherCommand ts name) o e not = e
is_met (Parallel ns i a) o e not = e
is_met (Duplicate ns i a b) o e not = e

-- an entry that isn't replayed comes before the indexes
unknown : (f : ReplayFault) (es : List Entry) (later : Option RestoreFault) → first (each first_refused es) ≡ Some f → IsFault (of_replay f) (or_later (first_unknown es) later)
unknown f es later e = is_fault (of_replay f) (or_later (first_unknown es) later) (ap (λ o. or_later (option_map of_replay o) later) e)

pub refused : (f : ReplayFault) (es : List Entry) (later : Option RestoreFault) → Answers (Err f) (first (each first_refused es)) → IsFault (of_replay f) (or_later (first_unknown es) later)
refused entries.NoMemory es later e = tt
refused (entries.Rename ts) es later e = unknown (entries.Rename ts) es later e
refused (entries.OtherCommand ts name) es later e = unknown (entries.OtherCommand ts name) es later e

-- the fault of the indexes, where each entry is replayed
of_state : (f : CountFault) (es : List Entry) (s t : State) → first (each first_refused es) ≡ None → s ≡ t → fault s ≡ Some f → IsFault (of_indexes f) (or_later (first_unknown es) (index_fault t))
of_state f es s t none is e =
    is_fault (of_indexes f) (or_later (first_unknown es) (index_fault t))
    (ap (λ o. or_later (option_map of_replay o) (index_fault t)) none ∙ ap (option_map of_indexes) (ap fault (sym is) ∙ e))

pub unbuilt : (f : CountFault) (es : List Entry) (s t : State) → first (each first_refused es) ≡ None → s ≡ t → IsCountFault f (fault s) → IsFault (of_indexes f) (or_later (first_unknown es) (index_fault t))
unbuilt counts.NoMemory es s t none is e = tt
unbuilt (counts.Parallel n i a) es s t none is e = of_state (counts.Parallel n i a) es s t none is e
unbuilt (counts.Duplicate n i a b) es s t none is e = of_state (counts.Duplicate n i a b) es s t none is e

pub fine : (es : List Entry) (s t : State) → first (each first_refused es) ≡ None → s ≡ t → fault s ≡ None → or_later (first_unknown es) (index_fault t) ≡ None
fine es s t none is e = ap (λ o. or_later (option_map of_replay o) (index_fault t)) none ∙ ap (option_map of_indexes) (ap fault (sym is) ∙ e)
