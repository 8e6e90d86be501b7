-- A store that stands at a stage stands at the next one after each command.
use Rattle.std.proofs.Common.{◌≡◌, ℕ, suc, ◌<◌, ◌≤◌, List, [], ◌∷◌, length, false, refl, sym, ap, ◌∙◌, subst, Result, Ok, Err}
use Rattle.bson_value.specs.declared.value.Ts.{Ts}
use Rattle.capped_oplog.specs.Ring.{Entry, Ring, Fits, is_over, pushed, trimmed_down, KeepsLongest}
use Rattle.schedule_model.specs.declared.command.Command.{Command}
use Rattle.schedule_model.specs.declared.command.Command.TheVariants.{At, Recording, Create, DropColl, DropDatabase, Rename, Document, CreateIndex, DropIndex, Txn}
use Rattle.history_model.specs.Entries.{entry_bytes}
use Rattle.history_model.specs.Stages.{Caps, Write, Single, Effect, Stage, Made, Oplog, kept, turned, ring_entry, entry_of, made_of, rows_by, renamed_by, stage_by, stage_after, made_in}
use Rattle.history_model.specs.Stages as stages
use Rattle.history_model.specs.Commands.{effects, set_by, answered}
use Rattle.history_model.specs.Laws.{OplogIsRing}
use Rattle.store_log.specs.Logged.{Logged, next_ts, logged, IsKept}
use Rattle.store_core.specs.declared.fault.StoreFault.{StoreFault}
use Rattle.store_core.specs.declared.fault.StoreFault.TheVariants as faults
use Rattle.store_core.specs.Stores.{Stored, ring_of, StandsAt}
use Rattle.store_core.specs.Applying.{noted, next_entry, stored_by, stored_after, stage_in, stored_set, Applies, Checks, AppliedAt, CheckedAt}
use Rattle.store_core.proofs.RingLaws.{ring_more, kept_fits}

-- ---- what a command makes depends on the rows, the clock and the form alone

pub effects_same : (c : Command) (s : Stored) (st : Stage) → StandsAt s st → effects c (stage_in s) ≡ effects c st
effects_same (At x) s st h = λ i. effects (At x) (record st { rows = h.rows i; clock = h.clock i; form = h.form i })
effects_same (Recording x) s st h = λ i. effects (Recording x) (record st { rows = h.rows i; clock = h.clock i; form = h.form i })
effects_same (Create n o) s st h = λ i. effects (Create n o) (record st { rows = h.rows i; clock = h.clock i; form = h.form i })
effects_same (DropColl n) s st h = λ i. effects (DropColl n) (record st { rows = h.rows i; clock = h.clock i; form = h.form i })
effects_same (DropDatabase d) s st h = λ i. effects (DropDatabase d) (record st { rows = h.rows i; clock = h.clock i; form = h.form i })
effects_same (Rename a b) s st h = λ i. effects (Rename a b) (record st { rows = h.rows i; clock = h.clock i; form = h.form i })
effects_same (Document d) s st h = λ i. effects (Document d) (record st { rows = h.rows i; clock = h.clock i; form = h.form i })
effects_same (CreateIndex n d) s st h = λ i. effects (CreateIndex n d) (record st { rows = h.rows i; clock = h.clock i; form = h.form i })
effects_same (DropIndex n k) s st h = λ i. effects (DropIndex n k) (record st { rows = h.rows i; clock = h.clock i; form = h.form i })
effects_same (Txn ds) s st h = λ i. effects (Txn ds) (record st { rows = h.rows i; clock = h.clock i; form = h.form i })

-- ---- one effect

noted_clock : (w : Write) (l : Logged) → (noted w l).clock ≡ l.clock
noted_clock (Single w) l = refl
noted_clock (stages.Rename a b) l = refl
noted_clock (stages.Txn ws) l = refl

noted_form : (w : Write) (l : Logged) → (noted w l).form ≡ l.form
noted_form (Single w) l = refl
noted_form (stages.Rename a b) l = refl
noted_form (stages.Txn ws) l = refl

noted_newest : (w : Write) (l : Logged) → (noted w l).newest ≡ l.newest
noted_newest (Single w) l = refl
noted_newest (stages.Rename a b) l = refl
noted_newest (stages.Txn ws) l = refl

noted_ring : (w : Write) (l : Logged) → (noted w l).ring ≡ l.ring
noted_ring (Single w) l = refl
noted_ring (stages.Rename a b) l = refl
noted_ring (stages.Txn ws) l = refl

noted_renamed : (w : Write) (l : Logged) → (noted w l).renamed ≡ renamed_by w l.newest l.renamed
noted_renamed (Single w) l = refl
noted_renamed (stages.Rename a b) l = refl
noted_renamed (stages.Txn ws) l = refl

-- the caps allow the entries that stand
abbrev pub Roomy : Stage → Type 0
Roomy st = (0 < st.caps.entries) × Fits st.caps.entries st.caps.bytes (turned st.oplog)

pub roomy_kept : OplogIsRing → (d : Effect) (st : Stage) → Roomy st → Roomy (stage_by d st)
roomy_kept ring d st h = (h.0, kept_fits ring st.caps (entry_of (made_of d st) ∷ st.oplog) h.0)

ring_with : Ring → Ts → List ℕ → Ring
ring_with r ts b = record r { entries = trimmed_down r.limit (pushed r.cap r.entries (ts, b)) }

ring_next : KeepsLongest → OplogIsRing → (d : Effect) (s : Stored) (st : Stage) → StandsAt s st → Roomy st → (ring : Ring) → ring ≡ ring_with s.log.ring (next_ts s.log.clock s.log.newest) (entry_bytes (next_entry d.1 s.log)) → ring ≡ ring_of (stage_by d st)
unfolding ring_with
ring_next law kept_law d s st h r ring e =
    (let ts : next_ts s.log.clock s.log.newest ≡ stages.next_ts st = λ i. next_ts (h.clock i) (h.newest i) in
    e ∙ ((λ i. ring_with (h.ring i) (ts i) (entry_bytes (record { ts = ts i; content = d.1 })))
    ∙ ap (λ (es : List Entry). record { entries = es; cap = st.caps.entries; limit = st.caps.bytes }) (ring_more law kept_law st.caps (entry_of (made_of d st)) st.oplog r.0 r.1)))

pub follows_one : KeepsLongest → OplogIsRing → (d : Effect) (s : Stored) (st : Stage) → StandsAt s st → Roomy st → StandsAt (stored_by d s) (stage_by d st)
unfolding ring_with
follows_one law kept_law d s st h r =
    (let l = logged (entry_bytes (next_entry d.1 s.log)) s.log in
    let ts : next_ts s.log.clock s.log.newest ≡ stages.next_ts st = λ i. next_ts (h.clock i) (h.newest i) in
    record {
      rows = ap (rows_by d.0) h.rows;
      clock = noted_clock d.0 l ∙ h.clock;
      form = noted_form d.0 l ∙ h.form;
      newest = noted_newest d.0 l ∙ ts;
      renamed = noted_renamed d.0 l ∙ (λ i. renamed_by d.0 (ts i) (h.renamed i));
      ring = ring_next law kept_law d s st h r (noted d.0 l).ring (noted_ring d.0 l);
    })

pub follows : KeepsLongest → OplogIsRing → (ds : List Effect) (s : Stored) (st : Stage) → StandsAt s st → Roomy st → StandsAt (stored_after ds s) (stage_after ds st)
follows law kept_law [] s st h r = h
follows law kept_law (d ∷ ds) s st h r = follows law kept_law ds (stored_by d s) (stage_by d st) (follows_one law kept_law d s st h r) (roomy_kept kept_law d st r)

-- ---- a command

set_stands : (c : Command) (s : Stored) (st : Stage) → StandsAt s st → StandsAt (stored_set c s) (set_by c st)
set_stands (At x) s st h = record { rows = h.rows; clock = refl; form = h.form; newest = h.newest; renamed = h.renamed; ring = h.ring }
set_stands (Recording x) s st h = record { rows = h.rows; clock = h.clock; form = refl; newest = h.newest; renamed = h.renamed; ring = h.ring }
set_stands (Create n o) s st h = h
set_stands (DropColl n) s st h = h
set_stands (DropDatabase d) s st h = h
set_stands (Rename a b) s st h = h
set_stands (Document d) s st h = h
set_stands (CreateIndex n d) s st h = h
set_stands (DropIndex n k) s st h = h
set_stands (Txn ds) s st h = h

set_roomy : (c : Command) (st : Stage) → Roomy st → Roomy (set_by c st)
set_roomy (At x) st h = h
set_roomy (Recording x) st h = h
set_roomy (Create n o) st h = h
set_roomy (DropColl n) st h = h
set_roomy (DropDatabase d) st h = h
set_roomy (Rename a b) st h = h
set_roomy (Document d) st h = h
set_roomy (CreateIndex n d) st h = h
set_roomy (DropIndex n k) st h = h
set_roomy (Txn ds) st h = h

made_length : (ds : List Effect) (st : Stage) → length ds ≡ length (made_in ds st)
made_length [] st = refl
made_length (d ∷ ds) st = ap suc (made_length ds (stage_by d st))

roomy_of : (s : Stored) (st : Stage) → StandsAt s st → IsKept s.log.newest s.log.ring s.log.recorded → Roomy st
roomy_of s st h k =
    (let cap = ap (λ (r : Ring). r.cap) h.ring in
    let room : 0 < st.caps.entries = subst (λ (n : ℕ). 0 < n) cap k.room in (
      room,
      record {
        few = subst (λ (r : Ring). length r.entries ≤ r.cap) h.ring k.held;
        short = subst (λ (r : Ring). is_over r.limit r.entries ≡ false) h.ring k.within;
      },
    ))

pub applied_at : KeepsLongest → OplogIsRing → (c : Command) (old new : Stored) (result : Result ℕ StoreFault) → IsKept old.log.newest old.log.ring old.log.recorded → Applies c old result new → (st : Stage) → StandsAt old st → AppliedAt c st result new
applied_at law ring c old new (Ok n) k a st h =
    (let st2 = set_by c st in
    let ds = a.deeds in
    let e : effects c st ≡ Ok ds = sym (effects_same c old st h) ∙ a.accepted in
    record {
      after = stage_after ds st2;
      made = made_in ds st2;
      accepted = ap (answered st2) e;
      number = a.number ∙ made_length ds st2;
      stands = subst (λ (z : Stored). StandsAt z (stage_after ds st2)) (sym a.made) (follows law ring ds (stored_set c old) st2 (set_stands c old st h) (set_roomy c st (roomy_of old st h k)));
    })
applied_at law ring c old new (Err (faults.Refused r)) k a st h = ap (answered (set_by c st)) (sym (effects_same c old st h) ∙ a.0)
applied_at law ring c old new (Err faults.NoMemory) k a st h = tt

pub checked_at : (c : Command) (s : Stored) (result : Result ℕ StoreFault) → Checks c s result → (st : Stage) → StandsAt s st → CheckedAt c st result
checked_at c s (Ok n) a st h =
    (let st2 = set_by c st in
    record {
      after = stage_after a.deeds st2;
      made = made_in a.deeds st2;
      accepted = ap (answered st2) (sym (effects_same c s st h) ∙ a.accepted);
      number = a.number ∙ made_length a.deeds st2;
    })
checked_at c s (Err (faults.Refused r)) a st h = ap (answered (set_by c st)) (sym (effects_same c s st h) ∙ a)
checked_at c s (Err faults.NoMemory) a st h = tt
