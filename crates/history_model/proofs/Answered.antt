-- No rename from Start to End.
use Rattle.std.proofs.Common.{◌≡◌, List, subst, Option, Some, None}
use Rattle.bson_value.specs.declared.value.Ts.{Ts}
use Rattle.history_model.specs.Stages.{Stage, Made}
use Rattle.history_model.specs.Runs.{Schedule, DumpState, run}
use Rattle.history_model.specs.Histories.{moments_of, moments}
use Rattle.history_model.specs.Invariants.{NoRename, MarkedOk, DumpOk}
use Rattle.update_records.specs.Laws.{UpdatesRecord}
use Rattle.history_model.specs.WellFormed.{AreWellFormedLines}
use Rattle.history_model.proofs.Runs.{run_good}

pub same_some : (a b : Ts) → Some a ≡ Some b → a ≡ b
same_some a b e = cc

marked_free : (a b start : Ts) (o : Option Ts) (st : Stage) (ms : List Made) → MarkedOk start o st ms → start ≡ a → o ≡ Some b → NoRename a b ms
marked_free a b start None st ms h e f = cc
marked_free a b start (Some x) st ms h e f = subst (λ (z : Ts). NoRename z b ms) e (subst (λ (z : Ts). NoRename start z ms) (same_some x b f) h.0)

dump_free : (a b : Ts) (o : Option DumpState) (st : Stage) (ms : List Made) → DumpOk o st ms → (moments_of o).start ≡ Some a → (moments_of o).end_ts ≡ Some b → NoRename a b ms
dump_free a b None st ms h e f = cc
dump_free a b (Some d) st ms h e f = marked_free a b d.start d.mark st ms h (same_some d.start a e) f

pub no_rename : UpdatesRecord → (s : Schedule) (a b : Ts) → AreWellFormedLines s.lines → (moments s).start ≡ Some a → (moments s).end_ts ≡ Some b → NoRename a b (run s).made
no_rename sound s a b w e f = dump_free a b (run s).dump (run s).stage (run s).made (run_good sound s w).1 e f
