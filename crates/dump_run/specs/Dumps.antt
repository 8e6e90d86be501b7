-- A dump that is under way, and the run at which it stands.
use Rattle.std.specs.Prelude.{ℕ, ◌≡◌, ◌-◌, ◌≤◌, ◌^◌, min, List, Bool, false, Option, None, Some, option_map, refl}
use Rattle.std.specs.Coded.{Coded, code_by, coded×, coded_ℕ, coded_bool, coded_option}
use Rattle.std.specs.FinMap as map
use Rattle.bson_value.specs.declared.namespace.NsName.{NsName}
use Rattle.bson_value.specs.declared.value.Ts.{Ts}
use Rattle.bson_value.specs.NamespaceOrder.{namespace_cmp}
use Rattle.archive_format.specs.Written.{Writing}
use Rattle.archive_content.specs.Pieces.{sum_of}
use Rattle.coll_state.specs.Codes.{name_code}
use Rattle.copy_model.specs.Cursors.{Cursor}
use Rattle.history_model.specs.Runs.{Run, Step, DumpState, Done}
use Rattle.history_model.specs.Histories.{documents_in, entries_in}
use Rattle.dump_model.specs.Archives.{oplog, all_pieces}
use Rattle.dump_copies.specs.Steps.{cursor_code, writing_code}
use Rattle.dump_run.specs.declared.fault.DumpFault.{DumpFault}
use Rattle.dump_run.specs.contracts.fault.DumpFault as fault_contract

-- its moments and cursors, the writers of its namespaces and that of the oplog, how many documents and entries it has written, and the fault with which it failed
pub record Dumping : Type 0 where
  pub state : DumpState
  pub writers : map.FinMap namespace_cmp Writing
  pub oplog : Writing
  pub documents : ℕ
  pub entries : ℕ
  pub failed : Option DumpFault

abbrev pub ts_code : Coded Ts
ts_code = code_by (ℕ × ℕ) (coded× coded_ℕ coded_ℕ) (λ t. (t.secs, t.inc)) (λ p. record { secs = p.0; inc = p.1 }) (λ _. refl)

abbrev pub state_code : Coded DumpState
state_code =
    code_by (Ts × (map.FinMap namespace_cmp Cursor × (Ts × (Option Ts × (ℕ × Bool)))))
    (coded× ts_code (coded× (map.code name_code cursor_code) (coded× ts_code (coded× (coded_option ts_code) (coded× coded_ℕ coded_bool)))))
    (λ s. (s.start, (s.cursors, (s.last_read, (s.mark, (s.sent, s.closed))))))
    (λ p. record { start = p.0; cursors = p.1.0; last_read = p.1.1.0; mark = p.1.1.1.0; sent = p.1.1.1.1.0; closed = p.1.1.1.1.1 })
    (λ _. refl)

abbrev pub dumping_code : Coded Dumping
dumping_code =
    code_by (DumpState × (map.FinMap namespace_cmp Writing × (Writing × (ℕ × (ℕ × Option DumpFault)))))
    (coded× state_code (coded× (map.code name_code writing_code) (coded× writing_code (coded× coded_ℕ (coded× coded_ℕ (coded_option fault_contract.the_row.coded))))))
    (λ d. (d.state, (d.writers, (d.oplog, (d.documents, (d.entries, d.failed))))))
    (λ p. record { state = p.0; writers = p.1.0; oplog = p.1.1.0; documents = p.1.1.1.0; entries = p.1.1.1.1.0; failed = p.1.1.1.1.1 })
    (λ _. refl)

-- a count stands still at the last number of 64 bits
abbrev pub counted : ℕ → ℕ
counted n = min n (2 ^ 64 - 1)

-- a namespace whose documents in these steps were written
abbrev pub writing_of : NsName → List Step → Writing
writing_of n ss = record { ns = n; sum = sum_of n (all_pieces ss) }

-- the dump stands where the run does, and hasn't failed
pub record Meets (d : Dumping) (r : Run) : Type 0 where
  pub there : r.dump ≡ Some d.state
  pub done : r.outcome ≡ Done
  pub going : d.failed ≡ None
  pub writers : (n : NsName) → map.get d.writers n ≡ option_map (λ (c : Cursor). writing_of n r.steps) (map.get d.state.cursors n)
  pub others : map.get d.state.cursors oplog ≡ None
  pub oplog_writer : d.oplog ≡ writing_of oplog r.steps
  pub documents : d.documents ≡ counted (documents_in r.steps)
  pub entries : d.entries ≡ counted (entries_in r.steps)
  -- no more was sent than a ring holds
  pub few : d.state.closed ≡ false → d.state.sent ≤ 1000000
