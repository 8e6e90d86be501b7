-- What the whole call makes of the archive of a dump: it writes the listing of the source, with each transaction whole or not at all, and nothing but a fault of an end or want of memory keeps it from that.
use Rattle.std.specs.Prelude.{◌≡◌, ◌⊎◌, ℕ, List, [], true, Ok, Some}
use Rattle.copy_model.specs.Writes.{SingleWrite}
use Rattle.bson_value.specs.declared.value.Ts.{Ts}
use Rattle.schedule_text.specs.declared.schedule.Schedule.{Schedule}
use Rattle.schedule_text.specs.Reading.{schedule_of}
use Rattle.schedule_report.specs.Schedules.{schedule_in}
use Rattle.state_listing.specs.Listing.{listing}
use Rattle.history_model.specs.Runs.{Done}
use Rattle.history_model.specs.Histories.{moments, outcome, at}
use Rattle.history_model.specs.Stages.{Write, Txn}
use Rattle.history_model.specs.Laws.{IsLate}
use Rattle.dump_model.specs.Archives.{written}
use Rattle.restored_source.specs.Laws.{source_taken}
use Rattle.whole_transactions.specs.Laws.{IsCommitted, IsWhole}
use Rattle.tools_words.specs.declared.order.Order.TheVariants as orders
use Rattle.tools_words.specs.declared.order.RestoreOrder.{RestoreOrder}
use Rattle.tools_words.specs.Words.{meaning_of}
use Rattle.tools_commands.specs.Ends.{Turn, Failed, Writes}

-- the text is that of a schedule whose dump is done. The words mean a restore that replays up to a limit later than the last read of the copy, or to the end, and the archive of the dump is on the input
pub record RestoresDump (text : List ℕ) (s : Schedule) (words : List (List ℕ)) (order : RestoreOrder) (input : Turn) : Type 0 where
  pub read : schedule_of text ≡ Ok s
  pub done : outcome (schedule_in s) ≡ Done
  pub means : meaning_of words ≡ Ok (orders.Restore order)
  pub replaying : order.plan.replaying ≡ true
  pub last_read : Ts
  pub copied : (moments (schedule_in s)).last_read ≡ Some last_read
  pub late : IsLate order.plan.limit last_read
  pub given : input.before.bytes ≡ Some (written (schedule_in s))

-- where the status is 0, just this was written: the listing of the source just before the limit, or at End, of the collections that the filter takes; and the input was read to its end
abbrev pub ListsDump : List (List ℕ) → ℕ → Turn → Turn → Type 0
ListsDump words code input output =
    (text : List ℕ) (s : Schedule) (order : RestoreOrder) → RestoresDump text s words order input → code ≡ 0 →
    Writes output (listing order.form (source_taken (schedule_in s) order.plan)) × (input.after.bytes ≡ Some [])

-- where the status is 0 and a transaction was committed in that schedule, the state that was cut to what the filter takes, and whose listing was written, has all writes of the transaction or none
abbrev pub ListsWholeTransactions : List (List ℕ) → ℕ → Turn → Turn → Type 0
ListsWholeTransactions words code input output =
    (text : List ℕ) (s : Schedule) (order : RestoreOrder) → RestoresDump text s words order input →
    code ≡ 0 → (earlier : List (Ts × Write)) (ts : Ts) (ws : List SingleWrite) (later : List (Ts × Write)) → IsCommitted (schedule_in s) earlier ts ws later →
    Writes output (listing order.form (source_taken (schedule_in s) order.plan)) × IsWhole earlier (ts, Txn ws) later (at (schedule_in s) order.plan.limit)

-- where no fault of the input or the output rose, the status is 0, or that of missing memory
abbrev pub CompletesDump : List (List ℕ) → ℕ → Turn → Turn → Type 0
CompletesDump words code input output =
    (text : List ℕ) (s : Schedule) (order : RestoreOrder) → RestoresDump text s words order input →
    (Failed input → ⊥) → (Failed output → ⊥) → (code ≡ 0) ⊎ (code ≡ 11)
