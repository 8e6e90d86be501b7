-- The fold over the lines of a schedule: commands, and the steps of the dump.
use Rattle.std.specs.Prelude.{ℕ, zero, suc, ◌+◌, length, take, drop, List, [], ◌∷◌, ◌++◌, map as each, filter, Bool, true, false, ◌&&◌, ◌||◌, ◌==◌, not, nat_le, Option, Some, None, is_some, Result, Ok, Err}
use Rattle.std.specs.List.{list_any, list_all}
use Rattle.std.specs.FinMap as map
use Rattle.bson_value.specs.declared.namespace.NsName.{NsName}
use Rattle.bson_value.specs.declared.value.Ts.{Ts}
use Rattle.bson_value.specs.NamespaceOrder.{namespace_cmp}
use Rattle.doc_path.specs.declared.parts.Form.TheVariants.{V2}
use Rattle.coll_state.specs.Rows.{Row, Table, scan}
use Rattle.coll_state.specs.Changes.{no_rows}
use Rattle.copy_model.specs.Cursors.{Cursor, moved_on, ended_now}
use Rattle.copy_model.specs.Copies.{cursors_of}
use Rattle.schedule_model.specs.declared.line.Line.{Line}
use Rattle.schedule_model.specs.declared.line.Line.TheVariants.{Cmd, Dump, Copy, Mark, Tail}
use Rattle.schedule_model.specs.declared.refused.Refused.{Refused}
use Rattle.history_model.specs.Entries.{Nothing, OplogEntry}
use Rattle.history_model.specs.Stages.{Caps, Oplog, Stage, Made, entry_of, first_ts, not_later}
use Rattle.history_model.specs.Commands.{applied}

-- the caps of the oplog, and the lines by their numbers
pub record Schedule : Type 0 where
  pub caps : Caps
  pub lines : List (ℕ × Line)

-- why a line does nothing: a command is refused, a step of the dump has no place there, or it is of a namespace with no open cursor
pub data Refusal : Type 0 where
  NotTaken : Refused → Refusal
  NotNow : Refusal
  NoCursor : Refusal

-- a dump that has started
pub record DumpState : Type 0 where
  pub start : Ts
  pub cursors : map.FinMap namespace_cmp Cursor
  pub last_read : Ts
  pub mark : Option Ts
  pub sent : ℕ
  pub closed : Bool

pub data Outcome : Type 0 where
  Done : Outcome
  Renamed : Ts → Outcome
  Rolled : Ts → Ts → Outcome

-- a step of the dump: the documents that it read of a namespace, and whether the cursor ended; the entries of the window that it sent, and whether they were the last
pub data Step : Type 0 where
  Documents : NsName → List Row → Bool → Step
  Entries : List OplogEntry → Bool → Step

pub record Run : Type 0 where
  pub stage : Stage
  pub made : List Made
  pub dump : Option DumpState
  pub steps : List Step
  pub outcome : Outcome
  pub refused : List (ℕ × Refusal)

abbrev pub first_entry : OplogEntry
first_entry = record { ts = first_ts; content = Nothing }

abbrev pub first_stage : Caps → Stage
first_stage c =
    record { rows = no_rows; clock = 1; form = V2; newest = first_ts; renamed = None; oplog = first_entry ∷ []; caps = c }

abbrev pub first_run : Caps → Run
first_run c = record { stage = first_stage c; made = []; dump = None; steps = []; outcome = Done; refused = [] }

-- all entries, the newest first
abbrev pub newest_first : List Made → Oplog → Oplog
newest_first [] es = es
newest_first (m ∷ ms) es = newest_first ms (entry_of m ∷ es)

abbrev pub all_entries : Run → Oplog
all_entries r = newest_first r.made (first_entry ∷ [])

-- oldest first
abbrev pub entries_from : Run → List OplogEntry
entries_from r = first_entry ∷ each entry_of r.made

-- the entries from the one moment to the other, both included
abbrev pub window : Ts → Ts → List OplogEntry → List OplogEntry
window a b es = filter (λ (e : OplogEntry). not_later a e.ts && not_later e.ts b) es

abbrev pub is_same : Ts → Ts → Bool
is_same a b = (a.secs == b.secs) && (a.inc == b.inc)

-- whether an entry is gone, and the oldest that isn't
abbrev pub is_gone : Ts → Oplog → Bool
is_gone ts es = not (list_any (λ (e : OplogEntry). is_same ts e.ts) es)

abbrev pub oldest : Ts → Oplog → Ts
oldest ts [] = ts
oldest ts (e ∷ es) = oldest e.ts es

-- the dump starts
abbrev pub first_dump_state : Stage → DumpState
first_dump_state st = record { start = st.newest; cursors = map.from_entries (cursors_of (map.entries st.rows.tables)); last_read = st.newest; mark = None; sent = 0; closed = false }

abbrev pub started : Run → Run
started r = record r { dump = Some (first_dump_state r.stage) }

-- a copy step: the documents behind the cursor's position, and the cursor behind them.
abbrev pub seen : ℕ → Cursor → Bool → List Row → List Row × Cursor
seen n c true out = (out, moved_on n c out)
seen n c false out = ([], ended_now c)

abbrev pub looked : ℕ → Cursor → Option Table → List Row × Cursor
looked n c None = seen n c false []
looked n c (Some t) = seen n c (t.incarnation == c.incarnation) (scan c.position n t.rows)

abbrev pub all_ended : map.FinMap namespace_cmp Cursor → Bool
all_ended cs = list_all (λ (e : NsName × Cursor). e.1.ended) (map.entries cs)

-- the newest entry's moment where the last cursor ends
abbrev pub last_read_at : Bool → Ts → Ts → Ts
last_read_at true now before = now
last_read_at false now before = before

abbrev pub with_cursor : map.FinMap namespace_cmp Cursor → Ts → DumpState → DumpState
with_cursor cs now d = record d { cursors = cs; last_read = last_read_at (all_ended cs) now d.last_read }

abbrev pub read_on : NsName → List Row × Cursor → DumpState → Run → Run
read_on n x d r = record r { dump = Some (with_cursor (map.insert d.cursors n x.1) r.stage.newest d); steps = r.steps ++ (Documents n x.0 x.1.ended ∷ []) }

abbrev pub copied_by : NsName → ℕ → Option Cursor → DumpState → Run → Result Run Refusal
copied_by n k None d r = Err NoCursor
copied_by n k (Some c) d r = elim c.ended [ true ↦ Err NoCursor | false ↦ Ok (read_on n (looked k c (map.get r.stage.rows.tables n)) d r) ]

abbrev pub copied : NsName → ℕ → DumpState → Run → Result Run Refusal
copied n k d r = copied_by n k (map.get d.cursors n) d r

-- the mark: Renamed goes before Rolled
abbrev pub renamed_since : Ts → Option Ts → Option Ts
renamed_since start None = None
renamed_since start (Some ts) = elim (not_later start ts) [ true ↦ Some ts | false ↦ None ]

abbrev pub rolled_or : Ts → Oplog → Run → Run → Run
rolled_or start ring failed going = elim (is_gone start ring) [ true ↦ failed | false ↦ going ]

abbrev pub rolled : Ts → Run → Run
rolled start r = record r { outcome = Rolled start (oldest start r.stage.oplog) }

abbrev pub marked_by : Option Ts → DumpState → Run → Run
marked_by (Some ts) d r = record r { outcome = Renamed ts }
marked_by None d r = rolled_or d.start r.stage.oplog (rolled d.start r) (record r { dump = Some (record d { mark = Some r.stage.newest }) })

abbrev pub marked : DumpState → Run → Result Run Refusal
marked d r = elim (is_some d.mark || not (all_ended d.cursors)) [ true ↦ Err NotNow | false ↦ Ok (marked_by (renamed_since d.start r.stage.renamed) d r) ]

-- a tail step: the next entries of the window
abbrev pub sent_on : ℕ → List OplogEntry → DumpState → Run → Run
sent_on n all d r =
    record r {
      dump = Some (record d { sent = d.sent + n; closed = nat_le (length all) (d.sent + n) });
      steps = r.steps ++ (Entries (take n (drop d.sent all)) (nat_le (length all) (d.sent + n)) ∷ []);
    }

abbrev pub tailed_to : ℕ → Option Ts → DumpState → Run → Result Run Refusal
tailed_to n None d r = Err NotNow
tailed_to n (Some e) d r = elim d.closed [ true ↦ Err NotNow | false ↦ Ok (rolled_or d.start r.stage.oplog (rolled d.start r) (sent_on n (window d.start e (entries_from r)) d r)) ]

abbrev pub tailed : ℕ → DumpState → Run → Result Run Refusal
tailed n d r = tailed_to n d.mark d r

-- a dump that failed stays failed; before it starts nothing of it may come
abbrev pub still : Outcome → (DumpState → Run → Result Run Refusal) → DumpState → Run → Result Run Refusal
still Done g d r = g d r
still (Renamed ts) g d r = Ok r
still (Rolled a b) g d r = Ok r

abbrev pub in_dump : (DumpState → Run → Result Run Refusal) → Option DumpState → Run → Result Run Refusal
in_dump g None r = Err NotNow
in_dump g (Some d) r = still r.outcome g d r

abbrev pub dumped : Option DumpState → Run → Result Run Refusal
dumped None r = Ok (started r)
dumped (Some d) r = Err NotNow

abbrev pub commanded : Result (Stage × List Made) Refused → Run → Result Run Refusal
commanded (Err x) r = Err (NotTaken x)
commanded (Ok x) r = Ok (record r { stage = x.0; made = r.made ++ x.1 })

abbrev pub on_line : Line → Run → Result Run Refusal
on_line (Cmd c) r = commanded (applied c r.stage) r
on_line Dump r = dumped r.dump r
on_line (Copy n k) r = in_dump (copied n k) r.dump r
on_line Mark r = in_dump marked r.dump r
on_line (Tail n) r = in_dump (tailed n) r.dump r

abbrev pub or_refused : ℕ → Result Run Refusal → Run → Run
or_refused number (Ok r) before = r
or_refused number (Err x) before = record before { refused = before.refused ++ ((number, x) ∷ []) }

abbrev pub after_line : ℕ × Line → Run → Run
after_line l r = or_refused l.0 (on_line l.1 r) r

abbrev pub after_lines : List (ℕ × Line) → Run → Run
after_lines [] r = r
after_lines (l ∷ ls) r = after_lines ls (after_line l r)

-- after the last line: what is still to do. A step that is refused ends its repeating
abbrev pub repeated : ℕ → (Run → Result Run Refusal) → Run → Run
repeated zero g r = r
repeated (suc n) g r = elim (g r) [ Ok s ↦ repeated n g s | Err x ↦ r ]

abbrev pub last_step : ℕ
last_step = 1000

abbrev pub names_in : Option DumpState → List NsName
names_in None = []
names_in (Some d) = each (λ (e : NsName × Cursor). e.0) (map.entries d.cursors)

abbrev pub rows_left : Option Table → ℕ
rows_left None = 0
rows_left (Some t) = length t.rows

abbrev pub copied_out : List NsName → Run → Run
copied_out [] r = r
copied_out (n ∷ ns) r = copied_out ns (repeated (suc (rows_left (map.get r.stage.rows.tables n))) (on_line (Copy n last_step)) r)

abbrev pub begun : Option DumpState → Run → Run
begun None r = started r
begun (Some d) r = r

abbrev pub tailed_out : Run → Run
tailed_out r = repeated (suc (length r.made)) (on_line (Tail last_step)) r

abbrev pub marked_out : Run → Run
marked_out r = repeated 1 (on_line Mark) r

abbrev pub finished : Run → Run
finished r =
    let s = begun r.dump r in
    tailed_out (marked_out (copied_out (names_in s.dump) s))

abbrev pub run : Schedule → Run
run s = finished (after_lines s.lines (first_run s.caps))
