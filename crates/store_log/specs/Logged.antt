-- What is recorded: the entries as bytes, and what the next entry depends on.
use Rattle.std.specs.Prelude.{◌≡◌, ℕ, suc, ◌+◌, ◌<◌, ◌≤◌, List, [], ◌∷◌, ◌++◌, length, false, nat_lt, if◌then◌else◌, Option, None}
use Rattle.bson_value.specs.declared.value.Ts.{Ts}
use Rattle.doc_path.specs.declared.parts.Form.{Form}
use Rattle.doc_path.specs.declared.parts.Form.TheVariants.{V2}
use Rattle.capped_oplog.specs.Ring.{Entry, Ring, is_over, pushed, trimmed_down}

-- clock, form of later updates, the timestamps of the newest entry and of the newest rename, the ring, and how many entries were recorded behind the first one
pub record Logged : Type 0 where
  pub clock : ℕ
  pub form : Form
  pub newest : Ts
  pub renamed : Option Ts
  pub ring : Ring
  pub recorded : ℕ

-- the clock's second where that is later, else the next increment
abbrev pub next_ts : ℕ → Ts → Ts
next_ts clock newest = if nat_lt newest.secs clock then record { secs = clock; inc = 1 } else record { secs = newest.secs; inc = suc newest.inc }

-- the ring with one entry more, and without those that the caps don't allow
abbrev pub with_entry : Ring → Entry → Ring
with_entry r e = record r { entries = trimmed_down r.limit (pushed r.cap r.entries e) }

-- what is recorded after one entry more with these bytes
abbrev pub logged : List ℕ → Logged → Logged
logged bytes l =
    let ts = next_ts l.clock l.newest in
    record l { newest = ts; ring = with_entry l.ring (ts, bytes); recorded = l.recorded + 1 }

-- at first: the clock at 1, the second form, and one entry at 1:1
abbrev pub first_log : Ring → List ℕ → Logged
first_log ring bytes =
    let ts : Ts = record { secs = 1; inc = 1 } in
    record { clock = 1; form = V2; newest = ts; renamed = None; ring = record ring { entries = (ts, bytes) ∷ [] }; recorded = 0 }

-- the newest entry stands last
abbrev pub IsLast : Ts → List Entry → Type 0
IsLast ts es = (front : List Entry) × ((bytes : List ℕ) × (es ≡ front ++ (ts, bytes) ∷ []))

-- what holds at each moment: the newest entry stands last; no more entries stand than the caps allow; increments are at most the entries that were recorded
pub record IsKept (newest : Ts) (ring : Ring) (recorded : ℕ) : Type 0 where
  pub last : IsLast newest ring.entries
  pub room : 0 < ring.cap
  pub held : length ring.entries ≤ ring.cap
  pub within : is_over ring.limit ring.entries ≡ false
  pub low : newest.inc ≤ recorded + 1
