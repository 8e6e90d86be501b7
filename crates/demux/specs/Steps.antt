-- What one turn of the demultiplexer does, in the words of the grammar.
use Rattle.std.specs.Prelude.{⊤, ℕ, ◌≡◌, List, [], ◌∷◌, ◌++◌, Bool, true, Option, Some, None, Result, Ok, Err, slice_get}
use Rattle.bson_value.specs.declared.namespace.NsName.{NsName}
use Rattle.bson_check.specs.declared.fault.BsonFault.{BsonFault}
use Rattle.archive_prelude.specs.declared.prelude.Meta.{Meta}
use Rattle.archive_format.specs.Archive.{Item, text_of, IsItem, Taking, meta, Seen, Stage, Verdict, goes, bad, Asks, Next, short, onward, wrong}
use Rattle.archive_format.specs.declared.fault.FormatFault.{FormatFault}
use Rattle.archive_format.specs.declared.fault.FormatFault.TheVariants as formats
use Rattle.demux.specs.declared.fault.DemuxFault.{DemuxFault}
use Rattle.demux.specs.declared.fault.DemuxFault.TheVariants as faults
use Rattle.demux.specs.declared.taker.Halt.{Halt}
use Rattle.demux.specs.declared.taker.Halt.TheVariants as halts
use Rattle.demux.specs.Takes.{Took}
use Rattle.demux.specs.declared.progress.Progress.{Progress}

abbrev pub stage_of : Progress → Stage
stage_of p = record { place = p.place; metas = p.metas; seen = p.seen }

-- the fault that a halt of the taker is
abbrev pub halt_fault : Halt → DemuxFault
halt_fault halts.Stopped = faults.Stopped
halt_fault halts.NoMemory = faults.NoMemory

-- the fault of bytes that are no document of BSON
abbrev pub IsUnread : FormatFault → ℕ → Option BsonFault → Type 0
IsUnread (formats.BadBson a k) at (Some f) = (a ≡ at) × (k ≡ f.kind)
IsUnread f at x = ⊥

-- the same, or want of memory
abbrev pub Unread : DemuxFault → ℕ → Option BsonFault → Type 0
Unread faults.NoMemory at x = ⊤
Unread (faults.Format f) at x = IsUnread f at x
Unread f at x = ⊥

-- a fault of the grammar, of the taker, who tells of the taking at which it stopped, or want of memory. Nothing was taken then
abbrev pub Halted : {K : Type 0} → DemuxFault → Verdict → (K → Taking → K) → Option K → Option K → (Taking → Bool) → Type 0
Halted (faults.Format f) v adds old new why = (v ≡ bad f) × Took adds old new []
Halted faults.NoMemory v adds old new why = Took adds old new []
Halted faults.ReadFault v adds old new why = ⊥
Halted faults.Stopped v adds old new why = (t : Stage) × (one : Taking) × (v ≡ goes t (one ∷ [])) × Took adds old new [] × (why one ≡ true)

-- the verdict on the item, and what was handed out
abbrev pub Stepped : {U K : Type 0} → Result U DemuxFault → Stage → Verdict → (K → Taking → K) → Option K → Option K → (Taking → Bool) → Type 0
Stepped (Ok u) t v adds old new why = (ts : List Taking) × (v ≡ goes t ts) × Took adds old new ts
Stepped (Err f) t v adds old new why = Halted f v adds old new why

-- the same of an item that hands out nothing
abbrev pub Passes : {U : Type 0} → Result U FormatFault → Stage → Verdict → Type 0
Passes (Ok u) t v = v ≡ goes t []
Passes (Err f) t v = v ≡ bad f

-- a fault of the grammar, or want of memory
abbrev pub Refused : DemuxFault → Verdict → Type 0
Refused (faults.Format f) v = v ≡ bad f
Refused faults.NoMemory v = ⊤
Refused f v = ⊥

abbrev pub Quiet : {U : Type 0} → Result U DemuxFault → Stage → Verdict → Type 0
Quiet (Ok u) t v = v ≡ goes t []
Quiet (Err f) t v = Refused f v

-- the same of metadata that are handed out, unless they are passed over
abbrev pub Notes : Result (Option Meta) DemuxFault → Stage → Verdict → Type 0
Notes (Ok None) t v = v ≡ goes t []
Notes (Ok (Some m)) t v = v ≡ goes t (meta m.ns m.text ∷ [])
Notes (Err f) t v = Refused f v

-- the same of an item that hands out one taking of the namespace with this number
abbrev pub Names : {U : Type 0} → Result U FormatFault → Stage → Verdict → ℕ → (NsName → Taking) → Type 0
Names (Ok u) t v i one = (e : Seen) × (slice_get t.seen i ≡ Some e) × (v ≡ goes t (one e.ns ∷ []))
Names (Err f) t v i one = v ≡ bad f

-- what reading shows at a place, and what was handed out
abbrev pub Stuck : {K : Type 0} → DemuxFault → Next → (K → Taking → K) → Option K → Option K → (Taking → Bool) → Type 0
Stuck (faults.Format f) x adds old new why = (x ≡ wrong f) × Took adds old new []
Stuck faults.NoMemory x adds old new why = Took adds old new []
Stuck faults.ReadFault x adds old new why = ⊥
Stuck faults.Stopped x adds old new why = (t : Stage) × (one : Taking) × (n : ℕ) × (x ≡ onward t (one ∷ []) n) × Took adds old new [] × (why one ≡ true)

abbrev pub Turned : {K : Type 0} → Result (Option ℕ) DemuxFault → Stage → Next → (K → Taking → K) → Option K → Option K → Stage → (Taking → Bool) → Type 0
Turned (Ok None) t x adds old new s why = (x ≡ short) × (t ≡ s) × Took adds old new []
Turned (Ok (Some n)) t x adds old new s why = (ts : List Taking) × (x ≡ onward t ts n) × Took adds old new ts
Turned (Err f) t x adds old new s why = Stuck f x adds old new why

-- no fault, or this one
abbrev pub Closes : {U : Type 0} → Result U FormatFault → Option FormatFault → Type 0
Closes (Ok u) e = e ≡ None
Closes (Err f) e = e ≡ Some f

-- the bytes begin with an item that asks for memory
pub record AsksFirst (s : Stage) (bytes : List ℕ) : Type 0 where
  pub item : Item
  pub rest : List ℕ
  pub is : IsItem item
  pub text : bytes ≡ text_of item ++ rest
  pub asks : Asks s item
