-- What a run tells of the whole input, and what holds on the way.
use Rattle.std.specs.Prelude.{length, ◌+◌, ◌≤◌, ◌⊎◌, ⊤, ℕ, ◌≡◌, List, [], ◌∷◌, ◌++◌, Bool, true, Option, Some, None, Result, Ok, Err}
use Rattle.archive_format.specs.Archive.{Taking, Stage, start, Clean, limit, next, short, EndsOf}
use Rattle.demux.specs.Takes.{Took}
use Rattle.demux.specs.Steps.{AsksFirst}
use Rattle.archive_format.specs.declared.fault.FormatFault.{FormatFault}
use Rattle.demux.specs.declared.fault.DemuxFault.{DemuxFault}
use Rattle.demux.specs.declared.fault.DemuxFault.TheVariants as faults

-- a place is no more than the window's length before the last byte that was read
abbrev pub IsNear : ℕ → ℕ → Option (List ℕ) → Type 0
IsNear size to None = ⊥
IsNear size to (Some left) = size ≤ to + (16793600 + length left)

-- the window holds what follows a clean front of the whole input, and this is left
pub record Holds (all : List ℕ) (s : Stage) (at : ℕ) (held left : List ℕ) (given : List Taking) : Type 0 where
  pub clean : Clean start 0 all s at (held ++ left) given
  pub within : at ≤ limit

-- the same where it is known what the source has left
abbrev pub Watch : Option (List ℕ) → Option (List ℕ) → Stage → ℕ → List ℕ → List Taking → Type 0
Watch None now s at held given = ⊤
Watch (Some all) None s at held given = ⊥
Watch (Some all) (Some left) s at held given = Holds all s at held left given

pub record Stands {K : Type 0} (first now : Option (List ℕ)) (s : Stage) (at : ℕ) (held : List ℕ) (adds : K → Taking → K) (before known : Option K) : Type 0 where
  pub given : List Taking
  pub watch : Watch first now s at held given
  pub took : Took adds before known given

-- these takings are those of a clean front, and no more than the window's length was read behind it
pub record Reach (all : List ℕ) (now : Option (List ℕ)) (given : List Taking) : Type 0 where
  pub stage : Stage
  pub to : ℕ
  pub rest : List ℕ
  pub clean : Clean start 0 all stage to rest given
  pub near : IsNear (length all) to now

-- the taker was given the takings of the longest clean front, behind which there is this fault or none
pub record Whole {K : Type 0} (all : List ℕ) (e : Option FormatFault) (adds : K → Taking → K) (before known : Option K) : Type 0 where
  pub given : List Taking
  pub ends : EndsOf all given e
  pub took : Took adds before known given

-- the same of a fault, and how far the input was read
pub record Wrong {K : Type 0} (all : List ℕ) (now : Option (List ℕ)) (f : FormatFault) (adds : K → Taking → K) (before known : Option K) : Type 0 where
  pub whole : Whole all (Some f) adds before known
  pub reach : Reach all now whole.given

-- the taker was given the first of them
pub record Part {K : Type 0} (all : List ℕ) (now : Option (List ℕ)) (adds : K → Taking → K) (before known : Option K) : Type 0 where
  pub given : List Taking
  pub more : List Taking
  pub fault : Option FormatFault
  pub ends : EndsOf all (given ++ more) fault
  pub took : Took adds before known given
  pub reach : Reach all now given

-- the same, and it refused the next, of which it tells
pub record Stop {K : Type 0} (all : List ℕ) (now : Option (List ℕ)) (adds : K → Taking → K) (before known : Option K) (why : Taking → Bool) : Type 0 where
  pub given : List Taking
  pub refused : Taking
  pub more : List Taking
  pub fault : Option FormatFault
  pub ends : EndsOf all (given ++ (refused ∷ more)) fault
  pub took : Took adds before known given
  pub told : why refused ≡ true
  pub reach : Reach all now given

-- there was no memory: the taker had none, or directly behind what it was given stands an item that asks for memory
pub record Starved {K : Type 0} (all : List ℕ) (now : Option (List ℕ)) (adds : K → Taking → K) (before known : Option K) (rose : Type 0) : Type 0 where
  pub part : Part all now adds before known
  pub cause : rose ⊎ AsksFirst part.reach.stage part.reach.rest

-- a read failed: what was read behind what the taker was given is less than an item, and no fault yet
pub record Broken {K : Type 0} (all : List ℕ) (now : Option (List ℕ)) (adds : K → Taking → K) (before known : Option K) : Type 0 where
  pub part : Part all now adds before known
  pub held : List ℕ
  pub left : List ℕ
  pub now_left : now ≡ Some left
  pub is_rest : part.reach.rest ≡ held ++ left
  pub unsettled : next part.reach.stage part.reach.to held ≡ short

abbrev pub Tells_fault : {K : Type 0} → DemuxFault → List ℕ → Option (List ℕ) → (K → Taking → K) → Option K → Option K → (Taking → Bool) → Type 0 → Type 0
Tells_fault (faults.Format f) all now adds before known why rose = Wrong all now f adds before known
Tells_fault faults.NoMemory all now adds before known why rose = Starved all now adds before known rose
Tells_fault faults.ReadFault all now adds before known why rose = Broken all now adds before known
Tells_fault faults.Stopped all now adds before known why rose = Stop all now adds before known why

abbrev pub Fault_told : {K : Type 0} → DemuxFault → Option (List ℕ) → Option (List ℕ) → (K → Taking → K) → Option K → Option K → (Taking → Bool) → Type 0 → Type 0
Fault_told f None now adds before known why rose = ⊤
Fault_told f (Some all) now adds before known why rose = Tells_fault f all now adds before known why rose

-- the input was read to its end, and is an archive
abbrev pub End_told : {K : Type 0} → Option (List ℕ) → Option (List ℕ) → (K → Taking → K) → Option K → Option K → Type 0
End_told None now adds before known = ⊤
End_told (Some all) now adds before known = (now ≡ Some []) × Whole all None adds before known

-- `rose`: the taker found no memory in this run
abbrev pub Tells : {U K : Type 0} → Result U DemuxFault → Option (List ℕ) → Option (List ℕ) → (K → Taking → K) → Option K → Option K → (Taking → Bool) → Type 0 → Type 0
Tells (Ok u) first now adds before known why rose = End_told first now adds before known
Tells (Err f) first now adds before known why rose = Fault_told f first now adds before known why rose

-- one turn: on from another place, at the end, or a fault
abbrev pub Turns : {K : Type 0} → Result (Option ℕ) DemuxFault → Option (List ℕ) → Option (List ℕ) → Stage → List ℕ → (K → Taking → K) → Option K → Option K → (Taking → Bool) → Type 0 → Type 0
Turns (Ok (Some at)) first now s held adds before known why rose = Stands first now s at held adds before known
Turns (Ok None) first now s held adds before known why rose = End_told first now adds before known
Turns (Err f) first now s held adds before known why rose = Fault_told f first now adds before known why rose
