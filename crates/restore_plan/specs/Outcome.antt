-- What a restore makes of an input: the state of its takings, or why there is none.
use Rattle.std.specs.Prelude.{⊤, ◌≡◌, ◌⊎◌, ℕ, List, [], ◌∷◌, ◌++◌, Option, Some, None}
use Rattle.archive_format.specs.declared.fault.FormatFault.{FormatFault}
use Rattle.archive_format.specs.Archive.{Taking, Content, EndsOf, next, short}
use Rattle.demux.specs.Told.{Reach}
use Rattle.state_model.specs.States.{State}
use Rattle.restore_plan.specs.declared.plan.Plan.{Plan}
use Rattle.restore_plan.specs.declared.fault.RestoreFault.{RestoreFault}
use Rattle.restore_plan.specs.Base.{entries, restored, first_bad, bad_at, or_later}
use Rattle.restore_plan.specs.Taken.{Contents, finished, first_unknown, index_fault}

pub data Outcome : Type 0 where
  restores : State → Outcome
  refuses : FormatFault → Outcome
  fails : RestoreFault → Outcome

-- what is met once all takings were taken: the first entry that isn't replayed, or else the first fault of the indexes
abbrev pub met_at_end : Plan → List Taking → Option RestoreFault
met_at_end p ts = or_later (first_unknown (entries p ts)) (index_fault (restored p ts))

-- the bytes are an archive none of whose takings is refused
abbrev pub IsAccepted : Plan → List ℕ → List Taking → Type 0
IsAccepted p bytes ts = Content bytes ts × (first_bad p ts ≡ None)

-- all takings of such an archive were taken: what waits makes of the state what all entries make of the base
abbrev pub TakesAll : Plan → List ℕ → Contents → Type 0
TakesAll p bytes c = (ts : List Taking) × IsAccepted p bytes ts × (finished c ≡ restored p ts) × (first_unknown c.entries ≡ first_unknown (entries p ts))

-- such an archive, of which this is met at the end
abbrev pub FailsAtEnd : Plan → List ℕ → RestoreFault → Type 0
FailsAtEnd p bytes f = (ts : List Taking) × IsAccepted p bytes ts × (met_at_end p ts ≡ Some f)

-- the first taking that is refused, of those in front of a fault of the format or the end
abbrev pub StopsAt : Plan → List ℕ → RestoreFault → Type 0
StopsAt p bytes f = (ts : List Taking) × (e : Option FormatFault) × EndsOf bytes ts e × (first_bad p ts ≡ Some f)

-- the state of such an archive of which nothing is met at the end; a fault of the format behind a clean front of takings that aren't refused; or why a restore of it fails
abbrev pub IsOutcome : Plan → List ℕ → Outcome → Type 0
IsOutcome p bytes (restores s) = (ts : List Taking) × IsAccepted p bytes ts × (met_at_end p ts ≡ None) × (s ≡ restored p ts)
IsOutcome p bytes (refuses f) = (ts : List Taking) × EndsOf bytes ts (Some f) × (first_bad p ts ≡ None)
IsOutcome p bytes (fails f) = StopsAt p bytes f ⊎ FailsAtEnd p bytes f

-- a fact about an input that is known
abbrev pub OnInput : Option (List ℕ) → (List ℕ → Type 0) → Type 0
OnInput None P = ⊤
OnInput (Some all) P = P all

-- the takings of a clean front were taken, none of which is refused, and no more than the window was read behind it
pub record IsReadTo (p : Plan) (bytes : List ℕ) (now : Option (List ℕ)) : Type 0 where
  pub given : List Taking
  pub fine : first_bad p given ≡ None
  pub reach : Reach bytes now given

-- directly behind that front the input is refused
abbrev pub IsRefusedAt : (p : Plan) (bytes : List ℕ) (now : Option (List ℕ)) → IsReadTo p bytes now → Outcome → Type 0
IsRefusedAt p bytes now r (restores s) = ⊥
IsRefusedAt p bytes now r (refuses f) = EndsOf bytes r.given (Some f)
IsRefusedAt p bytes now r (fails f) = (t : Taking) × (more : List Taking) × (e : Option FormatFault) × EndsOf bytes (r.given ++ (t ∷ more)) e × (bad_at p t ≡ Some f)

-- the input is refused, and this much of it was read
abbrev pub IsRefused : Plan → List ℕ → Option (List ℕ) → Outcome → Type 0
IsRefused p bytes now o = (r : IsReadTo p bytes now) × IsRefusedAt p bytes now r o

-- this is why it isn't restored: the input is refused so, or all of it was read, and that is met at the end
abbrev pub IsMet : Plan → List ℕ → Option (List ℕ) → RestoreFault → Type 0
IsMet p bytes now f = IsRefused p bytes now (fails f) ⊎ ((now ≡ Some []) × FailsAtEnd p bytes f)

-- what was read has no refusal in it: behind that front stands less than an item, and no fault yet
abbrev pub IsUnsettled : Plan → List ℕ → Option (List ℕ) → Type 0
IsUnsettled p bytes now = (r : IsReadTo p bytes now) × (held left : List ℕ) × (now ≡ Some left) × (r.reach.rest ≡ held ++ left) × (next r.reach.stage r.reach.to held ≡ short)

-- the law that an input that is refused has that outcome
abbrev pub RefusedIsOutcome : Type 0
RefusedIsOutcome = (p : Plan) (bytes : List ℕ) (now : Option (List ℕ)) (o : Outcome) → IsRefused p bytes now o → IsOutcome p bytes o

-- the law that each input has one outcome
abbrev pub OneOutcome : Type 0
OneOutcome = (p : Plan) (bytes : List ℕ) → ((o : Outcome) × IsOutcome p bytes o) × ((o q : Outcome) → IsOutcome p bytes o → IsOutcome p bytes q → o ≡ q)
