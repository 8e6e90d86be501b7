-- What a taker knows of what it was given.
use Rattle.std.specs.Prelude.{⊤, ◌≡◌, List, fold, Option, Some, None}
use Rattle.archive_format.specs.Archive.{Taking}

-- what was known grew by these takings, one after the other
abbrev pub Took : {K : Type 0} → (K → Taking → K) → Option K → Option K → List Taking → Type 0
Took adds None new ts = ⊤
Took adds (Some k) None ts = ⊥
Took adds (Some k) (Some l) ts = l ≡ fold adds k ts
