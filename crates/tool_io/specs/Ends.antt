-- What an end of the tools tells in contracts.
use Rattle.std.specs.Prelude.{ℕ, List, Option}

-- the bytes that are left to read or that were written, where they are known, and how often it failed
pub record End : Type 0 where
  pub bytes : Option (List ℕ)
  pub faults : ℕ
