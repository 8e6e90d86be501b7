-- What is said where the words are no command, by the status.
use Rattle.std.specs.Prelude.{⊤, ◌≡◌, ℕ}
use Rattle.tools_commands.specs.declared.status.Status.{Status}
use Rattle.tools_commands.specs.declared.status.Status.TheVariants as is
use Rattle.tools_commands.specs.Statuses.{Gives}
use Rattle.tools_commands.specs.Ends.{Turn, Same, Untouched}

-- the status names this place, unless memory was short
abbrev pub Names : ℕ → Status → Type 0
Names at (is.Usage place) = place ≡ at
Names at is.NoMemory = ⊤
Names at _ = ⊥

pub record UsageAnswers (at : ℕ) (status : Status) (input output report : Turn) : Type 0 where
  pub names : Names at status
  pub unread : Same input
  pub unwritten : Same output
  pub silent : Untouched report
  pub due : Gives status 1
