-- What a command says that reads nothing and shows a text, as `drill`, `--help` and `--version`, by its status.
use Rattle.std.specs.Prelude.{ℕ, List}
use Rattle.tools_commands.specs.declared.status.Status.{Status}
use Rattle.tools_commands.specs.declared.status.Status.TheVariants as is
use Rattle.tools_commands.specs.Statuses.{Gives}
use Rattle.tools_commands.specs.Ends.{Turn, Same, Untouched, Failed, Writes, WritesFront}

abbrev pub Shown : List ℕ → Status → Turn → Type 0
Shown text is.Done output = Writes output text
Shown text is.WriteFault output = Failed output × WritesFront output text
Shown text is.NoMemory output = WritesFront output text
Shown text _ output = ⊥

pub record ShowAnswers (text : List ℕ) (status : Status) (input output report : Turn) : Type 0 where
  pub unread : Same input
  pub shown : Shown text status output
  -- nothing is told while it runs
  pub silent : Untouched report
  pub due : Gives status 0
