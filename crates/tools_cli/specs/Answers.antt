-- What a call says of the ends that were lent: what the words mean says it, by the status that the call came to, and that status is
-- told.
use Rattle.std.specs.Prelude.{◌≡◌, ℕ, Ok, Err}
use Rattle.drill_run.specs.Drills.{drill_line}
use Rattle.tools_words.specs.declared.order.Order.TheVariants as orders
use Rattle.tools_commands.specs.declared.status.Status.{Status}
use Rattle.tools_cli.specs.declared.texts.TheConstants.{HELP, VERSION}
use Rattle.tools_words.specs.Words.{Meaning}
use Rattle.tools_commands.specs.Statuses.{code_of}
use Rattle.tool_io.specs.Ends.{End}
use Rattle.tools_commands.specs.Ends.{Turn}
use Rattle.tools_commands.specs.Telling.{Told}
use Rattle.tools_commands.specs.SourceAnswers.{SourceAnswers}
use Rattle.tools_commands.specs.DumpAnswers.{DumpAnswers}
use Rattle.tools_commands.specs.RestoreAnswers.{RestoreAnswers}
use Rattle.tools_cli.specs.ShowAnswers.{ShowAnswers}
use Rattle.tools_cli.specs.UsageAnswers.{UsageAnswers}

-- what was done with the input, the output and, while the command ran, the report
abbrev pub Says : Meaning → Status → Turn → Turn → Turn → Type 0
Says (Ok (orders.Source order)) status input output report = SourceAnswers order status input output report
Says (Ok orders.Dump) status input output report = DumpAnswers status input output report
Says (Ok (orders.Restore order)) status input output report = RestoreAnswers order status input output report
Says (Ok (orders.Drill n)) status input output report = ShowAnswers (drill_line n) status input output report
Says (Ok orders.Help) status input output report = ShowAnswers HELP.now status input output report
Says (Ok orders.Version) status input output report = ShowAnswers VERSION.now status input output report
Says (Err at) status input output report = UsageAnswers at status input output report

-- The whole call: what the words mean, the status as a number, and the ends.
pub record Answers (m : Meaning) (code : ℕ) (input output report : Turn) : Type 0 where
  -- what the command came to, and the report then
  pub status : Status
  pub ran : End
  pub says : Says m status input output (record { before = report.before; after = ran })
  -- and what it is once that was told
  pub final : Status
  pub told : Told status final (record { before = ran; after = report.after })
  pub number : code ≡ code_of final
