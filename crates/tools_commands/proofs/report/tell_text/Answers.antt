use Rattle.tools_commands.proofs.Telling.{no_line}
use Rattle.tools_commands.proofs.report.tell_text.Goals as goal

pub returns-in-Err : goal.returns-in-Err
returns-in-Err g c = no_line c.args.status _ _ c.tell_line-in-Err.ensures
