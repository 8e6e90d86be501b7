use Rattle.tools_commands.proofs.Numbers.{numbered}
use Rattle.tools_commands.proofs.status.numbers_tell_apart.Goals as goal

pub returns : goal.returns
returns c = numbered
