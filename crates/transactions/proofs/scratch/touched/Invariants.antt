use Rattle.std.proofs.Common.{take}
use Rattle.transactions.proofs.Parts.{IsShowing}
use Rattle.transactions.proofs.scratch.touched.Given as goal

abbrev pub invariant-loop-command : goal.invariant-loop-command
invariant-loop-command l = IsShowing (take l.command-index l.commands) l.part l.state
