use Rattle.std.proofs.Common.{ap, ◌∙◌}
use Rattle.std.specs.Prelude.{unwrap_or}
use Rattle.dump_run.proofs.Places.{oldest_is}
use Rattle.dump_run.proofs.window.oldest_of.Goals as goal

pub returns : goal.returns
returns c = λ es e. c.unwrap_or.ensures ∙ (ap (λ (o : _). unwrap_or o c.args.start) c.oldest.ensures ∙ oldest_is c.args.start c.args.oplog.now.entries es e)
