use Rattle.std.specs.Prelude.{◌==◌}
use Rattle.schedule_text.proofs.LineEnds.{first_place}
use Rattle.schedule_text.proofs.lines.line_feed.Goals as goal

pub returns : goal.returns
returns c = first_place (λ b. b == 10) c.args.bytes.now c.memchr.result c.memchr.ensures
