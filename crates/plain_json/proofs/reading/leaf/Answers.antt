use Rattle.plain_json.proofs.Wholes.{bits_read}
use Rattle.plain_json.proofs.reading.leaf.Goals as goal

pub returns-then-first-lt58-clause-read : goal.returns-then-first-lt58-clause-read
returns-then-first-lt58-clause-read c levels = bits_read levels c.args.bytes.now _ _ c.in_ok-number-in-len1-up.ensures.read
