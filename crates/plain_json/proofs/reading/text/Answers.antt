use Rattle.plain_json.proofs.Values.{text_read}
use Rattle.plain_json.proofs.reading.text.Goals as goal

pub returns-in_ok-of-in-Some-clause-read : goal.returns-in_ok-of-in-Some-clause-read
returns-in_ok-of-in-Some-clause-read c levels = rw c.in_ok-of-in-Some.ensures (text_read levels _ _ _ c.in-Some.ensures.gives)
