use Rattle.plain_json.proofs.Values.{null_read, true_read, false_read}
use Rattle.plain_json.proofs.reading.constant.Goals as goal

pub returns-in-Some-clause-read : goal.returns-in-Some-clause-read
returns-in-Some-clause-read c levels = rw c.in-Some.ensures.word (null_read levels c.in-Some.rest.now)

pub returns-in-Some-word-clause-read : goal.returns-in-Some-word-clause-read
returns-in-Some-word-clause-read c levels = rw c.in-Some-word.ensures.word (true_read levels c.in-Some-word.rest.now)

pub returns-in-Some-word-2-clause-read : goal.returns-in-Some-word-2-clause-read
returns-in-Some-word-2-clause-read c levels = rw c.in-Some-word-2.ensures.word (false_read levels c.in-Some-word-2.rest.now)
