use Rattle.bson_view.proofs.Meanings.{faultless, faultless_read, faultless_checked}
use Rattle.bson_view.proofs.view.View.of.Goals as goal

pub invariant_of-result : goal.invariant_of-result
invariant_of-result c = record { checked = faultless_checked 16793600 200 c.args.bytes.now c.requires }

pub returns-clause-document : goal.returns-clause-document
returns-clause-document c = faultless 16793600 200 c.args.bytes.now c.requires

pub returns-clause-read : goal.returns-clause-read
returns-clause-read c = faultless_read 16793600 200 c.args.bytes.now c.requires
