use Rattle.std.proofs.Common.{sym}
use Rattle.bson_view.proofs.Meanings.{faultless, faultless_read, faultless_checked}
use Rattle.bson_view.proofs.view.View.check.Goals as goal

pub invariant_of-result : goal.invariant_of-result
invariant_of-result c = record { checked = faultless_checked c.args.max c.args.depth c.args.bytes.now (sym c.in-Ok.ensures.fault) }

pub returns-in-Ok-clause-document : goal.returns-in-Ok-clause-document
returns-in-Ok-clause-document c = faultless c.args.max c.args.depth c.args.bytes.now (sym c.in-Ok.ensures.fault)

pub returns-in-Ok-clause-read : goal.returns-in-Ok-clause-read
returns-in-Ok-clause-read c = faultless_read c.args.max c.args.depth c.args.bytes.now (sym c.in-Ok.ensures.fault)
