use Rattle.dump_run.proofs.Reading.{meets_begin}
use Rattle.dump_run.proofs.dump.begin.Goals as goal

pub returns : goal.returns
returns c = λ r st z d. meets_begin c.args.store.now c.in_ok-begin.field-0 c.in_ok-oplog_writer.field-0 c.newest-now.result r c.in_ok-begin.ensures.begun c.in_ok-begin.ensures.others c.in_ok-oplog_writer.ensures c.newest-now.ensures st z d
