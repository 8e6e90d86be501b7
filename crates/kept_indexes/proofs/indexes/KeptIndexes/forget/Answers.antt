use Rattle.kept_indexes.proofs.Moving.{elsewhere_keeps}
use Rattle.kept_indexes.proofs.indexes.KeptIndexes.forget.Goals as goal

pub returns-clause-kept : goal.returns-clause-kept
returns-clause-kept c r s kept elsewhere = elsewhere_keeps c.args.self.now c.take.new.self r s c.args.ns.now kept elsewhere c.take.ensures.gone c.take.ensures.others
