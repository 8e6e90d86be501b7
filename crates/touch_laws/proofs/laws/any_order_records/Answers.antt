use Rattle.touch_laws.proofs.Order.{records_same}
use Rattle.touch_laws.proofs.laws.any_order_records.Goals as goal

pub returns : goal.returns
returns c = records_same
