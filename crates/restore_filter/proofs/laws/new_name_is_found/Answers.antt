use Rattle.restore_filter.proofs.Names.{new_name_is}
use Rattle.restore_filter.proofs.laws.new_name_is_found.Goals as goal

pub returns : goal.returns
returns c = new_name_is
