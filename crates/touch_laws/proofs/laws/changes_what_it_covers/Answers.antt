use Rattle.touch_laws.proofs.Agreement.{changes_what_it_covers}
use Rattle.touch_laws.proofs.laws.changes_what_it_covers.Goals as goal

pub returns : goal.returns
returns c = changes_what_it_covers
