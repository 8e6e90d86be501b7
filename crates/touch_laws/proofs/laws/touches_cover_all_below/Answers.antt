use Rattle.touch_laws.proofs.Cover.{mono-any}
use Rattle.touch_laws.proofs.laws.touches_cover_all_below.Goals as goal

pub returns : goal.returns
returns c = mono-any
