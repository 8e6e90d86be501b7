use Rattle.unchanged_updates.proofs.Unchanged.{unchanged_is_untouched}
use Rattle.unchanged_updates.proofs.laws.unchanged_is_untouched.Goals as goal

-- src/laws.rt:6:1
pub returns : goal.returns
returns c = unchanged_is_untouched
