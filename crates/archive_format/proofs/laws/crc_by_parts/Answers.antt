use Rattle.std.proofs.Common.{◌≡◌, ℕ, List, [], ◌∷◌, ◌++◌, refl}
use Rattle.archive_format.specs.Crc.{crc_step, crc_on}
use Rattle.archive_format.proofs.laws.crc_by_parts.Goals as goal

crc_on-append : (r : ℕ) (a b : List ℕ) → crc_on r (a ++ b) ≡ crc_on (crc_on r a) b
crc_on-append r [] b = refl
crc_on-append r (x ∷ xs) b = crc_on-append (crc_step r x) xs b

pub returns : goal.returns
returns c = λ r a b. crc_on-append r a b
