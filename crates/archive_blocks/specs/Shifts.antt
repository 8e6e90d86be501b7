-- Several bits at once leave the register of the checksum.
use Rattle.std.specs.Prelude.{ℕ, zero, suc, ◌≡◌, ◌+◌, ◌*◌, ◌/◌, ◌%◌, ◌<◌, List, length, slice_index_or}
use Rattle.archive_format.specs.Crc.{shift}

unfoldable pub shifts : ℕ → ℕ → ℕ
shifts zero r = r
shifts (suc k) r = shifts k (shift r)

-- the first so many rows of the table of bytes, 256 for each number of bytes behind
pub record IsFilled (n : ℕ) (rows : List ℕ) : Type 0 where
  pub count : length rows ≡ n
  pub row : (i : ℕ) → i < n → slice_index_or rows i 0 ≡ shifts (8 * (i / 256 + 1)) (i % 256)
