-- Bytes as numbers.
use Rattle.std.specs.Prelude.{ℕ, List, take, drop}
use Rattle.std.specs.Slice.Scan.{big_endian}

-- the number that n bytes from this place on write, the first counting most
abbrev pub word_at : ℕ → ℕ → List ℕ → ℕ
word_at n at bytes = big_endian 0 (take n (drop at bytes))
