-- What a source over memory still gives, what a sink over memory holds, and which of their calls fail.
use Rattle.std.specs.Prelude.{◌≡◌, ℕ, ◌+◌, ◌-◌, ◌≤◌, ◌^◌, min, List, [], ◌++◌, length, take, Option, unwrap_or, slice_get}

-- the bytes that are left, the most bytes of each call to come, the calls that fail, how many calls and faults there were
pub record Feed : Type 0 where
  pub left : List ℕ
  pub pieces : List ℕ
  pub fails : List ℕ
  pub calls : ℕ
  pub faults : ℕ

-- the bytes that were written, the calls that fail, how many calls and faults there were
pub record Store : Type 0 where
  pub written : List ℕ
  pub fails : List ℕ
  pub calls : ℕ
  pub faults : ℕ

-- the number at this place, or the last one
abbrev pub piece_at : List ℕ → ℕ → Option ℕ
piece_at ps k = slice_get ps (min k (length ps - 1))

-- how many bytes a call gives: as many as there are, have room and are allowed
abbrev pub count_of : ℕ → ℕ → Option ℕ → ℕ
count_of room left most = min (min room left) (unwrap_or most (2 ^ 64 - 1))

-- one more, up to the last number of 64 bits
abbrev pub next : ℕ → ℕ
next n = min (n + 1) (2 ^ 64 - 1)

-- the first n bytes stand at the front of the buffer, the others are left, and none are given only at the end
pub record Feeds (before after : List ℕ) (n : ℕ) (buf : List ℕ) : Type 0 where
  pub within : n ≤ length buf
  pub given : before ≡ take n buf ++ after
  pub ended : n ≡ 0 → before ≡ []
