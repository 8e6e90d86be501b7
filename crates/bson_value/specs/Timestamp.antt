-- A timestamp as one number, and the order of timestamps.
use Rattle.std.specs.Prelude.{ℕ, ◌+◌, ◌*◌}
use Rattle.std.specs.Ordering.{nat_cmp, on, then_cmp}
use Rattle.std.specs.declared.cmp.Ordering.{Ordering}
use Rattle.bson_value.specs.declared.value.Ts.{Ts}

-- the seconds are its high 32 bits, and the ordinal its low ones
abbrev pub stamp_number : Ts → ℕ
stamp_number ts = ts.secs * 4294967296 + ts.inc

-- by the seconds, and then by the ordinal
abbrev pub stamp_cmp : Ts → Ts → Ordering
stamp_cmp = then_cmp (on (λ ts. ts.secs) nat_cmp) (on (λ ts. ts.inc) nat_cmp)
