-- Sums and products of whole numbers of 32 and 64 bits.
use Rattle.std.specs.Prelude.{ℕ, ◌^◌, ℤ, pos, negsuc, ◌+ℤ◌, ◌*ℤ◌, nat_lt, Bool, Option, Some, None, if◌then◌else◌}
use Rattle.bson_value.specs.declared.value.Value.{Value, Int, Long}
use Rattle.update_model.specs.declared.operator.Number.{Number}
use Rattle.update_model.specs.declared.operator.Number.TheVariants as numbers

-- whether a number has at most so many bits beside its sign
abbrev pub has_bits : ℕ → ℤ → Bool
has_bits bits (pos n) = nat_lt n (2 ^ bits)
has_bits bits (negsuc n) = nat_lt n (2 ^ bits)

-- a number of 64 bits, or an overflow
abbrev pub long : ℤ → Option Number
long z = if has_bits 63 z then Some (numbers.Long z) else None

-- of two numbers of 32 bits one of 32 bits, where it fits them
abbrev pub int_or_long : ℤ → Option Number
int_or_long z = if has_bits 31 z then Some (numbers.Int z) else long z

-- an operation on two numbers; None: it overflows
abbrev pub combined : (ℤ → ℤ → ℤ) → Number → Number → Option Number
combined op (numbers.Int a) (numbers.Int b) = int_or_long (op a b)
combined op (numbers.Int a) (numbers.Long b) = long (op a b)
combined op (numbers.Long a) (numbers.Int b) = long (op a b)
combined op (numbers.Long a) (numbers.Long b) = long (op a b)

abbrev pub sum : Number → Number → Option Number
sum = combined (λ a b. a +ℤ b)

abbrev pub product : Number → Number → Option Number
product = combined (λ a b. a *ℤ b)

-- 0 of the number's type
abbrev pub zero_of : Number → Number
zero_of (numbers.Int n) = numbers.Int (pos 0)
zero_of (numbers.Long n) = numbers.Long (pos 0)

abbrev pub value_of : Number → Value
value_of (numbers.Int n) = Int n
value_of (numbers.Long n) = Long n
