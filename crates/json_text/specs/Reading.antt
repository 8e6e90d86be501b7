-- Reading a JSON text from left to right: the value that is read and the bytes behind it, or the place at which the reading fails.
-- A step is given the place at which the text ends, and the bytes from where it stands up to there, so it knows its own place.
use Rattle.std.specs.Prelude.{◌≡◌, ℕ, zero, suc, ◌+◌, ◌-◌, ◌*◌, ◌&&◌, ◌||◌, Bool, true, false, List, [], ◌∷◌, ◌++◌, length, take, Option, Some, None, Result, Ok, Err, nat_lt, ◌==◌, if◌then◌else◌}
use Rattle.std.specs.Char.{encode_utf8}
use Rattle.std.specs.Str.{is_utf8}
use Rattle.containers.specs.Entries.{place_of}
use Rattle.json_tree.specs.Numbers.{is_digit}
use Rattle.json_text.specs.declared.fault.JsonFault.{JsonFault}
use Rattle.json_text.specs.declared.fault.JsonFault.TheVariants as errors
use Rattle.json_tree.specs.declared.tree.Tree.{Tree}
use Rattle.json_tree.specs.declared.tree.Tree.TheVariants as trees

infixl 10 ◌>>=◌
abbrev pub ◌>>=◌ : {A B : Type 0} → Result A ℕ → (A → Result B ℕ) → Result B ℕ
(Ok x) >>= f = f x
(Err e) >>= f = Err e

-- What a function returned, seen by view, is what reading gives, unless memory ran out.
abbrev pub Fails : {Y : Type 0} → JsonFault → Result Y ℕ → Type 0
Fails errors.NoMemory read = Unit {0}
Fails (errors.Bad at) read = read ≡ Err at

abbrev pub Gives : {X Y : Type 0} → (X → Y) → Result X JsonFault → Result Y ℕ → Type 0
Gives view (Ok x) read = read ≡ Ok (view x)
Gives view (Err e) read = Fails e read

-- the same where no memory is taken, and the place alone tells of a fault
abbrev pub Reads : {X Y : Type 0} → (X → Y) → Result X ℕ → Result Y ℕ → Type 0
Reads view (Ok x) read = read ≡ Ok (view x)
Reads view (Err e) read = read ≡ Err e

-- what was read, and the bytes behind it, or the place of the fault
abbrev pub Taken : Type 0 → Type 0
Taken A = Result (A × List ℕ) ℕ

-- the place of the first of these bytes, which go up to this end
abbrev pub place : ℕ → List ℕ → ℕ
place end bytes = end - length bytes

-- space, tab, line feed and carriage return
abbrev pub is_space : ℕ → Bool
is_space b = b == 32 || b == 9 || b == 10 || b == 13

unfoldable pub after_space : List ℕ → List ℕ
after_space [] = []
after_space (b ∷ bytes) = if is_space b then after_space bytes else b ∷ bytes

-- ---- reading one thing after the other

-- Steps, each of which adds to what is done and says whether another one follows; as many turns as there are bytes, and one more, are enough.
unfoldable pub steps_at : {A : Type 0} → (List A → List ℕ → Taken (List A × Bool)) → ℕ → ℕ → List A → List ℕ → Taken (List A)
steps_at step zero end done bytes = Err end
steps_at step (suc turns) end done bytes = step done bytes >>= λ x. if x.0.1 then steps_at step turns end (done ++ x.0.0) x.1 else Ok (done ++ x.0.0, x.1)

-- ---- words and numbers. A token fails at its start, or at the end where the text ends in it

-- this word stands here
unfoldable pub word_at : List ℕ → ℕ → ℕ → List ℕ → Result (List ℕ) ℕ
word_at [] start end bytes = Ok bytes
word_at (w ∷ word) start end [] = Err end
word_at (w ∷ word) start end (b ∷ bytes) = if b == w then word_at word start end bytes else Err start

unfoldable pub after_digits : List ℕ → List ℕ
after_digits [] = []
after_digits (b ∷ bytes) = if is_digit b then after_digits bytes else b ∷ bytes

-- one digit or more
unfoldable pub digits_at : ℕ → ℕ → List ℕ → Result (List ℕ) ℕ
digits_at start end [] = Err end
digits_at start end (b ∷ bytes) = if is_digit b then Ok (after_digits bytes) else Err start

-- 0, or digits that begin with another one
unfoldable pub whole_at : ℕ → ℕ → List ℕ → Result (List ℕ) ℕ
whole_at start end [] = Err end
whole_at start end (b ∷ bytes) = if b == 48 then Ok bytes else digits_at start end (b ∷ bytes)

unfoldable pub after_minus : List ℕ → List ℕ
after_minus [] = []
after_minus (b ∷ bytes) = if b == 45 then bytes else b ∷ bytes

unfoldable pub after_sign : List ℕ → List ℕ
after_sign [] = []
after_sign (b ∷ bytes) = if b == 43 || b == 45 then bytes else b ∷ bytes

-- a point and digits, or nothing
unfoldable pub fraction_at : ℕ → ℕ → List ℕ → Result (List ℕ) ℕ
fraction_at start end [] = Ok []
fraction_at start end (b ∷ bytes) = if b == 46 then digits_at start end bytes else Ok (b ∷ bytes)

-- an e, a sign or none, and digits, or nothing
unfoldable pub exponent_at : ℕ → ℕ → List ℕ → Result (List ℕ) ℕ
exponent_at start end [] = Ok []
exponent_at start end (b ∷ bytes) = if b == 101 || b == 69 then digits_at start end (after_sign bytes) else Ok (b ∷ bytes)

-- what is behind the number that begins here
unfoldable pub after_number : ℕ → ℕ → List ℕ → Result (List ℕ) ℕ
after_number start end bytes = whole_at start end (after_minus bytes) >>= λ whole. fraction_at start end whole >>= λ fraction. exponent_at start end fraction

-- these bytes as a text; all bytes of a text that stand between two ASCII bytes are one
abbrev pub as_text : ℕ → List ℕ → List ℕ → Taken (List ℕ)
as_text start text rest = if is_utf8 text then Ok (text, rest) else Err start

unfoldable pub number_at : ℕ → ℕ → List ℕ → Taken (List ℕ)
number_at start end bytes = after_number start end bytes >>= λ rest. as_text start (take (length bytes - length rest) bytes) rest

-- ---- strings

-- the value of a hexadecimal digit
abbrev pub hex_value : ℕ → Option ℕ
hex_value b = if is_digit b then Some (b - 48) else (if nat_lt 64 b && nat_lt b 71 then Some (b - 55) else (if nat_lt 96 b && nat_lt b 103 then Some (b - 87) else None))

-- a value within these bounds
abbrev pub within : ℕ → ℕ → ℕ → Option ℕ → List ℕ → Taken ℕ
within start low high None bytes = Err start
within start low high (Some v) bytes = if nat_lt v low || nat_lt high v then Err start else Ok (v, bytes)

-- a hexadecimal digit within these bounds
unfoldable pub hex_at : ℕ → ℕ → ℕ → ℕ → List ℕ → Taken ℕ
hex_at start end low high [] = Err end
hex_at start end low high (b ∷ bytes) = within start low high (hex_value b) bytes

-- two digits more behind this number
unfoldable pub unit_at : ℕ → ℕ → ℕ → List ℕ → Taken ℕ
unit_at start end high bytes =
    hex_at start end 0 15 bytes >>= λ c.
    hex_at start end 0 15 c.1 >>= λ d. Ok (256 * high + 16 * c.0 + d.0, d.1)

-- the low half of a pair of surrogates, behind its high half
unfoldable pub low_at : ℕ → ℕ → ℕ → List ℕ → Taken (List ℕ)
low_at start end unit bytes =
    word_at (92 ∷ 117 ∷ []) start end bytes >>= λ rest.
    hex_at start end 13 13 rest >>= λ a.
    hex_at start end 12 15 a.1 >>= λ b.
    unit_at start end (16 * a.0 + b.0) b.1 >>= λ low. Ok (encode_utf8 (65536 + 1024 * (unit - 55296) + (low.0 - 56320)), low.1)

-- a character by its four digits. A high half needs its low half, and a low half doesn't come first
unfoldable pub unicode_at : ℕ → ℕ → List ℕ → Taken (List ℕ)
unicode_at start end bytes =
    hex_at start end 0 15 bytes >>= λ a.
    hex_at start end 0 (if a.0 == 13 then 11 else 15) a.1 >>= λ b.
    unit_at start end (16 * a.0 + b.0) b.1 >>= λ unit.
    if nat_lt unit.0 55296 || nat_lt 57343 unit.0 then Ok (encode_utf8 unit.0, unit.1) else low_at start end unit.0 unit.1

-- the byte that this letter stands for behind a backslash
abbrev pub meant : ℕ → Option ℕ
meant b =
    if b == 34 || b == 92 || b == 47 then Some b
    else (if b == 98 then Some 8
    else (if b == 102 then Some 12
    else (if b == 110 then Some 10
    else (if b == 114 then Some 13
    else (if b == 116 then Some 9 else None)))))

abbrev pub one : ℕ → Option ℕ → List ℕ → Taken (List ℕ)
one start None bytes = Err start
one start (Some b) bytes = Ok (b ∷ [], bytes)

-- what stands behind a backslash
unfoldable pub escape_at : ℕ → ℕ → List ℕ → Taken (List ℕ)
escape_at start end [] = Err end
escape_at start end (b ∷ bytes) = if b == 117 then unicode_at start end bytes else one start (meant b) bytes

-- a byte of a string, an escape, or the closing quote, behind which nothing follows
unfoldable pub piece_at : ℕ → ℕ → List ℕ → List ℕ → Taken (List ℕ × Bool)
piece_at start end done [] = Err end
piece_at start end done (b ∷ bytes) =
    if b == 34 then Ok (([], false), bytes)
    else (if b == 92 then (escape_at start end bytes >>= λ x. Ok ((x.0, true), x.1))
    else (if nat_lt b 32 then Err start else Ok ((b ∷ [], true), bytes)))

-- a string, behind its opening quote
unfoldable pub string_at : ℕ → List ℕ → Taken (List ℕ)
string_at end bytes = steps_at (piece_at (place end bytes - 1) end) (suc (length bytes)) end [] bytes >>= λ x. as_text (place end bytes - 1) x.0 x.1

-- ---- values

abbrev pub Reader : Type 0
Reader = ℕ → List ℕ → Taken Tree

-- what follows behind an item or a member: a comma, white space and another one, or this end
unfoldable pub more_at : ℕ → ℕ → List ℕ → Taken Bool
more_at close end [] = Err end
more_at close end (b ∷ bytes) = if b == 44 then Ok (true, after_space bytes) else (if b == close then Ok (false, bytes) else Err (place end (b ∷ bytes)))

unfoldable pub item_at : Reader → ℕ → List Tree → List ℕ → Taken (List Tree × Bool)
item_at read end done bytes =
    read end bytes >>= λ x.
    more_at 93 end (after_space x.1) >>= λ more. Ok ((x.0 ∷ [], more.0), more.1)

-- a name that isn't among those before it
abbrev pub unless_there : ℕ → List ℕ → Option ℕ → List ℕ → Taken (List ℕ)
unless_there at name None rest = Ok (name, rest)
unless_there at name (Some i) rest = Err at

unfoldable pub name_at : ℕ → List (List ℕ × Tree) → List ℕ → Taken (List ℕ)
name_at end done [] = Err end
name_at end done (b ∷ bytes) = if b == 34 then (string_at end bytes >>= λ x. unless_there (place end (b ∷ bytes)) x.0 (place_of x.0 done) x.1) else Err (place end (b ∷ bytes))

unfoldable pub colon_at : ℕ → List ℕ → Result (List ℕ) ℕ
colon_at end [] = Err end
colon_at end (b ∷ bytes) = if b == 58 then Ok (after_space bytes) else Err (place end (b ∷ bytes))

unfoldable pub member_at : Reader → ℕ → List (List ℕ × Tree) → List ℕ → Taken (List (List ℕ × Tree) × Bool)
member_at read end done bytes =
    name_at end done bytes >>= λ name.
    colon_at end (after_space name.1) >>= λ rest.
    read end rest >>= λ x.
    more_at 125 end (after_space x.1) >>= λ more. Ok (((name.0, x.0) ∷ [], more.0), more.1)

-- the bytes behind the end of an array or an object, where that stands here
unfoldable pub closing : ℕ → List ℕ → Option (List ℕ)
closing close [] = None
closing close (b ∷ bytes) = if b == close then Some bytes else None

abbrev pub or_steps : {A : Type 0} → (List A → List ℕ → Taken (List A × Bool)) → ℕ → List ℕ → Option (List ℕ) → Taken (List A)
or_steps step end bytes None = steps_at step (suc (length bytes)) end [] bytes
or_steps step end bytes (Some rest) = Ok ([], rest)

-- nothing and the end, or one thing after the other
unfoldable pub list_at : {A : Type 0} → ℕ → (List A → List ℕ → Taken (List A × Bool)) → ℕ → List ℕ → Taken (List A)
list_at close step end bytes = or_steps step end bytes (closing close bytes)

-- the value of the token that begins here, or of the array or object
unfoldable pub value_with : (ℕ → List ℕ → Taken (List Tree)) → (ℕ → List ℕ → Taken (List (List ℕ × Tree))) → Reader
value_with array object end [] = Err end
value_with array object end (b ∷ bytes) =
    if b == 91 then (array end bytes >>= λ x. Ok (trees.Items x.0, x.1))
    else (if b == 123 then (object end bytes >>= λ x. Ok (trees.Object x.0, x.1))
    else (if b == 34 then (string_at end bytes >>= λ x. Ok (trees.Str x.0, x.1))
    else (if b == 110 then (word_at (117 ∷ 108 ∷ 108 ∷ []) (place end (b ∷ bytes)) end bytes >>= λ rest. Ok (trees.Null, rest))
    else (if b == 116 then (word_at (114 ∷ 117 ∷ 101 ∷ []) (place end (b ∷ bytes)) end bytes >>= λ rest. Ok (trees.Bool true, rest))
    else (if b == 102 then (word_at (97 ∷ 108 ∷ 115 ∷ 101 ∷ []) (place end (b ∷ bytes)) end bytes >>= λ rest. Ok (trees.Bool false, rest))
    else (number_at (place end (b ∷ bytes)) end (b ∷ bytes) >>= λ x. Ok (trees.Number x.0, x.1)))))))

-- an array and an object behind their brackets, of at most so many levels
unfoldable mutual
  pub array_at : ℕ → ℕ → List ℕ → Taken (List Tree)
  array_at zero end bytes = Err (place end bytes - 1)
  array_at (suc levels) end bytes = list_at 93 (item_at (value_with (array_at levels) (object_at levels)) end) end (after_space bytes)

  pub object_at : ℕ → ℕ → List ℕ → Taken (List (List ℕ × Tree))
  object_at zero end bytes = Err (place end bytes - 1)
  object_at (suc levels) end bytes = list_at 125 (member_at (value_with (array_at levels) (object_at levels)) end) end (after_space bytes)

-- a value of at most so many levels
abbrev pub value_at : ℕ → Reader
value_at levels = value_with (array_at levels) (object_at levels)

-- nothing stands behind the value
abbrev pub ended : ℕ → Tree → List ℕ → Result Tree ℕ
ended end t [] = Ok t
ended end t (b ∷ bytes) = Err (place end (b ∷ bytes))

-- the whole text
unfoldable pub tree_of_text : List ℕ → Result Tree ℕ
tree_of_text bytes = value_at 256 (length bytes) (after_space bytes) >>= λ x. ended (length bytes) x.0 (after_space x.1)
