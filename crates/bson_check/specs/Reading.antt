-- Reading a document from left to right, with the first fault that is met and its place.
-- Each step is given the bytes up to the end of what encloses them, and the place of that end, so it knows where it stands.
use Rattle.std.specs.Prelude.{Option, ◌≡◌, ℕ, zero, suc, ◌+◌, ◌-◌, ℤ, not, ◌&&◌, Bool, true, false, ◌||◌, List, [], ◌∷◌, ◌++◌, length, take, drop, slice_index, Some, None, Result, Ok, Err, nat_lt, ◌==◌, if◌then◌else◌}
use Rattle.std.specs.Int.{w32, w64, from_le_bytes, cast_signed}
use Rattle.std.specs.List.{position_from}
use Rattle.std.specs.Str.{is_utf8}
use Rattle.containers.specs.Entries.{place_of}
use Rattle.bson_check.specs.declared.fault.BsonFault.{BsonFault}
use Rattle.bson_check.specs.declared.fault.BsonKind.{BsonKind}
use Rattle.bson_check.specs.declared.fault.BsonKind.TheVariants as kinds
use Rattle.bson_check.specs.declared.fault.DecodeFault.{DecodeFault}
use Rattle.bson_check.specs.declared.fault.DecodeFault.TheVariants as errors
use Rattle.bson_value.specs.declared.value.Ts.{Ts}
use Rattle.bson_value.specs.declared.value.Value.{Value}
use Rattle.bson_value.specs.declared.value.Value.TheVariants as values

infixl 10 ◌>>=◌
abbrev pub ◌>>=◌ : {A B : Type 0} → Result A BsonFault → (A → Result B BsonFault) → Result B BsonFault
(Ok x) >>= f = f x
(Err e) >>= f = Err e

-- What a function returned, seen by view, is what reading gives, unless memory ran out.
abbrev pub Fails : {Y : Type 0} → DecodeFault → Result Y BsonFault → Type 0
Fails errors.NoMemory read = Unit {0}
Fails (errors.Bad f) read = read ≡ Err f

abbrev pub Gives : {X Y : Type 0} → (X → Y) → Result X DecodeFault → Result Y BsonFault → Type 0
Gives view (Ok x) read = read ≡ Ok (view x)
Gives view (Err e) read = Fails e read

-- the same where no memory is taken
abbrev pub Reads : {X Y : Type 0} → (X → Y) → Result X BsonFault → Result Y BsonFault → Type 0
Reads view (Ok x) read = read ≡ Ok (view x)
Reads view (Err e) read = read ≡ Err e

abbrev pub fails : {A : Type 0} → BsonKind → ℕ → Result A BsonFault
fails kind at = Err (record { kind = kind; at = at })

-- the place of the first of these bytes, which go up to this end
abbrev pub place : ℕ → List ℕ → ℕ
place end bytes = end - length bytes

unfoldable pub number : List ℕ → ℕ
number bytes = from_le_bytes w32 (take 4 bytes)

-- the bytes of a value that are read, as a value and the bytes after it
abbrev pub Taken : Type 0 → Type 0
Taken A = Result (A × List ℕ) BsonFault

unfoldable pub int_at : ℕ → List ℕ → Taken Value
int_at end bytes = if nat_lt (length bytes) 4 then fails kinds.Length (place end bytes) else Ok (values.Int (cast_signed w32 (number bytes)), drop 4 bytes)

-- so many bytes as they are
unfoldable pub run_at : ℕ → ℕ → List ℕ → Taken (List ℕ)
run_at n end bytes = if nat_lt (length bytes) n then fails kinds.Length (place end bytes) else Ok (take n bytes, drop n bytes)

-- the number in eight bytes
abbrev pub long_of : List ℕ → ℤ
long_of run = cast_signed w64 (from_le_bytes w64 run)

abbrev pub stamp_of : List ℕ → Ts
stamp_of run = record { secs = number (drop 4 run); inc = number run }

unfoldable pub bool_at : ℕ → List ℕ → Taken Value
bool_at end [] = fails kinds.Length end
bool_at end (zero ∷ bytes) = Ok (values.Bool false, bytes)
bool_at end (suc zero ∷ bytes) = Ok (values.Bool true, bytes)
bool_at end (suc (suc b) ∷ bytes) = fails kinds.Bool (place end (suc (suc b) ∷ bytes))

-- a length that counts the final zero, the text, and the zero
unfoldable pub text_at : ℕ → List ℕ → Taken (List ℕ)
text_at end bytes =
    if nat_lt (length bytes) 4 then fails kinds.Length (place end bytes)
    else (if number bytes == 0 || nat_lt (length bytes - 4) (number bytes) then fails kinds.Length (place end bytes)
    else (if slice_index bytes (number bytes + 3) == 0
    then (if is_utf8 (take (number bytes - 1) (drop 4 bytes)) then Ok (take (number bytes - 1) (drop 4 bytes), drop (number bytes + 4) bytes) else fails kinds.Text (place end bytes))
    else fails kinds.Length (place end bytes)))

-- a length that counts the final zero, the bytes of a text and the zero, with the faults at this place; whether they are a text isn't looked at
unfoldable pub raw_at : ℕ → List ℕ → Taken (List ℕ)
raw_at at bytes =
    if nat_lt (length bytes) 4 then fails kinds.Length at
    else (if number bytes == 0 || nat_lt (length bytes - 4) (number bytes) then fails kinds.Length at
    else (if slice_index bytes (number bytes + 3) == 0
    then Ok (take (number bytes - 1) (drop 4 bytes), drop (number bytes + 4) bytes)
    else fails kinds.Length at))

-- a length, a byte, and the bytes
unfoldable pub binary_at : ℕ → List ℕ → Taken (ℕ × List ℕ)
binary_at end bytes =
    if nat_lt (length bytes) 5 then fails kinds.Length (place end bytes)
    else (if nat_lt (length bytes - 5) (number bytes) then fails kinds.Length (place end bytes)
    else Ok ((slice_index bytes 4, take (number bytes) (drop 5 bytes)), drop (number bytes + 5) bytes))

-- what stands before the zero at this place, and what behind it
abbrev pub cut : ℕ → List ℕ → Option ℕ → Taken (List ℕ)
cut at bytes None = fails kinds.Length at
cut at bytes (Some i) = Ok (take i bytes, drop (i + 1) bytes)

unfoldable pub cut_at : ℕ → List ℕ → Taken (List ℕ)
cut_at at bytes = cut at bytes (position_from (λ b. b == 0) 0 bytes)

-- two texts that end at a zero
unfoldable pub regex_at : ℕ → List ℕ → Taken (List ℕ × List ℕ)
regex_at end bytes = do
  pattern ← cut_at (place end bytes) bytes
  options ← cut_at (place end bytes) pattern.1
  if is_utf8 pattern.0 then (if is_utf8 options.0 then Ok ((pattern.0, options.0), options.1) else fails kinds.Text (place end bytes)) else fails kinds.Text (place end bytes)

-- a text and twelve bytes
unfoldable pub pointer_at : ℕ → List ℕ → Taken (List ℕ × List ℕ)
pointer_at end bytes = do
  ns ← raw_at (place end bytes) bytes
  if nat_lt (length ns.1) 12 then fails kinds.Length (place end bytes) else (if is_utf8 ns.0 then Ok ((ns.0, take 12 ns.1), drop 12 ns.1) else fails kinds.Text (place end bytes))

-- the frame of a document or an array: its elements and where they end, the byte after them, and the bytes after it
pub record Frame : Type 0 where
  pub body : List ℕ
  pub stop : ℕ
  pub last : ℕ
  pub after : List ℕ

unfoldable pub frame_at : ℕ → ℕ → List ℕ → Result Frame BsonFault
frame_at levels end bytes =
    if nat_lt (length bytes) 4 then fails kinds.Length (place end bytes)
    else (if nat_lt (number bytes) 5 || nat_lt (length bytes) (number bytes) then fails kinds.Length (place end bytes)
    else (if levels == 0 then fails kinds.Deep (place end bytes)
    else Ok (record { body = take (number bytes - 5) (drop 4 bytes); stop = place end bytes + (number bytes - 1); last = slice_index bytes (number bytes - 1); after = drop (number bytes) bytes })))

-- the total of a code with its scope, the code, and the frame of the scope, which ends where the total ends
pub record Scoped : Type 0 where
  pub code : List ℕ
  pub scope : Frame

-- the scope: its length is what the code leaves of the total
unfoldable pub scope_at : ℕ → ℕ → ℕ → List ℕ → List ℕ → List ℕ → Result Scoped BsonFault
scope_at levels at stop after code bytes =
    if nat_lt (length bytes) 5 then fails kinds.Length at
    else (if number bytes == length bytes
    then (if levels == 0 then fails kinds.Deep at
    else (if is_utf8 code
    then Ok (record { code = code; scope = record { body = take (length bytes - 5) (drop 4 bytes); stop = stop; last = slice_index bytes (length bytes - 1); after = after } })
    else fails kinds.Text at))
    else fails kinds.Length at)

unfoldable pub total_at : ℕ → ℕ → List ℕ → Result Scoped BsonFault
total_at levels end bytes =
    if nat_lt (length bytes) 4 then fails kinds.Length (place end bytes)
    else (if nat_lt (number bytes) 14 || nat_lt (length bytes) (number bytes) then fails kinds.Length (place end bytes)
    else (raw_at (place end bytes) (take (number bytes - 4) (drop 4 bytes)) >>= λ code.
    scope_at levels (place end bytes) (place end bytes + (number bytes - 1)) (drop (number bytes) bytes) code.0 code.1))

-- the byte after the elements is looked at behind them
abbrev pub closed : {A : Type 0} → Frame → A → Taken A
closed f x = if f.last == 0 then Ok (x, f.after) else fails kinds.Length f.stop

-- what stands before a zero at this place, and what behind it
abbrev pub split_zero : ℕ → List ℕ → Option ℕ → Taken (List ℕ)
split_zero end bytes None = fails kinds.Length (place end bytes)
split_zero end bytes (Some i) = Ok (take i bytes, drop (i + 1) bytes)

-- a name, and the bytes after its zero
unfoldable pub name_at : ℕ → List ℕ → Taken (List ℕ)
name_at end bytes = split_zero end bytes (position_from (λ b. b == 0) 0 bytes)

abbrev pub is_type : ℕ → Bool
is_type t = not (t == 0) && (nat_lt t 20 || t == 255 || t == 127)

-- a name that was there before, at this place, is refused
abbrev pub unless_there : ℕ → List ℕ → Option ℕ → Result (List ℕ) BsonFault
unless_there at name None = Ok name
unless_there at name (Some i) = fails kinds.Repeat at

-- the rules for a name of a document, behind the fields that it has
unfoldable pub named : ℕ → List (List ℕ × Value) → List ℕ → Result (List ℕ) BsonFault
named at done name = if is_utf8 name then unless_there at name (place_of name done) else fails kinds.Text at

abbrev pub Reader : Type 0
Reader = ℕ → ℕ → List ℕ → Taken Value

unfoldable pub field_at : Reader → ℕ → List (List ℕ × Value) → ℕ → List ℕ → Taken (List ℕ × Value)
field_at read end done tag bytes = if is_type tag then (do
  name ← name_at end bytes
  known ← named (place end bytes) done name.0
  value ← read tag end name.1
  Ok ((known, value.0), value.1)) else fails kinds.Tag (place end bytes - 1)

unfoldable pub item_at : Reader → ℕ → ℕ → List ℕ → Taken Value
item_at read end tag bytes = if is_type tag then (do
  name ← name_at end bytes
  read tag end name.1) else fails kinds.Tag (place end bytes - 1)

-- the fields up to the end, behind those that are done; each takes a byte or more, so as many turns as there are bytes are enough
unfoldable pub fields_at : Reader → ℕ → ℕ → List (List ℕ × Value) → List ℕ → Result (List (List ℕ × Value)) BsonFault
fields_at read turns end done [] = Ok done
fields_at read zero end done (tag ∷ bytes) = Ok done
fields_at read (suc turns) end done (tag ∷ bytes) = field_at read end done tag bytes >>= λ x. fields_at read turns end (done ++ x.0 ∷ []) x.1

unfoldable pub items_at : Reader → ℕ → ℕ → List Value → List ℕ → Result (List Value) BsonFault
items_at read turns end done [] = Ok done
items_at read zero end done (tag ∷ bytes) = Ok done
items_at read (suc turns) end done (tag ∷ bytes) = item_at read end tag bytes >>= λ x. items_at read turns end (done ++ x.0 ∷ []) x.1

unfoldable pub value_with : (ℕ → List ℕ → Taken (List (List ℕ × Value))) → (ℕ → List ℕ → Taken (List Value)) → (ℕ → List ℕ → Taken (List ℕ × List (List ℕ × Value))) → Reader
value_with document array scoped tag end bytes =
    if tag == 1 then (run_at 8 end bytes >>= λ x. Ok (values.Double x.0, x.1))
    else (if tag == 2 then (text_at end bytes >>= λ x. Ok (values.Str x.0, x.1))
    else (if tag == 3 then (document end bytes >>= λ x. Ok (values.Object x.0, x.1))
    else (if tag == 4 then (array end bytes >>= λ x. Ok (values.Array x.0, x.1))
    else (if tag == 5 then (binary_at end bytes >>= λ x. Ok (values.Binary x.0.0 x.0.1, x.1))
    else (if tag == 6 then Ok (values.Undefined, bytes)
    else (if tag == 7 then (run_at 12 end bytes >>= λ x. Ok (values.Oid x.0, x.1))
    else (if tag == 8 then bool_at end bytes
    else (if tag == 9 then (run_at 8 end bytes >>= λ x. Ok (values.Date (long_of x.0), x.1))
    else (if tag == 10 then Ok (values.Null, bytes)
    else (if tag == 11 then (regex_at end bytes >>= λ x. Ok (values.Regex x.0.0 x.0.1, x.1))
    else (if tag == 12 then (pointer_at end bytes >>= λ x. Ok (values.DbPointer x.0.0 x.0.1, x.1))
    else (if tag == 13 then (text_at end bytes >>= λ x. Ok (values.Code x.0, x.1))
    else (if tag == 14 then (text_at end bytes >>= λ x. Ok (values.Symbol x.0, x.1))
    else (if tag == 15 then (scoped end bytes >>= λ x. Ok (values.ScopedCode x.0.0 x.0.1, x.1))
    else (if tag == 16 then int_at end bytes
    else (if tag == 17 then (run_at 8 end bytes >>= λ x. Ok (values.Stamp (stamp_of x.0), x.1))
    else (if tag == 18 then (run_at 8 end bytes >>= λ x. Ok (values.Long (long_of x.0), x.1))
    else (if tag == 19 then (run_at 16 end bytes >>= λ x. Ok (values.Decimal x.0, x.1))
    else (if tag == 255 then Ok (values.MinKey, bytes)
    else (if tag == 127 then Ok (values.MaxKey, bytes)
    else fails kinds.Tag (place end bytes)))))))))))))))))))))

unfoldable mutual
  pub document_at : ℕ → ℕ → List ℕ → Taken (List (List ℕ × Value))
  document_at zero end bytes = frame_at zero end bytes >>= λ f. Ok ([], f.after)
  document_at (suc levels) end bytes = frame_at (suc levels) end bytes >>= λ f. fields_at (value_with (document_at levels) (array_at levels) (scoped_at levels)) (length f.body) f.stop [] f.body >>= closed f

  pub array_at : ℕ → ℕ → List ℕ → Taken (List Value)
  array_at zero end bytes = frame_at zero end bytes >>= λ f. Ok ([], f.after)
  array_at (suc levels) end bytes = frame_at (suc levels) end bytes >>= λ f. items_at (value_with (document_at levels) (array_at levels) (scoped_at levels)) (length f.body) f.stop [] f.body >>= closed f

  pub scoped_at : ℕ → ℕ → List ℕ → Taken (List ℕ × List (List ℕ × Value))
  scoped_at zero end bytes = total_at zero end bytes >>= λ s. Ok ((s.code, []), s.scope.after)
  scoped_at (suc levels) end bytes = total_at (suc levels) end bytes >>= λ s. fields_at (value_with (document_at levels) (array_at levels) (scoped_at levels)) (length s.scope.body) s.scope.stop [] s.scope.body >>= closed s.scope >>= λ x. Ok ((s.code, x.0), x.1)

-- a value of this type, with so many levels for what it holds
abbrev pub value_at : ℕ → Reader
value_at levels = value_with (document_at levels) (array_at levels) (scoped_at levels)

-- the whole input
unfoldable pub document_of : ℕ → ℕ → List ℕ → Result (List (List ℕ × Value)) BsonFault
document_of max depth bytes =
    if nat_lt (length bytes) 4 then fails kinds.Short (length bytes)
    else (if nat_lt (number bytes) 5 || nat_lt 2147483647 (number bytes) then fails kinds.Length 0
    else (if nat_lt max (number bytes) then fails kinds.TooLong 0
    else (if nat_lt (length bytes) (number bytes) then fails kinds.Short (length bytes)
    else (if nat_lt (number bytes) (length bytes) then fails kinds.Length 0
    else (document_at depth (length bytes) bytes >>= λ x. Ok x.0)))))

-- what was read, without what is left
abbrev pub read_of : {A : Type 0} → Taken A → Result A BsonFault
read_of (Ok x) = Ok x.0
read_of (Err e) = Err e

-- what is left of what was read, and whether something was read, without the value
abbrev pub rests : {A : Type 0} → Taken A → Result (List ℕ) BsonFault
rests (Ok x) = Ok x.1
rests (Err e) = Err e

abbrev pub void : {A : Type 0} → Result A BsonFault → Result Unit BsonFault
void (Ok x) = Ok tt
void (Err e) = Err e
