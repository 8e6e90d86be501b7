-- The last entries of an oplog that is capped in their number and in their bytes.
use Rattle.std.specs.Prelude.{◌≡◌, ℕ, ◌+◌, ◌-◌, ◌^◌, ◌<◌, ◌≤◌, Bool, false, ◌&&◌, List, [], ◌∷◌, ◌++◌, length, drop, map, slice_index, nat_lt, Option, Some, None, MatchOption, if◌then◌else◌}
use Rattle.bson_value.specs.declared.value.Ts.{Ts}
use Rattle.bson_value.specs.Timestamp.{stamp_number}

-- a timestamp, and the bytes of an entry
abbrev pub Entry : Type 0
Entry = Ts × List ℕ

-- the entries, the oldest first, the most that there may be, and the most bytes of more than one
pub record Ring : Type 0 where
  pub entries : List Entry
  pub cap : ℕ
  pub limit : Option ℕ

-- the bytes of all entries together
abbrev pub total_of : List Entry → ℕ
total_of [] = 0
total_of (e ∷ es) = length e.1 + total_of es

-- the timestamp of the entry at this place, as a number
abbrev pub stamp_at : List Entry → ℕ → ℕ
stamp_at es i = slice_index (map (λ e. stamp_number e.0) es) i

-- each entry is later than those before it
abbrev pub AreRising : List Entry → Type 0
AreRising es = (i j : ℕ) → i < j → j < length es → stamp_at es i < stamp_at es j

-- the number of bytes of the entry at this place
abbrev pub bytes_at : List Entry → ℕ → ℕ
bytes_at es i = slice_index (map (λ e. length e.1) es) i

-- what a ring of so many bytes keeps of its entries
pub record IsSound (es : List Entry) (cap total : ℕ) : Type 0 where
  pub rising : AreRising es
  pub counted : total ≡ total_of es
  pub short : (i : ℕ) → i < length es → bytes_at es i < 2 ^ 64
  pub held : length es ≤ cap
  pub some_room : 1 ≤ cap
  pub most : cap ≤ 1000000

-- later than the newest entry
abbrev pub IsLater : List Entry → Ts → Type 0
IsLater es ts = (i : ℕ) → i < length es → stamp_at es i < stamp_number ts

-- the place of the entry with this timestamp
abbrev pub IsPlaceOf : List Entry → Ts → Option ℕ → Type 0
IsPlaceOf es ts place = MatchOption place ((i : ℕ) → i < length es → stamp_at es i ≡ stamp_number ts → ⊥) (λ i. (i < length es) × (stamp_at es i ≡ stamp_number ts))

-- these bytes are more than the limit
abbrev pub exceeds : ℕ → Option ℕ → Bool
exceeds n None = false
exceeds n (Some limit) = nat_lt limit n

-- more than one entry, and more bytes than the limit
abbrev pub is_over : Option ℕ → List Entry → Bool
is_over limit es = nat_lt 1 (length es) && exceeds (total_of es) limit

-- the entry stands last, and of more entries than the cap allows the oldest are gone
abbrev pub pushed : ℕ → List Entry → Entry → List Entry
pushed cap es e = drop (length es + 1 - cap) (es ++ e ∷ [])

-- the oldest entry is gone where there is too much
abbrev pub trimmed : Option ℕ → List Entry → List Entry
trimmed limit es = if is_over limit es then drop 1 es else es

-- the same until there isn't
abbrev pub trimmed_down : Option ℕ → List Entry → List Entry
trimmed_down limit [] = []
trimmed_down limit (e ∷ es) = if is_over limit (e ∷ es) then trimmed_down limit es else e ∷ es

-- these entries pushed one after the other, each followed by as many trims as take something
abbrev pub after_pushes : ℕ → Option ℕ → List Entry → List Entry → List Entry
after_pushes cap limit es [] = es
after_pushes cap limit es (x ∷ xs) = after_pushes cap limit (trimmed_down limit (pushed cap es x)) xs

-- at most cap entries and, where there is more than one, at most the limit in bytes
pub record Fits (cap : ℕ) (limit : Option ℕ) (es : List Entry) : Type 0 where
  pub few : length es ≤ cap
  pub short : is_over limit es ≡ false

-- the end of a list
abbrev pub IsSuffix : List Entry → List Entry → Type 0
IsSuffix es all = (front : List Entry) × (all ≡ front ++ es)

-- the longest end of a list that fits
pub record IsLongest (cap : ℕ) (limit : Option ℕ) (all es : List Entry) : Type 0 where
  pub suffix : IsSuffix es all
  pub fits : Fits cap limit es
  pub longest : (others : List Entry) → IsSuffix others all → Fits cap limit others → length others ≤ length es

-- the law that a ring has the longest end of what was pushed that fits
abbrev pub KeepsLongest : Type 0
KeepsLongest = (cap : ℕ) (limit : Option ℕ) (all : List Entry) → 0 < cap → IsLongest cap limit all (after_pushes cap limit [] all)
