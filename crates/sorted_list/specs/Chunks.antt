-- A list in chunks, and the chunk to which a search leads.
use Rattle.std.specs.Prelude.{⊤, ◌≡◌, ◌<◌, ℕ, suc, List, [], ◌∷◌, ◌++◌, Bool, true, false, if◌then◌else◌, length, slice_get, Option, Some, None}
use Rattle.std.specs.Ordering.{is_lt}
use Rattle.std.specs.declared.cmp.Ordering.{Ordering}
use Rattle.std.specs.declared.cmp.Ordering.TheVariants.{Less, Greater}

-- the elements of all chunks
abbrev pub joined : {T : Type 0} → List (List T) → List T
joined [] = []
joined (c ∷ cs) = c ++ joined cs

-- so many elements has a chunk room for
abbrev pub chunk_len : ℕ
chunk_len = 128

-- no chunk is empty, and none is full
abbrev pub AreRoomy : {T : Type 0} → List (List T) → Type 0
AreRoomy [] = ⊤
AreRoomy (c ∷ cs) = (0 < length c) × (length c < chunk_len) × AreRoomy cs

abbrev pub AreEmpty : {T : Type 0} → List (List T) → Type 0
AreEmpty [] = ⊤
AreEmpty (c ∷ cs) = (c ≡ []) × AreEmpty cs

abbrev pub last_of : {T : Type 0} → List T → Option T
last_of [] = None
last_of (x ∷ []) = Some x
last_of (x ∷ (y ∷ ys)) = last_of (y ∷ ys)

-- an element stands at this place of this chunk
abbrev pub StandsAt : {T : Type 0} → T → List (List T) → ℕ → ℕ → Type 0
StandsAt {T} x cs n i = (c : List T) × ((slice_get cs n ≡ Some c) × (slice_get c i ≡ Some x))

abbrev pub side : Bool → Ordering
side true = Less
side false = Greater

module _ {T : Type 0} (ord : T → Ordering) where
  abbrev pub is_below : Option T → Bool
  is_below None = false
  is_below (Some x) = is_lt (ord x)

  -- a chunk ends below what is sought
  abbrev pub ends_below : List T → Bool
  ends_below c = is_below (last_of c)

  -- how many chunks do
  abbrev pub seat : List (List T) → ℕ
  seat [] = 0
  seat (c ∷ cs) = if ends_below c then suc (seat cs) else 0

  -- the chunk into which an element goes: the one to which a search leads, or the last
  abbrev pub near : List (List T) → ℕ
  near [] = 0
  near (c ∷ []) = 0
  near (c ∷ (d ∷ ds)) = if ends_below c then suc (near (d ∷ ds)) else 0
