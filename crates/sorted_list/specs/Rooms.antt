-- How many elements more a list has room for.
use Rattle.std.specs.Prelude.{◌≡◌, ◌+◌, ◌-◌, ◌*◌, ◌≤◌, ◌⊎◌, ℕ, List, [], ◌∷◌, length}
use Rattle.sorted_list.specs.Chunks.{AreRoomy, AreEmpty}

-- the elements beyond half a chunk, of so many
abbrev pub over_half : ℕ → ℕ
over_half n = n - 64

-- those of all chunks
abbrev pub surplus : {T : Type 0} → List (List T) → ℕ
surplus [] = 0
surplus (c ∷ cs) = over_half (length c) + surplus cs

-- where there is no chunk, the first element takes a spare, as where the only chunk is full
abbrev pub wanted : {T : Type 0} → List (List T) → ℕ
wanted [] = 63
wanted (c ∷ cs) = surplus (c ∷ cs)

-- the elements of the last chunk
abbrev pub last_len : {T : Type 0} → List (List T) → ℕ
last_len [] = 127
last_len (c ∷ []) = length c
last_len (c ∷ (d ∷ ds)) = last_len (d ∷ ds)

-- so many spares do for so many elements that are put: a put takes one at most, and one that takes one leaves two halves
abbrev pub Affords : ℕ → ℕ → ℕ → Type 0
Affords room more spares = (room ≤ spares) ⊎ (room + more ≤ 64 * spares)

-- and for so many that are pushed
abbrev pub AffordsEnd : ℕ → ℕ → ℕ → Type 0
AffordsEnd room last spares = room + last ≤ 127 * (spares + 1)

-- what holds of the chunks and spares of a list, of the room that there is for chunks and for spares, and of what was counted
pub record IsStocked {T : Type 0} (cs ss : List (List T)) (held spare_held counted room end_room : ℕ) : Type 0 where
  pub roomy : AreRoomy cs
  pub empty : AreEmpty ss
  pub fits : length cs + length ss ≤ held
  pub spares_fit : length cs + length ss ≤ spare_held
  pub over : counted ≡ surplus cs
  pub puts : Affords room (wanted cs) (length ss)
  pub pushes : AffordsEnd end_room (last_len cs) (length ss)
