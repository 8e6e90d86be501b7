-- What a search for repeated keys has seen so far.
use Rattle.std.specs.Prelude.{ℕ, ◌≡◌, ◌<◌, List, [], length, map as each, true, false, Option, Some, None, option_map, slice_index_or}
use Rattle.index_keys.specs.declared.plan.Plan.{Plan}
use Rattle.index_keys.specs.Keys.{Fields}
use Rattle.index_keys.specs.Texts.{key_texts}
use Rattle.index_build.specs.declared.owners.Repeats.{Repeats}
use Rattle.index_build.specs.Faults.{duplicate_if}
use Rattle.index_build.specs.Owners.{Texts, repeat_place, AreOwners}

pub record Follows (r : Repeats) (lists : List Texts) : Type 0 where
  pub first_is : r.first ≡ repeat_place lists
  pub owners_are : r.first ≡ None → AreOwners r.owners lists

-- the keys of the documents so far were followed, where the index is unique
pub record Watched (plan : Plan) (r : Repeats) (docs : List Fields) : Type 0 where
  pub unique : plan.unique ≡ true → Follows r (each (key_texts plan) docs)
  pub other : plan.unique ≡ false → r.first ≡ None

-- the documents at two places
abbrev pub two_at : List Fields → ℕ × ℕ → Fields × Fields
two_at docs p = (slice_index_or docs p.0 [], slice_index_or docs p.1 [])

abbrev pub AreWithin : ℕ → Option (ℕ × ℕ) → Type 0
AreWithin n None = Unit {0}
AreWithin n (Some p) = (p.0 < n) × (p.1 < n)

-- the places of the first document with a key of an earlier one, where the index is unique
pub record IsRepeat (plan : Plan) (places : Option (ℕ × ℕ)) (docs : List Fields) : Type 0 where
  pub is : duplicate_if plan.unique plan docs ≡ option_map (two_at docs) places
  pub within : AreWithin (length docs) places
