-- The namespace that a text names: a database and a collection with a dot between them.
use Rattle.std.specs.Prelude.{◌≡◌, ℕ, List, [], ◌∷◌, ◌++◌, Contains}

abbrev pub dot : ℕ
dot = 46

-- the text is this database, its first dot, and this collection, and neither of the two is empty
pub record IsSplit (text db coll : List ℕ) : Type 0 where
  pub joined : text ≡ db ++ dot ∷ coll
  pub first_dot : Contains db dot → ⊥
  pub some_db : db ≡ [] → ⊥
  pub some_coll : coll ≡ [] → ⊥
