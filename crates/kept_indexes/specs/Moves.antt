-- What becomes of the indexes of a collection as a document comes or goes.
use Rattle.std.specs.Prelude.{⊤, ◌≡◌, List, [], ◌∷◌, Option, Some, None}
use Rattle.std.specs.FinMap as map
use Rattle.state_model.specs.Keys.{Key}
use Rattle.index_keys.specs.Keys.{Fields}
use Rattle.index_build.specs.Owned.{Holding, put_document}

-- each index has the document in the place of the one that its key had
abbrev pub ArePut : Key → Fields → List Holding → List Holding → Type 0
ArePut k d [] [] = ⊤
ArePut k d [] (g ∷ gs) = ⊥
ArePut k d (h ∷ hs) [] = ⊥
ArePut k d (h ∷ hs) (g ∷ gs) = (g.plan ≡ h.plan) × (g.owned ≡ put_document h.plan h.owned (k, d)) × ArePut k d hs gs

-- no index has the document of the key
abbrev pub AreTakenOut : Key → List Holding → List Holding → Type 0
AreTakenOut k [] [] = ⊤
AreTakenOut k [] (g ∷ gs) = ⊥
AreTakenOut k (h ∷ hs) [] = ⊥
AreTakenOut k (h ∷ hs) (g ∷ gs) = (g.plan ≡ h.plan) × (g.owned ≡ map.remove h.owned k) × AreTakenOut k hs gs

-- a collection that is kept stays kept, and this becomes of its indexes
abbrev pub Becomes : (List Holding → List Holding → Type 0) → Option (List Holding) → Option (List Holding) → Type 0
Becomes P None None = ⊤
Becomes P None (Some gs) = ⊥
Becomes P (Some hs) None = ⊥
Becomes P (Some hs) (Some gs) = P hs gs
