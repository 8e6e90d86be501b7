-- The branches of a path in a document that is held.
use Rattle.std.specs.Prelude.{ℕ, List, [], ◌∷◌, ◌++◌, map, Vec}
use Rattle.std.specs.List.{flat_map}
use Rattle.std.specs.declared.alloc.Global.{Global}
use Rattle.bson_value.specs.declared.value.Value.{Value, Null, Array}
use Rattle.bson_view.specs.Held.{held_value}
use Rattle.index_keys.specs.declared.branches.HeldBranch.{HeldBranch}
use Rattle.index_keys.specs.declared.branches.HeldBranch.TheVariants as held
use Rattle.index_keys.specs.Branches.{Branch, Missing, Empty, Given}
use Rattle.index_keys.specs.Keys.{cell}
use Rattle.index_keys.specs.Texts.{key_text}

abbrev pub branch_of : HeldBranch → Branch
branch_of held.Missing = Missing
branch_of held.Empty = Empty
branch_of (held.Given v) = Given (held_value v)

abbrev pub branches_of : List HeldBranch → List Branch
branches_of bs = map branch_of bs

abbrev pub HeldField : Type 0
HeldField = Vec HeldBranch Global

-- the texts of the keys that begin with these branches and go on with one of each field
abbrev pub texts_behind : List HeldBranch → List HeldField → List (List ℕ)
texts_behind front [] = key_text (map cell (map branch_of front)) ∷ []
texts_behind front (f ∷ fs) = flat_map (λ b. texts_behind (front ++ b ∷ []) fs) f.items

-- a branch as a value, as its value came
abbrev pub branch_value : Branch → Value
branch_value Missing = Array (Null ∷ [])
branch_value Empty = Array []
branch_value (Given v) = Array (v ∷ [])
