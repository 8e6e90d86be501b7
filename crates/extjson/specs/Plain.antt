-- Plain whole numbers as wrappers.
use Rattle.std.specs.Prelude.{◌≡◌, ℕ, Bool, false, List, [], ◌∷◌, map, Option, Some, Ok, Err, is_ok, if◌then◌else◌}
use Rattle.bson_value.specs.WellFormed.{IsWellFormed}
use Rattle.bson_value.specs.declared.value.Value.{Value}
use Rattle.bson_value.specs.declared.value.Value.TheVariants.{MinKey, MaxKey}
use Rattle.json_tree.specs.declared.tree.Tree.{Tree, Tree-F}
use Rattle.json_tree.specs.declared.tree.Tree.TheVariants as trees
use Rattle.json_tree.specs.WellFormed.{IsWellFormed as IsWellFormedTree}
use Rattle.extjson.specs.declared.wrapper.Wrapper.{Wrapper}
use Rattle.extjson.specs.declared.wrapper.Wrapper.TheVariants as wrappers
use Rattle.extjson.specs.Recursion.{by_parts}
use Rattle.extjson.specs.Trees.{tree_of}
use Rattle.extjson.specs.Values.{Read, plain_value, stamp_value, key_value}
use Rattle.extjson.specs.Wrappers.{wrapper_of}

-- a timestamp, or one of the two keys, whose plain number belongs to the wrapper
abbrev pub is_told : Option Wrapper → Tree → Bool
is_told (Some wrappers.Stamp) t = is_ok (stamp_value t)
is_told (Some wrappers.MinKey) t = is_ok (key_value MinKey t)
is_told (Some wrappers.MaxKey) t = is_ok (key_value MaxKey t)
is_told _ t = false

unfoldable pub has_plain_parts : List (List ℕ × Tree) → Bool
has_plain_parts [] = false
has_plain_parts (e ∷ []) = is_told (wrapper_of e.0) e.1
has_plain_parts (e ∷ f ∷ es) = false

-- the tree of what was read, or the tree as it is
abbrev pub tree_or : Tree → Read Value → Tree
tree_or t (Ok v) = tree_of v
tree_or t (Err e) = t

unfoldable pub number_tree : List ℕ → Tree
number_tree t = tree_or (trees.Number t) (plain_value t)

abbrev pub TwoTrees : Type 0
TwoTrees = Tree × Tree

unfoldable pub object_tree : List (List ℕ × TwoTrees) → Tree
object_tree es =
    if has_plain_parts (map (λ e. (e.0, e.1.0)) es) then trees.Object (map (λ e. (e.0, e.1.0)) es)
    else trees.Object (map (λ e. (e.0, e.1.1)) es)

-- one level, where each part stands beside the same part with wrappers
abbrev pub wrapped_step : Tree-F TwoTrees → Tree
wrapped_step Tree-F.Null = trees.Null
wrapped_step (Tree-F.Bool b) = trees.Bool b
wrapped_step (Tree-F.Number t) = number_tree t
wrapped_step (Tree-F.Str t) = trees.Str t
wrapped_step (Tree-F.Items ps) = trees.Items (map (λ p. p.1) ps)
wrapped_step (Tree-F.Object es) = object_tree es

-- the tree with its plain whole numbers that fit 64 bits as wrappers
unfoldable pub wrapped_numbers : Tree → Tree
wrapped_numbers t = by_parts wrapped_step t

abbrev pub wrapped_items : List Tree → List Tree
wrapped_items ts = map wrapped_numbers ts

abbrev pub wrapped_fields : List (List ℕ × Tree) → List (List ℕ × Tree)
wrapped_fields es = map (λ e. (e.0, wrapped_numbers e.1)) es

-- the law that they become wrappers once
abbrev pub WrappedOnce : Type 0
WrappedOnce = (t : Tree) → wrapped_numbers (wrapped_numbers t) ≡ wrapped_numbers t

-- the law that the tree of a value has none
abbrev pub TreesAreWrapped : Type 0
TreesAreWrapped = (v : Value) → IsWellFormed v → wrapped_numbers (tree_of v) ≡ tree_of v

-- the law that the tree stays well-formed
abbrev pub WrappedAreWellFormed : Type 0
WrappedAreWellFormed = (t : Tree) → IsWellFormedTree t → IsWellFormedTree (wrapped_numbers t)
