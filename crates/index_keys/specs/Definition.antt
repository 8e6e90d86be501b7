-- Index definitions: the normal form, and whether an index is built.
use Rattle.std.specs.Prelude.{◌≡◌, ℕ, Bool, true, false, not, ◌&&◌, ◌||◌, List, [], ◌∷◌, map, Option, Some, None, codes, if◌then◌else◌}
use Rattle.std.specs.List.{list_any, list_all}
use Rattle.std.specs.Str.{bytes_eq}
use Rattle.std.specs.Char.{is_ascii_digit}
use Rattle.containers.specs.Entries.{lookup}
use Rattle.json_tree.specs.declared.tree.Tree.{Tree, Tree-F, out-Tree}
use Rattle.json_tree.specs.declared.tree.Tree.TheVariants as trees
use Rattle.extjson.specs.Trees.{wrapped}
use Rattle.extjson.specs.Plain.{wrapped_fields}
use Rattle.doc_path.specs.Paths.{parts_of, path_fault}
use Rattle.doc_path.specs.declared.path.PathFault.{PathFault}
use Rattle.index_keys.specs.Branches.{Path}
use Rattle.index_keys.specs.declared.plan.Plan.{Plan}
use Rattle.index_keys.specs.declared.plan.Planned.{Planned}
use Rattle.index_keys.specs.declared.plan.Planned.TheVariants as planned

abbrev pub Members : Type 0
Members = List (List ℕ × Tree)

abbrev pub members_at : Tree-F Tree → Option Members
members_at (Tree-F.Object es) = Some es
members_at _ = None

abbrev pub text_at : Tree-F Tree → Option (List ℕ)
text_at (Tree-F.Str t) = Some t
text_at _ = None

-- the members of an object, and the text of a string
unfoldable pub members : Tree → Option Members
members t = members_at (out-Tree t)

unfoldable pub text : Tree → Option (List ℕ)
text t = text_at (out-Tree t)

-- ---- the normal form

abbrev pub is_one_of : List (List ℕ) → List ℕ → Bool
is_one_of names name = list_any (bytes_eq name) names

-- without the fields of these names
abbrev pub others : List (List ℕ) → Members → Members
others names [] = []
others names (e ∷ es) = if is_one_of names e.0 then others names es else e ∷ others names es

abbrev pub version : Option Tree → Tree
version None = wrapped (codes "$numberInt") (trees.Str (codes "2"))
version (Some t) = t

-- the fields that have their place, and `ns`, which is left out
abbrev pub placed : List (List ℕ)
placed = codes "v" ∷ codes "key" ∷ codes "name" ∷ codes "ns" ∷ []

-- version, key and name, and then the other fields
abbrev pub arranged : Members → List ℕ → Members → Members
arranged key name es = (codes "v", version (lookup (codes "v") es)) ∷ (codes "key", trees.Object key) ∷ (codes "name", trees.Str name) ∷ others placed es

-- plain whole numbers become wrappers
abbrev pub normal_of : Option Members → Option (List ℕ) → Members → Option Tree
normal_of (Some key) (Some name) es = Some (trees.Object (wrapped_fields (arranged key name es)))
normal_of _ _ es = None

abbrev pub members_in : Option Tree → Option Members
members_in None = None
members_in (Some t) = members t

abbrev pub text_in : Option Tree → Option (List ℕ)
text_in None = None
text_in (Some t) = text t

abbrev pub normal_in : Option Members → Option Tree
normal_in None = None
normal_in (Some es) = normal_of (members_in (lookup (codes "key") es)) (text_in (lookup (codes "name") es)) es

-- the normal form of a definition: of an object with an object `key` and a string `name`
unfoldable pub normal : Tree → Option Tree
normal t = normal_in (members t)

-- ---- what is built

-- 1 or -1, as one of three wrappers
abbrev pub is_direction_by : Option (List ℕ) → List ℕ → Bool
is_direction_by None name = false
is_direction_by (Some t) name =
    (is_one_of (codes "$numberInt" ∷ codes "$numberLong" ∷ []) name && is_one_of (codes "1" ∷ codes "-1" ∷ []) t)
    || (bytes_eq name (codes "$numberDouble") && is_one_of (codes "1.0" ∷ codes "-1.0" ∷ []) t)

abbrev pub is_direction_in : Option Members → Bool
is_direction_in (Some (e ∷ [])) = is_direction_by (text e.1) e.0
is_direction_in _ = false

unfoldable pub is_direction : Tree → Bool
is_direction t = is_direction_in (members t)

abbrev pub is_faultless : Option PathFault → Bool
is_faultless None = true
is_faultless (Some f) = false

-- a path that can be read, without a part of digits alone
abbrev pub is_plain_path : List ℕ → Bool
is_plain_path t = is_faultless (path_fault t) && not (list_any (list_all is_ascii_digit) (parts_of t))

abbrev pub starts_with : List ℕ → Path → Bool
starts_with k [] = false
starts_with k (j ∷ p) = bytes_eq k j

abbrev pub starts_apart : Path → Path → Bool
starts_apart [] q = true
starts_apart (k ∷ p) q = not (starts_with k q)

-- no two paths have the same first part
abbrev pub all_apart : List Path → Bool
all_apart [] = true
all_apart (p ∷ ps) = list_all (starts_apart p) ps && all_apart ps

abbrev pub flag_at : Tree-F Tree → Option Bool
flag_at (Tree-F.Bool b) = Some b
flag_at _ = None

-- a field that is true or false, or missing
abbrev pub flag : Option Tree → Option Bool
flag None = Some false
flag (Some t) = flag_at (out-Tree t)

abbrev pub known : List (List ℕ)
known = codes "v" ∷ codes "key" ∷ codes "name" ∷ codes "unique" ∷ codes "sparse" ∷ codes "background" ∷ codes "hidden" ∷ []

abbrev pub paths_of : Members → List Path
paths_of key = map (λ e. parts_of e.0) key

-- a direction at a plain path
abbrev pub is_plain_field : List ℕ × Tree → Bool
is_plain_field f = is_direction f.1 && is_plain_path f.0

-- the path of a field
abbrev pub built_path : List ℕ × Tree → Option Path
built_path f = if is_plain_field f then Some (parts_of f.0) else None

-- the paths of one field or more, all of them plain and apart
unfoldable pub built_paths : Members → Option (List Path)
built_paths [] = None
built_paths (e ∷ es) = if list_all is_plain_field (e ∷ es) && all_apart (paths_of (e ∷ es)) then Some (paths_of (e ∷ es)) else None

abbrev pub plan_by : Option (List Path) → Option Bool → Option Bool → Option Plan
plan_by (Some paths) (Some sparse) (Some unique) = Some (record { paths = paths; sparse = sparse; unique = unique })
plan_by _ _ _ = None

abbrev pub paths_in : Option Members → Option (List Path)
paths_in None = None
paths_in (Some key) = built_paths key

abbrev pub all_known : Members → Bool
all_known es = list_all (λ e. is_one_of known e.0) es

abbrev pub plan_in : Option Members → Option Plan
plan_in None = None
plan_in (Some es) = if all_known es then plan_by (paths_in (members_in (lookup (codes "key") es))) (flag (lookup (codes "sparse") es)) (flag (lookup (codes "unique") es)) else None

-- the plan of a definition in normal form, or none where it isn't built
unfoldable pub plan_of : Tree → Option Plan
plan_of t = plan_in (members t)

-- the plan that was answered, or none for Unbuilt
abbrev pub plan_told : Planned → Option Plan
plan_told (planned.Plain plan) = Some plan
plan_told planned.Unbuilt = None

-- ---- the law

-- a normal form is its own normal form
abbrev pub NormalOnce : Type 0
NormalOnce = (t n : Tree) → normal t ≡ Some n → normal n ≡ Some n
