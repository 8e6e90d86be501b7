-- The metadata text of a collection, as a value of JSON, and what such a text means.
use Rattle.std.specs.Prelude.{◌≡◌, ℕ, Bool, true, false, List, [], ◌∷◌, length, map, fold, Option, Some, None, option_map, Result, Ok, Err, codes, String, string_bytes, if◌then◌else◌}
use Rattle.std.specs.declared.alloc.Global.{Global}
use Rattle.std.specs.Ordering.{nat_cmp}
use Rattle.std.specs.Cmp.Lexicographic.{slice_cmp}
use Rattle.std.specs.Str.{bytes_eq}
use Rattle.std.specs.BTreeMap.{insert_entry}
use Rattle.containers.specs.Entries.{lookup}
use Rattle.json_tree.specs.declared.tree.Tree.{Tree, Tree-F, out-Tree}
use Rattle.json_tree.specs.declared.tree.Tree.TheVariants as trees
use Rattle.json_text.specs.Reading.{tree_of_text}
use Rattle.extjson.specs.Trees.{wrapped}
use Rattle.extjson.specs.Plain.{wrapped_numbers}
use Rattle.metadata_text.specs.declared.fault.MetaFault.{MetaFault}
use Rattle.metadata_text.specs.declared.fault.MetaFault.TheVariants as faults

-- ---- what is written

-- the definition of the index on `_id`
abbrev pub id_definition : Tree
id_definition = trees.Object (
    (codes "v", wrapped (codes "$numberInt") (trees.Str (codes "2")))
    ∷ (codes "key", wrapped (codes "_id") (wrapped (codes "$numberInt") (trees.Str (codes "1"))))
    ∷ (codes "name", trees.Str (codes "_id_")) ∷ [])

unfoldable pub metadata_tree : List ℕ → Tree → List Tree → Tree
metadata_tree coll options defs = trees.Object (
    (codes "options", options)
    ∷ (codes "indexes", trees.Items (id_definition ∷ defs))
    ∷ (codes "collectionName", trees.Str coll)
    ∷ (codes "type", trees.Str (codes "collection")) ∷ [])

-- ---- what is read

-- the options and the definitions, or the place of the fault
abbrev pub Meta : Type 0
Meta = Result (Tree × List Tree) ℕ

-- What a function returned is this, unless memory ran out.
abbrev pub Fails : MetaFault → Meta → Type 0
Fails faults.NoMemory read = Unit {0}
Fails (faults.Bad at) read = read ≡ Err at

abbrev pub Gives : Result (Tree × List Tree) MetaFault → Meta → Type 0
Gives (Ok x) read = read ≡ Ok x
Gives (Err e) read = Fails e read

abbrev pub is_object_at : Tree-F Tree → Bool
is_object_at (Tree-F.Object es) = true
is_object_at _ = false

unfoldable pub is_object : Tree → Bool
is_object t = is_object_at (out-Tree t)

abbrev pub text_at : Tree-F Tree → Option (List ℕ)
text_at (Tree-F.Str t) = Some t
text_at _ = None

abbrev pub text_in : Option Tree → Option (List ℕ)
text_in None = None
text_in (Some t) = text_at (out-Tree t)

abbrev pub name_beside : Option Tree → Option Tree → Option (List ℕ)
name_beside None name = None
name_beside (Some key) name = if is_object key then text_in name else None

abbrev pub name_at : Tree-F Tree → Option (List ℕ)
name_at (Tree-F.Object es) = name_beside (lookup (codes "key") es) (lookup (codes "name") es)
name_at _ = None

-- the name of a definition: an object with an object `key` and a string `name`
unfoldable pub definition_name : Tree → Option (List ℕ)
definition_name t = name_at (out-Tree t)

abbrev pub Named : Type 0
Named = List (List ℕ × Tree)

abbrev pub name_first : Tree → Option (List ℕ) → Option Named → Option Named
name_first d None es = None
name_first d (Some n) None = None
name_first d (Some n) (Some es) = Some ((n, d) ∷ es)

-- each definition with its name, where each has one
unfoldable pub named : List Tree → Option Named
named [] = Some []
named (d ∷ ds) = name_first d (definition_name d) (named ds)

-- the definition among those before it, which stand in the order of their names: in the place of one with its name
abbrev pub put_in_order : Named → List ℕ × Tree → Named
put_in_order es e = if bytes_eq e.0 (codes "_id_") then es else insert_entry (slice_cmp nat_cmp) es e.0 e.1

unfoldable pub in_order : Named → Named
in_order es = fold put_in_order [] es

-- the entries of a map, by the bytes of their names
abbrev pub by_bytes : List (String Global × Tree) → Named
by_bytes es = map (λ e. (string_bytes e.0, e.1)) es

abbrev pub trees_of : Named → List Tree
trees_of es = map (λ e. e.1) es

unfoldable pub definitions_of : List Tree → Option (List Tree)
definitions_of ds = option_map (λ es. trees_of (in_order es)) (named ds)

abbrev pub options_in : Option Tree → Option Tree
options_in None = Some (trees.Object [])
options_in (Some t) = if is_object t then Some (wrapped_numbers t) else None

unfoldable pub options_of : Named → Option Tree
options_of es = options_in (lookup (codes "options") es)

abbrev pub indexes_at : Tree-F Tree → Option (List Tree)
indexes_at (Tree-F.Items ds) = definitions_of ds
indexes_at _ = None

abbrev pub indexes_in : Option Tree → Option (List Tree)
indexes_in None = Some []
indexes_in (Some t) = indexes_at (out-Tree t)

unfoldable pub indexes_of : Named → Option (List Tree)
indexes_of es = indexes_in (lookup (codes "indexes") es)

abbrev pub both_or : ℕ → Option Tree → Option (List Tree) → Meta
both_or at None ds = Err at
both_or at (Some o) None = Err at
both_or at (Some o) (Some ds) = Ok (o, ds)

abbrev pub members_meta : ℕ → Tree-F Tree → Meta
members_meta at (Tree-F.Object es) = both_or at (options_of es) (indexes_of es)
members_meta at _ = Err at

abbrev pub tree_meta : ℕ → Result Tree ℕ → Meta
tree_meta end (Ok t) = members_meta end (out-Tree t)
tree_meta end (Err at) = Err at

-- what a metadata text means
unfoldable pub metadata_of : List ℕ → Meta
metadata_of [] = Ok (trees.Object [], [])
metadata_of (b ∷ bs) = tree_meta (length (b ∷ bs)) (tree_of_text (b ∷ bs))
