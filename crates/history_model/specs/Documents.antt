-- What the store asks of documents, options, definitions and names, and how it keeps them.
use Rattle.std.specs.Prelude.{ℕ, List, [], ◌∷◌, Bool, true, false, not, ◌&&◌, ◌||◌, ◌==◌, nat_le, length, codes, Option, Some, None, is_some}
use Rattle.std.specs.List.{list_any, list_all}
use Rattle.std.specs.Str.{bytes_eq}
use Rattle.containers.specs.Entries.{lookup, without}
use Rattle.bson_value.specs.declared.namespace.NsName.{NsName}
use Rattle.bson_value.specs.declared.value.Value.{Value, Object, out-Value}
use Rattle.bson_value.specs.Levels.{levels_of}
use Rattle.bson_value.specs.Spelling.{tag_of, spelled, document_text}
use Rattle.doc_path.specs.Played.{id_name}
use Rattle.json_tree.specs.declared.tree.Tree.{Tree}
use Rattle.json_text.specs.Print.{text_of}
use Rattle.extjson.specs.Trees.{tree_of}
use Rattle.index_keys.specs.Definition.{normal}
use Rattle.coll_state.specs.Rows.{Document as Fields, id_of}
use Rattle.update_model.specs.Arguments.{text_in}
use Rattle.update_model.specs.Updating.{fields_of}

-- ---- documents

abbrev pub id_before : Option Value → Fields → Fields
id_before None d = d
id_before (Some v) d = (id_name, v) ∷ without id_name d

-- a document is kept with its `_id` first
abbrev pub id_first : Fields → Fields
id_first d = id_before (id_of d) d

abbrev pub has_field : List ℕ → Fields → Bool
has_field name d = is_some (lookup name d)

-- an array, a regular expression and undefined are no `_id`, nor is what spells to more than 1,024 bytes
abbrev pub is_good_id : Option Value → Bool
is_good_id None = false
is_good_id (Some v) = not (list_any (λ t. t == tag_of v) (4 ∷ 6 ∷ 11 ∷ [])) && nat_le (length (spelled v)) 1024

unfoldable pub is_good_document : Fields → Bool
is_good_document d = is_good_id (id_of d) && (nat_le (length (document_text d)) 16777216 && nat_le (levels_of d) 100)

-- ---- options and definitions, which are kept as values of JSON

unfoldable pub options_of : Fields → Tree
options_of o = tree_of (Object o)

-- a print of at most 8,192 bytes
abbrev pub is_short : Tree → Bool
is_short t = nat_le (length (text_of t)) 8192

unfoldable pub are_good_options : Fields → Bool
are_good_options o = not (has_field (codes "create") o || has_field (codes "idIndex") o) && (is_short (options_of o) && nat_le (levels_of o) 100)

-- the normal form of a definition, where it has one
unfoldable pub normal_of : Fields → Option Tree
normal_of d = normal (tree_of (Object d))

-- a document with a field
abbrev pub is_key_in : Fields → Bool
is_key_in [] = false
is_key_in (f ∷ fs) = true

abbrev pub is_key : Option Value → Bool
is_key None = false
is_key (Some v) = is_key_in (fields_of v)

abbrev pub text_of_value : Option Value → Option (List ℕ)
text_of_value None = None
text_of_value (Some v) = text_in (out-Value v)

-- the name of a definition, where it is a text
abbrev pub name_of : Fields → Option (List ℕ)
name_of d = text_of_value (lookup (codes "name") d)

abbrev pub is_a_name : Option (List ℕ) → Bool
is_a_name (Some (b ∷ bs)) = true
is_a_name _ = false

abbrev pub is_short_form : Option Tree → Bool
is_short_form None = false
is_short_form (Some t) = is_short t

unfoldable pub is_good_definition : Fields → Bool
is_good_definition d =
    (is_key (lookup (codes "key") d) && is_a_name (name_of d)) && (not (has_field (codes "createIndexes") d || has_field (codes "ns") d) && (is_short_form (normal_of d) && nat_le (levels_of d) 100))

-- ---- names to be made

abbrev pub is_between : ℕ → ℕ → ℕ → Bool
is_between low high c = nat_le low c && nat_le c high

-- an ASCII letter, a digit, `_` or `-`
abbrev pub is_word : ℕ → Bool
is_word c = (is_between 48 57 c || is_between 65 90 c) || (is_between 97 122 c || ((c == 95) || (c == 45)))

abbrev pub is_dot : ℕ → Bool
is_dot c = c == 46

abbrev pub begins : List ℕ → List ℕ → Bool
begins [] t = true
begins (c ∷ cs) [] = false
begins (c ∷ cs) (d ∷ ds) = (c == d) && begins cs ds

abbrev pub ends_with_dot : List ℕ → Bool
ends_with_dot [] = false
ends_with_dot (c ∷ []) = is_dot c
ends_with_dot (c ∷ d ∷ cs) = ends_with_dot (d ∷ cs)

abbrev pub is_reserved : List ℕ → Bool
is_reserved t = list_any (bytes_eq t) (codes "admin" ∷ codes "config" ∷ codes "local" ∷ [])

-- 1 to 63 letters
abbrev pub is_database_name : List ℕ → Bool
is_database_name t = is_between 1 63 (length t) && (list_all is_word t && not (is_reserved t))

-- 1 to 120 letters or dots
abbrev pub is_collection_name : List ℕ → Bool
is_collection_name t = is_between 1 120 (length t) && (list_all (λ c. is_word c || is_dot c) t && (not (begins (codes ".") t) && (not (ends_with_dot t) && not (begins (codes "system.") t))))

unfoldable pub is_bad_name : NsName → Bool
is_bad_name n = not (is_database_name n.db && is_collection_name n.coll)
