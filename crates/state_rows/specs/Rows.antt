-- What rows show of collections.
use Rattle.std.specs.Prelude.{◌++◌, ◌==◌, ℕ, List, Option, None, Some, codes, flat_map, is_some, if◌then◌else◌}
use Rattle.std.specs.FinMap as map
use Rattle.json_tree.specs.declared.tree.Tree.{Tree}
use Rattle.json_text.specs.Print.{text_of}
use Rattle.coll_state.specs.Kept.{is_short}
use Rattle.coll_state.specs.Rows.{Document, Table}

-- how a document is held
abbrev pub kind_text : Option Document → List ℕ
kind_text None = codes "none"
kind_text (Some doc) = if is_short doc then codes "spelled" else codes "built"

-- how a document is held, and whether there is a copy of it
abbrev pub held_text : Option Document → List ℕ
held_text doc = kind_text doc ++ codes " " ++ (if is_some doc then codes "true" else codes "false")

-- how an incarnation stands to the one that was asked for before
abbrev pub incarnation_text : Option ℕ → Option ℕ → List ℕ
incarnation_text before None = codes "none"
incarnation_text None (Some n) = codes "another"
incarnation_text (Some m) (Some n) = if m == n then codes "as before" else codes "another"

abbrev pub definition_text : Tree → List ℕ
definition_text def = codes " " ++ text_of def

-- the options of a collection, and its definitions in the order of their names
abbrev pub collection_text : Option Table → List ℕ
collection_text None = codes "none"
collection_text (Some t) = text_of t.options ++ flat_map definition_text (map.values t.indexes)
