-- The listing of a state: for each collection a line with its name and the number of its documents, a line with its options, a line for each index, and a line for each document.
use Rattle.std.specs.Prelude.{ℕ, List, [], ◌∷◌, ◌++◌, length, codes, Option, Some, None}
use Rattle.std.specs.FinMap as map
use Rattle.std.specs.List.{flat_map}
use Rattle.std.specs.Fmt.{decimal}
use Rattle.bson_value.specs.Namespace.{dot}
use Rattle.bson_value.specs.declared.namespace.NsName.{NsName}
use Rattle.json_tree.specs.declared.tree.Tree.{Tree}
use Rattle.json_text.specs.Print.{quoted, text_of}
use Rattle.state_model.specs.States.{State, Collection}
use Rattle.index_build.specs.Documents.{documents}
use Rattle.index_build.specs.Numbers.{number}
use Rattle.document_lines.specs.declared.form.ListForm.{ListForm}
use Rattle.document_lines.specs.Lines.{Document, line, document_line}

-- db.collection, as a JSON string
abbrev pub name_text : List ℕ → List ℕ → List ℕ
name_text db coll = quoted (db ++ dot ∷ coll)

-- how many documents, and the options as canonical Extended JSON
abbrev pub head_text : List ℕ → List ℕ → ℕ → Tree → List ℕ
head_text db coll count options =
    line (codes "collection " ++ name_text db coll ++ codes " " ++ decimal count) ++ line (codes "options " ++ text_of options)

-- how many keys an index has, if it is built
abbrev pub count_text : Option ℕ → List ℕ
count_text None = codes "unbuilt"
count_text (Some n) = decimal n

-- the number of its keys, and the definition
abbrev pub index_line : Option ℕ → Tree → List ℕ
index_line count def = line (codes "index " ++ count_text count ++ codes " " ++ text_of def)

abbrev pub indexes_text : List Document → List Tree → List ℕ
indexes_text ds defs = flat_map (λ def. index_line (number def ds) def) defs

-- the documents in the order of the keys of their _ids
abbrev pub collection_text : ListForm → NsName → Option Collection → List ℕ
collection_text form n None = []
collection_text form n (Some c) =
    head_text n.db n.coll (length (documents c)) c.options ++ indexes_text (documents c) (map.values c.indexes) ++ flat_map (document_line form) (documents c)

-- by the names of the collections, and in each by those of the indexes
abbrev pub listing : ListForm → State → List ℕ
listing form s = flat_map (λ n. collection_text form n (map.get s n)) (map.keys s)
