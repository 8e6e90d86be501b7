-- What the bytes at the front of a text are read as: the value of the tree that JSON reads.
use Rattle.std.specs.Prelude.{◌≡◌, ℕ, Bool, false, List, [], ◌∷◌, ◌++◌, map, None, Ok, Contains}
use Rattle.containers.specs.Entries.{names_of}
use Rattle.bson_value.specs.declared.value.Value.{Value}
use Rattle.bson_value.specs.declared.value.Value.TheVariants as values
use Rattle.json_tree.specs.declared.tree.Tree.{Tree}
use Rattle.json_text.specs.Reading.{name_at, item_at, member_at, list_at, value_at, array_at, object_at, tree_of_text}
use Rattle.extjson.specs.Values.{value_of, items_value, fields_value, has_wrapper, parts_of}
use Rattle.extjson.specs.Wrappers.{wrapper_of}

-- a document, as contracts see it
abbrev pub Document : Type 0
Document = List (List ℕ × Value)

-- the value, and the bytes behind it
unfoldable pub IsValueRead : ℕ → List ℕ → Value → List ℕ → Type 0
IsValueRead levels bytes v rest = (t : Tree) × ((end : ℕ) → value_at levels end bytes ≡ Ok (t, rest)) × (value_of t ≡ Ok v)

-- a value in an array, and whether another one follows
unfoldable pub IsItemRead : ℕ → List ℕ → Value → Bool → List ℕ → Type 0
IsItemRead levels bytes v more rest = (t : Tree) × ((end : ℕ) (done : List Tree) → item_at (value_at levels) end done bytes ≡ Ok ((t ∷ [], more), rest)) × (value_of t ≡ Ok v)

-- such a value, put behind the items
unfoldable pub IsItemPut : ℕ → List ℕ → List Value → List Value → Bool → List ℕ → Type 0
IsItemPut levels bytes before after more rest = (v : Value) × (after ≡ before ++ v ∷ []) × IsItemRead levels bytes v more rest

-- the values of an array, up to its end
unfoldable pub AreItemsRead : ℕ → List ℕ → List Value → List ℕ → Type 0
AreItemsRead levels bytes vs rest = (ts : List Tree) × ((end : ℕ) → list_at 93 (item_at (value_at levels) end) end bytes ≡ Ok (ts, rest)) × (items_value (map value_of ts) ≡ Ok vs)

unfoldable pub IsArrayRead : ℕ → List ℕ → List Value → List ℕ → Type 0
IsArrayRead levels bytes vs rest = (ts : List Tree) × ((end : ℕ) → array_at levels end bytes ≡ Ok (ts, rest)) × (items_value (map value_of ts) ≡ Ok vs)

-- a name behind these, which may stand in a document and names no wrapper
unfoldable pub IsNameRead : List (List ℕ) → List ℕ → List ℕ → List ℕ → Type 0
IsNameRead before bytes name rest =
    ((end : ℕ) (done : List (List ℕ × Tree)) → names_of done ≡ before → name_at end done bytes ≡ Ok (name, rest))
    × (wrapper_of name ≡ None) × (Contains name 0 → ⊥)

-- a member behind these names, and whether another one follows
unfoldable pub IsMemberRead : ℕ → List (List ℕ) → List ℕ → List ℕ → Value → Bool → List ℕ → Type 0
IsMemberRead levels before bytes name v more rest =
    (t : Tree)
    × ((end : ℕ) (done : List (List ℕ × Tree)) → names_of done ≡ before → member_at (value_at levels) end done bytes ≡ Ok (((name, t) ∷ [], more), rest))
    × (value_of t ≡ Ok v) × (wrapper_of name ≡ None) × (Contains name 0 → ⊥)

-- such a member, put behind the fields
unfoldable pub IsMemberPut : ℕ → List ℕ → Document → Document → Bool → List ℕ → Type 0
IsMemberPut levels bytes before after more rest = (name : List ℕ) × (v : Value) × (after ≡ before ++ (name, v) ∷ []) × IsMemberRead levels (names_of before) bytes name v more rest

-- these members are the fields, and no name of theirs names a wrapper
abbrev pub AreFields : List (List ℕ × Tree) → Document → Type 0
AreFields es fs = (fields_value (parts_of es) ≡ Ok fs) × (has_wrapper es ≡ false) × (names_of es ≡ names_of fs)

-- the members of an object, up to its end
unfoldable pub AreMembersRead : ℕ → List ℕ → Document → List ℕ → Type 0
AreMembersRead levels bytes fs rest = (es : List (List ℕ × Tree)) × ((end : ℕ) → list_at 125 (member_at (value_at levels) end) end bytes ≡ Ok (es, rest)) × AreFields es fs

unfoldable pub IsObjectRead : ℕ → List ℕ → Document → List ℕ → Type 0
IsObjectRead levels bytes fs rest = (es : List (List ℕ × Tree)) × ((end : ℕ) → object_at levels end bytes ≡ Ok (es, rest)) × AreFields es fs

-- the text is JSON of a tree whose value is this document
unfoldable pub IsDocumentOf : List ℕ → Document → Type 0
IsDocumentOf text doc = (t : Tree) × (tree_of_text text ≡ Ok t) × (value_of t ≡ Ok (values.Object doc))
