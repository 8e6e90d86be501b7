-- A key as bytes.
use Rattle.std.specs.Prelude.{ℕ, ◌≡◌, ◌<◌, ◌^◌, List, [], ◌∷◌, length, map, fold}
use Rattle.std.specs.List.{list_any}
use Rattle.std.specs.Str.{bytes_eq}
use Rattle.std.specs.Ordering.{nat_cmp}
use Rattle.std.specs.Cmp.Lexicographic.{slice_cmp}
use Rattle.std.specs.BTreeSet.{insert_key}
use Rattle.bson_value.specs.declared.value.Value.{Value, Array}
use Rattle.bson_value.specs.Spelling.{document_text}
use Rattle.containers.specs.Entries.{AreDistinct}
use Rattle.bson_value.specs.WellFormed.{IsWellFormedDocument}
use Rattle.index_keys.specs.declared.plan.Plan.{Plan}
use Rattle.index_keys.specs.Keys.{Fields, Cell, EmptyArray, Of, Key, keys, IsKey}

-- a cell as a value: an array without elements, or of the one value
abbrev pub cell_value : Cell → Value
cell_value EmptyArray = Array []
cell_value (Of v) = Array (v ∷ [])

-- the spelling of the document that holds the cells, under an empty name
unfoldable pub key_text : Key → List ℕ
key_text k = document_text (([], Array (map cell_value k)) ∷ [])

-- the texts, with one more in its place in the order of bytes, where it isn't there yet
abbrev pub put_text : List (List ℕ) → List ℕ → List (List ℕ)
put_text texts t = insert_key (slice_cmp nat_cmp) texts t

-- each text once, in order
abbrev pub each_once : List (List ℕ) → List (List ℕ)
each_once texts = fold put_text [] texts

-- the keys of a document as bytes
abbrev pub key_texts : Plan → Fields → List (List ℕ)
key_texts plan doc = each_once (map key_text (keys plan doc))

-- keys of documents with one text are one key, where a length can hold how long it is
abbrev pub OneText : Type 0
OneText = (plan : Plan) (a b : Fields) (k l : Key) → IsWellFormedDocument a → IsWellFormedDocument b → IsKey plan a k → IsKey plan b l →
    length (key_text k) < 2 ^ 31 → key_text k ≡ key_text l → k ≡ l

-- the texts are distinct, and they are those of the keys
abbrev pub TextsOnce : Type 0
TextsOnce = (plan : Plan) (doc : Fields) → AreDistinct (key_texts plan doc)

abbrev pub TextsAreKeys : Type 0
TextsAreKeys = (plan : Plan) (doc : Fields) (t : List ℕ) → list_any (bytes_eq t) (key_texts plan doc) ≡ list_any (bytes_eq t) (map key_text (keys plan doc))
