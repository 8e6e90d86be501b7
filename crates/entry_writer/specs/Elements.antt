-- The bytes of a field that is a document.
use Rattle.std.specs.Prelude.{ℕ, List, [], ◌∷◌, ◌++◌}
use Rattle.bson_value.specs.Spelling.{element, framed}

-- a document with these elements, in the field of this name
abbrev pub document_element : List ℕ → List ℕ → List ℕ
document_element name body = element (name, (3, framed body))

-- the same before its length is known and the elements are there
abbrev pub opening : List ℕ → List ℕ
opening name = 3 ∷ (name ++ (0 ∷ (0 ∷ (0 ∷ (0 ∷ (0 ∷ []))))))

abbrev pub opening_array : List ℕ → List ℕ
opening_array name = 4 ∷ (name ++ (0 ∷ (0 ∷ (0 ∷ (0 ∷ (0 ∷ []))))))
