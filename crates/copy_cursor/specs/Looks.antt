-- What a walk over documents shows of them.
use Rattle.std.specs.Prelude.{⊤, ℕ, ◌≡◌, List, [], ◌∷◌, map as each, true}
use Rattle.bson_value.specs.Spelling.{document_text}
use Rattle.coll_state.specs.Kept.{Look, is_short}
use Rattle.coll_state.specs.Rows.{Document}

-- a record number, and a document with the look at it
abbrev pub Item : Type 0
Item = ℕ × (Document × Look)

abbrev pub texts_shown : List Item → List (List ℕ)
texts_shown xs = each (λ (x : Item). document_text x.1.0) xs

-- the number of the last one
abbrev pub last_shown : ℕ → List Item → ℕ
last_shown at [] = at
last_shown at (x ∷ xs) = last_shown x.0 xs

abbrev pub AllShort : List Item → Type 0
AllShort [] = ⊤
AllShort (x ∷ xs) = (is_short x.1.0 ≡ true) × AllShort xs
