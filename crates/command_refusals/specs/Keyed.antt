-- Rows whose keys are those of their documents.
use Rattle.std.specs.Prelude.{⊤, ◌≡◌, ℕ, List, [], ◌∷◌, map as each, Some, if◌then◌else◌}
use Rattle.std.specs.FinMap as map
use Rattle.bson_value.specs.declared.namespace.NsName.{NsName}
use Rattle.state_model.specs.Keys.{Key, same_key}
use Rattle.coll_state.specs.Kept.{Look}
use Rattle.coll_state.specs.Rows.{Document, Row, Table, Rows, key_in, id_of}

abbrev pub AllKeyed : List Row → Type 0
AllKeyed [] = ⊤
AllKeyed (r ∷ rs) = (r.key ≡ key_in (id_of r.document)) × AllKeyed rs

-- each document stands under the key of its `_id`
abbrev pub AreKeyed : Rows → Type 0
AreKeyed s = (n : NsName) (t : Table) → map.get s.tables n ≡ Some t → AllKeyed t.rows

abbrev pub documents : List Row → List Document
documents rs = each (λ (r : Row). r.document) rs

-- a document in the place of the first one of its key, or last
abbrev pub put_document : Key → Document → List Document → List Document
put_document k d [] = d ∷ []
put_document k d (e ∷ es) = if same_key (key_in (id_of e)) k then d ∷ es else e ∷ put_document k d es

-- the documents that looks show
abbrev pub looked_at : List (ℕ × (Document × Look)) → List Document
looked_at xs = each (λ (x : ℕ × (Document × Look)). x.1.0) xs
