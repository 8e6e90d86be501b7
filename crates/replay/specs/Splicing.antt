-- A document that is there, with one field or one element of an array set or taken out, and after touches, also those that stay within one field.
use Rattle.std.specs.Prelude.{◌≡◌, ℕ, ◌≤◌, List, [], ◌∷◌, length, map, Bool, true, false, ◌&&◌, nat_lt, Option, Some, None}
use Rattle.std.specs.Str.{bytes_eq}
use Rattle.containers.specs.Entries.{lookup, put, without}
use Rattle.bson_value.specs.declared.namespace.NsName.{NsName}
use Rattle.bson_value.specs.declared.value.Value.{Value}
use Rattle.bson_value.specs.declared.value.Value.TheVariants.{Object}
use Rattle.bson_value.specs.Spelling.{document_text}
use Rattle.bson_encode.specs.Key.{key_of}
use Rattle.doc_path.specs.declared.parts.Form.{Form}
use Rattle.doc_path.specs.declared.parts.Part.{Part}
use Rattle.doc_path.specs.declared.parts.Part.TheVariants.{Name as name, Index as index}
use Rattle.doc_path.specs.declared.touches.Touch.{Touch}
use Rattle.doc_path.specs.declared.touches.Touch.TheVariants.{Set as Sets, Unset as Unsets, Resize as Resizes}
use Rattle.doc_path.specs.Played.{played, played_all, touch_of}
use Rattle.doc_path.specs.Touch.{Touch as Played}
use Rattle.spliced_documents.specs.Splicing.{cut, FitsCutBelow, FitsLeaf, FitsLeafBelow, IsCutBelow, IsPutBelow}
use Rattle.coll_state.specs.Rows.{Document, Rows, id_of, key_in}
use Rattle.coll_state.specs.Changes.{document_at, number_at}
use Rattle.coll_state.specs.Kept.{is_short}

-- a touch sets this field of a document, in either form
abbrev pub SetsField : List ℕ → Value → Played → Type 0
SetsField k v t = (f : Form) (d : Document) → Object (put k v d) ≡ played f t (Object d)

-- a touch takes this field out of a document, in either form
abbrev pub TakesField : List ℕ → Played → Type 0
TakesField k t = (f : Form) (d : Document) → Object (without k d) ≡ played f t (Object d)

-- a touch changes any document like this, in either form
abbrev pub Changes : (Document → Document → Type 0) → Played → Type 0
Changes r t = (f : Form) (d e : Document) → r d e → Object e ≡ played f t (Object d)

-- the document of this `_id`, which stands under this number
abbrev pub IsThere : NsName → Value → Rows → ℕ → Document → Type 0
IsThere n v s number d = (document_at n (key_of v) s.tables ≡ Some d) × (number_at n (key_of v) s.tables ≡ Some number) × (key_in (id_of d) ≡ key_of v)

-- none of them is kept as its spelling
abbrev pub AreBuilt : Option Document → Type 0
AreBuilt o = (d : Document) → o ≡ Some d → is_short d ≡ false

-- the touches are played on a document, by the rules of the form
abbrev pub IsPlayed : Form → List Touch → Document → Document → Type 0
IsPlayed f ts d e = Object e ≡ played_all f (map touch_of ts) (Object d)

-- they are played on the one that is there
abbrev pub IsPlayedThere : NsName → Value → Form → List Touch → Rows → ℕ → Document → Type 0
IsPlayedThere n v f ts s number e = (d : Document) × IsThere n v s number d × IsPlayed f ts d e

-- ---- touches within a field

-- whether this is the name that the part is
abbrev pub is_named : List ℕ → Part → Bool
is_named k (name n) = bytes_eq n k
is_named k (index n) = false

-- whether a place is that of the field of this name, or below it
abbrev pub is_within : List ℕ → List Part → Bool
is_within k [] = false
is_within k (p ∷ ps) = is_named k p

-- whether a touch goes to the field or below it, and doesn't take it out
abbrev pub stays_within : List ℕ → Touch → Bool
stays_within k (Sets place a fresh) = is_within k place
stays_within k (Unsets place) = is_within k place && nat_lt 1 (length place)
stays_within k (Resizes place n) = is_within k place

-- what stands in the field after touches on a document that has this value in it, and no other field
abbrev pub IsPlayedAlone : Form → List Touch → List ℕ → Value → Option Value → Type 0
IsPlayedAlone f ts k x o = (d : Document) × (Object d ≡ played_all f (map touch_of ts) (Object ((k, x) ∷ []))) × (o ≡ lookup k d)

-- ---- a place that a value is given for, or none

-- the touch sets what is at this place to the value, or takes it out where there is none
abbrev pub SaysAt : List Part → Option Value → Touch → Type 0
SaysAt place None t = t ≡ Unsets place
SaysAt place (Some v) t = (fresh : Bool) × (t ≡ Sets place v fresh)

-- a document with the value in this field, or without the field where there is none
abbrev pub IsWith : List ℕ → Option Value → Document → Document → Type 0
IsWith k None d e = e ≡ without k d
IsWith k (Some v) d e = e ≡ put k v d

-- the same of the field k of the document that the field f holds
abbrev pub IsWithBelow : List ℕ → List ℕ → Option Value → Document → Document → Type 0
IsWithBelow f k None d e = IsCutBelow f k d e
IsWithBelow f k (Some v) d e = IsPutBelow f k v d e

-- a value that is given holds no others, a field may have the name, and the spelling with it, or without the field, is within the limits
abbrev pub FitsWith : List ℕ → Option Value → Document → Type 0
FitsWith k None d = length (cut k (document_text d)) ≤ 16777216
FitsWith k (Some v) d = FitsLeaf k v (document_text d)

-- the same of the field k of the document that the field f holds
abbrev pub FitsWithBelow : List ℕ → List ℕ → Option Value → Document → Type 0
FitsWithBelow f k None d = FitsCutBelow f k (document_text d)
FitsWithBelow f k (Some v) d = FitsLeafBelow f k v (document_text d)

-- the document that is there is kept as its spelling, and meets this
abbrev pub FitsThere : NsName → Value → (Document → Type 0) → Rows → Type 0
FitsThere n i fits s = (d : Document) × (document_at n (key_of i) s.tables ≡ Some d) × (is_short d ≡ true) × fits d
