-- The document of an entry: its parts, its bytes and its levels.
use Rattle.std.specs.Prelude.{◌≡◌, ℕ, suc, ◌+◌, ◌<◌, ◌^◌, max, true, [], ◌∷◌, length, codes, pos, Option, Some, None}
use Rattle.std.specs.Str.{is_utf8}
use Rattle.bson_value.specs.declared.value.Value.{Long, Stamp}
use Rattle.bson_value.specs.declared.value.Ts.{Ts}
use Rattle.bson_value.specs.Levels.{levels_of}
use Rattle.bson_value.specs.Spelling.{document_text}
use Rattle.bson_value.specs.WellFormed.{IsWellFormedDocument}
use Rattle.entry_model.specs.Written.{Fields}
use Rattle.entry_model.specs.Spelling.{Body, body_fields, wall}

-- the fields of an entry with this body, and of an item of a group
abbrev pub fields_at : Ts → Body → Fields
fields_at ts b = (codes "ts", Stamp ts) ∷ (codes "t", Long (pos 1)) ∷ (codes "v", Long (pos 2)) ∷ body_fields b ((codes "wall", wall ts.secs) ∷ [])

abbrev pub item_fields : Body → Fields
item_fields b = body_fields b []

-- both numbers fit 32 bits
pub record FitsStamp (ts : Ts) : Type 0 where
  pub secs : ts.secs < 2 ^ 32
  pub inc : ts.inc < 2 ^ 32

abbrev pub IsDocumentIn : Option Fields → Type 0
IsDocumentIn None = Unit {0}
IsDocumentIn (Some d) = IsWellFormedDocument d

-- texts and documents as the types hold them
pub record IsBody (b : Body) : Type 0 where
  pub op : is_utf8 b.op ≡ true
  pub ns : is_utf8 b.ns ≡ true
  pub o2 : IsDocumentIn b.o2
  pub o : IsWellFormedDocument b.o

abbrev pub EntriesAreDocuments : Type 0
EntriesAreDocuments = (ts : Ts) (b : Body) → FitsStamp ts → IsBody b → IsWellFormedDocument (fields_at ts b)

abbrev pub ItemsAreDocuments : Type 0
ItemsAreDocuments = (b : Body) → IsBody b → IsWellFormedDocument (item_fields b)

-- the bytes of `o2`, with its name and its type
abbrev pub size_in : Option Fields → ℕ
size_in None = 0
size_in (Some d) = length (document_text d) + 4

abbrev pub levels_in : Option Fields → ℕ
levels_in None = 0
levels_in (Some d) = levels_of d

-- the bytes of the parts of a body
abbrev pub part_sizes : Body → ℕ
part_sizes b = length b.op + length b.ns + size_in b.o2 + length (document_text b.o)

abbrev pub EntrySizes : Type 0
EntrySizes = (ts : Ts) (b : Body) → length (document_text (fields_at ts b)) ≡ part_sizes b + 74

abbrev pub ItemSizes : Type 0
ItemSizes = (b : Body) → length (document_text (item_fields b)) ≡ part_sizes b + 26

abbrev pub EntryLevels : Type 0
EntryLevels = (ts : Ts) (b : Body) → levels_of (fields_at ts b) ≡ suc (max (levels_in b.o2) (levels_of b.o))

abbrev pub ItemLevels : Type 0
ItemLevels = (b : Body) → levels_of (item_fields b) ≡ suc (max (levels_in b.o2) (levels_of b.o))
