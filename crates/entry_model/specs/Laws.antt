-- What is written of an update is read again.
use Rattle.std.specs.Prelude.{ℕ, suc, ◌≡◌, ◌<◌, ◌==◌, List, [], ◌∷◌, Some, length, false, Ok}
use Rattle.std.specs.List.{All}
use Rattle.bson_value.specs.declared.value.Value.{Value, Object}
use Rattle.entry_model.specs.Distinct.{AllDistinct}
use Rattle.bson_value.specs.Place.{shape, an_object}
use Rattle.doc_path.specs.declared.parts.Part.{Part}
use Rattle.doc_path.specs.declared.parts.Part.TheVariants.{Name as name, Index as index}
use Rattle.doc_path.specs.declared.parts.Form.{Form}
use Rattle.doc_path.specs.declared.parts.Form.TheVariants.{V1, V2}
use Rattle.touch_laws.specs.Agree.{Done, Records}
use Rattle.doc_path.specs.Paths.{dot}
use Rattle.entry_model.specs.Edits.{Step, Sets, Unsets, Resizes, Edit, In, mapped, touch_of, place_of}
use Rattle.entry_model.specs.Written.{Fields, diff, spelled_v1, spelled_v2}
use Rattle.entry_model.specs.Reads.{diff_read, update_read}

-- a Set at an index is of no new field
abbrev pub NewIsNamed : Step → Type 0
NewIsNamed (Sets (index n) a fresh) = fresh ≡ false
NewIsNamed _ = Unit {0}

-- what one edit needs: it stands in the value, and is not too deep
pub record Stands (n : ℕ) (v : Value) (e : Edit) : Type 0 where
  pub done : Done V2 (touch_of e) v
  pub named : NewIsNamed e.1
  pub deep : length e.0 < n

abbrev pub AllStand : ℕ → Value → List Edit → Type 0
AllStand n v es = (e : Edit) → In e es → Stands n v e

-- the same edits, in whatever order
pub record SameEdits (es ds : List Edit) : Type 0 where
  pub to : (e : Edit) → In e es → In e ds
  pub from : (e : Edit) → In e ds → In e es

abbrev pub DiffIsRead : Type 0
DiffIsRead = (n : ℕ) (v : Value) (es : List Edit) → AllStand n v es → (ds : List Edit) × (diff_read (suc n) (diff n es) ≡ Some ds) × SameEdits es ds

-- ---- the second form: the touches record an update of a document, and their ways are shorter than n
pub record Writable2 (n : ℕ) (es : List Edit) (old new : Value) : Type 0 where
  pub records : Records V2 (mapped touch_of es) old new
  pub document : shape new ≡ an_object
  pub named : (e : Edit) → In e es → NewIsNamed e.1
  pub deep : (e : Edit) → In e es → length e.0 < n

-- What is written of es is read as ds: the same edits in the order of the fields, which record the same update. The same is written of ds, so that it is read as ds itself
pub record IsReadAs (form : Form) (levels : ℕ) (spell : List Edit → Fields) (es ds : List Edit) (old new : Value) : Type 0 where
  pub read : update_read levels (spell es) ≡ Ok (form, ds)
  pub same : SameEdits es ds
  pub records : Records form (mapped touch_of ds) old new
  pub spelled : spell ds ≡ spell es
  pub again : update_read levels (spell ds) ≡ Ok (form, ds)

abbrev pub WrittenIsRead2 : Type 0
WrittenIsRead2 = (n : ℕ) (es : List Edit) (old new : Value) → Writable2 n es old new → (ds : List Edit) × IsReadAs V2 (suc n) (spelled_v2 n) es ds old new

-- ---- the first form: names without dots, no new field, and no Resize
abbrev pub IsPlain : Part → Type 0
IsPlain (name k) = All (λ b. (b == dot) ≡ false) k
IsPlain (index n) = ⊥

abbrev pub ArePlain : List Part → Type 0
ArePlain [] = Unit {0}
ArePlain (p ∷ ps) = IsPlain p × ArePlain ps

abbrev pub IsPlainStep : Step → Type 0
IsPlainStep (Sets p a fresh) = IsPlain p × (fresh ≡ false)
IsPlainStep (Unsets p) = IsPlain p
IsPlainStep (Resizes n) = ⊥

pub record Writable1 (es : List Edit) (old new : Value) : Type 0 where
  pub records : Records V1 (mapped touch_of es) old new
  pub ways : (e : Edit) → In e es → ArePlain e.0
  pub steps : (e : Edit) → In e es → IsPlainStep e.1

abbrev pub WrittenIsRead1 : Type 0
WrittenIsRead1 = (levels : ℕ) (es : List Edit) (old new : Value) → Writable1 es old new → (ds : List Edit) × IsReadAs V1 levels spelled_v1 es ds old new

-- ---- what is written is a document: names are distinct at every level

-- no two edits have the same place
abbrev pub PlacesOnce : List Edit → Type 0
PlacesOnce [] = Unit {0}
PlacesOnce (e ∷ es) = ((d : Edit) → In d es → place_of d ≡ place_of e → ⊥) × PlacesOnce es

abbrev pub HoldsDistinct : Step → Type 0
HoldsDistinct (Sets p a fresh) = AllDistinct a
HoldsDistinct _ = Unit {0}

abbrev pub AllHoldDistinct : List Edit → Type 0
AllHoldDistinct es = (e : Edit) → In e es → HoldsDistinct e.1

abbrev pub WrittenIsDocument2 : Type 0
WrittenIsDocument2 = (n : ℕ) (es : List Edit) (old new : Value) → Writable2 n es old new → PlacesOnce es → AllHoldDistinct es → AllDistinct (Object (spelled_v2 n es))

abbrev pub WrittenIsDocument1 : Type 0
WrittenIsDocument1 = (es : List Edit) (old new : Value) → Writable1 es old new → PlacesOnce es → AllHoldDistinct es → AllDistinct (Object (spelled_v1 es))
