-- The laws of touches, and of documents that agree.
use Rattle.std.specs.Prelude.{◌≡◌, ◌↔◌, List, [], ◌∷◌, ◌++◌, Bool, true, false, Some}
use Rattle.bson_value.specs.declared.value.Value.{Value}
use Rattle.bson_value.specs.Place.{Place, look, LooksTheSame}
use Rattle.bson_value.specs.Alike.{◌~◌}
use Rattle.doc_path.specs.declared.parts.Form.{Form}
use Rattle.doc_path.specs.Touch.{Touch, covers, Fits}
use Rattle.doc_path.specs.Played.{is_left, played, played_all, NoneLeft}
use Rattle.doc_path.specs.Laws.{Hereditary}
use Rattle.touch_laws.specs.Agree.{SameBut, SameButEither, any_covers, Agree, AllFit, Done, InTouches, Records}

abbrev pub CoverHereditarily : Type 0
CoverHereditarily = (ts : List Touch) → Hereditary (any_covers ts)

abbrev pub AgreesWithItself : Type 0
AgreesWithItself = (x : Value) → Agree x x []

abbrev pub AgreedIsAlike : Type 0
AgreedIsAlike = (y x : Value) → Agree y x [] ↔ (y ~ x)

abbrev pub MoreTouchesAgree : Type 0
MoreTouchesAgree = (y x : Value) (ts us : List Touch) → ((t : Touch) → InTouches t ts → InTouches t us) → Agree y x ts → Agree y x us

abbrev pub DifferencesAreCovered : Type 0
DifferencesAreCovered = (y x : Value) (ts : List Touch) → Agree y x ts → (q : Place) → (look (Some y) q ≡ look (Some x) q → ⊥) → any_covers ts q ≡ true

abbrev pub ChangesWhatItCovers : Type 0
ChangesWhatItCovers = (f : Form) (t : Touch) (x : Value) → Fits f t x → (q : Place) → covers t q ≡ false → look (Some (played f t x)) q ≡ look (Some x) q

-- whatever else may differ, so long as it goes on below
abbrev pub PlayingKeepsSame : Type 0
PlayingKeepsSame = (f : Form) (t : Touch) (d : Place → Bool) (y x : Value) → Hereditary d → is_left t ≡ false → Fits f t x → SameButEither (covers t) d (Some y) (Some x) → SameBut d (Some (played f t y)) (Some (played f t x))

abbrev pub PlayingKeepsAgreement : Type 0
PlayingKeepsAgreement = (f : Form) (t : Touch) (ts : List Touch) (y x : Value) → is_left t ≡ false → Fits f t x → Agree y x (t ∷ ts) → Agree (played f t y) (played f t x) ts

abbrev pub PlayingAllKeepsAgreement : Type 0
PlayingAllKeepsAgreement = (f : Form) (ss ts : List Touch) (y x : Value) → NoneLeft ss → AllFit f ss x → Agree y x (ss ++ ts) → Agree (played_all f ss y) (played_all f ss x) ts

abbrev pub DoneStays : Type 0
DoneStays = (f : Form) (t : Touch) (v : Value) → Done f t v → played f t v ≡ v

abbrev pub DoneFits : Type 0
DoneFits = (f : Form) (t : Touch) (v : Value) → Done f t v → Fits f t v

abbrev pub RecordLaw : Type 0
RecordLaw = (f : Form) (ss : List Touch) (old new : Value) → NoneLeft ss → Records f ss old new → LooksTheSame (played_all f ss old) new

abbrev pub RecordIsAlike : Type 0
RecordIsAlike = (f : Form) (ss : List Touch) (old new : Value) → NoneLeft ss → Records f ss old new → played_all f ss old ~ new

abbrev pub RecordHeals : Type 0
RecordHeals = (f : Form) (ss ts : List Touch) (y old new : Value) → NoneLeft ss → Records f ss old new → Agree y old (ss ++ ts) → Agree (played_all f ss y) new ts

abbrev pub AnyOrderRecords : Type 0
AnyOrderRecords = (f : Form) (ts us : List Touch) (old new : Value) → ((t : Touch) → InTouches t ts → InTouches t us) → ((t : Touch) → InTouches t us → InTouches t ts) → Records f ts old new → Records f us old new
