-- What is left at once, and that no touch of a record is.
use Rattle.std.proofs.Common.{◌≡◌, List, [], ◌∷◌, ◌++◌, false, refl, sym, ap, ◌∙◌, subst, Some}
use Rattle.bson_value.specs.declared.value.Value.{Value}
use Rattle.bson_value.specs.Place.{Place, look}
use Rattle.doc_path.specs.declared.parts.Form.{Form}
use Rattle.doc_path.specs.Touch.{Touch, play, Fits}
use Rattle.touch_laws.specs.Agree.{Agree, play_all, Records}
use Rattle.doc_path.specs.Played.{is_left, played, played_all, NoneLeft}
use Rattle.touch_laws.proofs.Cover.{agree_step}
use Rattle.touch_laws.proofs.Done.{record_law, record_step}

-- where none is left, all are played
pub played-all : (f : Form) (ts : List Touch) (v : Value) → NoneLeft ts → played_all f ts v ≡ play_all f ts v
played-all f [] v h = refl
played-all f (t ∷ ts) v h = rw h.0 (played-all f ts (play f t v) h.1)

-- the record law, and healing, for what is left at once too
pub record_played_law : (f : Form) (ss : List Touch) (old new : Value) → NoneLeft ss → Records f ss old new → (q : Place) → look (Some (played_all f ss old)) q ≡ look (Some new) q
record_played_law f ss old new h r q = ap (λ (v : Value). look (Some v) q) (played-all f ss old h) ∙ record_law f ss old new r q

pub record_played_heals : (f : Form) (ss ts : List Touch) (y old new : Value) → NoneLeft ss → Records f ss old new → Agree y old (ss ++ ts) → Agree (played_all f ss y) new ts
record_played_heals f ss ts y old new h r a = subst (λ (v : Value). Agree v new ts) (sym (played-all f ss y h)) (record_step f ss ts y old new r a)

-- a touch that fits, and is not left at once
pub agree_played : (f : Form) (t : Touch) (ts : List Touch) (y x : Value) → is_left t ≡ false → Fits f t x → Agree y x (t ∷ ts) → Agree (played f t y) (played f t x) ts
agree_played f t ts y x l fits h = rw l (agree_step f t ts y x fits h)
