-- Touches that are played one after the other.
use Rattle.std.proofs.Common.{◌≡◌, List, [], ◌∷◌, ◌++◌, Bool, false, refl, arith}
use Rattle.std.specs.Prelude.{◌||◌}
use Rattle.bson_value.specs.declared.value.Value.{Value}
use Rattle.bson_value.specs.Place.{Place}
use Rattle.doc_path.specs.declared.parts.Form.{Form}
use Rattle.doc_path.specs.Laws.{Hereditary}
use Rattle.doc_path.specs.Touch.{Touch, play, covers, Fits}
use Rattle.touch_laws.specs.Agree.{any_covers, Agree, play_all, AllFit}
use Rattle.doc_path.proofs.Cover.{mono-covers}
use Rattle.touch_laws.proofs.Replay.{play_goes}

pub or_false : (a b : Bool) → a ≡ false → b ≡ false → a || b ≡ false
or_false a b x y = rw (x, y) refl

pub mono-any : (ts : List Touch) → Hereditary (any_covers ts)
mono-any [] q r n = refl
mono-any (t ∷ ts) q r n = grind (arith, mono-covers t q r, mono-any ts q r)

-- a touch at the front is played on both sides
pub agree_step : (f : Form) (t : Touch) (ts : List Touch) (y x : Value) → Fits f t x → Agree y x (t ∷ ts) → Agree (play f t y) (play f t x) ts
agree_step f t ts y x fits h =
    play_goes f t (any_covers ts) (mono-any ts) y x fits (λ q a b. h q (or_false (covers t q) (any_covers ts q) a b))

pub any-append : (ss ts : List Touch) (q : Place) → any_covers (ss ++ ts) q ≡ any_covers ss q || any_covers ts q
any-append [] ts q = refl
any-append (s ∷ ss) ts q = grind (arith, any-append ss ts q)

pub agree_all : (f : Form) (ss ts : List Touch) (y x : Value) → AllFit f ss x → Agree y x (ss ++ ts) → Agree (play_all f ss y) (play_all f ss x) ts
agree_all f [] ts y x fit h = h
agree_all f (s ∷ ss) ts y x fit h = agree_all f ss ts (play f s y) (play f s x) fit.1 (agree_step f s (ss ++ ts) y x fit.0 h)
