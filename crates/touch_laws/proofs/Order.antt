-- A record is one whatever the order of its touches.
use Rattle.std.proofs.Common.{◌≡◌, List, [], ◌∷◌, false, refl, sym, subst, arith, inl, inr}
use Rattle.bson_value.specs.declared.value.Value.{Value}
use Rattle.bson_value.specs.Place.{Place}
use Rattle.doc_path.specs.declared.parts.Form.{Form}
use Rattle.doc_path.specs.Touch.{Touch, covers}
use Rattle.touch_laws.specs.Agree.{any_covers, InTouches, Done, AllDone, Records}

pub none_covers : (ts : List Touch) (q : Place) (t : Touch) → any_covers ts q ≡ false → InTouches t ts → covers t q ≡ false
none_covers [] q t e h = absurd h
none_covers (u ∷ us) q t e (inl p) = let f : covers u q ≡ false = grind arith in subst (λ (z : Touch). covers z q ≡ false) (sym p) f
none_covers (u ∷ us) q t e (inr h) = let f : any_covers us q ≡ false = grind arith in none_covers us q t f h

pub all_none : (ts : List Touch) (q : Place) → ((t : Touch) → InTouches t ts → covers t q ≡ false) → any_covers ts q ≡ false
all_none [] q h = refl
all_none (u ∷ us) q h =
    let a : covers u q ≡ false = h u (inl refl) in
    let b : any_covers us q ≡ false = all_none us q (λ t i. h t (inr i)) in
    grind arith

pub done_of : (f : Form) (ts : List Touch) (v : Value) (t : Touch) → AllDone f ts v → InTouches t ts → Done f t v
done_of f [] v t d h = absurd h
done_of f (u ∷ us) v t d (inl p) = subst (λ (z : Touch). Done f z v) (sym p) d.0
done_of f (u ∷ us) v t d (inr h) = done_of f us v t d.1 h

pub all_done_of : (f : Form) (ts : List Touch) (v : Value) → ((t : Touch) → InTouches t ts → Done f t v) → AllDone f ts v
all_done_of f [] v h = tt
all_done_of f (u ∷ us) v h = (h u (inl refl), all_done_of f us v (λ t i. h t (inr i)))

pub records_same : (f : Form) (ts us : List Touch) (old new : Value) → ((t : Touch) → InTouches t ts → InTouches t us) → ((t : Touch) → InTouches t us → InTouches t ts) → Records f ts old new → Records f us old new
records_same f ts us old new to from r = record {
  frame = λ q e. r.frame q (all_none ts q (λ t i. none_covers us q t e (to t i)));
  done = all_done_of f us new (λ t i. done_of f ts new t r.done (from t i));
}
