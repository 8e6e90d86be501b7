-- A touch that fits changes nothing but what it covers.
use Rattle.std.proofs.Common.{◌≡◌, ℕ, List, [], ◌∷◌, Bool, false, refl, sym, ap, subst, arith, Option, Some, None}
use Rattle.std.proofs.lemmas.Bool.{cases_Bool}
use Rattle.std.specs.Str.{bytes_eq}
use Rattle.bson_value.specs.declared.value.Value.{Value, Value-F, roll-Value}
use Rattle.bson_value.specs.Place.{Place, child, look, sized}
use Rattle.bson_value.proofs.Child.{shape-put, rolled_array}
use Rattle.doc_path.specs.declared.parts.Part.{Part}
use Rattle.doc_path.specs.declared.parts.Form.{Form}
use Rattle.doc_path.specs.Touch.{key_of, Touch, Set, Unset, Resize, or_else, walk, set_last, unset_last, resize_here, made, play, below, from_key, from_index, covers, Way, SetFits, UnsetFits, ResizeFits, Fits}
use Rattle.doc_path.proofs.Kept.{in_reach, put_keeps, del_keeps, sized_keeps, step_keeps}
use Rattle.touch_laws.proofs.Replay.{takes-put, set_on, unset_on, resize_on, walk_on}

abbrev pub Keeps : (Value → Value) → (Place → Bool) → (Value → Type 0) → Type 0
Keeps g c P = (w : Value) → P w → (q : Place) → c q ≡ false → look (Some (g w)) q ≡ look (Some w) q

pub set_keeps : (f : Form) (p : Part) (a : Value) → Keeps (set_last f p a) (from_key (key_of p)) (SetFits f p)
set_keeps f p a w fits q n = rw (set_on f p a w fits.0) (put_keeps w (key_of p) a (λ j. in_reach p w j fits.1) q n)

pub unset_keeps : (f : Form) (p : Part) → Keeps (unset_last f p) (from_key (key_of p)) (UnsetFits f p)
unset_keeps f p w fits q n = rw (unset_on f p w fits.0) (del_keeps w (key_of p) fits.1 q n)

pub resize_keeps : (n : ℕ) → Keeps (resize_here n) (from_index n) (ResizeFits n)
resize_keeps n w fits q m =
    rw (resize_on n w fits.1 fits.2) (subst (λ (z : Value). look (Some (roll-Value (Value-F.Array (sized n fits.1)))) q ≡ look (Some z) q) (sym (rolled_array w fits.1 fits.2)) (sized_keeps n n fits.1 (omega arith) fits.3 q m))

pub walk_keeps : (f : Form) (d : Option Value) (ps : List Part) (g : Value → Value) (c : Place → Bool) (P : Value → Type 0) →
    Keeps g c P → Keeps (walk f d ps g) (below ps c) (Way f ps P)
unfolding look
walk_keeps f d [] g c P h w way q n = h w way q n
walk_keeps f d (p ∷ ps) g c P h w way [] n =
    let on : or_else (child w (key_of p)) d ≡ Some way.1 = rw way.2 refl in
    rw (walk_on f d p ps g w way.1 way.0 on) (ap Some (shape-put w (key_of p) _))
walk_keeps f d (p ∷ ps) g c P h w way (j ∷ q) n =
    let on : or_else (child w (key_of p)) d ≡ Some way.1 = rw way.2 refl in
    rw (walk_on f d p ps g w way.1 way.0 on)
    (step_keeps p w _ way.1 (takes-put f p w _ way.0) way.2 (below ps c) (walk_keeps f d ps g c P h way.1 way.3) j q n (cases_Bool (bytes_eq (key_of p) j)))

pub play_keeps : (f : Form) (t : Touch) → Keeps (play f t) (covers t) (Fits f t)
play_keeps f (Set ps p a) = walk_keeps f (made f) ps (set_last f p a) (from_key (key_of p)) (SetFits f p) (set_keeps f p a)
play_keeps f (Unset ps p) = walk_keeps f None ps (unset_last f p) (from_key (key_of p)) (UnsetFits f p) (unset_keeps f p)
play_keeps f (Resize ps n) = walk_keeps f None ps (resize_here n) (from_index n) (ResizeFits n) (resize_keeps n)
