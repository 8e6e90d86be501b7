-- A touch that has nothing left to do fits, and changes nothing. So a record heals, in whatever order its touches stand.
use Rattle.std.proofs.Common.{◌≡◌, ℕ, ◌≤◌, List, [], ◌∷◌, length, ◌++◌, false, refl, sym, ap, ◌∙◌, subst, arith, Option, Some, None}
use Rattle.std.specs.Prelude.{◌||◌}
use Rattle.bson_value.specs.declared.value.Value.{Value, Value-F, out-Value, roll-Value}
use Rattle.bson_value.specs.Digits.{index_of}
use Rattle.bson_value.specs.Place.{Place, at_index, child_in, child, look, put}
use Rattle.bson_value.proofs.Child.{put_same, del_same, within-nth, sized_same, rolled_array}
use Rattle.doc_path.specs.declared.parts.Part.{Part}
use Rattle.doc_path.specs.declared.parts.Form.{Form}
use Rattle.doc_path.specs.Touch.{key_of, Touch, Set, Unset, Resize, walk, made, set_last, unset_last, resize_here, play, Way, ReachIn, InReach, SetFits, UnsetFits, ResizeFits, Fits, or_else}
use Rattle.touch_laws.specs.Agree.{any_covers, Agree, play_all, SetDone, UnsetDone, ResizeDone, Done, AllDone, Records}
use Rattle.touch_laws.proofs.Replay.{set_on, unset_on, resize_on, walk_on}
use Rattle.touch_laws.proofs.Cover.{agree_step, any-append}

reach_at : (i : Option ℕ) (vs : List Value) (a : Value) → at_index vs i ≡ Some a → (m : ℕ) → i ≡ Some m → m ≤ length vs
reach_at None vs a e m f = cc
reach_at (Some n) vs a e m f = let l = within-nth vs n (λ g. let h : None ≡ Some a = sym g ∙ e in cc) in let h : n ≡ m = cc in omega arith

reach_in : (f : Value-F Value) (k : List ℕ) (i : Option ℕ) (a : Value) → child_in f k i ≡ Some a → ReachIn i f
reach_in (Value-F.Array vs) k i a e = reach_at i vs a e
reach_in (Value-F.Object fs) k i a e = tt
reach_in (Value-F.ScopedCode t fs) k i a e = tt
reach_in _ k i a e = tt

pub reach_of : (p : Part) (v a : Value) → child v (key_of p) ≡ Some a → InReach p v
unfolding child
reach_of p v a e = reach_in (out-Value v) (key_of p) (index_of (key_of p)) a e

-- along a way
pub way_map : (f : Form) (ps : List Part) (P Q : Value → Type 0) → ((v : Value) → P v → Q v) → (v : Value) → Way f ps P v → Way f ps Q v
way_map f [] P Q h v w = h v w
way_map f (p ∷ ps) P Q h v w = (w.0, w.1, w.2, way_map f ps P Q h w.1 w.3)

pub walk_same : (f : Form) (d : Option Value) (ps : List Part) (g : Value → Value) (P : Value → Type 0) → ((v : Value) → P v → g v ≡ v) → (v : Value) → Way f ps P v → walk f d ps g v ≡ v
walk_same f d [] g P h v w = h v w
walk_same f d (p ∷ ps) g P h v w =
    let on : or_else (child v (key_of p)) d ≡ Some w.1 = rw w.2 refl in
    walk_on f d p ps g v w.1 w.0 on ∙ (ap (put v (key_of p)) (walk_same f d ps g P h w.1 w.3) ∙ put_same v (key_of p) w.1 w.2)

pub set_same : (f : Form) (p : Part) (a v : Value) → SetDone f p a v → set_last f p a v ≡ v
set_same f p a v h = set_on f p a v h.0 ∙ put_same v (key_of p) a h.1

pub unset_same : (f : Form) (p : Part) (v : Value) → UnsetDone f p v → unset_last f p v ≡ v
unset_same f p v h = unset_on f p v h.0 ∙ del_same v (key_of p) h.1 h.2

pub resize_same : (n : ℕ) (v : Value) → ResizeDone n v → resize_here n v ≡ v
resize_same n v h = resize_on n v h.1 h.2 ∙ (ap (λ (l : List Value). roll-Value (Value-F.Array l)) (sized_same n h.1 h.3) ∙ sym (rolled_array v h.1 h.2))

pub done_same : (f : Form) (t : Touch) (v : Value) → Done f t v → play f t v ≡ v
done_same f (Set ps p a) v h = walk_same f (made f) ps (set_last f p a) (SetDone f p a) (set_same f p a) v h
done_same f (Unset ps p) v h = walk_same f None ps (unset_last f p) (UnsetDone f p) (unset_same f p) v h
done_same f (Resize ps n) v h = walk_same f None ps (resize_here n) (ResizeDone n) (resize_same n) v h

pub done_fits : (f : Form) (t : Touch) (v : Value) → Done f t v → Fits f t v
done_fits f (Set ps p a) v h = way_map f ps (SetDone f p a) (SetFits f p) (λ w d. (d.0, reach_of p w a d.1)) v h
done_fits f (Unset ps p) v h = way_map f ps (UnsetDone f p) (UnsetFits f p) (λ w d. (d.0, d.1)) v h
done_fits f (Resize ps n) v h = way_map f ps (ResizeDone n) (ResizeFits n) (λ w d. (d.0, d.1, d.2, subst (λ z. n ≤ z) (sym d.3) (omega arith))) v h

-- touches done in x are played on y
pub done_step : (f : Form) (ss ts : List Touch) (y x : Value) → AllDone f ss x → Agree y x (ss ++ ts) → Agree (play_all f ss y) x ts
done_step f [] ts y x d h = h
done_step f (s ∷ ss) ts y x d h =
    done_step f ss ts (play f s y) x d.1
    (subst (λ (z : Value). Agree (play f s y) z (ss ++ ts)) (done_same f s x d.0) (agree_step f s (ss ++ ts) y x (done_fits f s x d.0) h))

-- a record played on a document that agrees with the old one gives one that agrees with the new one
pub record_step : (f : Form) (ss ts : List Touch) (y old new : Value) → Records f ss old new → Agree y old (ss ++ ts) → Agree (play_all f ss y) new ts
record_step f ss ts y old new r h =
    done_step f ss ts y new r.done (λ q e.
    let g : any_covers ss q || any_covers ts q ≡ false = sym (any-append ss ts q) ∙ e in
    let a : any_covers ss q ≡ false = grind arith in
    h q e ∙ sym (r.frame q a))

-- the record law
pub record_law : (f : Form) (ss : List Touch) (old new : Value) → Records f ss old new → (q : Place) → look (Some (play_all f ss old)) q ≡ look (Some new) q
record_law f ss old new r q = record_step f ss [] old old new r (λ p e. refl) q refl
