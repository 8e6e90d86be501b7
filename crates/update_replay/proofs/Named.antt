-- What is recorded in the second form is recorded in the first one with names.
use Rattle.std.proofs.Common.{◌≡◌, ℕ, List, [], ◌∷◌, map, Bool, true, refl, sym, ap, ◌∙◌, subst, Some, None}
use Rattle.bson_value.specs.declared.value.Value.{Value}
use Rattle.bson_value.proofs.Digits.{index_of-digits}
use Rattle.bson_value.specs.Place.{Place, Shape, a_leaf, an_array, an_object, a_code, shape, child}
use Rattle.doc_path.specs.declared.parts.Part.{Part}
use Rattle.doc_path.specs.declared.parts.Part.TheVariants.{Name as name, Index as index}
use Rattle.doc_path.specs.declared.parts.Form.TheVariants.{V1, V2}
use Rattle.doc_path.specs.Touch.{key_of, Touch, Set, Unset, Resize, takes, below, from_key, from_index, covers, Way}
use Rattle.touch_laws.specs.Agree.{any_covers, Done, AllDone, SetDone, UnsetDone, ResizeDone}
use Rattle.update_replay.specs.Forms.{as_name, as_names, named}
use Rattle.update_replay.specs.Laws.{NamesRecord}

pub key_as_name : (p : Part) → key_of (as_name p) ≡ key_of p
key_as_name (name k) = refl
key_as_name (index n) = refl

takes_as_name : (p : Part) (s : Shape) → takes V2 p s ≡ true → takes V1 (as_name p) s ≡ true
takes_as_name (name k) an_object e = refl
takes_as_name (name k) an_array e = cc
takes_as_name (name k) (a_leaf c) e = cc
takes_as_name (name k) (a_code t) e = cc
takes_as_name (index n) an_object e = cc
takes_as_name (index n) an_array e = rw (index_of-digits n) e
takes_as_name (index n) (a_leaf c) e = cc
takes_as_name (index n) (a_code t) e = cc

way_as_names : (ps : List Part) (P Q : Value → Type 0) → ((w : Value) → P w → Q w) → (v : Value) → Way V2 ps P v → Way V1 (as_names ps) Q v
way_as_names [] P Q h v w = h v w
way_as_names (p ∷ ps) P Q h v w =
    (takes_as_name p (shape v) w.0, w.1, subst (λ (k : List ℕ). child v k ≡ Some w.1) (sym (key_as_name p)) w.2, way_as_names ps P Q h w.1 w.3)

below_as_names : (ps : List Part) (c : Place → Bool) (q : Place) → below (as_names ps) c q ≡ below ps c q
below_as_names [] c q = refl
below_as_names (p ∷ ps) c [] = refl
below_as_names (p ∷ ps) c (k ∷ q) = rw (key_as_name p, below_as_names ps c q) refl

named_done : (t : Touch) (z : Value) → Done V2 t z → Done V1 (named t) z
named_done (Set ps p a) z w =
    way_as_names ps (SetDone V2 p a) (SetDone V1 (as_name p) a) (λ u h. (takes_as_name p (shape u) h.0, subst (λ (k : List ℕ). child u k ≡ Some a) (sym (key_as_name p)) h.1)) z w
named_done (Unset ps p) z w =
    way_as_names ps (UnsetDone V2 p) (UnsetDone V1 (as_name p)) (λ u h. (takes_as_name p (shape u) h.0, h.1, subst (λ (k : List ℕ). child u k ≡ None) (sym (key_as_name p)) h.2)) z w
named_done (Resize ps n) z w = way_as_names ps (ResizeDone n) (ResizeDone n) (λ u h. h) z w

named_covers : (t : Touch) (q : Place) → covers (named t) q ≡ covers t q
named_covers (Set ps p a) q = below_as_names ps (from_key (key_of (as_name p))) q ∙ ap (λ (k : List ℕ). below ps (from_key k) q) (key_as_name p)
named_covers (Unset ps p) q = below_as_names ps (from_key (key_of (as_name p))) q ∙ ap (λ (k : List ℕ). below ps (from_key k) q) (key_as_name p)
named_covers (Resize ps n) q = below_as_names ps (from_index n) q

all_named_done : (ts : List Touch) (z : Value) → AllDone V2 ts z → AllDone V1 (map named ts) z
all_named_done [] z w = tt
all_named_done (t ∷ ts) z w = (named_done t z w.0, all_named_done ts z w.1)

any_named_covers : (ts : List Touch) (q : Place) → any_covers (map named ts) q ≡ any_covers ts q
any_named_covers [] q = refl
any_named_covers (t ∷ ts) q = rw (named_covers t q, any_named_covers ts q) refl

pub names_recorded : NamesRecord
names_recorded ts old new r = record { frame = λ q e. r.frame q (sym (any_named_covers ts q) ∙ e); done = all_named_done ts new r.done }
