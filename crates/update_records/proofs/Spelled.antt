-- What is written of touches is well-formed but for names that stand twice.
use Rattle.std.proofs.Common.{◌≡◌, ℕ, zero, suc, ◌<◌, ◌^◌, List, [], ◌∷◌, ◌++◌, Bool, true, false, refl, sym, subst, arith, inl}
use Rattle.std.specs.Prelude.{if◌then◌else◌, Option, Some, None, pos, FitsSigned}
use Rattle.std.specs.Int.{w32}
use Rattle.bson_value.specs.declared.value.Value.{Value, Object}
use Rattle.bson_value.specs.declared.value.Value.TheVariants.{Bool as Truth, Int}
use Rattle.bson_value.specs.WellFormed.{IsName}
use Rattle.doc_path.specs.declared.parts.Part.{Part}
use Rattle.doc_path.specs.declared.parts.Part.TheVariants.{Name as name, Index as index}
use Rattle.doc_path.specs.Touch.{key_of}
use Rattle.doc_path.specs.Paths.{dot}
use Rattle.entry_model.specs.Edits.{Step, Sets, Unsets, Resizes, Edit, In, picked, mapped, gathered, same_part, group, under, heads, first_in}
use Rattle.entry_model.specs.Written.{s_of, u_of, d_name, u_name, i_name, a_name, l_name, v_name, set_name, unset_name, diff_name, section, gone_in, set_in, new_in, gone, set, new, document_diff, length_in, set_at, parts, below, at_part, array_diff, is_array, diff, path_of, path_set, path_gone, spelled_v1, spelled_v2}
use Rattle.entry_model.proofs.Lists.{picked_in, mapped_in, gathered_in, once_in}
use Rattle.entry_model.proofs.Standing.{group_in}
use Rattle.update_action.proofs.Texts.{name_append, name_letters, name_letter, name_led}
use Rattle.update_action.proofs.One.{name_v, name_diff}
use Rattle.update_records.proofs.Levels.{Fields}
use Rattle.update_records.proofs.Formed.{IsSound, SoundFields, sound_object, sound_truth, sound_int, sound_none, sound_next, sound_append, sound_section}

abbrev pub AreNamed : List Part → Type 0
AreNamed [] = Unit {0}
AreNamed (p ∷ ps) = IsName (key_of p) × AreNamed ps

abbrev pub IsSoundStep : Step → Type 0
IsSoundStep (Sets p a fresh) = IsName (key_of p) × IsSound a
IsSoundStep (Unsets p) = IsName (key_of p)
IsSoundStep (Resizes n) = n < 2 ^ 31

abbrev pub IsSoundEdit : Edit → Type 0
IsSoundEdit e = AreNamed e.0 × IsSoundStep e.1

abbrev pub AreSound : List Edit → Type 0
AreSound es = (e : Edit) → In e es → IsSoundEdit e

abbrev IsSoundField : List ℕ × Value → Type 0
IsSoundField f = IsName f.0 × IsSound f.1

-- ---- names

name_s : (p : Part) → IsName (key_of p) → IsName (s_of p)
name_s p n = name_led 115 (key_of p) (omega arith) (omega arith) n

name_u : (p : Part) → IsName (key_of p) → IsName (u_of p)
name_u p n = name_led 117 (key_of p) (omega arith) (omega arith) n

name_a : IsName a_name
name_a = name_letter 97 (omega arith) (omega arith)

name_l : IsName l_name
name_l = name_letter 108 (omega arith) (omega arith)

name_d : IsName d_name
name_d = name_letter 100 (omega arith) (omega arith)

name_sets : IsName u_name
name_sets = name_letter 117 (omega arith) (omega arith)

name_i : IsName i_name
name_i = name_letter 105 (omega arith) (omega arith)

fits : (n : ℕ) → n < 2 ^ 31 → FitsSigned w32 (pos n)
fits n h = omega (arith, h)

-- ---- what is picked

picked_sound : (pick : Edit → Option (List ℕ × Value)) (es : List Edit) → AreSound es → ((e : Edit) (f : List ℕ × Value) → IsSoundEdit e → pick e ≡ Some f → IsSoundField f) → SoundFields (picked pick es)
picked_sound pick es h one f i = let x = picked_in pick es f i in one x.0 f (h x.0 x.1) x.2

as_field : (f g : List ℕ × Value) → f ≡ g → IsSoundField f → IsSoundField g
as_field f g e h = subst IsSoundField e h

gone_field : (ps : List Part) (s : Step) (f : List ℕ × Value) → IsSoundStep s → gone_in ps s ≡ Some f → IsSoundField f
gone_field [] (Unsets (name k)) f h e = let q : (k, Truth false) ≡ f = cc in as_field (k, Truth false) f q (h, sound_truth false)
gone_field [] (Unsets (index n)) f h e = cc
gone_field [] (Sets p a fresh) f h e = cc
gone_field [] (Resizes n) f h e = cc
gone_field (p ∷ ps) s f h e = cc

set_field : (ps : List Part) (s : Step) (f : List ℕ × Value) → IsSoundStep s → set_in ps s ≡ Some f → IsSoundField f
set_field [] (Sets (name k) a false) f h e = let q : (k, a) ≡ f = cc in as_field (k, a) f q h
set_field [] (Sets (name k) a true) f h e = cc
set_field [] (Sets (index n) a fresh) f h e = cc
set_field [] (Unsets p) f h e = cc
set_field [] (Resizes n) f h e = cc
set_field (p ∷ ps) s f h e = cc

new_field : (ps : List Part) (s : Step) (f : List ℕ × Value) → IsSoundStep s → new_in ps s ≡ Some f → IsSoundField f
new_field [] (Sets (name k) a true) f h e = let q : (k, a) ≡ f = cc in as_field (k, a) f q h
new_field [] (Sets (name k) a false) f h e = cc
new_field [] (Sets (index n) a fresh) f h e = cc
new_field [] (Unsets p) f h e = cc
new_field [] (Resizes n) f h e = cc
new_field (p ∷ ps) s f h e = cc

length_field : (ps : List Part) (s : Step) (f : List ℕ × Value) → IsSoundStep s → length_in ps s ≡ Some f → IsSoundField f
length_field [] (Resizes n) f h e =
    let q : (l_name, Int (pos n)) ≡ f = cc in
    as_field (l_name, Int (pos n)) f q (name_l, sound_int (pos n) (fits n h))
length_field [] (Sets p a fresh) f h e = cc
length_field [] (Unsets p) f h e = cc
length_field (p ∷ ps) s f h e = cc

at_field : (r : Part) (ps : List Part) (s : Step) (f : List ℕ × Value) → IsSoundStep s → set_at r ps s ≡ Some f → IsSoundField f
at_field r [] (Sets p a fresh) f h e = by (same_part p r) e
  where
    by : (b : Bool) → (if b then Some (u_of p, a) else None) ≡ Some f → IsSoundField f
    by true g = let q : (u_of p, a) ≡ f = cc in as_field (u_of p, a) f q (name_u p h.0, h.1)
    by false g = cc
at_field r [] (Unsets p) f h e = cc
at_field r [] (Resizes n) f h e = cc
at_field r (p ∷ ps) s f h e = cc

-- ---- the second form

group_sound : (r : Part) (es : List Edit) → AreSound es → AreSound (group r es)
group_sound r es h d i = let k = h (under r d) (group_in r es d i) in (k.0.1, k.1)

first_named : (ps : List Part) (r : Part) → AreNamed ps → first_in ps ≡ Some r → IsName (key_of r)
first_named [] r h e = cc
first_named (p ∷ ps) r h e = let q : p ≡ r = cc in subst (λ (x : Part). IsName (key_of x)) q h.0

head_named : (es : List Edit) (r : Part) → AreSound es → In r (heads es) → IsName (key_of r)
head_named es r h i =
    let x = picked_in (λ (e : Edit). first_in e.0) es r (once_in (picked (λ (e : Edit). first_in e.0) es) r i) in
    first_named x.0.0 r (h x.0 x.1).0 x.2

below_sound : (go : Part → Fields) (r : Part) (gs : List Edit) → ((e : Edit) → In e gs → IsName (key_of r)) → SoundFields (go r) → SoundFields (below go r gs)
below_sound go r [] n g = sound_none
below_sound go r (e ∷ gs) n g = sound_next (s_of r) (Object (go r)) [] (name_s r (n e (inl refl))) (sound_object (go r) g) sound_none

module _ (go : Part → Fields) (go_sound : (r : Part) → SoundFields (go r)) (es : List Edit) (h : AreSound es) where
  sub_sound : SoundFields (mapped (λ r. (s_of r, Object (go r))) (heads es))
  sub_sound f i =
      let x = mapped_in (λ (r : Part). (s_of r, Object (go r))) (heads es) f i in
      as_field (s_of x.0, Object (go x.0)) f (sym x.2) (name_s x.0 (head_named es x.0 h x.1), sound_object (go x.0) (go_sound x.0))

  document_sound : SoundFields (document_diff go es)
  document_sound =
      let subs = mapped (λ (r : Part). (s_of r, Object (go r))) (heads es) in
      let i = sound_append (section i_name (new es)) subs (sound_section i_name (new es) name_i (picked_sound (λ e. new_in e.0 e.1) es h (λ e f k. new_field e.0 e.1 f k.1))) sub_sound in
      let u = sound_append (section u_name (set es)) (section i_name (new es) ++ subs) (sound_section u_name (set es) name_sets (picked_sound (λ e. set_in e.0 e.1) es h (λ e f k. set_field e.0 e.1 f k.1))) i in
      sound_append (section d_name (gone es)) (section u_name (set es) ++ (section i_name (new es) ++ subs)) (sound_section d_name (gone es) name_d (picked_sound (λ e. gone_in e.0 e.1) es h (λ e f k. gone_field e.0 e.1 f k.1))) u

  part_sound : (r : Part) → SoundFields (at_part go es r)
  part_sound r =
      sound_append (picked (λ (e : Edit). set_at r e.0 e.1) es) (below go r (group r es)) (picked_sound (λ e. set_at r e.0 e.1) es h (λ e f k. at_field r e.0 e.1 f k.1))
      (below_sound go r (group r es) (λ d i. (h (under r d) (group_in r es d i)).0.0) (go_sound r))

  array_sound : SoundFields (array_diff go es)
  array_sound =
      let lengths = picked (λ (e : Edit). length_in e.0 e.1) es in
      sound_next a_name (Truth true) (lengths ++ gathered (at_part go es) (parts es)) name_a (sound_truth true)
      (sound_append lengths (gathered (at_part go es) (parts es)) (picked_sound (λ e. length_in e.0 e.1) es h (λ e f k. length_field e.0 e.1 f k.1))
      (λ f i. (let x = gathered_in (at_part go es) (parts es) f i in part_sound x.0 f x.2)))

  level_sound : (b : Bool) → SoundFields (if b then array_diff go es else document_diff go es)
  level_sound true = array_sound
  level_sound false = document_sound

diff_sound : (n : ℕ) (es : List Edit) → AreSound es → SoundFields (diff n es)
diff_sound zero es h = sound_none
diff_sound (suc n) es h = level_sound (λ r. diff n (group r es)) (λ r. diff_sound n (group r es) (group_sound r es h)) es h (is_array es)

pub second_sound : (n : ℕ) (es : List Edit) → AreSound es → SoundFields (spelled_v2 n es)
second_sound n es h =
    sound_next v_name (Int (pos 2)) ((diff_name, Object (diff n es)) ∷ []) name_v (sound_int (pos 2) (omega arith))
    (sound_next diff_name (Object (diff n es)) [] name_diff (sound_object (diff n es) (diff_sound n es h)) sound_none)

-- ---- the first form

path_named : (ps : List Part) → AreNamed ps → IsName (path_of ps)
path_named [] h = name_letters [] tt
path_named (p ∷ []) h = h.0
path_named (p ∷ (q ∷ ps)) h = name_append (key_of p) (dot ∷ path_of (q ∷ ps)) h.0 (name_led dot (path_of (q ∷ ps)) (omega arith) (omega arith) (path_named (q ∷ ps) h.1))

pub named_end : (ps : List Part) (p : Part) → AreNamed ps → IsName (key_of p) → AreNamed (ps ++ (p ∷ []))
named_end [] p h n = (n, tt)
named_end (q ∷ ps) p h n = (h.0, named_end ps p h.1 n)

path_set_field : (ps : List Part) (s : Step) (f : List ℕ × Value) → AreNamed ps → IsSoundStep s → path_set ps s ≡ Some f → IsSoundField f
path_set_field ps (Sets p a fresh) f w h e =
    let q : (path_of (ps ++ (p ∷ [])), a) ≡ f = cc in
    as_field (path_of (ps ++ (p ∷ [])), a) f q (path_named (ps ++ (p ∷ [])) (named_end ps p w h.0), h.1)
path_set_field ps (Unsets p) f w h e = cc
path_set_field ps (Resizes n) f w h e = cc

path_gone_field : (ps : List Part) (s : Step) (f : List ℕ × Value) → AreNamed ps → IsSoundStep s → path_gone ps s ≡ Some f → IsSoundField f
path_gone_field ps (Unsets p) f w h e =
    let q : (path_of (ps ++ (p ∷ [])), Truth true) ≡ f = cc in
    as_field (path_of (ps ++ (p ∷ [])), Truth true) f q (path_named (ps ++ (p ∷ [])) (named_end ps p w h), sound_truth true)
path_gone_field ps (Sets p a fresh) f w h e = cc
path_gone_field ps (Resizes n) f w h e = cc

name_set : IsName set_name
name_set = name_letters set_name ((omega arith, omega arith), ((omega arith, omega arith), ((omega arith, omega arith), ((omega arith, omega arith), tt))))

name_unset : IsName unset_name
name_unset = name_letters unset_name ((omega arith, omega arith), ((omega arith, omega arith), ((omega arith, omega arith), ((omega arith, omega arith), ((omega arith, omega arith), ((omega arith, omega arith), tt))))))

pub first_sound : (es : List Edit) → AreSound es → SoundFields (spelled_v1 es)
first_sound es h =
    let ss = picked (λ (e : Edit). path_set e.0 e.1) es in
    let gs = picked (λ (e : Edit). path_gone e.0 e.1) es in
    sound_next v_name (Int (pos 1)) (section set_name ss ++ section unset_name gs) name_v (sound_int (pos 1) (omega arith))
    (sound_append (section set_name ss) (section unset_name gs) (sound_section set_name ss name_set (picked_sound (λ e. path_set e.0 e.1) es h (λ e f k. path_set_field e.0 e.1 f k.0 k.1)))
    (sound_section unset_name gs name_unset (picked_sound (λ e. path_gone e.0 e.1) es h (λ e f k. path_gone_field e.0 e.1 f k.0 k.1))))
