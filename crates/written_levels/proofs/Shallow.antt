-- What is written of edits has few levels more than what they set, at the end of their ways.
use Rattle.std.proofs.Common.{◌≡◌, ℕ, zero, suc, ◌+◌, ◌≤◌, List, [], ◌∷◌, ◌++◌, length, Bool, true, false, refl, sym, ap, ◌∙◌, subst, arith, inl, inr}
use Rattle.std.specs.Prelude.{◌⊎◌, ℤ, pos, if◌then◌else◌, Option, Some, None}
use Rattle.bson_value.specs.declared.value.Value.{Value, Value-F, Object, Int, Bool as Truth, fold-roll-Value}
use Rattle.bson_value.specs.declared.value.Value.TheVariants.{rolls-Int, rolls-Bool}
use Rattle.bson_value.specs.Levels.{levels_in, levels_of, levels_step}
use Rattle.bson_value.proofs.Sizes.{levels-object}
use Rattle.doc_path.specs.declared.parts.Part.{Part}
use Rattle.doc_path.specs.declared.parts.Part.TheVariants.{Name as name, Index as index}
use Rattle.doc_path.specs.declared.parts.Form.{Form}
use Rattle.doc_path.specs.declared.parts.Form.TheVariants.{V1, V2}
use Rattle.doc_path.specs.declared.touches.Touch.{Touch}
use Rattle.doc_path.specs.Touch as theory
use Rattle.doc_path.specs.Played.{touch_of}
use Rattle.touch_laws.specs.Agree.{Done}
use Rattle.touch_laws.proofs.Order.{done_of}
use Rattle.entry_model.specs.Edits as edits
use Rattle.entry_model.specs.Edits.{Step, Sets, Unsets, Resizes, Edit, In, picked, mapped, gathered, same_part, group, under, heads}
use Rattle.entry_model.specs.Written.{Fields, d_name, u_name, i_name, a_name, v_name, diff_name, set_name, unset_name, s_of, u_of, section, gone_in, set_in, new_in, gone, set, new, document_diff, length_in, set_at, parts, below, at_part, array_diff, is_array, diff, path_set, path_gone, spelled_v1, spelled_v2}
use Rattle.entry_model.specs.Touches.{edit_of, written, Writable}
use Rattle.entry_model.proofs.Lists.{in_either, picked_in, mapped_in, gathered_in}
use Rattle.entry_model.proofs.Standing.{group_in}
use Rattle.entry_model.proofs.Regrouped.{head_there}
use Rattle.written_levels.specs.Laws.{WrittenIsShallow}
use Rattle.written_levels.proofs.Standing.{some_level, weight, way_weight}
use Rattle.entry_model.proofs.Touched.{same_touch, touch_in_all}

int_level : (z : ℤ) → levels_in (Int z) ≡ 0
unfolding levels_in
int_level z = ap levels_in (sym (rolls-Int z)) ∙ fold-roll-Value ℕ levels_step (Value-F.Int z)

truth_level : (b : Bool) → levels_in (Truth b) ≡ 0
unfolding levels_in
truth_level b = ap levels_in (sym (rolls-Bool b)) ∙ fold-roll-Value ℕ levels_step (Value-F.Bool b)

-- what each field holds has at most so many levels
abbrev Below : ℕ → Fields → Type 0
Below k fs = (f : List ℕ × Value) → In f fs → levels_in f.1 ≤ k

below_levels : (k : ℕ) (fs : Fields) → Below k fs → levels_of fs ≤ suc k
below_levels k [] h = omega arith
below_levels k (f ∷ fs) h = omega (arith, h f (inl refl), below_levels k fs (λ g i. h g (inr i)))

below_next : (k : ℕ) (n : List ℕ) (v : Value) (fs : Fields) → levels_in v ≤ k → Below k fs → Below k ((n, v) ∷ fs)
below_next k n v fs l h f (inl e) = let q : levels_in f.1 ≡ levels_in v = ap (λ (g : List ℕ × Value). levels_in g.1) e in omega (arith, q, l)
below_next k n v fs l h f (inr i) = h f i

below_append : (k : ℕ) (xs ys : Fields) → Below k xs → Below k ys → Below k (xs ++ ys)
below_append k xs ys a b f i = by (in_either xs ys f i)
  where
    by : In f xs ⊎ In f ys → levels_in f.1 ≤ k
    by (inl j) = a f j
    by (inr j) = b f j

below_more : (k : ℕ) (fs : Fields) → Below k fs → Below (suc k) fs
below_more k fs h f i = omega (arith, h f i)

object_below : (k : ℕ) (fs : Fields) → Below k fs → levels_in (Object fs) ≤ suc k
object_below k fs h = omega (arith, levels-object fs, below_levels k fs h)

section_below : (k : ℕ) (n : List ℕ) (fs : Fields) → Below k fs → Below (suc k) (section n fs)
section_below k n [] h = λ f i. absurd i
section_below k n (g ∷ fs) h = below_next (suc k) n (Object (g ∷ fs)) [] (object_below k (g ∷ fs) h) (λ f i. absurd i)

-- ways, each with what is set at its end
abbrev AllLow : ℕ → List Edit → Type 0
AllLow k es = (e : Edit) → In e es → length e.0 + weight e.1 ≤ k

gone_low : (k : ℕ) (ps : List Part) (s : Step) (f : List ℕ × Value) → gone_in ps s ≡ Some f → levels_in f.1 ≤ k
gone_low k [] (Unsets (name j)) f e = let q : Truth false ≡ f.1 = cc in let l : levels_in (Truth false) ≡ levels_in f.1 = ap (λ (v : Value). levels_in v) q in omega (arith, l, truth_level false)
gone_low k [] (Unsets (index n)) f e = cc
gone_low k [] (Sets p a fresh) f e = cc
gone_low k [] (Resizes n) f e = cc
gone_low k (p ∷ ps) s f e = cc

set_low : (k : ℕ) (ps : List Part) (s : Step) (f : List ℕ × Value) → length ps + weight s ≤ k → set_in ps s ≡ Some f → levels_in f.1 ≤ k
set_low k [] (Sets (name j) a false) f l e = let q : a ≡ f.1 = cc in let m : levels_in a ≡ levels_in f.1 = ap (λ (v : Value). levels_in v) q in omega (arith, l, m)
set_low k [] (Sets (name j) a true) f l e = cc
set_low k [] (Sets (index n) a fresh) f l e = cc
set_low k [] (Unsets p) f l e = cc
set_low k [] (Resizes n) f l e = cc
set_low k (p ∷ ps) s f l e = cc

new_low : (k : ℕ) (ps : List Part) (s : Step) (f : List ℕ × Value) → length ps + weight s ≤ k → new_in ps s ≡ Some f → levels_in f.1 ≤ k
new_low k [] (Sets (name j) a true) f l e = let q : a ≡ f.1 = cc in let m : levels_in a ≡ levels_in f.1 = ap (λ (v : Value). levels_in v) q in omega (arith, l, m)
new_low k [] (Sets (name j) a false) f l e = cc
new_low k [] (Sets (index n) a fresh) f l e = cc
new_low k [] (Unsets p) f l e = cc
new_low k [] (Resizes n) f l e = cc
new_low k (p ∷ ps) s f l e = cc

length_low : (k : ℕ) (ps : List Part) (s : Step) (f : List ℕ × Value) → length_in ps s ≡ Some f → levels_in f.1 ≤ k
length_low k [] (Resizes n) f e = let q : Int (pos n) ≡ f.1 = cc in let l : levels_in (Int (pos n)) ≡ levels_in f.1 = ap (λ (v : Value). levels_in v) q in omega (arith, l, int_level (pos n))
length_low k [] (Sets p a fresh) f e = cc
length_low k [] (Unsets p) f e = cc
length_low k (p ∷ ps) s f e = cc

set_at_low : (k : ℕ) (r : Part) (ps : List Part) (s : Step) (f : List ℕ × Value) → length ps + weight s ≤ k → set_at r ps s ≡ Some f → levels_in f.1 ≤ k
set_at_low k r [] (Sets p a fresh) f l e = by (same_part p r) e
  where
    by : (b : Bool) → (if b then Some (u_of p, a) else None) ≡ Some f → levels_in f.1 ≤ k
    by true g = (let q : a ≡ f.1 = cc in let m : levels_in a ≡ levels_in f.1 = ap (λ (v : Value). levels_in v) q in omega (arith, l, m))
    by false g = cc
set_at_low k r [] (Unsets p) f l e = cc
set_at_low k r [] (Resizes n) f l e = cc
set_at_low k r (p ∷ ps) s f l e = cc

picked_below : (k : ℕ) (pick : List Part → Step → Option (List ℕ × Value)) (es : List Edit) → ((e : Edit) (f : List ℕ × Value) → In e es → pick e.0 e.1 ≡ Some f → levels_in f.1 ≤ k) → Below k (picked (λ e. pick e.0 e.1) es)
picked_below k pick es h f i = let x = picked_in (λ (e : Edit). pick e.0 e.1) es f i in h x.0 f x.1 x.2

-- what is below a part, where there is something
abbrev GoesLow : ℕ → (Part → Fields) → List Edit → Type 0
GoesLow k go es = (r : Part) (d : Edit) → In d (group r es) → levels_of (go r) ≤ suc k

subs_below : (k : ℕ) (go : Part → Fields) (es : List Edit) → GoesLow k go es → Below (suc k) (mapped (λ r. (s_of r, Object (go r))) (heads es))
subs_below k go es h f i =
    let x = mapped_in (λ (r : Part). (s_of r, Object (go r))) (heads es) f i in
    let d = head_there es x.0 x.1 in
    let q : levels_in f.1 ≡ levels_in (Object (go x.0)) = ap (λ (g : List ℕ × Value). levels_in g.1) x.2 in
    omega (arith, q, levels-object (go x.0), h x.0 d.0 d.1)

document_below : (k : ℕ) (go : Part → Fields) (es : List Edit) → AllLow k es → GoesLow k go es → Below (suc k) (document_diff go es)
document_below k go es l h =
    below_append (suc k) (section d_name (gone es)) _ (section_below k d_name (gone es) (picked_below k gone_in es (λ e f i p. gone_low k e.0 e.1 f p)))
    (below_append (suc k) (section u_name (set es)) _ (section_below k u_name (set es) (picked_below k set_in es (λ e f i p. set_low k e.0 e.1 f (l e i) p)))
    (below_append (suc k) (section i_name (new es)) _ (section_below k i_name (new es) (picked_below k new_in es (λ e f i p. new_low k e.0 e.1 f (l e i) p)))
    (subs_below k go es h)))

part_below : (k : ℕ) (go : Part → Fields) (es : List Edit) (r : Part) → AllLow k es → GoesLow k go es → Below (suc k) (at_part go es r)
part_below k go es r l h =
    below_append (suc k) (picked (λ e. set_at r e.0 e.1) es) (below go r (group r es))
    (below_more k _ (picked_below k (set_at r) es (λ e f i p. set_at_low k r e.0 e.1 f (l e i) p))) (by (group r es) refl)
  where
    by : (gs : List Edit) → group r es ≡ gs → Below (suc k) (below go r gs)
    by [] e = λ f i. absurd i
    by (d ∷ gs) e =
        below_next (suc k) (s_of r) (Object (go r)) [] (omega (arith, levels-object (go r), h r d (subst (λ (z : List Edit). In d z) (sym e) (inl refl)))) (λ f i. absurd i)

array_below : (k : ℕ) (go : Part → Fields) (es : List Edit) → AllLow k es → GoesLow k go es → Below (suc k) (array_diff go es)
array_below k go es l h =
    below_next (suc k) a_name (Truth true) _ (omega (arith, truth_level true))
    (below_append (suc k) (picked (λ e. length_in e.0 e.1) es) (gathered (at_part go es) (parts es))
    (picked_below (suc k) length_in es (λ e f i p. length_low (suc k) e.0 e.1 f p))
    (λ f i. (let x = gathered_in (at_part go es) (parts es) f i in part_below k go es x.0 l h f x.2)))

group_low : (k : ℕ) (r : Part) (es : List Edit) → AllLow (suc k) es → AllLow k (group r es)
group_low k r es l d i = omega (arith, l (under r d) (group_in r es d i))

-- of at most so many levels
diff_below : (n k : ℕ) (es : List Edit) → AllLow k es → Below (suc k) (diff n es)
diff_below zero k es l = λ f i. absurd i
diff_below (suc n) k es l = by (is_array es) (goes k refl (λ j low r. diff_below n j (group r es) (group_low j r es low)))
  where
    -- where the ways have no part, nothing is below one
    goes : (j : ℕ) → j ≡ k → ((i : ℕ) → AllLow (suc i) es → (r : Part) → Below (suc i) (diff n (group r es))) → GoesLow k (λ r. diff n (group r es)) es
    goes zero e ih = λ r d i. (let x = l (under r d) (group_in r es d i) in absurd (omega (arith, x, e)))
    goes (suc j) e ih = λ r d i.
        (let g = below_levels (suc j) (diff n (group r es)) (ih j (subst (λ (z : ℕ). AllLow z es) (sym e) l) r) in
        omega (arith, g, e))

    by : (b : Bool) → GoesLow k (λ r. diff n (group r es)) es → Below (suc k) (if b then array_diff (λ r. diff n (group r es)) es else document_diff (λ r. diff n (group r es)) es)
    by true g = array_below k (λ r. diff n (group r es)) es l g
    by false g = document_below k (λ r. diff n (group r es)) es l g

second_low : (n k : ℕ) (es : List Edit) → AllLow k es → levels_of (spelled_v2 n es) ≤ k + 3
second_low n k es l =
    let d = object_below (suc k) (diff n es) (diff_below n k es l) in
    let b : Below (suc (suc k)) (spelled_v2 n es) = below_next (suc (suc k)) v_name (Int (pos 2)) ((diff_name, Object (diff n es)) ∷ []) (omega (arith, int_level (pos 2))) (below_next (suc (suc k)) diff_name (Object (diff n es)) [] d (λ f i. absurd i)) in
    omega (arith, below_levels (suc (suc k)) (spelled_v2 n es) b)

path_set_low : (k : ℕ) (ps : List Part) (s : Step) (f : List ℕ × Value) → length ps + weight s ≤ k → path_set ps s ≡ Some f → levels_in f.1 ≤ k
path_set_low k ps (Sets p a fresh) f l e = let q : a ≡ f.1 = cc in let m : levels_in a ≡ levels_in f.1 = ap (λ (v : Value). levels_in v) q in omega (arith, l, m)
path_set_low k ps (Unsets p) f l e = cc
path_set_low k ps (Resizes n) f l e = cc

path_gone_low : (k : ℕ) (ps : List Part) (s : Step) (f : List ℕ × Value) → path_gone ps s ≡ Some f → levels_in f.1 ≤ k
path_gone_low k ps (Unsets p) f e = let q : Truth true ≡ f.1 = cc in let l : levels_in (Truth true) ≡ levels_in f.1 = ap (λ (v : Value). levels_in v) q in omega (arith, l, truth_level true)
path_gone_low k ps (Sets p a fresh) f e = cc
path_gone_low k ps (Resizes n) f e = cc

first_low : (k : ℕ) (es : List Edit) → AllLow k es → levels_of (spelled_v1 es) ≤ k + 3
first_low k es l =
    let b : Below (suc k) (spelled_v1 es) =
    below_next (suc k) v_name (Int (pos 1)) _ (omega (arith, int_level (pos 1)))
    (below_append (suc k) (section set_name (picked (λ e. path_set e.0 e.1) es)) (section unset_name (picked (λ e. path_gone e.0 e.1) es))
    (section_below k set_name _ (picked_below k path_set es (λ e f i p. path_set_low k e.0 e.1 f (l e i) p)))
    (section_below k unset_name _ (picked_below k path_gone es (λ e f i p. path_gone_low k e.0 e.1 f p)))) in
    omega (arith, below_levels (suc k) (spelled_v1 es) b)

-- ---- the touches of an update

touches_low : (form : Form) (n k : ℕ) (ts : List Touch) (old new : Value) → Writable form n ts old new → levels_in new ≤ suc k → AllLow k (mapped edit_of ts)
touches_low form n k ts old new w l e i =
    let x = mapped_in edit_of ts e i in
    let d : Done form (touch_of x.0) new = done_of form (mapped touch_of ts) new (touch_of x.0) w.records.done (touch_in_all ts x.0 x.1) in
    let at : Done form (edits.touch_of e) new = subst (λ (z : Edit). Done form (edits.touch_of z) new) (sym x.2) (subst (λ (z : theory.Touch). Done form z new) (sym (same_touch x.0)) d) in
    omega (arith, way_weight form e.0 e.1 new at, l)

pub written_is_shallow : WrittenIsShallow
written_is_shallow form n ts old new w = by (levels_in new) refl
  where
    low : (k : ℕ) → levels_in new ≤ suc k → (f : Form) → f ≡ form → levels_of (written f n ts) ≤ k + 3
    low k l V1 e = first_low k (mapped edit_of ts) (touches_low form n k ts old new w l)
    low k l V2 e = second_low n k (mapped edit_of ts) (touches_low form n k ts old new w l)

    by : (m : ℕ) → levels_in new ≡ m → levels_of (written form n ts) ≤ levels_in new + 2
    by zero e = absurd (omega (arith, e, some_level new (inl w.document)))
    by (suc k) e = omega (arith, e, low k (omega (arith, e)) form refl)
