-- The whole o in the first form.
use Rattle.std.proofs.Common.{◌≡◌, ℕ, List, [], ◌∷◌, ◌++◌, Bool, true, false, refl, sym, ap, ◌∙◌, subst, inl, inr}
use Rattle.std.specs.Prelude.{◌⊎◌, ◌==◌, Option, Some, None, pos, Ok}
use Rattle.std.proofs.lemmas.List.Splits.{slice_split_none, slice_split_at}
use Rattle.bson_value.specs.declared.value.Value.{Value, Object, Int}
use Rattle.bson_value.specs.declared.value.Value.TheVariants.{outs-Int, Bool as Truth}
use Rattle.doc_path.specs.declared.parts.Part.{Part}
use Rattle.doc_path.specs.declared.parts.Part.TheVariants.{Name as name, Index as index}
use Rattle.doc_path.specs.declared.parts.Form.TheVariants.{V1}
use Rattle.doc_path.specs.Touch.{key_of}
use Rattle.doc_path.specs.Paths.{dot, parts_of}
use Rattle.doc_path.specs.Played.{way_and_last}
use Rattle.entry_model.specs.Edits.{Step, Sets, Unsets, Resizes, Edit, In, onto, picked, mapped}
use Rattle.entry_model.specs.Written.{Fields, path_of, path_set, path_gone, section, v_name, set_name, unset_name, spelled_v1}
use Rattle.entry_model.specs.Reads.{Read, at_path, path_fields, v1_field, each_field, update_read}
use Rattle.entry_model.specs.Laws.{IsPlain, ArePlain, IsPlainStep, SameEdits, WrittenIsRead1}
use Rattle.entry_model.proofs.Lists.{in_left, in_right, in_either, picked_in, picked_has}
use Rattle.entry_model.proofs.Ordered.{object_read, next_read}
use Rattle.entry_model.proofs.Blocks.{append_nil, picked_append}
use Rattle.entry_model.proofs.Whole.{same_record}

-- ---- a path

is_dot : ℕ → Bool
is_dot b = b == dot

joined_splits : (p : Part) (ps : List Part) → IsPlain p → ArePlain ps → parts_of (path_of (p ∷ ps)) ≡ mapped key_of (p ∷ ps)
joined_splits (index n) ps a b = absurd a
joined_splits (name k) [] a b = slice_split_none (λ b. b == dot) k a
joined_splits (name k) (q ∷ ps) a b =
    slice_split_at (λ b. b == dot) k dot (path_of (q ∷ ps)) a refl ∙ ap (λ (ks : List (List ℕ)). k ∷ ks) (joined_splits q ps b.0 b.1)

pub named_again : (ps : List Part) → ArePlain ps → mapped name (mapped key_of ps) ≡ ps
named_again [] a = refl
named_again (name k ∷ ps) a = ap (λ (qs : List Part). name k ∷ qs) (named_again ps a.1)
named_again (index n ∷ ps) a = absurd a.0

pub last_parted : (q : Part) (ps : List Part) (p : Part) → way_and_last q (ps ++ (p ∷ [])) ≡ (q ∷ ps, p)
last_parted q [] p = refl
last_parted q (r ∷ ps) p = ap (λ (w : List Part × Part). (q ∷ w.0, w.1)) (last_parted r ps p)

pub plain_end : (ps : List Part) (p : Part) → ArePlain ps → IsPlain p → ArePlain (ps ++ (p ∷ []))
plain_end [] p a b = (b, tt)
plain_end (q ∷ ps) p a b = (a.0, plain_end ps p a.1 b)

abbrev pub ended : (Part → Step) → List Part × Part → List Edit
ended s w = (w.0, s w.1) ∷ []

at_path_is : (ps : List Part) (p : Part) (s : Part → Step) → ArePlain ps → IsPlain p → at_path (mapped key_of (ps ++ (p ∷ []))) s ≡ (ps, s p) ∷ []
at_path_is [] (name k) s a b = refl
at_path_is [] (index n) s a b = absurd b
at_path_is (name k ∷ ps) p s a b =
    ap (λ (qs : List Part). ended s (way_and_last (name k) qs)) (named_again (ps ++ (p ∷ [])) (plain_end ps p a.1 b)) ∙ ap (ended s) (last_parted (name k) ps p)
at_path_is (index n ∷ ps) p s a b = absurd a.0

pub path_splits : (ps : List Part) (p : Part) → ArePlain ps → IsPlain p → parts_of (path_of (ps ++ (p ∷ []))) ≡ mapped key_of (ps ++ (p ∷ []))
path_splits [] p a b = joined_splits p [] b tt
path_splits (q ∷ ps) p a b = joined_splits q (ps ++ (p ∷ [])) a.0 (plain_end ps p a.1 b)

path_read : (ps : List Part) (p : Part) (s : Part → Step) → ArePlain ps → IsPlain p → at_path (parts_of (path_of (ps ++ (p ∷ [])))) s ≡ (ps, s p) ∷ []
path_read ps p s a b = ap (λ (ks : List (List ℕ)). at_path ks s) (path_splits ps p a b) ∙ at_path_is ps p s a b

-- ---- the two fields

abbrev pub set_edit : List Part → Step → Option Edit
set_edit ps (Sets p a fresh) = Some (ps, Sets p a fresh)
set_edit ps _ = None

abbrev pub gone_edit : List Part → Step → Option Edit
gone_edit ps (Unsets p) = Some (ps, Unsets p)
gone_edit ps _ = None

abbrev set_field : List ℕ × Value → List Edit
set_field f = at_path (parts_of f.0) (λ p. Sets p f.1 false)

abbrev gone_field : List ℕ × Value → List Edit
gone_field f = at_path (parts_of f.0) (λ p. Unsets p)

set_step : (ps : List Part) (s : Step) (fs : Fields) (ds : List Edit) → ArePlain ps → IsPlainStep s → path_fields set_field fs ≡ Some ds → path_fields set_field (onto (path_set ps s) fs) ≡ Some (onto (set_edit ps s) ds)
set_step ps (Sets p a fresh) fs ds w q h =
    next_read (λ (f : List ℕ × Value). Some (set_field f)) (path_of (ps ++ (p ∷ [])), a) fs ((ps, Sets p a fresh) ∷ []) ds
    (ap (λ (l : List Edit). Some l) (path_read ps p (λ r. Sets r a false) w q.0 ∙ ap (λ (b : Bool). (ps, Sets p a b) ∷ []) (sym q.1))) h
set_step ps (Unsets p) fs ds w q h = h
set_step ps (Resizes n) fs ds w q h = h

gone_step : (ps : List Part) (s : Step) (fs : Fields) (ds : List Edit) → ArePlain ps → IsPlainStep s → path_fields gone_field fs ≡ Some ds → path_fields gone_field (onto (path_gone ps s) fs) ≡ Some (onto (gone_edit ps s) ds)
gone_step ps (Sets p a fresh) fs ds w q h = h
gone_step ps (Unsets p) fs ds w q h =
    next_read (λ (f : List ℕ × Value). Some (gone_field f)) (path_of (ps ++ (p ∷ [])), Truth true) fs ((ps, Unsets p) ∷ []) ds
    (ap (λ (l : List Edit). Some l) (path_read ps p (λ r. Unsets r) w q)) h
gone_step ps (Resizes n) fs ds w q h = h

abbrev AllPlain : List Edit → Type 0
AllPlain es = (e : Edit) → In e es → ArePlain e.0 × IsPlainStep e.1

abbrev set_fields : List Edit → Fields
set_fields es = picked (λ e. path_set e.0 e.1) es

abbrev gone_fields : List Edit → Fields
gone_fields es = picked (λ e. path_gone e.0 e.1) es

abbrev set_edits : List Edit → List Edit
set_edits es = picked (λ e. set_edit e.0 e.1) es

abbrev gone_edits : List Edit → List Edit
gone_edits es = picked (λ e. gone_edit e.0 e.1) es

sets_read : (es : List Edit) → AllPlain es → path_fields set_field (set_fields es) ≡ Some (set_edits es)
sets_read [] h = refl
sets_read (e ∷ es) h = let p = h e (inl refl) in set_step e.0 e.1 (set_fields es) (set_edits es) p.0 p.1 (sets_read es (λ d i. h d (inr i)))

gones_read : (es : List Edit) → AllPlain es → path_fields gone_field (gone_fields es) ≡ Some (gone_edits es)
gones_read [] h = refl
gones_read (e ∷ es) h = let p = h e (inl refl) in gone_step e.0 e.1 (gone_fields es) (gone_edits es) p.0 p.1 (gones_read es (λ d i. h d (inr i)))

-- ---- the whole

section_field : (read : List ℕ → Value → Read) (r : Fields → Read) (n : List ℕ) (fs ys : Fields) (as' bs : List Edit) → ((gs : Fields) → read n (Object gs) ≡ r gs) → r [] ≡ Some [] → r fs ≡ Some as' → each_field read ys ≡ Ok bs → each_field read (section n fs ++ ys) ≡ Ok (as' ++ bs)
section_field read r n [] ys as' bs o z a b = let e : [] ≡ as' = cc in subst (λ (l : List Edit). each_field read ys ≡ Ok (l ++ bs)) e b
section_field read r n (f ∷ fs) ys as' bs o z a b = rw (o (f ∷ fs), a, b) refl

first_fields : (es : List Edit) → AllPlain es → each_field v1_field (section set_name (set_fields es) ++ (section unset_name (gone_fields es) ++ [])) ≡ Ok (set_edits es ++ (gone_edits es ++ []))
first_fields es h =
    section_field v1_field (path_fields set_field) set_name (set_fields es) (section unset_name (gone_fields es) ++ []) (set_edits es) (gone_edits es ++ []) (λ gs. object_read (path_fields set_field) gs) refl (sets_read es h)
    (section_field v1_field (path_fields gone_field) unset_name (gone_fields es) [] (gone_edits es) [] (λ gs. object_read (path_fields gone_field) gs) refl (gones_read es h) refl)

abbrev pub order1 : List Edit → List Edit
order1 es = set_edits es ++ gone_edits es

fields_read : (es : List Edit) → AllPlain es → each_field v1_field (section set_name (set_fields es) ++ section unset_name (gone_fields es)) ≡ Ok (order1 es)
fields_read es h =
    ap (λ (fs : Fields). each_field v1_field (section set_name (set_fields es) ++ fs)) (sym (append_nil (section unset_name (gone_fields es))))
    ∙ (first_fields es h ∙ ap (λ (ds : List Edit). Ok (set_edits es ++ ds)) (append_nil (gone_edits es)))

first_read : (levels : ℕ) (es : List Edit) → AllPlain es → update_read levels (spelled_v1 es) ≡ Ok (V1, order1 es)
first_read levels es h = rw (outs-Int (pos 1), fields_read es h) refl

-- ---- the same edits

to_order : (es : List Edit) (ps : List Part) (s : Step) → IsPlainStep s → In (ps, s) es → In (ps, s) (order1 es)
to_order es ps (Sets p a fresh) q h = in_left (set_edits es) (gone_edits es) (ps, Sets p a fresh) (picked_has (λ (e : Edit). set_edit e.0 e.1) es (ps, Sets p a fresh) (ps, Sets p a fresh) h refl)
to_order es ps (Unsets p) q h = in_right (set_edits es) (gone_edits es) (ps, Unsets p) (picked_has (λ (e : Edit). gone_edit e.0 e.1) es (ps, Unsets p) (ps, Unsets p) h refl)
to_order es ps (Resizes n) q h = absurd q

set_back : (ps : List Part) (s : Step) (d : Edit) → set_edit ps s ≡ Some d → (ps, s) ≡ d
set_back ps (Sets p a fresh) d e = cc
set_back ps (Unsets p) d e = cc
set_back ps (Resizes n) d e = cc

gone_back : (ps : List Part) (s : Step) (d : Edit) → gone_edit ps s ≡ Some d → (ps, s) ≡ d
gone_back ps (Sets p a fresh) d e = cc
gone_back ps (Unsets p) d e = cc
gone_back ps (Resizes n) d e = cc

from_order : (es : List Edit) (d : Edit) → In d (order1 es) → In d es
from_order es d h = by (in_either (set_edits es) (gone_edits es) d h)
  where
    by : In d (set_edits es) ⊎ In d (gone_edits es) → In d es
    by (inl g) = (let y = picked_in (λ (e : Edit). set_edit e.0 e.1) es d g in subst (λ (z : Edit). In z es) (set_back y.0.0 y.0.1 d y.2) y.1)
    by (inr g) = (let y = picked_in (λ (e : Edit). gone_edit e.0 e.1) es d g in subst (λ (z : Edit). In z es) (gone_back y.0.0 y.0.1 d y.2) y.1)

-- ---- the same is written of them

sets_sets : (es : List Edit) → set_fields (set_edits es) ≡ set_fields es
sets_sets [] = refl
sets_sets (e ∷ es) = by e.0 e.1 (sets_sets es)
  where
    by : (ps : List Part) (s : Step) → set_fields (set_edits es) ≡ set_fields es → set_fields (onto (set_edit ps s) (set_edits es)) ≡ onto (path_set ps s) (set_fields es)
    by ps (Sets p a fresh) h = ap (λ (l : Fields). (path_of (ps ++ (p ∷ [])), a) ∷ l) h
    by ps (Unsets p) h = h
    by ps (Resizes n) h = h

gones_gones : (es : List Edit) → gone_fields (gone_edits es) ≡ gone_fields es
gones_gones [] = refl
gones_gones (e ∷ es) = by e.0 e.1 (gones_gones es)
  where
    by : (ps : List Part) (s : Step) → gone_fields (gone_edits es) ≡ gone_fields es → gone_fields (onto (gone_edit ps s) (gone_edits es)) ≡ onto (path_gone ps s) (gone_fields es)
    by ps (Sets p a fresh) h = h
    by ps (Unsets p) h = ap (λ (l : Fields). (path_of (ps ++ (p ∷ [])), Truth true) ∷ l) h
    by ps (Resizes n) h = h

sets_gones : (es : List Edit) → set_fields (gone_edits es) ≡ []
sets_gones [] = refl
sets_gones (e ∷ es) = by e.0 e.1 (sets_gones es)
  where
    by : (ps : List Part) (s : Step) → set_fields (gone_edits es) ≡ [] → set_fields (onto (gone_edit ps s) (gone_edits es)) ≡ []
    by ps (Sets p a fresh) h = h
    by ps (Unsets p) h = h
    by ps (Resizes n) h = h

gones_sets : (es : List Edit) → gone_fields (set_edits es) ≡ []
gones_sets [] = refl
gones_sets (e ∷ es) = by e.0 e.1 (gones_sets es)
  where
    by : (ps : List Part) (s : Step) → gone_fields (set_edits es) ≡ [] → gone_fields (onto (set_edit ps s) (set_edits es)) ≡ []
    by ps (Sets p a fresh) h = h
    by ps (Unsets p) h = h
    by ps (Resizes n) h = h

spelled_again : (es : List Edit) → spelled_v1 (order1 es) ≡ spelled_v1 es
spelled_again es =
    let s : set_fields (order1 es) ≡ set_fields es ++ [] = picked_append (λ (e : Edit). path_set e.0 e.1) (set_edits es) (gone_edits es) ∙ (let a = sets_sets es in let b = sets_gones es in λ i. a i ++ b i) in
    let g : gone_fields (order1 es) ≡ [] ++ gone_fields es = picked_append (λ (e : Edit). path_gone e.0 e.1) (set_edits es) (gone_edits es) ∙ (let a = gones_sets es in let b = gones_gones es in λ i. a i ++ b i) in
    let t : set_fields (order1 es) ≡ set_fields es = s ∙ append_nil (set_fields es) in
    λ i. (v_name, Int (pos 1)) ∷ (section set_name (t i) ++ section unset_name (g i))

pub first : WrittenIsRead1
first levels es old new w =
    let s : SameEdits es (order1 es) = record { to = λ e h. to_order es e.0 e.1 (w.steps e h) h; from = from_order es } in
    let read : update_read levels (spelled_v1 es) ≡ Ok (V1, order1 es) = first_read levels es (λ e h. (w.ways e h, w.steps e h)) in
    (order1 es, record { read = read; same = s; records = same_record V1 es (order1 es) old new s w.records; spelled = spelled_again es; again = ap (update_read levels) (spelled_again es) ∙ read })
