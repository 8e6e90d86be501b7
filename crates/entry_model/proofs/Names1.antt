-- What the first form writes has distinct names.
use Rattle.std.proofs.Common.{◌≡◌, ℕ, List, [], ◌∷◌, ◌++◌, true, refl, sym, ap, ◌∙◌, subst, inl, inr}
use Rattle.std.specs.Prelude.{◌⊎◌, Some, pos}
use Rattle.bson_value.specs.declared.value.Value.{Value}
use Rattle.bson_value.specs.declared.value.Value.TheVariants.{Bool as Truth, Int}
use Rattle.entry_model.specs.Distinct.{AllDistinct}
use Rattle.doc_path.specs.declared.parts.Part.{Part}
use Rattle.doc_path.specs.declared.parts.Part.TheVariants.{Name as name}
use Rattle.doc_path.specs.Touch.{key_of}
use Rattle.doc_path.specs.Paths.{parts_of}
use Rattle.entry_model.specs.Edits.{Step, Sets, Unsets, Resizes, Edit, In, picked, mapped, place_in, place_of}
use Rattle.entry_model.specs.Written.{Fields, section, path_of, path_set, path_gone, v_name, set_name, unset_name, spelled_v1}
use Rattle.entry_model.specs.Laws.{ArePlain, IsPlainStep, HoldsDistinct, WrittenIsDocument1}
use Rattle.entry_model.proofs.Lists.{in_either}
use Rattle.entry_model.proofs.Dotted.{named_again, plain_end, path_splits}
use Rattle.entry_model.proofs.Names.{apart, truth_distinct, int_distinct, Good, good_object, good_next, good_append, section_name, good_section, good_picked}

pub record Told (f : List ℕ × Value) (place : List Part) : Type 0 where
  pub parts : parts_of f.0 ≡ mapped key_of place
  pub plain : ArePlain place
  pub held : AllDistinct f.1

set_told : (ps : List Part) (s : Step) (f : List ℕ × Value) → ArePlain ps → IsPlainStep s → HoldsDistinct s → path_set ps s ≡ Some f → Told f (place_in ps s)
set_told ps (Sets p a fresh) f w q d e =
    let h : (path_of (ps ++ (p ∷ [])), a) ≡ f = cc in
    subst (λ (g : List ℕ × Value). Told g (ps ++ (p ∷ []))) h (record { parts = path_splits ps p w q.0; plain = plain_end ps p w q.0; held = d })
set_told ps (Unsets p) f w q d e = cc
set_told ps (Resizes n) f w q d e = cc

gone_told : (ps : List Part) (s : Step) (f : List ℕ × Value) → ArePlain ps → IsPlainStep s → path_gone ps s ≡ Some f → Told f (place_in ps s)
gone_told ps (Unsets p) f w q e =
    let h : (path_of (ps ++ (p ∷ [])), Truth true) ≡ f = cc in
    subst (λ (g : List ℕ × Value). Told g (ps ++ (p ∷ []))) h (record { parts = path_splits ps p w q; plain = plain_end ps p w q; held = truth_distinct true })
gone_told ps (Sets p a fresh) f w q e = cc
gone_told ps (Resizes n) f w q e = cc

one_place : (f g : List ℕ × Value) (ps qs : List Part) → Told f ps → Told g qs → f.0 ≡ g.0 → qs ≡ ps
one_place f g ps qs a b e =
    sym (named_again qs b.plain) ∙ (ap (mapped name) (sym b.parts ∙ (ap parts_of (sym e) ∙ a.parts)) ∙ named_again ps a.plain)

pub first_document : WrittenIsDocument1
first_document es old new w o h =
    let set : (e : Edit) (f : List ℕ × Value) → In e es → path_set e.0 e.1 ≡ Some f → Told f (place_of e) = λ e f i p. set_told e.0 e.1 f (w.ways e i) (w.steps e i) (h e i) p in
    let gone : (e : Edit) (f : List ℕ × Value) → In e es → path_gone e.0 e.1 ≡ Some f → Told f (place_of e) = λ e f i p. gone_told e.0 e.1 f (w.ways e i) (w.steps e i) p in
    let ss : Fields = picked (λ e. path_set e.0 e.1) es in
    let gs : Fields = picked (λ e. path_gone e.0 e.1) es in
    let s : Good ss = good_picked path_set es (λ e d f g i j a b q. one_place f g (place_of e) (place_of d) (set e f i a) (set d g j b) q) (λ e f i a. (set e f i a).held) o in
    let g : Good gs = good_picked path_gone es (λ e d f g i j a b q. one_place f g (place_of e) (place_of d) (gone e f i a) (gone d g j b) q) (λ e f i a. (gone e f i a).held) o in
    good_object (spelled_v1 es) (good_next (v_name, Int (pos 1)) (section set_name ss ++ section unset_name gs) (int_distinct (pos 1)) (λ f i e. behind_v ss gs f e (in_either (section set_name ss) (section unset_name gs) f i))
    (good_append (section set_name ss) (section unset_name gs) (good_section set_name ss s) (good_section unset_name gs g)
    (λ f k a b e. set_unset (sym (section_name set_name ss f a) ∙ (e ∙ section_name unset_name gs k b)))))
  where
    rest : List ℕ → List ℕ
    rest [] = []
    rest (c ∷ cs) = cs

    set_unset : set_name ≡ unset_name → ⊥
    set_unset e = apart 115 117 (101 ∷ (116 ∷ [])) (110 ∷ (115 ∷ (101 ∷ (116 ∷ [])))) refl (ap rest e)

    v_set : v_name ≡ set_name → ⊥
    v_set e = apart 118 115 [] (101 ∷ (116 ∷ [])) refl (ap rest e)

    v_unset : v_name ≡ unset_name → ⊥
    v_unset e = apart 118 117 [] (110 ∷ (115 ∷ (101 ∷ (116 ∷ [])))) refl (ap rest e)

    behind_v : (ss gs : Fields) (f : List ℕ × Value) → v_name ≡ f.0 → In f (section set_name ss) ⊎ In f (section unset_name gs) → ⊥
    behind_v ss gs f e (inl i) = v_set (e ∙ section_name set_name ss f i)
    behind_v ss gs f e (inr i) = v_unset (e ∙ section_name unset_name gs f i)
