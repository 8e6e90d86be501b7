-- The laws of edits, carried over to touches with whole places.
use Rattle.std.proofs.Common.{◌≡◌, ℕ, suc, ◌<◌, List, [], ◌∷◌, ◌++◌, length, refl, sym, ap, ◌∙◌, subst, arith, inl, inr}
use Rattle.bson_value.specs.declared.value.Value.{Value}
use Rattle.doc_path.specs.declared.parts.Part.{Part}
use Rattle.doc_path.specs.declared.parts.Form.{Form}
use Rattle.doc_path.specs.declared.parts.Form.TheVariants.{V1, V2}
use Rattle.doc_path.specs.declared.touches.Touch.{Touch}
use Rattle.doc_path.specs.declared.touches.Touch.TheVariants.{Set, Unset, Resize}
use Rattle.doc_path.specs.Touch as theory
use Rattle.doc_path.specs.Played.{way_and_last, touch_of}
use Rattle.touch_laws.specs.Agree.{Records, Done, InTouches}
use Rattle.touch_laws.proofs.Order.{done_of}
use Rattle.entry_model.specs.Edits as edits
use Rattle.entry_model.specs.Edits.{Edit, In, mapped}
use Rattle.entry_model.specs.Written.{Fields, spelled_v1, spelled_v2}
use Rattle.entry_model.specs.Laws as laws
use Rattle.entry_model.specs.Touches.{edit_of, touch_from, place_of, written, as_touches, touches_read, Writable, SameTouches, IsReadAs, WrittenIsRead, PlacesOnce, HoldsDistinct, WrittenIsDocument}
use Rattle.entry_model.proofs.Lists.{mapped_in, mapped_has}
use Rattle.entry_model.proofs.Dotted.{first}
use Rattle.entry_model.proofs.Whole.{second}
use Rattle.entry_model.proofs.Deep.{way_level}
use Rattle.entry_model.proofs.Names1.{first_document}
use Rattle.entry_model.proofs.Names2.{second_document}

-- ---- a place and its two parts

pub parted : (p : Part) (ps : List Part) → (way_and_last p ps).0 ++ ((way_and_last p ps).1 ∷ []) ≡ p ∷ ps
parted p [] = refl
parted p (q ∷ qs) = ap (λ (l : List Part). p ∷ l) (parted q qs)

back_again : (t : Touch) → (place_of t ≡ [] → ⊥) → touch_from (edit_of t) ≡ t
back_again (Set [] a fresh) n = absurd (n refl)
back_again (Set (p ∷ ps) a fresh) n = ap (λ (l : List Part). Set l a fresh) (parted p ps)
back_again (Unset []) n = absurd (n refl)
back_again (Unset (p ∷ ps)) n = ap (λ (l : List Part). Unset l) (parted p ps)
back_again (Resize [] m) n = absurd (n refl)
back_again (Resize (p ∷ ps) m) n = refl

edit_place : (t : Touch) → (place_of t ≡ [] → ⊥) → edits.place_of (edit_of t) ≡ place_of t
edit_place (Set [] a fresh) n = absurd (n refl)
edit_place (Set (p ∷ ps) a fresh) n = parted p ps
edit_place (Unset []) n = absurd (n refl)
edit_place (Unset (p ∷ ps)) n = parted p ps
edit_place (Resize [] m) n = absurd (n refl)
edit_place (Resize (p ∷ ps) m) n = refl

pub same_touch : (t : Touch) → edits.touch_of (edit_of t) ≡ touch_of t
same_touch (Set [] a fresh) = refl
same_touch (Set (p ∷ ps) a fresh) = refl
same_touch (Unset []) = refl
same_touch (Unset (p ∷ ps)) = refl
same_touch (Resize [] m) = refl
same_touch (Resize (p ∷ ps) m) = ap (λ (l : List Part). theory.Resize l m) (sym (parted p ps))

same_touches : (ts : List Touch) → mapped edits.touch_of (mapped edit_of ts) ≡ mapped touch_of ts
same_touches [] = refl
same_touches (t ∷ ts) = let a = same_touch t in let b = same_touches ts in λ i. a i ∷ b i

-- ---- what was read, as touches

abbrev Placed : List Touch → Type 0
Placed ts = (t : Touch) → In t ts → place_of t ≡ [] → ⊥

module _ (ts : List Touch) (ds : List Edit) (placed : Placed ts) (s : laws.SameEdits (mapped edit_of ts) ds) where
  of_touch : (d : Edit) → In d ds → (t : Touch) × In t ts × (d ≡ edit_of t)
  of_touch d h = mapped_in edit_of ts d (s.from d h)

  touches_same : SameTouches ts (mapped touch_from ds)
  touches_same = record {
    to = λ t h. subst (λ (z : Touch). In z (mapped touch_from ds)) (back_again t (placed t h)) (mapped_has touch_from ds (edit_of t) (s.to (edit_of t) (mapped_has edit_of ts t h)));
    from = λ u h. (let x = mapped_in touch_from ds u h in let y = of_touch x.0 x.1 in
        subst (λ (z : Touch). In z ts) (sym (x.2 ∙ (ap touch_from y.2 ∙ back_again y.0 (placed y.0 y.1)))) y.1);
  }

  one_again : (d : Edit) → In d ds → edit_of (touch_from d) ≡ d
  one_again d h = let y = of_touch d h in ap (λ (e : Edit). edit_of (touch_from e)) y.2 ∙ (ap edit_of (back_again y.0 (placed y.0 y.1)) ∙ sym y.2)

all_again : (ds : List Edit) → ((d : Edit) → In d ds → edit_of (touch_from d) ≡ d) → mapped edit_of (mapped touch_from ds) ≡ ds
all_again [] h = refl
all_again (d ∷ ds) h = let a = h d (inl refl) in let b = all_again ds (λ e i. h e (inr i)) in λ i. a i ∷ b i

carried : (form : Form) (n : ℕ) (spell : List Edit → Fields) (ts : List Touch) (old new : Value) (ds : List Edit) → Placed ts →
    ((us : List Touch) → written form n us ≡ spell (mapped edit_of us)) → laws.IsReadAs form (suc n) spell (mapped edit_of ts) ds old new → IsReadAs form n ts (mapped touch_from ds) old new
carried form n spell ts old new ds placed is r =
    let back : mapped edit_of (mapped touch_from ds) ≡ ds = all_again ds (one_again ts ds placed r.same) in
    record {
      read = ap (touches_read (suc n)) (is ts) ∙ ap as_touches r.read;
      same = touches_same ts ds placed r.same;
      records = subst (λ (l : List theory.Touch). Records form l old new) (ap (mapped edits.touch_of) (sym back) ∙ same_touches (mapped touch_from ds)) r.records;
      spelled = is (mapped touch_from ds) ∙ (ap spell back ∙ (r.spelled ∙ sym (is ts)));
      again = ap (touches_read (suc n)) (is (mapped touch_from ds)) ∙ (ap (λ (l : List Edit). touches_read (suc n) (spell l)) back ∙ ap as_touches r.again);
    }

edits_each : (P : Edit → Type 0) (ts : List Touch) → ((t : Touch) → In t ts → P (edit_of t)) → (e : Edit) → In e (mapped edit_of ts) → P e
edits_each P ts h e i = let x = mapped_in edit_of ts e i in subst P (sym x.2) (h x.0 x.1)

pub touch_in_all : (ts : List Touch) (t : Touch) → In t ts → InTouches (touch_of t) (mapped touch_of ts)
touch_in_all [] t h = absurd h
touch_in_all (x ∷ ts) t (inl e) = inl (ap touch_of e)
touch_in_all (x ∷ ts) t (inr h) = inr (touch_in_all ts t h)

as_1 : (n : ℕ) (ts : List Touch) (old new : Value) → Writable V1 n ts old new → laws.Writable1 (mapped edit_of ts) old new
as_1 n ts old new w = record {
  records = subst (λ (l : List theory.Touch). Records V1 l old new) (sym (same_touches ts)) w.records;
  ways = edits_each (λ e. laws.ArePlain e.0) ts (λ t h. (w.each t h).1);
  steps = edits_each (λ e. laws.IsPlainStep e.1) ts (λ t h. (w.each t h).2);
}

as_2 : (n : ℕ) (ts : List Touch) (old new : Value) → Writable V2 n ts old new → laws.Writable2 n (mapped edit_of ts) old new
as_2 n ts old new w = record {
  records = subst (λ (l : List theory.Touch). Records V2 l old new) (sym (same_touches ts)) w.records;
  document = w.document;
  named = edits_each (λ e. laws.NewIsNamed e.1) ts (λ t h. (w.each t h).1);
  deep = edits_each (λ e. length e.0 < n) ts (λ t h.
      (let d : Done V2 (edits.touch_of (edit_of t)) new = subst (λ (z : theory.Touch). Done V2 z new) (sym (same_touch t)) (done_of V2 (mapped touch_of ts) new (touch_of t) w.records.done (touch_in_all ts t h)) in
      let l = way_level (edit_of t).0 (edit_of t).1 new d in
      omega (arith, l, w.levels)));
}

pub written_is_read : WrittenIsRead
written_is_read V1 n ts old new w =
    let r = first (suc n) (mapped edit_of ts) old new (as_1 n ts old new w) in
    (mapped touch_from r.0, carried V1 n spelled_v1 ts old new r.0 (λ t h. (w.each t h).0) (λ us. refl) r.1)
written_is_read V2 n ts old new w =
    let r = second n (mapped edit_of ts) old new (as_2 n ts old new w) in
    (mapped touch_from r.0, carried V2 n (spelled_v2 n) ts old new r.0 (λ t h. (w.each t h).0) (λ us. refl) r.1)

-- ---- a document

once_edits : (ts : List Touch) → Placed ts → PlacesOnce ts → laws.PlacesOnce (mapped edit_of ts)
once_edits [] p o = tt
once_edits (t ∷ ts) p o = (
  (λ d i q. (let x = mapped_in edit_of ts d i in
      o.0 x.0 x.1 (sym (edit_place x.0 (p x.0 (inr x.1))) ∙ (ap edits.place_of (sym x.2) ∙ (q ∙ edit_place t (p t (inl refl))))))),
  once_edits ts (λ u i. p u (inr i)) o.1,
)

held_edit : (t : Touch) → (place_of t ≡ [] → ⊥) → HoldsDistinct t → laws.HoldsDistinct (edit_of t).1
held_edit (Set [] a fresh) n h = absurd (n refl)
held_edit (Set (p ∷ ps) a fresh) n h = h
held_edit (Unset []) n h = absurd (n refl)
held_edit (Unset (p ∷ ps)) n h = h
held_edit (Resize [] m) n h = absurd (n refl)
held_edit (Resize (p ∷ ps) m) n h = h

pub written_is_document : WrittenIsDocument
written_is_document V1 n ts old new w o h =
    first_document (mapped edit_of ts) old new (as_1 n ts old new w) (once_edits ts (λ t i. (w.each t i).0) o) (edits_each (λ e. laws.HoldsDistinct e.1) ts (λ t i. held_edit t (w.each t i).0 (h t i)))
written_is_document V2 n ts old new w o h =
    second_document n (mapped edit_of ts) old new (as_2 n ts old new w) (once_edits ts (λ t i. (w.each t i).0) o) (edits_each (λ e. laws.HoldsDistinct e.1) ts (λ t i. held_edit t (w.each t i).0 (h t i)))
