-- The whole o in the second form, and what the same edits record.
use Rattle.std.proofs.Common.{◌≡◌, ℕ, suc, zero, List, [], ◌∷◌, Bool, false, refl, sym, ap, ◌∙◌, subst, inl, inr}
use Rattle.std.specs.Prelude.{if◌then◌else◌, Some, None, pos, Ok}
use Rattle.bson_value.specs.declared.value.Value.{Value, Object, Int}
use Rattle.bson_value.specs.declared.value.Value.TheVariants.{outs-Int}
use Rattle.doc_path.specs.declared.parts.Form.{Form}
use Rattle.doc_path.specs.declared.parts.Form.TheVariants.{V2}
use Rattle.doc_path.specs.Touch.{Touch}
use Rattle.touch_laws.specs.Agree.{InTouches, Records}
use Rattle.touch_laws.proofs.Order.{done_of, records_same}
use Rattle.entry_model.specs.Edits.{Edit, In, mapped, group, touch_of}
use Rattle.entry_model.specs.Written.{Fields, diff, is_array, diff_name, v_name, spelled_v2}
use Rattle.entry_model.specs.Reads.{has_a, diff_read, outermost, v2_field, update_read}
use Rattle.entry_model.specs.Laws.{AllStand, SameEdits, Writable2, WrittenIsRead2}
use Rattle.entry_model.proofs.Standing.{not_array}
use Rattle.entry_model.proofs.Ordered.{object_read, no_a, order, read_order, append_none}
use Rattle.entry_model.proofs.Members.{same_edits}
use Rattle.entry_model.proofs.Spelled.{spelled_again}

-- ---- what the same edits record

touches_has : (es : List Edit) (e : Edit) → In e es → InTouches (touch_of e) (mapped touch_of es)
touches_has [] e h = absurd h
touches_has (x ∷ es) e (inl p) = inl (ap touch_of p)
touches_has (x ∷ es) e (inr h) = inr (touches_has es e h)

touches_in : (es : List Edit) (t : Touch) → InTouches t (mapped touch_of es) → (e : Edit) × In e es × (t ≡ touch_of e)
touches_in [] t h = absurd h
touches_in (x ∷ es) t (inl p) = (x, inl refl, p)
touches_in (x ∷ es) t (inr h) = let r = touches_in es t h in (r.0, inr r.1, r.2)

carried : (es ds : List Edit) → ((e : Edit) → In e es → In e ds) → (t : Touch) → InTouches t (mapped touch_of es) → InTouches t (mapped touch_of ds)
carried es ds f t h = let x = touches_in es t h in subst (λ (z : Touch). InTouches z (mapped touch_of ds)) (sym x.2) (touches_has ds x.0 (f x.0 x.1))

pub same_record : (f : Form) (es ds : List Edit) (old new : Value) → SameEdits es ds → Records f (mapped touch_of es) old new → Records f (mapped touch_of ds) old new
same_record f es ds old new s r = records_same f (mapped touch_of es) (mapped touch_of ds) old new (carried es ds s.to) (carried ds es s.from) r

pub stand : (n : ℕ) (es : List Edit) (old new : Value) → Writable2 n es old new → AllStand n new es
stand n es old new w e h = record { done = done_of V2 (mapped touch_of es) new (touch_of e) w.records.done (touches_has es e h); named = w.named e h; deep = w.deep e h }

-- ---- the second form

outer_a : (n : ℕ) (es : List Edit) → is_array es ≡ false → has_a (diff n es) ≡ false
outer_a zero es e = refl
outer_a (suc n) es e = rw (e, no_a (λ r. diff n (group r es)) es) refl

outermost_read : (n : ℕ) (es : List Edit) (ds : List Edit) → is_array es ≡ false → diff_read (suc n) (diff n es) ≡ Some ds → outermost (suc n) (diff n es) ≡ Some ds
outermost_read n es ds a e = ap (λ (b : Bool). if b then None else diff_read (suc n) (diff n es)) (outer_a n es a) ∙ e

diff_field : (m : ℕ) (fs : Fields) (ds : List Edit) → outermost m fs ≡ Some ds → v2_field m diff_name (Object fs) ≡ Some ds
diff_field m fs ds e = object_read (outermost m) fs ∙ e

pub second_read : (n : ℕ) (es ds : List Edit) → outermost (suc n) (diff n es) ≡ Some ds → update_read (suc n) (spelled_v2 n es) ≡ Ok (V2, ds)
second_read n es ds e = rw (outs-Int (pos 2), diff_field (suc n) (diff n es) ds e) (ap (λ (l : List Edit). Ok (V2, l)) (append_none ds))

pub second : WrittenIsRead2
second n es old new w =
    let a = stand n es old new w in
    let s = same_edits n new es a in
    let ds : List Edit = order n es in
    let read : update_read (suc n) (spelled_v2 n es) ≡ Ok (V2, ds) = second_read n es ds (outermost_read n es ds (not_array n new es w.document a) (read_order n new es a)) in
    let spelled : spelled_v2 n ds ≡ spelled_v2 n es = ap (λ (fs : Fields). (v_name, Int (pos 2)) ∷ ((diff_name, Object fs) ∷ [])) (spelled_again n new es a) in
    (ds, record { read = read; same = s; records = same_record V2 es ds old new s w.records; spelled = spelled; again = ap (update_read (suc n)) spelled ∙ read })
