-- What an entry of a delta of one field is to a restore, and what it stands for.
use Rattle.std.proofs.Common.{◌≡◌, ℕ, Bool, List, [], ◌∷◌, true, false, refl, sym, ap, ◌∙◌, subst, Option, Some, None}
use Rattle.std.specs.Prelude.{if◌then◌else◌, option_map, IfOk, IfSome, IsTrue, Result, Ok, Err}
use Rattle.std.specs.Borrow.{Bor}
use Rattle.std.specs.Option.{option_copied}
use Rattle.std.specs.Result.{result_ok}
use Rattle.bson_value.specs.Namespace.{IsSplit}
use Rattle.bson_value.specs.declared.value.Ts.{Ts}
use Rattle.bson_value.specs.declared.namespace.NsName.{NsName}
use Rattle.bson_value.specs.declared.value.Value.{Value}
use Rattle.bson_encode.specs.Key.{key_of}
use Rattle.bson_view.specs.Views.{elem_value}
use Rattle.bson_view.specs.declared.elem.Elem.{Elem}
use Rattle.coll_state.specs.Rows.{Rows, state_of}
use Rattle.state_model.specs.Replay.{replay_all}
use Rattle.doc_path.specs.declared.parts.Form.TheVariants.{V2}
use Rattle.doc_path.specs.declared.parts.Part.{Part}
use Rattle.doc_path.specs.declared.touches.Touch.{Touch}
use Rattle.state_model.specs.Moves.{Move}
use Rattle.entry_model.specs.declared.entry.Entry.{Entry}
use Rattle.entry_model.specs.declared.entry.Action.{Action, out-Action}
use Rattle.entry_model.specs.declared.entry.Action.TheOpen.{Action-F}
use Rattle.entry_model.specs.declared.entry.Action.TheVariants as actions
use Rattle.entry_model.specs.declared.entry.Action.TheVariants.{Delta}
use Rattle.entry_model.specs.Reading.{head_of, namespace_of}
use Rattle.entry_model.specs.Written.{Fields}
use Rattle.entry_model.proofs.Entries.{split_back}
use Rattle.entry_reader.specs.FieldDeltas.{place_of, IsFieldDelta, SaysAt}
use Rattle.entry_reader.specs.declared.field_delta.FieldDelta.{FieldDelta}
use Rattle.replay.specs.Moves.{is_config, deltas, moves_at, moves_of}
use Rattle.replay.specs.Splicing.{SaysAt as Says}
use Rattle.restore_filter.specs.Rules.{Rules}
use Rattle.restore_filter.specs.Names.{takes}
use Rattle.restore_entries.specs.declared.reading.EntryReading.TheVariants.{Passed, Kept}
use Rattle.restore_entries.specs.Cut.{takes_action, cut_action}
use Rattle.restore_entries.specs.Documents.{is_of_document}
use Rattle.restore_entries.specs.FieldDeltas.{IsKeptAs, entry_of_touch}
use Rattle.restore_entries.specs.Oplog.{Head, is_asked, reading_of}
use Rattle.restore_entries.proofs.Documents.{moves_are}
use Rattle.restore_entries.proofs.Readings.{asked, changed}

-- a filter that takes the namespace keeps the entry whole
kept_whole : (r : Rules) (ts : Ts) (n : NsName) (id : Value) (t : Touch) (a : Action-F Action Entry) → a ≡ Action-F.Delta id V2 (t ∷ []) → takes r n ≡ true →
    (if takes_action r n a then Kept (record { ts = ts; ns = n; action = cut_action r (Delta id V2 (t ∷ [])) a }) else Passed) ≡ Kept (record { ts = ts; ns = n; action = Delta id V2 (t ∷ []) })
kept_whole r ts n id t a e h = rw (e, h) refl

pub kept_as : (r : Rules) (l : Option Ts) (fs : Fields) (h : Head) (n : NsName) (d : FieldDelta) → Some h ≡ result_ok (head_of fs) → is_asked l h ≡ true → IsFieldDelta d fs → namespace_of h.1 ≡ Some n → takes r n ≡ true → IsKeptAs n d (reading_of r l fs)
kept_as r l fs h n d head is_asked is named taken =
    let e = entry_of_touch h.0 n d is.0 in
    let change = is.2 h n (sym head) named in
    (h.0, is.0, is.1, sym (asked r l fs h head is_asked) ∙ (sym (changed r fs h e (sym change)) ∙ kept_whole r h.0 n (elem_value d.id) is.0 (out-Action (Delta (elem_value d.id) V2 (is.0 ∷ []))) (actions.outs-Delta (elem_value d.id) V2 (is.0 ∷ [])) taken))

-- outside the database `config` it stands for its touch
pub moves_are_deltas : (ts : Ts) (n : NsName) (d : FieldDelta) (t : Touch) → is_config n ≡ false → moves_of (entry_of_touch ts n d t) ≡ deltas n (key_of (elem_value d.id)) V2 (t ∷ [])
moves_are_deltas ts n d t other =
    let out = actions.outs-Delta (elem_value d.id) V2 (t ∷ []) in
    moves_are (entry_of_touch ts n d t) (ap is_of_document out)
    ∙ ((λ k. if other k then [] else moves_at n (out-Action (Delta (elem_value d.id) V2 (t ∷ [])))) ∙ ap (moves_at n) out)

-- ---- where memory lasts

same_touch : (place : List Part) (v : Option Value) (t : Touch) → SaysAt place v t → Says place v t
same_touch place None t h = h
same_touch place (Some v) t h = h

lent : (v : Option (Bor Elem)) → option_map (λ (e : Bor Elem). elem_value e.now) v ≡ option_map elem_value (option_copied v)
lent None = refl
lent (Some e) = refl

pub made_of_entry : {E : Type 0} (r : Result Bool E) (s u : Rows) (n : NsName) (d : FieldDelta) (id : Value) (v : Option (Bor Elem)) → is_config n ≡ false → id ≡ elem_value d.id → option_copied v ≡ d.value →
    IfOk r (λ done. IsTrue done → (t : Touch) → Says (place_of d.place) (option_map (λ (e : Bor Elem). elem_value e.now) v) t → state_of u ≡ replay_all (deltas n (key_of id) V2 (t ∷ [])) (state_of s)) →
    IfOk r (λ done. IsTrue done → (ts : Ts) (t : Touch) → SaysAt (place_of d.place) (option_map elem_value d.value) t → state_of u ≡ replay_all (moves_of (entry_of_touch ts n d t)) (state_of s))
made_of_entry (Err e) s u n d id v other own copied h = tt
made_of_entry (Ok done) s u n d id v other own copied h = λ yes ts t says.
    let value : option_map elem_value d.value ≡ option_map (λ (e : Bor Elem). elem_value e.now) v = ap (option_map elem_value) (sym copied) ∙ sym (lent v) in
    h yes t (subst (λ (o : Option Value). Says (place_of d.place) o t) value (same_touch (place_of d.place) (option_map elem_value d.value) t says))
    ∙ ap (λ (ms : List Move). replay_all ms (state_of s)) (ap (λ (w : Value). deltas n (key_of w) V2 (t ∷ [])) own ∙ sym (moves_are_deltas ts n d t other))

pub if_split : {E : Type 0} (t : List ℕ) (r : Result (Option NsName) E) → IfOk r (λ o. IfSome o (λ n. IsSplit t n.db n.coll)) → IfOk r (λ o. IfSome o (λ n. namespace_of t ≡ Some n))
if_split t (Ok (Some n)) h = split_back t n.db n.coll h
if_split t (Ok None) h = tt
if_split t (Err e) h = tt
