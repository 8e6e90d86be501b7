-- What is recorded of an update as a delta is good.
use Rattle.std.proofs.Common.{◌≡◌, ℕ, ◌≤◌, List, length, Bool, true, false, refl, sym, ap, ◌∙◌, subst, arith}
use Rattle.std.specs.Prelude.{suc, if◌then◌else◌, nat_lt, Some, None, Result, Ok, Err}
use Rattle.bson_value.specs.declared.value.Value.{Object}
use Rattle.bson_value.specs.Levels.{levels_of}
use Rattle.bson_value.specs.Spelling.{document_text}
use Rattle.bson_value.specs.WellFormed.{IsWellFormedDocument}
use Rattle.bson_value.proofs.WellFormed.{formed_object}
use Rattle.bson_value.proofs.Sizes.{levels-object}
use Rattle.bson_check.specs.declared.fault.BsonFault.{BsonFault}
use Rattle.bson_check.specs.Reading.{document_of}
use Rattle.bson_check.proofs.Whole.{spelled_once}
use Rattle.bson_encode.proofs.Grammar.{spelling_spells}
use Rattle.doc_path.specs.declared.parts.Form.{Form}
use Rattle.doc_path.specs.declared.touches.Touch.{Touch}
use Rattle.update_model.specs.declared.updated.Updated.{Updated}
use Rattle.update_model.specs.Reading.{operators, ops_fault}
use Rattle.update_model.specs.Updating.{updated}
use Rattle.update_replay.specs.Forms.{in_form}
use Rattle.entry_model.specs.Spelling.{level_limit}
use Rattle.entry_model.specs.Touches.{written, touches_read, IsReadAs}
use Rattle.entry_model.proofs.Touched.{written_is_read, written_is_document}
use Rattle.update_action.specs.Recorded.{recorded, delta_of, touches_in, read_or_none, byte_limit}
use Rattle.delta_laws.proofs.Deltas.{delta_read}
use Rattle.update_records.proofs.Decoded.{decoded_is}
use Rattle.update_records.proofs.Once.{touches_once}
use Rattle.update_records.proofs.Made.{updated_formed}
use Rattle.update_records.proofs.Writable.{writable}
use Rattle.update_records.proofs.Written.{form_formed, form_once, written_formed}
use Rattle.update_bounds.proofs.Small.{updates_are_small, not_above}
use Rattle.written_levels.proofs.Shallow.{written_is_shallow}
use Rattle.coll_state.specs.Rows.{Document as Fields}
use Rattle.recorded_entries.specs.Good.{IsGoodDelta}

pub recorded_good : (form : Form) (ops doc : Fields) (u : Updated) (r : Form × List Touch) → IsWellFormedDocument ops → IsWellFormedDocument doc → ops_fault ops ≡ None → updated (operators ops) doc ≡ Ok u → recorded form u.doc u.touches ≡ Some r → IsGoodDelta r.0 r.1
recorded_good form ops doc u r k h s e f = by (nat_lt (length (document_text u.doc)) (length text)) refl f
  where
    ts : List Touch
    ts = in_form form (Object u.doc) u.touches

    o : Fields
    o = written form level_limit ts

    text : List ℕ
    text = document_text o

    formed : IsWellFormedDocument o
    formed =
        (let w = updated_formed ops doc u k h s e in
        written_formed written_is_document form level_limit ts (Object doc) (Object u.doc) (writable form ops doc u s e) (form_once form (Object u.doc) u.touches (touches_once (operators ops) doc u e))
        (form_formed form (Object u.doc) u.touches (formed_object u.doc w.document) w.touches))

    good : length text ≤ length (document_text u.doc) → (us : List Touch) → IsReadAs form level_limit ts us (Object doc) (Object u.doc) → IsGoodDelta form us
    good l us g =
        (let small = updates_are_small (operators ops) doc u e in
        let low = written_is_shallow form level_limit ts (Object doc) (Object u.doc) (writable form ops doc u s e) in
        record {
          again = g.again;
          formed = subst IsWellFormedDocument (sym g.spelled) formed;
          short = subst (λ (z : Fields). length (document_text z) ≤ 16777216) (sym g.spelled) (omega (arith, l, small.0));
          shallow = subst (λ (z : Fields). levels_of z ≤ 102) (sym g.spelled) (omega (arith, low, small.1, levels-object u.doc));
        })

    same : (us : List Touch) → Some (form, us) ≡ Some r → IsGoodDelta form us → IsGoodDelta r.0 r.1
    same us q g = (let p : (form, us) ≡ r = cc in subst (λ (z : Form × List Touch). IsGoodDelta z.0 z.1) p g)

    decoded : length text ≤ length (document_text u.doc) → (d : Result Fields BsonFault) → document_of byte_limit level_limit text ≡ d → touches_in d ≡ Some r → IsGoodDelta r.0 r.1
    decoded l (Err x) q g = cc
    decoded l (Ok p) q g =
        (let is : p ≡ o = decoded_is spelling_spells spelled_once byte_limit level_limit o p (omega arith) formed q in
        let us = delta_read written_is_read form ops doc u s e in
        same us.0 (sym (ap (λ (x : Fields). read_or_none (touches_read (suc level_limit) x)) is ∙ ap read_or_none us.1.read) ∙ g) (good l us.0 us.1))

    by : (b : Bool) → nat_lt (length (document_text u.doc)) (length text) ≡ b → (if b then None else delta_of form u.doc u.touches) ≡ Some r → IsGoodDelta r.0 r.1
    by true q g = cc
    by false q g = decoded (not_above (length (document_text u.doc)) (length text) q) (document_of byte_limit level_limit text) refl g
