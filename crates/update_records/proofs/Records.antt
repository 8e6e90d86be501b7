-- What is recorded of an update of well-formed documents records it.
use Rattle.std.proofs.Common.{◌≡◌, ℕ, List, length, Bool, true, false, refl, sym, subst, arith}
use Rattle.std.specs.Prelude.{if◌then◌else◌, nat_lt, None, Result, Ok, Err}
use Rattle.bson_value.specs.declared.value.Value.{Object}
use Rattle.bson_value.specs.Spelling.{document_text}
use Rattle.bson_value.specs.WellFormed.{IsWellFormedDocument}
use Rattle.bson_value.proofs.WellFormed.{formed_object}
use Rattle.bson_check.specs.declared.fault.BsonFault.{BsonFault}
use Rattle.bson_check.specs.Reading.{document_of}
use Rattle.bson_check.specs.Spells.{SpelledOnce}
use Rattle.bson_encode.specs.Laws.{SpellingSpells}
use Rattle.doc_path.specs.declared.parts.Form.{Form}
use Rattle.doc_path.specs.declared.touches.Touch.{Touch}
use Rattle.doc_path.specs.Played.{touch_of}
use Rattle.touch_laws.specs.Agree.{Records}
use Rattle.update_model.specs.declared.updated.Updated.{Updated}
use Rattle.update_model.specs.Reading.{operators, ops_fault}
use Rattle.update_model.specs.Updating.{updated}
use Rattle.update_replay.specs.Forms.{in_form}
use Rattle.entry_model.specs.Spelling.{level_limit}
use Rattle.entry_model.specs.Touches.{written, WrittenIsDocument}
use Rattle.update_action.specs.Recorded.{delta_of, touches_in, byte_limit}
use Rattle.delta_laws.specs.Laws.{DeltaIsRead}
use Rattle.update_records.specs.Laws.{AreRecorded, UpdatesRecord, UpdatesStayWellFormed}
use Rattle.update_records.proofs.Levels.{Fields}
use Rattle.update_records.proofs.Decoded.{decoded_is}
use Rattle.update_records.proofs.Once.{touches_once}
use Rattle.update_records.proofs.Made.{updated_formed}
use Rattle.update_records.proofs.Writable.{writable}
use Rattle.update_records.proofs.Written.{form_formed, form_once, written_formed}
use Rattle.delta_laws.proofs.Deltas.{mapped_is}

module _ (spells : SpellingSpells) (once : SpelledOnce) (distinct : WrittenIsDocument) (read : DeltaIsRead) where
  formed : (form : Form) (ops doc : Fields) (u : Updated) → IsWellFormedDocument ops → IsWellFormedDocument doc → ops_fault ops ≡ None → updated (operators ops) doc ≡ Ok u → IsWellFormedDocument (written form level_limit (in_form form (Object u.doc) u.touches))
  formed form ops doc u k h s e =
      let ts = in_form form (Object u.doc) u.touches in
      let w = updated_formed ops doc u k h s e in
      written_formed distinct form level_limit ts (Object doc) (Object u.doc) (writable form ops doc u s e) (form_once form (Object u.doc) u.touches (touches_once (operators ops) doc u e))
      (form_formed form (Object u.doc) u.touches (formed_object u.doc w.document) w.touches)

  pub updates_record : UpdatesRecord
  updates_record form doc ops u h k s e = by (nat_lt (length (document_text u.doc)) (length text))
    where
      ts : List Touch
      ts = in_form form (Object u.doc) u.touches

      o : Fields
      o = written form level_limit ts

      text : List ℕ
      text = document_text o

      decoded : (r : Result Fields BsonFault) → document_of byte_limit level_limit text ≡ r → AreRecorded (touches_in r) doc u.doc
      decoded (Err f) q = tt
      decoded (Ok p) q =
          let same : p ≡ o = decoded_is spells once byte_limit level_limit o p (omega arith) (formed form ops doc u k h s e) q in
          let us = read form ops doc u s e in
          subst (λ (x : Fields). AreRecorded (touches_in (Ok x)) doc u.doc) (sym same)
          (rw us.1.read (us.2, subst (λ (z : List _). Records form z (Object doc) (Object u.doc)) (mapped_is touch_of us.0) us.1.records))

      by : (b : Bool) → AreRecorded (if b then None else delta_of form u.doc u.touches) doc u.doc
      by true = tt
      by false = decoded (document_of byte_limit level_limit text) refl

pub stay_formed : UpdatesStayWellFormed
stay_formed doc ops u h k s e = (updated_formed ops doc u k h s e).document
