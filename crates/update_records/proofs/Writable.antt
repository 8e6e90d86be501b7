-- The touches of an accepted update can be written.
use Rattle.std.proofs.Common.{◌≡◌, List, [], map, sym, subst, None}
use Rattle.std.specs.Prelude.{Ok}
use Rattle.bson_value.specs.declared.value.Value.{Object}
use Rattle.doc_path.specs.declared.parts.Form.{Form}
use Rattle.doc_path.specs.declared.parts.Form.TheVariants.{V1, V2}
use Rattle.doc_path.specs.Touch.{Touch as Played}
use Rattle.doc_path.specs.Played.{touch_of}
use Rattle.doc_path.proofs.Steps.{shape-object}
use Rattle.touch_laws.specs.Agree.{Records}
use Rattle.update_model.specs.declared.updated.Updated.{Updated}
use Rattle.update_model.specs.Arguments.{Fields}
use Rattle.update_model.specs.Reading.{operators, ops_fault}
use Rattle.update_model.specs.Updating.{updated}
use Rattle.update_model.specs.Updating as updating
use Rattle.update_replay.specs.Forms.{in_form}
use Rattle.update_replay.proofs.Replayed.{first_form_records}
use Rattle.update_replay.proofs.Lengths.{second_records}
use Rattle.update_replay.proofs.PlainTouches.{touches_are_plain}
use Rattle.entry_model.specs.Touches.{Writable}
use Rattle.entry_model.specs.Spelling.{level_limit}
use Rattle.delta_laws.proofs.Deltas.{writable_each, enough, mapped_is}

-- ---- the second form

-- ---- the first form

-- ---- either

recorded : (form : Form) (d doc : Fields) (u : Updated) → ops_fault d ≡ None → updated (operators d) doc ≡ Ok u → Records form (map touch_of (in_form form (Object u.doc) u.touches)) (Object doc) (Object u.doc)
recorded V1 d doc u s e = first_form_records (operators d) doc u e
recorded V2 d doc u s e = second_records d doc u s e

pub writable : (form : Form) (d doc : Fields) (u : Updated) → ops_fault d ≡ None → updated (operators d) doc ≡ Ok u → Writable form level_limit (in_form form (Object u.doc) u.touches) (Object doc) (Object u.doc)
writable form d doc u s e =
    let ts = in_form form (Object u.doc) u.touches in
    let plain = touches_are_plain d doc u s e in
    record {
      records = subst (λ (z : List Played). Records form z (Object doc) (Object u.doc)) (sym (mapped_is touch_of ts)) (recorded form d doc u s e);
      document = shape-object u.doc;
      levels = enough form u.doc plain.1;
      each = writable_each form (Object u.doc) u.touches plain.0;
    }
