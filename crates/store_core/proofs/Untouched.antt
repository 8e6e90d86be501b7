-- An accepted update changes its document exactly where it has touches.
use Rattle.std.proofs.Common.{◌≡◌, Bool, true, false, List, [], ◌∷◌, refl, sym, ap, ◌∙◌, Option, Some, None, Result, Ok, Err}
use Rattle.bson_value.specs.declared.namespace.NsName.{NsName}
use Rattle.bson_value.specs.declared.value.Value.{Value, Value-F, out-Value}
use Rattle.bson_value.specs.declared.value.Value.TheVariants.{Object, outs-Object}
use Rattle.bson_encode.specs.Key.{key_of}
use Rattle.doc_path.specs.declared.parts.Form.{Form}
use Rattle.update_model.specs.declared.fault.OpsFault.{OpsFault}
use Rattle.update_model.specs.declared.fault.UpdateFault.{UpdateFault}
use Rattle.update_model.specs.declared.updated.Updated.{Updated}
use Rattle.update_model.specs.Equality.{same}
use Rattle.update_model.specs.Laws.{SameIsEqual, NoTouchesNoChange}
use Rattle.update_model.specs.Reading.{operators, ops_fault}
use Rattle.update_model.specs.Updating.{updated}
use Rattle.unchanged_updates.specs.Laws.{UnchangedIsUntouched}
use Rattle.coll_state.specs.Rows.{Document as Fields, Row}
use Rattle.schedule_model.specs.declared.refused.Refused.{Refused}
use Rattle.schedule_model.specs.declared.command.Command.TheVariants.{Document}
use Rattle.schedule_model.specs.declared.command.DocumentCommand.TheVariants.{Update}
use Rattle.history_model.specs.Refusals.{accepted, row_at, update_of, document_refusal}
use Rattle.history_model.specs.Commands.{RecordedWrite, command_effects, effects, one_each, update_changes, unless_refused, put_change}
use Rattle.history_model.specs.Entries.{update_item}
use Rattle.store_core.specs.Stores.{Stored}
use Rattle.store_core.specs.Applying.{stage_in}
use Rattle.store_core.specs.Documents.{update_effects}

-- ---- equal documents

of_objects : (a b : Fields) → Object a ≡ Object b → a ≡ b
of_objects a b e = by (sym (outs-Object a) ∙ (ap out-Value e ∙ outs-Object b))
  where
    fields : Value-F Value → Fields
    fields (Value-F.Object fs) = fs
    fields _ = []

    by : Value-F.Object a ≡ Value-F.Object b → a ≡ b
    by h = ap fields h

module _ (equal : SameIsEqual) (no_touches : NoTouchesNoChange) (unchanged : UnchangedIsUntouched) where
  both : (ops old : Fields) (u : Updated) → accepted (ops_fault ops) (updated (operators ops) old) ≡ Some u → (ops_fault ops ≡ None) × (updated (operators ops) old ≡ Ok u)
  both ops old u e = by (ops_fault ops) (updated (operators ops) old) e
    where
      by : (f : Option OpsFault) (r : Result Updated UpdateFault) → accepted f r ≡ Some u → (f ≡ None) × (r ≡ Ok u)
      by None (Ok v) h = let k : v ≡ u = cc in (refl, ap Ok k)
      by None (Err x) h = absurd cc
      by (Some f) r h = absurd cc

  untouched : (ops old : Fields) (u : Updated) → accepted (ops_fault ops) (updated (operators ops) old) ≡ Some u → u.touches ≡ [] → same (Object old) (Object u.doc) ≡ true
  untouched ops old u e t = let b = both ops old u e in (equal (Object old) (Object u.doc)).1 (ap Object (sym (no_touches ops old u b.0 b.1 t)))

  touched : (ops old : Fields) (u : Updated) → accepted (ops_fault ops) (updated (operators ops) old) ≡ Some u → (u.touches ≡ [] → ⊥) → same (Object old) (Object u.doc) ≡ false
  touched ops old u e n = by (same (Object old) (Object u.doc)) refl
    where
      by : (b : Bool) → same (Object old) (Object u.doc) ≡ b → same (Object old) (Object u.doc) ≡ false
      by false h = h
      by true h = let b = both ops old u e in absurd (n (unchanged ops old u b.0 b.1 (sym (of_objects old u.doc ((equal (Object old) (Object u.doc)).0 h)))))

  -- ---- what such an update makes

  abbrev changes : Form → NsName → Value → Updated → List RecordedWrite
  changes f n id u = put_change n id u.doc (update_item f n id u.doc u.touches) ∷ []

  none_made : (f : Form) (n : NsName) (id : Value) (ops : Fields) (u : Updated) (o : Option Row) → update_of o ops ≡ Some u → u.touches ≡ [] → update_changes f n id o (update_of o ops) ≡ []
  none_made f n id ops u None e t = absurd cc
  none_made f n id ops u (Some row) e t = ap (update_changes f n id (Some row)) e ∙ ap (λ (b : Bool). elim b [ true ↦ [] | false ↦ changes f n id u ]) (untouched ops row.document u e t)

  one_made : (f : Form) (n : NsName) (id : Value) (ops : Fields) (u : Updated) (o : Option Row) → update_of o ops ≡ Some u → (u.touches ≡ [] → ⊥) → update_changes f n id o (update_of o ops) ≡ changes f n id u
  one_made f n id ops u None e t = absurd cc
  one_made f n id ops u (Some row) e t = ap (update_changes f n id (Some row)) e ∙ ap (λ (b : Bool). elim b [ true ↦ [] | false ↦ changes f n id u ]) (touched ops row.document u e t)

  module _ (s : Stored) (n : NsName) (id : Value) (ops : Fields) (u : Updated) (free : document_refusal false (Update n id ops) s.rows ≡ None) (made : update_of (row_at n (key_of id) s.rows) ops ≡ Some u) where
    pub no_effect : u.touches ≡ [] → effects (Document (Update n id ops)) (stage_in s) ≡ Ok (update_effects s.log.form n id None)
    no_effect t =
        ap (λ (x : Option Refused). unless_refused x (command_effects (Document (Update n id ops)) (stage_in s))) free
        ∙ ap (λ (cs : List RecordedWrite). Ok (one_each cs)) (none_made s.log.form n id ops u (row_at n (key_of id) s.rows) made t)

    pub one_effect : (u.touches ≡ [] → ⊥) → effects (Document (Update n id ops)) (stage_in s) ≡ Ok (update_effects s.log.form n id (Some u))
    one_effect t =
        ap (λ (x : Option Refused). unless_refused x (command_effects (Document (Update n id ops)) (stage_in s))) free
        ∙ ap (λ (cs : List RecordedWrite). Ok (one_each cs)) (one_made s.log.form n id ops u (row_at n (key_of id) s.rows) made t)
