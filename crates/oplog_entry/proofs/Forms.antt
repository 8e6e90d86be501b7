-- The form and the touches of an update's fields, in two steps.
use Rattle.std.proofs.Common.{◌≡◌, List, [], Bool, true, false, refl, sym, ap, ◌∙◌, subst}
use Rattle.std.specs.Prelude.{ℤ, pos, if◌then◌else◌, Option, Some, None, Result, Ok, Err}
use Rattle.containers.specs.Entries.{lookup}
use Rattle.bson_value.specs.declared.value.Value.{Value, Value-F, out-Value}
use Rattle.doc_path.specs.declared.parts.Form.{Form}
use Rattle.doc_path.specs.declared.parts.Form.TheVariants.{V1, V2}
use Rattle.doc_path.specs.declared.touches.Touch.{Touch}
use Rattle.entry_model.specs.declared.fault.EntryFault.{EntryFault}
use Rattle.entry_model.specs.declared.fault.EntryFault.TheVariants as faults
use Rattle.entry_model.specs.Edits.{Edit, mapped}
use Rattle.entry_model.specs.Written.{Fields, v_name, diff_name}
use Rattle.entry_model.specs.Reads.{int_eq, v1_field, v2_field, each_field, in_form, with_diff, of_version, version_in, version_of}
use Rattle.entry_model.specs.Touches.{as_touches, touches_read}
use Rattle.oplog_entry.specs.Answers.{Fails}
use Rattle.oplog_entry.specs.DiffFields.{at_front}
use Rattle.oplog_entry.specs.PathTouches.{listed, fields_touches, form_said, form_in, form_of, form_read, lacks_diff}

abbrev in_fields : Form → Fields → Result (Form × List Edit) EntryFault
in_fields V1 fs = in_form V1 (each_field v1_field fs)
in_fields V2 fs = in_form V2 (with_diff (lookup diff_name fs) (each_field (v2_field 201) fs))

said : (z : ℤ) (form : Form) (fs : Fields) → form_said z ≡ Ok form → of_version 201 z fs ≡ in_fields form fs
said z form fs h = by (int_eq z (pos 1)) (int_eq z (pos 2)) h
  where
    by : (a b : Bool) → (if a then Ok V1 else (if b then Ok V2 else Err (faults.UnknownUpdate z))) ≡ Ok form →
        (if a then in_form V1 (each_field v1_field fs) else (if b then in_form V2 (with_diff (lookup diff_name fs) (each_field (v2_field 201) fs)) else Err (faults.UnknownUpdate z))) ≡ in_fields form fs
    by true b e = let i : V1 ≡ form = cc in ap (λ (f : Form). in_fields f fs) i
    by false true e = let i : V2 ≡ form = cc in ap (λ (f : Form). in_fields f fs) i
    by false false e = cc

in_value : (f : Value-F Value) (form : Form) (fs : Fields) → form_in f ≡ Ok form → version_in 201 f fs ≡ in_fields form fs
in_value (Value-F.Int z) form fs h = said z form fs h
in_value (Value-F.Long z) form fs h = said z form fs h
in_value (Value-F.Double d) form fs h = cc
in_value (Value-F.Str t) form fs h = cc
in_value (Value-F.Object o) form fs h = cc
in_value (Value-F.Array vs) form fs h = cc
in_value (Value-F.Binary s b) form fs h = cc
in_value Value-F.Undefined form fs h = cc
in_value (Value-F.Oid d) form fs h = cc
in_value (Value-F.Bool b) form fs h = cc
in_value (Value-F.Date z) form fs h = cc
in_value Value-F.Null form fs h = cc
in_value (Value-F.Regex p o) form fs h = cc
in_value (Value-F.DbPointer t d) form fs h = cc
in_value (Value-F.Code t) form fs h = cc
in_value (Value-F.Symbol t) form fs h = cc
in_value (Value-F.ScopedCode t o) form fs h = cc
in_value (Value-F.Stamp s) form fs h = cc
in_value (Value-F.Decimal d) form fs h = cc
in_value Value-F.MinKey form fs h = cc
in_value Value-F.MaxKey form fs h = cc

by_form : (fs : Fields) (form : Form) → form_read fs ≡ Ok form → touches_read 201 fs ≡ as_touches (in_fields form fs)
by_form fs form h = ap as_touches (by (lookup v_name fs) h)
  where
    by : (o : Option Value) → form_of o ≡ Ok form → version_of 201 o fs ≡ in_fields form fs
    by None e = let i : V1 ≡ form = cc in ap (λ (f : Form). in_fields f fs) i
    by (Some v) e = in_value (out-Value v) form fs e

abbrev Reading : Type 0
Reading = Result (List Edit) EntryFault

same_touches : (form : Form) (r : Reading) (ts : List Touch) → listed r ≡ Ok ts → as_touches (in_form form r) ≡ Ok (form, ts)
same_touches form (Err e) ts h = cc
same_touches form (Ok es) ts h = let i : mapped (at_front []) es ≡ ts = cc in ap (λ (l : List Touch). Ok (form, l)) i

there : (d : Option Value) (r : Reading) → lacks_diff V2 d ≡ false → with_diff d r ≡ r
there d (Err e) h = refl
there None (Ok es) h = cc
there (Some v) (Ok es) h = refl

pub delta_touches : (fs : Fields) (form : Form) (ts : List Touch) → form_read fs ≡ Ok form → fields_touches form fs ≡ Ok ts → lacks_diff form (lookup diff_name fs) ≡ false → touches_read 201 fs ≡ Ok (form, ts)
delta_touches fs V1 ts f h d = by_form fs V1 f ∙ same_touches V1 (each_field v1_field fs) ts h
delta_touches fs V2 ts f h d =
    by_form fs V2 f ∙ (ap (λ (r : Reading). as_touches (in_form V2 r)) (there (lookup diff_name fs) (each_field (v2_field 201) fs) d)
    ∙ same_touches V2 (each_field (v2_field 201) fs) ts h)

pub delta_lacks : (fs : Fields) (form : Form) (ts : List Touch) → form_read fs ≡ Ok form → fields_touches form fs ≡ Ok ts → lacks_diff form (lookup diff_name fs) ≡ true → touches_read 201 fs ≡ Err (faults.MissingField diff_name)
delta_lacks fs V1 ts f h d = cc
delta_lacks fs V2 ts f h d = by_form fs V2 f ∙ by (lookup diff_name fs) (each_field (v2_field 201) fs) d h
  where
    by : (o : Option Value) (r : Reading) → lacks_diff V2 o ≡ true → listed r ≡ Ok ts → as_touches (in_form V2 (with_diff o r)) ≡ Err (faults.MissingField diff_name)
    by o (Err e) l k = cc
    by None (Ok es) l k = refl
    by (Some v) (Ok es) l k = cc

-- the first fault of a list is that of the whole
carried : (g : Reading → Result (Form × List Touch) EntryFault) → ((d : EntryFault) → g (Err d) ≡ Err d) → (e : EntryFault) (r : Reading) → Fails e (listed r) → Fails e (g r)
carried g is faults.NoMemory r h = tt
carried g is (faults.MissingField n) (Err d) h = let i : d ≡ faults.MissingField n = cc in is d ∙ ap Err i
carried g is (faults.MissingField n) (Ok es) h = cc
carried g is (faults.BadField n) (Err d) h = let i : d ≡ faults.BadField n = cc in is d ∙ ap Err i
carried g is (faults.BadField n) (Ok es) h = cc
carried g is (faults.UnknownUpdate z) (Err d) h = let i : d ≡ faults.UnknownUpdate z = cc in is d ∙ ap Err i
carried g is (faults.UnknownUpdate z) (Ok es) h = cc
carried g is (faults.UnknownOp n) (Err d) h = let i : d ≡ faults.UnknownOp n = cc in is d ∙ ap Err i
carried g is (faults.UnknownOp n) (Ok es) h = cc

pub delta_fails : (fs : Fields) (form : Form) (e : EntryFault) → form_read fs ≡ Ok form → Fails e (fields_touches form fs) → Fails e (touches_read 201 fs)
delta_fails fs V1 e f h = subst (Fails e) (sym (by_form fs V1 f)) (carried (λ r. as_touches (in_form V1 r)) (λ d. refl) e (each_field v1_field fs) h)
delta_fails fs V2 e f h =
    subst (Fails e) (sym (by_form fs V2 f)) (carried (λ r. as_touches (in_form V2 (with_diff (lookup diff_name fs) r))) (λ d. refl) e (each_field (v2_field 201) fs) h)
