-- Whether a taking is refused depends on the plan; why it is doesn't.
use Rattle.std.proofs.Common.{◌≡◌, ℕ, Bool, true, false, cond, List, refl, sym, ap, ◌∙◌, Option, Some, None}
use Rattle.std.specs.Prelude.{Ok, Err}
use Rattle.bson_value.specs.declared.value.Ts.{Ts}
use Rattle.bson_value.specs.declared.namespace.NsName.{NsName}
use Rattle.entry_model.specs.declared.entry.Entry.{Entry}
use Rattle.entry_model.specs.Written.{Fields}
use Rattle.entry_model.specs.Reading.{Read, namespace_of, head_of, entry_of}
use Rattle.archive_format.specs.Shapes.{is_oplog}
use Rattle.archive_format.specs.Archive.{Taking, meta, doc, end}
use Rattle.restore_filter.specs.Rules.{Rules}
use Rattle.restore_entries.specs.declared.reading.EntryReading.{EntryReading}
use Rattle.restore_entries.specs.declared.reading.EntryReading.TheVariants.{Passed, Kept, Unreadable}
use Rattle.restore_entries.specs.Oplog.{Head, is_asked, matters, at_head, from_head, reading_of}
use Rattle.restore_entries.specs.Cut.{takes_entry, cut_entry}
use Rattle.restore_plan.specs.declared.plan.Plan.{Plan}
use Rattle.restore_plan.specs.declared.fault.RestoreFault.{RestoreFault}
use Rattle.restore_plan.specs.declared.fault.RestoreFault.TheVariants.{Entry as Unread}
use Rattle.restore_plan.specs.Base.{document_taken, has_id, oplog_reading, id_fault, entry_fault, bad_at}
use Rattle.restore_plan.specs.Taken.{Contents, nothing, with_taking, unless_bad, and_taking}

-- ---- the timestamp with which a document of the oplog is refused

abbrev stamp_in : Read Head → Option Ts
stamp_in (Err f) = None
stamp_in (Ok h) = Some h.0

never_kept : (b : Bool) (e : Entry) (ts : Option Ts) → cond b (Kept e) Passed ≡ Unreadable ts → ⊥
never_kept true e ts is = cc
never_kept false e ts is = cc

refused_with : (b : Bool) (s ts : Option Ts) → cond b (Unreadable s) Passed ≡ Unreadable ts → ts ≡ s
refused_with true s ts is = cc
refused_with false s ts is = cc

of_asked : (b : Bool) (r : Rules) (fs : Fields) (h : Head) (x : Read Entry) (ts : Option Ts) → cond b (at_head r fs h x) Passed ≡ Unreadable ts → ts ≡ Some h.0
of_asked true r fs h (Ok e) ts is = absurd (never_kept (takes_entry r e) (cut_entry r e) ts is)
of_asked true r fs h (Err f) ts is = refused_with (matters r fs (namespace_of h.1)) (Some h.0) ts is
of_asked false r fs h x ts is = cc

of_head : (r : Rules) (l : Option Ts) (fs : Fields) (x : Read Head) (ts : Option Ts) → from_head r l fs x ≡ Unreadable ts → ts ≡ stamp_in x
of_head r l fs (Err f) ts is = cc
of_head r l fs (Ok h) ts is = of_asked (is_asked l h) r fs h (entry_of fs) ts is

of_reading : (b : Bool) (r : Rules) (l : Option Ts) (fs : Fields) (ts : Option Ts) → cond b (reading_of r l fs) Passed ≡ Unreadable ts → ts ≡ stamp_in (head_of fs)
unfolding reading_of
of_reading true r l fs ts is = of_head r l fs (head_of fs) ts is
of_reading false r l fs ts is = cc

of_entry : (p : Plan) (b : List ℕ) (x : EntryReading) (f : RestoreFault) → oplog_reading p b ≡ x → entry_fault x ≡ Some f → f ≡ Unread (stamp_in (head_of (document_taken b)))
of_entry p b Passed f is e = cc
of_entry p b (Kept x) f is e = cc
of_entry p b (Unreadable ts) f is e =
    let told : f ≡ Unread ts = cc in
    told ∙ ap Unread (of_reading p.replaying p.filter p.limit (document_taken b) ts is)

-- ---- one taking, under two plans

same_some : {A : Type 0} (o : Option A) (x y : A) → o ≡ Some x → o ≡ Some y → x ≡ y
same_some o x y e f = let k : Some x ≡ Some y = sym e ∙ f in cc

of_document : (p q : Plan) (n : NsName) (b : List ℕ) (f g : RestoreFault) (x : Bool) → cond x (entry_fault (oplog_reading p b)) (id_fault n (has_id (document_taken b))) ≡ Some f → cond x (entry_fault (oplog_reading q b)) (id_fault n (has_id (document_taken b))) ≡ Some g → f ≡ g
of_document p q n b f g true e h = of_entry p b (oplog_reading p b) f refl e ∙ sym (of_entry q b (oplog_reading q b) g refl h)
of_document p q n b f g false e h = same_some (id_fault n (has_id (document_taken b))) f g e h

one_reason : (p q : Plan) (t : Taking) (f g : RestoreFault) → bad_at p t ≡ Some f → bad_at q t ≡ Some g → f ≡ g
one_reason p q (meta n t) f g e h = same_some (bad_at p (meta n t)) f g e h
one_reason p q (doc n b) f g e h = of_document p q n b f g (is_oplog n) e h
one_reason p q (end n) f g e h = cc

-- plans that make the same of every taking refuse the same
pub refused_alike : (p q : Plan) (t : Taking) (f : RestoreFault) → and_taking q ≡ and_taking p → bad_at q t ≡ Some f → bad_at p t ≡ Some f
refused_alike p q t f same is = go (bad_at p t) refl
  where
    none : None ≡ and_taking p (Some nothing) t
    none = sym (ap (λ o. unless_bad o (with_taking q nothing t)) is) ∙ ap (λ (a : Option Contents → Taking → Option Contents). a (Some nothing) t) same

    go : (o : Option RestoreFault) → bad_at p t ≡ o → bad_at p t ≡ Some f
    go None fine = let never : None ≡ Some (with_taking p nothing t) = none ∙ ap (λ o. unless_bad o (with_taking p nothing t)) fine in absurd cc
    go (Some g) e = e ∙ ap Some (one_reason p q t g f e is)
