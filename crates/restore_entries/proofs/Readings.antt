-- What a document of the oplog is, by what was read of it.
use Rattle.std.proofs.Common.{◌≡◌, true, false, cond, refl, sym, ap, ◌∙◌, Option, None}
use Rattle.std.specs.Prelude.{Some, Ok, Err, IfOk, Result}
use Rattle.std.specs.Result.{result_ok}
use Rattle.bson_value.specs.declared.value.Ts.{Ts}
use Rattle.entry_model.specs.declared.fault.EntryFault.{EntryFault}
use Rattle.entry_model.specs.declared.fault.EntryFault.TheVariants.{NoMemory, MissingField, BadField, UnknownUpdate, UnknownOp}
use Rattle.entry_model.specs.Written.{Fields}
use Rattle.entry_model.specs.Reading.{Read, head_of, entry_of}
use Rattle.oplog_entry.specs.Answers.{Fails}
use Rattle.entry_reader.proofs.Changes.{some_ok, change_is}
use Rattle.entry_reader.specs.Changes.{change_of}
use Rattle.entry_model.specs.declared.entry.Entry.{Entry}
use Rattle.restore_filter.specs.Rules.{Rules}
use Rattle.restore_entries.specs.declared.reading.EntryReading.TheVariants.{Passed, Unreadable}
use Rattle.restore_entries.specs.Oplog.{Head, is_asked, at_fault, at_entry, at_head, from_head, reading_of}

-- a fault that isn't want of memory is one of the document
pub fault_is : {A : Type 0} (f : EntryFault) (r : Read A) → (f ≡ NoMemory → ⊥) → Fails f r → r ≡ Err f
fault_is NoMemory r other h = absurd (other refl)
fault_is (MissingField n) r other h = h
fault_is (BadField n) r other h = h
fault_is (UnknownUpdate z) r other h = h
fault_is (UnknownOp n) r other h = h

pub headless : (r : Rules) (l : Option Ts) (fs : Fields) → None ≡ result_ok (head_of fs) → Unreadable None ≡ reading_of r l fs
unfolding reading_of
headless r l fs e = by (head_of fs) e
  where
    by : (x : Read Head) → None ≡ result_ok x → Unreadable None ≡ from_head r l fs x
    by (Err f) h = refl
    by (Ok h) g = absurd cc

pub not_asked : (r : Rules) (l : Option Ts) (fs : Fields) (h : Head) → Some h ≡ result_ok (head_of fs) → is_asked l h ≡ false → Passed ≡ reading_of r l fs
unfolding reading_of
not_asked r l fs h e f = ap (λ b. cond b (at_head r fs h (entry_of fs)) Passed) (sym f) ∙ ap (from_head r l fs) (sym (some_ok (head_of fs) h (sym e)))

pub asked : (r : Rules) (l : Option Ts) (fs : Fields) (h : Head) → Some h ≡ result_ok (head_of fs) → is_asked l h ≡ true → at_head r fs h (entry_of fs) ≡ reading_of r l fs
unfolding reading_of
asked r l fs h e t = ap (λ b. cond b (at_head r fs h (entry_of fs)) Passed) (sym t) ∙ ap (from_head r l fs) (sym (some_ok (head_of fs) h (sym e)))

pub weaken : {A E : Type 0} (r : Result A E) (x y : A) → x ≡ y → IfOk r (λ z. z ≡ x) → IfOk r (λ z. z ≡ y)
weaken (Ok z) x y e h = h ∙ e
weaken (Err z) x y e h = tt

-- what an entry is that can't be read
pub unread : (r : Rules) (fs : Fields) (h : Head) (f : EntryFault) → entry_of fs ≡ Err f → at_fault r fs h ≡ at_head r fs h (entry_of fs)
unread r fs h f e = ap (at_head r fs h) (sym e)

-- an entry that changes one document
pub changed : (r : Rules) (fs : Fields) (h : Head) (e : Entry) → Some e ≡ change_of fs → at_entry r e ≡ at_head r fs h (entry_of fs)
changed r fs h e c = ap (at_head r fs h) (sym (change_is fs e (sym c)))
