-- What is read in steps: the first fault is that of the first step that has one.
use Rattle.std.proofs.Common.{◌≡◌, ap, ◌∙◌}
use Rattle.std.specs.Prelude.{Ok, Err, IsErrAnd}
use Rattle.entry_model.specs.declared.fault.EntryFault.{EntryFault}
use Rattle.entry_model.specs.declared.fault.EntryFault.TheVariants as faults
use Rattle.entry_model.specs.Reading.{Read, ◌>>=◌}
use Rattle.oplog_entry.specs.Answers.{Fails, Gives}

module _ {A B : Type 0} (f : A → Read B) where
  pub fails_first : (e : EntryFault) (r : Read A) → Fails e r → Fails e (r >>= f)
  fails_first faults.NoMemory r h = tt
  fails_first (faults.MissingField n) r h = ap (λ (x : Read A). x >>= f) h
  fails_first (faults.BadField n) r h = ap (λ (x : Read A). x >>= f) h
  fails_first (faults.UnknownUpdate z) r h = ap (λ (x : Read A). x >>= f) h
  fails_first (faults.UnknownOp n) r h = ap (λ (x : Read A). x >>= f) h

  pub fails_next : (e : EntryFault) (r : Read A) (a : A) → r ≡ Ok a → Fails e (f a) → Fails e (r >>= f)
  fails_next faults.NoMemory r a g h = tt
  fails_next (faults.MissingField n) r a g h = ap (λ (x : Read A). x >>= f) g ∙ h
  fails_next (faults.BadField n) r a g h = ap (λ (x : Read A). x >>= f) g ∙ h
  fails_next (faults.UnknownUpdate z) r a g h = ap (λ (x : Read A). x >>= f) g ∙ h
  fails_next (faults.UnknownOp n) r a g h = ap (λ (x : Read A). x >>= f) g ∙ h

  pub gives_next : (x : Read B) (r : Read A) (a : A) → r ≡ Ok a → Gives x (f a) → Gives x (r >>= f)
  gives_next (Ok b) r a g h = ap (λ (y : Read A). y >>= f) g ∙ h
  gives_next (Err e) r a g h = fails_next e r a g h

-- what a `?` hands on
pub gives_err : {T : Type 0} (r : Read T) (P : EntryFault → Type 0) (x : Read T) → IsErrAnd r P → ((e : EntryFault) → P e → Fails e x) → Gives r x
gives_err (Ok a) P x h f = absurd h
gives_err (Err e) P x h f = f e h
