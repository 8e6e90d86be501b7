-- The fields of an update, one after the other.
use Rattle.std.proofs.Common.{◌≡◌, ℕ, zero, suc, ◌<◌, List, [], ◌∷◌, length, take, get_or, refl, sym, ap, ◌∙◌, arith}
use Rattle.std.specs.Prelude.{Some, None, Result, Ok, Err}
use Rattle.bson_value.specs.declared.value.Value.{Value}
use Rattle.doc_path.specs.declared.touches.Touch.{Touch}
use Rattle.entry_model.specs.declared.fault.EntryFault.{EntryFault}
use Rattle.entry_model.specs.declared.fault.EntryFault.TheVariants as faults
use Rattle.entry_model.specs.Edits.{Edit}
use Rattle.entry_model.specs.Written.{Fields}
use Rattle.entry_model.specs.Reads.{Read, then_also, all_read, or_bad, and_then, each_field}
use Rattle.oplog_entry.specs.DiffFields.{Adds}
use Rattle.oplog_entry.specs.PathTouches.{listed}
use Rattle.oplog_entry.specs.Answers.{IsFault, Fails}

abbrev SameRead : Read → Result (List Edit) EntryFault → Type 0
SameRead None x = Unit {0}
SameRead (Some es) x = x ≡ Ok es

abbrev IsRead : Read → Type 0
IsRead None = ⊥
IsRead (Some es) = Unit {0}

module _ (read : List ℕ → Value → Read) where
  each_ok : (fs : Fields) → SameRead (all_read (λ f. read f.0 f.1) fs) (each_field read fs)
  each_ok [] = refl
  each_ok (f ∷ fs) = by (read f.0 f.1) (all_read (λ g. read g.0 g.1) fs) (each_field read fs) (each_ok fs)
    where
      by : (a b : Read) (x : Result (List Edit) EntryFault) → SameRead b x → SameRead (then_also a b) (and_then (or_bad f.0 a) x)
      by None b x h = tt
      by (Some es) None x h = tt
      by (Some es) (Some ds) x h = ap (and_then (Ok es)) h

  pub all_touches : (fs : Fields) (new : List Touch) → Adds [] (all_read (λ f. read f.0 f.1) fs) [] new → listed (each_field read fs) ≡ Ok new
  all_touches fs new h = by (all_read (λ f. read f.0 f.1) fs) (each_field read fs) (each_ok fs) h
    where
      by : (o : Read) (x : Result (List Edit) EntryFault) → SameRead o x → Adds [] o [] new → listed x ≡ Ok new
      by None x s a = absurd a
      by (Some es) x s a = ap listed s ∙ ap Ok (sym a)

  first_bad : (fs : Fields) (i : ℕ) (x : List ℕ × Value) → i < length fs → x ≡ get_or fs i x → IsRead (all_read (λ f. read f.0 f.1) (take i fs)) → read x.0 x.1 ≡ None → each_field read fs ≡ Err (faults.BadField x.0)
  first_bad [] i x lt e h n = absurd (omega arith)
  first_bad (y ∷ fs) zero x lt e h n = (λ k. and_then (or_bad (sym e k).0 (read (sym e k).0 (sym e k).1)) (each_field read fs)) ∙ ap (λ (o : Read). and_then (or_bad x.0 o) (each_field read fs)) n
  first_bad (y ∷ fs) (suc i) x lt e h n = by (read y.0 y.1) (all_read (λ f. read f.0 f.1) (take i fs)) h (λ r. first_bad fs i x (omega arith) e r n)
    where
      by : (a b : Read) → IsRead (then_also a b) → (IsRead b → each_field read fs ≡ Err (faults.BadField x.0)) → and_then (or_bad y.0 a) (each_field read fs) ≡ Err (faults.BadField x.0)
      by None b r f = absurd r
      by (Some es) None r f = absurd r
      by (Some es) (Some ds) r f = ap (and_then (Ok es)) (f tt)

  pub bad_touches : (fs : Fields) (i : ℕ) (x : List ℕ × Value) (new : List Touch) → i < length fs → x ≡ get_or fs i x → Adds [] (all_read (λ f. read f.0 f.1) (take i fs)) [] new → read x.0 x.1 ≡ None → listed (each_field read fs) ≡ Err (faults.BadField x.0)
  bad_touches fs i x new lt e h n = ap listed (first_bad fs i x lt e (by (all_read (λ f. read f.0 f.1) (take i fs)) h) n)
    where
      by : (o : Read) → Adds [] o [] new → IsRead o
      by None a = a
      by (Some es) a = tt

pub fails_by : {A : Type 0} (e f : EntryFault) (r : Result A EntryFault) → IsFault e f → r ≡ Err f → Fails e r
fails_by faults.NoMemory f r h g = tt
fails_by (faults.MissingField n) f r h g = g ∙ ap Err (sym h)
fails_by (faults.BadField n) f r h g = g ∙ ap Err (sym h)
fails_by (faults.UnknownUpdate z) f r h g = g ∙ ap Err (sym h)
fails_by (faults.UnknownOp n) f r h g = g ∙ ap Err (sym h)
