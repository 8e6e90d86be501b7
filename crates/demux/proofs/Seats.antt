-- An entry of the namespaces that headers named, before and after a write.
use Rattle.std.proofs.Common.{◌≡◌, ℕ, ◌<◌, List, length, refl, sym, inl, inr, arith, get_or, set, length-set, drop, drop-cons, false}
use Rattle.std.specs.Prelude.{Some, slice_get, Option}
use Rattle.std.proofs.lemmas.Option.{slice_get_read, slice_get_cases}
use Rattle.std.proofs.lemmas.List.{get_or-set_same}
use Rattle.std.proofs.lemmas.Bool.{eq-eqb}
use Rattle.archive_format.specs.Crc.{crc_end}
use Rattle.archive_format.specs.Archive.{Seen, Stage, closed_entry, end_step, open_of}
use Rattle.archive_format.specs.declared.fault.FormatFault.TheVariants.{NotEnded}

-- an entry that is there
pub seat_there : (es : List Seen) (i : ℕ) → i < length es → (e : Seen) × (slice_get es i ≡ Some e)
seat_there es i le = elim (slice_get_cases es i).1 [ inl h ↦ (h.0, h.2) | inr h ↦ absurd (omega (arith, h.0, le)) ]

pub there : (es : List Seen) (i : ℕ) (e : Seen) → i < length es → e ≡ get_or es i e → slice_get es i ≡ Some e
there es i e le is = slice_get_read es (length es) i e refl le is

pub written : (es : List Seen) (i : ℕ) (e : Seen) → i < length es → slice_get (set es i e) i ≡ Some e
written es i e le = slice_get_read (set es i e) (length es) i e (sym (length-set es i e)) le (sym (get_or-set_same es i e e le))

-- the checksum that is said is the one that was found
pub right_sum : (s : Stage) (at i : ℕ) (said : Option ℕ) (e : Seen) (n : ℕ) → said ≡ Some n → n ≡ crc_end e.sum → end_step s at i said (Some e) ≡ closed_entry s i e
unfolding end_step
right_sum s at i said e n is found = rw (is, found, eq-eqb (crc_end e.sum) (crc_end e.sum) refl) refl

-- the first of the entries from this one on that wasn't ended is this one
pub still_open : (es : List Seen) (i : ℕ) (e : Seen) → i < length es → e ≡ get_or es i e → e.ended ≡ false → open_of (drop i es) ≡ Some (NotEnded e.ns)
still_open es i e le is ended = rw (drop-cons es i e, ← is, ended) refl
