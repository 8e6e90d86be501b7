-- What the grammar says of whole inputs, and of their faults.
use Rattle.std.proofs.Common.{◌≡◌, ℕ, ◌+◌, ◌≤◌, List, length, Result, Ok, Err, refl, sym, ap, subst, ◌∙◌, arith}
use Rattle.std.specs.Prelude.{Some, None, ◌↔◌, IsOk, IfOk, IfErr, MatchResult}
use Rattle.std.specs.Result.{result_err}
use Rattle.bson_value.specs.Levels.{levels_of}
use Rattle.bson_value.specs.declared.value.Value.{Value}
use Rattle.bson_check.specs.declared.fault.BsonFault.{BsonFault}
use Rattle.bson_check.specs.declared.fault.DecodeFault.{DecodeFault}
use Rattle.bson_check.specs.declared.fault.DecodeFault.TheVariants as errors
use Rattle.bson_check.specs.Reading.{Reads, Gives, Fails, void, document_of}
use Rattle.bson_check.specs.Spells.{Spells, SpellsWithin, IsSomeDocument, SpelledOnce, LevelsNeeded}
use Rattle.bson_check.specs.Faults.{IsFault, first_fault, FaultlessIfSpelled}
use Rattle.bson_check.proofs.Cutting.{ok_is}
use Rattle.bson_check.proofs.Walk.{void_of}
use Rattle.bson_check.proofs.Again.{whole_again}
use Rattle.bson_check.proofs.Found.{whole_found}
use Rattle.bson_check.proofs.Height.{document_bound, document_within}

pub read_is_spelled : (max depth : ℕ) (bytes : List ℕ) (fs : List (List ℕ × Value)) → document_of max depth bytes ≡ Ok fs → SpellsWithin max depth bytes fs
unfolding Spells
read_is_spelled max depth bytes fs e =
    let w = whole_found max depth bytes fs e in
    record { spells = (w.small, depth, w.document); short = w.short; shallow = document_bound depth bytes fs w.document }

pub spelled_is_read : (max depth : ℕ) (bytes : List ℕ) (fs : List (List ℕ × Value)) → SpellsWithin max depth bytes fs → document_of max depth bytes ≡ Ok fs
unfolding Spells
spelled_is_read max depth bytes fs s =
    whole_again max depth bytes fs (document_within s.spells.1 depth bytes fs s.spells.2 s.shallow) s.spells.0 s.short

-- ---- laws

spelled_within : (n : ℕ) (bytes : List ℕ) (fs : List (List ℕ × Value)) → Spells bytes fs → levels_of fs ≤ n → SpellsWithin (length bytes) n bytes fs
spelled_within n bytes fs s le = record { spells = s; short = omega arith; shallow = le }

pub spelled_once : SpelledOnce
spelled_once bytes fs gs s t =
    let n = levels_of fs + levels_of gs in
    let a = spelled_is_read (length bytes) n bytes fs (spelled_within n bytes fs s (omega arith)) in
    let b = spelled_is_read (length bytes) n bytes gs (spelled_within n bytes gs t (omega arith)) in
    ok_is fs gs (sym a ∙ b)

pub levels_needed : LevelsNeeded
levels_needed n bytes fs = ((λ h. ((n, h), document_bound n bytes fs h)), (λ h. document_within h.0.0 n bytes fs h.0.1 h.1))

pub no_fault : (r : Result (List (List ℕ × Value)) BsonFault) → result_err r ≡ None → (fs : List (List ℕ × Value)) × (r ≡ Ok fs)
no_fault (Ok fs) e = (fs, refl)
no_fault (Err f) e = absurd cc

pub faultless_if_spelled : FaultlessIfSpelled
unfolding first_fault
faultless_if_spelled max depth bytes = (
  (λ e. let r = no_fault (document_of max depth bytes) e in (r.0, read_is_spelled max depth bytes r.0 r.1)),
  (λ s. ap result_err (spelled_is_read max depth bytes s.0 s.1)),
)

-- ---- what check answers

found_ok : (max depth : ℕ) (bytes : List ℕ) → void (document_of max depth bytes) ≡ Ok tt → IsSomeDocument max depth bytes
found_ok max depth bytes e = let x = void_of (document_of max depth bytes) e in (x.0, read_is_spelled max depth bytes x.0 x.1)

pub ok_if_spelled : (max depth : ℕ) (bytes : List ℕ) (r : Result Unit BsonFault) → Reads (λ u. u) r (void (document_of max depth bytes)) → IsOk r ↔ IsSomeDocument max depth bytes
ok_if_spelled max depth bytes (Ok u) e = ((λ _. found_ok max depth bytes e), (λ _. refl))
ok_if_spelled max depth bytes (Err f) e = ((λ h. absurd cc), (λ s. let p = ap void (spelled_is_read max depth bytes s.0 s.1) in absurd cc))

fault_of_void : {A : Type 0} (r : Result A BsonFault) (u : Result Unit BsonFault) → Reads (λ u. u) u (void r) → result_err u ≡ result_err r
fault_of_void (Ok x) (Ok u) e = refl
fault_of_void (Ok x) (Err f) e = absurd cc
fault_of_void (Err d) (Ok u) e = absurd cc
fault_of_void (Err d) (Err f) e = let p : d ≡ f = cc in ap Some (sym p)

pub answers_fault : (max depth : ℕ) (bytes : List ℕ) (r : Result Unit BsonFault) → Reads (λ u. u) r (void (document_of max depth bytes)) → result_err r ≡ first_fault max depth bytes
unfolding first_fault
answers_fault max depth bytes r e = fault_of_void (document_of max depth bytes) r e

-- ---- what decode answers

pub read_found : (max depth : ℕ) (bytes : List ℕ) (r : Result (List (List ℕ × Value)) DecodeFault) → Gives (λ d. d) r (document_of max depth bytes) → IfOk r (λ fs. SpellsWithin max depth bytes fs)
read_found max depth bytes (Ok fs) e = read_is_spelled max depth bytes fs e
read_found max depth bytes (Err f) e = tt

same_read : (r : Result (List (List ℕ × Value)) DecodeFault) (fs : List (List ℕ × Value)) → Gives (λ d. d) r (Ok fs) → MatchResult r (λ d. d ≡ fs) (λ f. f ≡ errors.NoMemory)
same_read (Ok d) fs e = sym (ok_is fs d e)
same_read (Err errors.NoMemory) fs e = refl
same_read (Err (errors.Bad f)) fs e = absurd cc

pub read_only : (max depth : ℕ) (bytes : List ℕ) (r : Result (List (List ℕ × Value)) DecodeFault) → Gives (λ d. d) r (document_of max depth bytes)
    → (fs : List (List ℕ × Value)) → SpellsWithin max depth bytes fs → MatchResult r (λ d. d ≡ fs) (λ f. f ≡ errors.NoMemory)
read_only max depth bytes r e fs s = same_read r fs (subst (λ (t : Result (List (List ℕ × Value)) BsonFault). Gives (λ d. d) r t) (spelled_is_read max depth bytes fs s) e)

is_fault : (f : DecodeFault) (t : Result (List (List ℕ × Value)) BsonFault) → Fails f t → IsFault f (result_err t)
is_fault errors.NoMemory t e = tt
is_fault (errors.Bad f) t e = ap result_err e

pub read_fault : (max depth : ℕ) (bytes : List ℕ) (r : Result (List (List ℕ × Value)) DecodeFault) → Gives (λ d. d) r (document_of max depth bytes) → IfErr r (λ f. IsFault f (first_fault max depth bytes))
unfolding first_fault
read_fault max depth bytes (Ok d) e = tt
read_fault max depth bytes (Err f) e = is_fault f (document_of max depth bytes) e
