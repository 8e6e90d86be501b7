-- What is spelled is what the bytes mean.
use Rattle.std.proofs.Common.{◌≡◌, ℕ, true, List, [], ◌∷◌, length, Result, Ok, Err, refl, sym, ap, subst, ◌∙◌, arith}
use Rattle.std.specs.Prelude.{None, IsTrue, is_ok}
use Rattle.std.proofs.lemmas.List.{append-nil}
use Rattle.bson_value.specs.declared.value.Value.{Value, out-Value}
use Rattle.bson_check.specs.declared.fault.BsonFault.{BsonFault}
use Rattle.bson_check.specs.declared.fault.DecodeFault.{DecodeFault}
use Rattle.bson_check.specs.declared.fault.DecodeFault.TheVariants as errors
use Rattle.bson_check.specs.Reading.{Taken, Fails, read_of, document_of, document_at, array_at, scoped_at, value_at}
use Rattle.bson_check.specs.Spells.{Spells, SpellsWithin, type_byte, AreBytesOf, IsDocument, IsArray}
use Rattle.bson_check.specs.Faults.{first_fault}
use Rattle.bson_check.proofs.Again.{CanRead, value_again, document_again, array_again, scoped_again}
use Rattle.bson_check.proofs.Found.{value_found, document_found, array_found, scoped_found}
use Rattle.bson_check.proofs.Height.{value_within, document_within, array_within}
use Rattle.bson_check.proofs.Whole.{read_is_spelled, spelled_is_read, no_fault}
use Rattle.bson_view.specs.Meaning.{read_document, read_fields, is_document, document_in, AreValue, read_value, ends, read_as, is_value, value_in}
use Rattle.bson_view.proofs.Sizes.{value_size, document_size, array_size}

-- ---- documents

spelled_within : (bytes : List ℕ) (fs : List (List ℕ × Value)) → Spells bytes fs → SpellsWithin (length bytes) (length bytes) bytes fs
unfolding Spells
spelled_within bytes fs s = record { spells = s; short = omega arith; shallow = document_size s.1 bytes fs s.2 }

pub document_read : (bytes : List ℕ) (fs : List (List ℕ × Value)) → Spells bytes fs → read_document bytes ≡ Ok fs
unfolding read_document
document_read bytes fs s = spelled_is_read (length bytes) (length bytes) bytes fs (spelled_within bytes fs s)

pub document_is : (bytes : List ℕ) (fs : List (List ℕ × Value)) → Spells bytes fs → document_in bytes ≡ fs
unfolding document_in
document_is bytes fs s = ap read_fields (document_read bytes fs s)

pub document_checked : (bytes : List ℕ) (fs : List (List ℕ × Value)) → Spells bytes fs → IsTrue (is_document bytes)
unfolding is_document
document_checked bytes fs s = ap is_ok (document_read bytes fs s)

ok_of : (r : Result (List (List ℕ × Value)) BsonFault) → is_ok r ≡ true → r ≡ Ok (read_fields r)
ok_of (Ok fs) e = refl
ok_of (Err f) e = absurd cc

-- bytes without a fault are the document that they mean
pub faultless : (max depth : ℕ) (bytes : List ℕ) → first_fault max depth bytes ≡ None → SpellsWithin max depth bytes (document_in bytes)
unfolding first_fault
faultless max depth bytes e =
    let r = no_fault (document_of max depth bytes) e in
    let s = read_is_spelled max depth bytes r.0 r.1 in
    subst (λ (fs : List (List ℕ × Value)). SpellsWithin max depth bytes fs) (sym (document_is bytes r.0 s.spells)) s

pub faultless_read : (max depth : ℕ) (bytes : List ℕ) → first_fault max depth bytes ≡ None → document_of max depth bytes ≡ Ok (document_in bytes)
faultless_read max depth bytes e = spelled_is_read max depth bytes (document_in bytes) (faultless max depth bytes e)

pub faultless_checked : (max depth : ℕ) (bytes : List ℕ) → first_fault max depth bytes ≡ None → IsTrue (is_document bytes)
faultless_checked max depth bytes e = document_checked bytes (document_in bytes) (faultless max depth bytes e).spells

pub checked_spells : (bytes : List ℕ) → IsTrue (is_document bytes) → Spells bytes (document_in bytes)
unfolding is_document document_in read_document
checked_spells bytes e = (read_is_spelled (length bytes) (length bytes) bytes (read_fields (read_document bytes)) (ok_of (read_document bytes) e)).spells

-- ---- values

value_reads : (n : ℕ) (b : List ℕ) (v : Value) → AreBytesOf (IsDocument n) (IsArray n) b (out-Value v) → CanRead (value_at n) b v
value_reads n b v s =
    value_again (IsDocument n) (IsArray n) (document_at n) (array_at n) (scoped_at n) (document_again n) (array_again n) (scoped_again n) b v s

of_own_size : (n : ℕ) (b : List ℕ) (v : Value) → AreBytesOf (IsDocument n) (IsArray n) b (out-Value v) → AreBytesOf (IsDocument (length b)) (IsArray (length b)) b (out-Value v)
of_own_size n b v s =
    value_within (IsDocument n) (IsDocument (length b)) (IsArray n) (IsArray (length b)) (length b) (document_within n (length b)) (array_within n (length b)) b v s
    (value_size (IsDocument n) (IsArray n) (document_size n) (array_size n) b v s)

pub value_read : (tag : ℕ) (b : List ℕ) (v : Value) → AreValue tag b v → read_value tag b ≡ Ok (v, [])
unfolding read_value
value_read tag b v s =
    let r = value_reads (length b) b v (of_own_size s.levels b v s.spells) in
    ap (λ t. value_at (length b) t (length b) b) s.kind ∙ ap (value_at (length b) (type_byte (out-Value v)) (length b)) (sym (append-nil b)) ∙ r.again (length b) []

pub value_is : (tag : ℕ) (b : List ℕ) (v : Value) → AreValue tag b v → value_in tag b ≡ v
unfolding value_in
value_is tag b v s = ap read_as (value_read tag b v s)

pub value_checked : (tag : ℕ) (b : List ℕ) (v : Value) → AreValue tag b v → IsTrue (is_value tag b)
unfolding is_value
value_checked tag b v s = ap ends (value_read tag b v s)

ended : (r : Taken Value) → ends r ≡ true → r ≡ Ok (read_as r, [])
ended (Ok (v, [])) e = refl
ended (Ok (v, b ∷ bs)) e = absurd cc
ended (Err f) e = absurd cc

-- bytes of a value are the one that they mean
pub checked_value : (tag : ℕ) (b : List ℕ) → IsTrue (is_value tag b) → AreValue tag b (value_in tag b)
unfolding is_value value_in read_value
checked_value tag b e =
    let n = length b in
    let v = read_as (value_at n tag n b) in
    let t = value_found (IsDocument n) (IsArray n) (document_at n) (array_at n) (scoped_at n) (document_found n) (array_found n) (scoped_found n) tag n b (v, []) (ended (value_at n tag n b) e) in
    let whole : t.spelling ≡ b = sym (append-nil t.spelling) ∙ sym t.parts in
    record { levels = n; kind = t.kind; spells = subst (λ (x : List ℕ). AreBytesOf (IsDocument n) (IsArray n) x (out-Value v)) whole t.spells }

-- reading bytes of a value gives it
pub value_there : (tag : ℕ) (b : List ℕ) → IsTrue (is_value tag b) → value_at (length b) tag (length b) b ≡ Ok (value_in tag b, [])
unfolding is_value value_in read_value
value_there tag b e = ended (value_at (length b) tag (length b) b) e

pub read_is : (tag : ℕ) (b : List ℕ) (v : Value) → IsTrue (is_value tag b) → read_of (value_at (length b) tag (length b) b) ≡ Ok v → v ≡ value_in tag b
read_is tag b v valid e = let f = sym (ap read_of (value_there tag b valid)) ∙ e in cc

pub never_bad : (tag : ℕ) (b : List ℕ) (e : DecodeFault) (f : BsonFault) → IsTrue (is_value tag b) → e ≡ errors.Bad f → Fails e (read_of (value_at (length b) tag (length b) b)) → ⊥
never_bad tag b e f valid is fails =
    let h : read_of (value_at (length b) tag (length b) b) ≡ Err f = rw is at fails in
    let g = sym (ap read_of (value_there tag b valid)) ∙ h in absurd cc
