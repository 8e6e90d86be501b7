-- What bytes spell is well-formed.
use Rattle.std.proofs.Common.{◌≡◌, ℕ, zero, suc, ◌<◌, ◌^◌, List, [], ◌∷◌, ◌++◌, length, Ok, refl, sym, subst, ◌∙◌, append_assoc, arith}
use Rattle.std.specs.Prelude.{ℤ, FitsSigned, Result, Err, IfOk}
use Rattle.std.specs.Int.{w32, w64, from_le_bytes}
use Rattle.std.specs.List.{AllByRecursion}
use Rattle.std.proofs.Math.Facts.{sfits_to_z}
use Rattle.bson_value.specs.declared.value.Value.{Value, out-Value, roll-out-Value}
use Rattle.bson_value.specs.declared.value.Value.TheOpen.{Value-F}
use Rattle.bson_value.specs.WellFormed.{AreBytes, IsRun, IsWellFormedLevel, IsWellFormed, AreWellFormedItems, AreWellFormedFields, IsWellFormedDocument}
use Rattle.bson_value.proofs.Runs.{back_bytes, front_bytes}
use Rattle.bson_value.proofs.WellFormed.{IsHeldWellFormed, formed_one}
use Rattle.bson_check.specs.Reading.{value_at, document_at, array_at, scoped_at}
use Rattle.bson_check.specs.Spells.{IsName, IsCount, IsSigned, AreBytesOf, AreFields, AreItems, IsDocument, IsArray, SpellsWithin, Spells}
use Rattle.bson_check.proofs.Found.{value_found, document_found, array_found, scoped_found}

pub word_small : (c : List ℕ) (n : ℕ) → AreBytes c → IsCount c n → n < 2 ^ 32
word_small c n h k = omega (arith, k.value, h 0, h 1, h 2, h 3)

int_fits : (b : List ℕ) (z : ℤ) → AreBytes b → IsSigned w32 b z → FitsSigned w32 z
int_fits b z h s =
    let small : from_le_bytes w32 b < 2 ^ 32 = omega (arith, h 0, h 1, h 2, h 3) in
    subst (FitsSigned w32) s.value (sfits_to_z (record { fits = small }))

long_fits : (b : List ℕ) (z : ℤ) → AreBytes b → IsSigned w64 b z → FitsSigned w64 z
long_fits b z h s =
    let small : from_le_bytes w64 b < 2 ^ 64 = omega (arith, h 0, h 1, h 2, h 3, h 4, h 5, h 6, h 7) in
    subst (FitsSigned w64) s.value (sfits_to_z (record { fits = small }))

run : (n : ℕ) (b d : List ℕ) → AreBytes b → length d ≡ n → b ≡ d → IsRun n d
run n b d h k is = record { count_is = k; are_bytes = subst AreBytes is h }

module _ (D : List ℕ → List (List ℕ × Value) → Type 0) (A : List ℕ → List Value → Type 0)
    (documents : (b : List ℕ) (fs : List (List ℕ × Value)) → AreBytes b → D b fs → IsWellFormedDocument fs) (arrays : (b : List ℕ) (vs : List Value) → AreBytes b → A b vs → AreWellFormedItems vs) where
  one_formed : (b : List ℕ) (x : Value-F Value) → AreBytes b → AreBytesOf D A b x → IsWellFormedLevel x × IsHeldWellFormed x
  one_formed b (Value-F.Double d) h s = (run 8 b d h s.0 s.1, tt)
  one_formed b (Value-F.Str t) h s = (s.2, tt)
  one_formed b (Value-F.Object fs) h s = documents b fs h s
  one_formed b (Value-F.Array vs) h s = (tt, arrays b vs h s)
  one_formed b (Value-F.Binary k d) h s = let all = back_bytes s.0 (k ∷ d) (subst AreBytes s.2 h) in ((all 0, back_bytes (k ∷ []) d all), tt)
  one_formed b Value-F.Undefined h s = (tt, tt)
  one_formed b (Value-F.Oid d) h s = (run 12 b d h s.0 s.1, tt)
  one_formed b (Value-F.Bool v) h s = (tt, tt)
  one_formed b (Value-F.Date z) h s = (long_fits b z h s, tt)
  one_formed b Value-F.Null h s = (tt, tt)
  one_formed b (Value-F.Regex p o) h s = ((s.0, s.1), tt)
  one_formed b (Value-F.DbPointer t d) h s = ((s.1.2, run 12 d d (back_bytes s.0 d (subst AreBytes s.3 h)) s.2 refl), tt)
  one_formed b (Value-F.Code t) h s = (s.2, tt)
  one_formed b (Value-F.Symbol t) h s = (s.2, tt)
  one_formed b (Value-F.ScopedCode t fs) h s =
      let all = subst AreBytes (s.6 ∙ sym (append_assoc s.0 s.1 s.2)) h in
      let d = documents s.2 fs (back_bytes (s.0 ++ s.1) s.2 all) s.5 in
      ((s.4.2, d.0), d.1)
  one_formed b (Value-F.Int z) h s = (int_fits b z h s, tt)
  one_formed b (Value-F.Stamp t) h s =
      let all = subst AreBytes s.4 h in
      ((word_small s.1 t.secs (back_bytes s.0 s.1 all) s.3, word_small s.0 t.inc (front_bytes s.0 s.1 all) s.2), tt)
  one_formed b (Value-F.Long z) h s = (long_fits b z h s, tt)
  one_formed b (Value-F.Decimal d) h s = (run 16 b d h s.0 s.1, tt)
  one_formed b Value-F.MinKey h s = (tt, tt)
  one_formed b Value-F.MaxKey h s = (tt, tt)

  pub value_formed : (b : List ℕ) (v : Value) → AreBytes b → AreBytesOf D A b (out-Value v) → IsWellFormed v
  value_formed b v h s = let k = one_formed b (out-Value v) h s in subst IsWellFormed (roll-out-Value v) (formed_one (out-Value v) k.0 k.1)

  -- the bytes of the first value, and of the other elements
  inner_bytes : (t : ℕ) (name c others : List ℕ) → AreBytes (t ∷ (name ++ (c ++ others))) → AreBytes c × AreBytes others
  inner_bytes t name c others h =
      let rest = back_bytes (t ∷ name) (c ++ others) h in
      (front_bytes c others rest, back_bytes c others rest)

  fields_formed : (b : List ℕ) (fs : List (List ℕ × Value)) → AreBytes b → AreFields (λ c v. AreBytesOf D A c (out-Value v)) b fs → AllByRecursion (λ e. IsName e.0) fs × AreWellFormedFields fs
  fields_formed b [] h s = (tt, tt)
  fields_formed b (e ∷ fs) h s =
      let r = inner_bytes _ (e.0 ++ 0 ∷ []) s.0 s.1 (subst AreBytes s.5 h) in
      let more = fields_formed s.1 fs r.1 s.4 in
      ((s.2, more.0), (value_formed s.0 e.1 r.0 s.3, more.1))

  items_formed : (b : List ℕ) (vs : List Value) → AreBytes b → AreItems (λ c v. AreBytesOf D A c (out-Value v)) b vs → AreWellFormedItems vs
  items_formed b [] h s = tt
  items_formed b (v ∷ vs) h s =
      let r = inner_bytes _ (s.0 ++ 0 ∷ []) s.1 s.2 (subst AreBytes s.6 h) in
      (value_formed s.1 v r.0 s.4, items_formed s.2 vs r.1 s.5)

-- the bytes of the elements
body_bytes : (total elements b : List ℕ) → b ≡ total ++ elements ++ 0 ∷ [] → AreBytes b → AreBytes elements
body_bytes total elements b is h = back_bytes total elements (front_bytes (total ++ elements) (0 ∷ []) (subst AreBytes is h))

mutual
  unfolding IsDocument

  pub document_formed : (n : ℕ) (b : List ℕ) (fs : List (List ℕ × Value)) → AreBytes b → IsDocument n b fs → IsWellFormedDocument fs
  document_formed zero b fs h s = absurd s
  document_formed (suc n) b fs h s =
      let r = fields_formed (IsDocument n) (IsArray n) (document_formed n) (array_formed n) s.0 fs (body_bytes s.1.0 s.0 b s.1.2 h) s.3 in
      ((s.2, r.0), r.1)

  pub array_formed : (n : ℕ) (b : List ℕ) (vs : List Value) → AreBytes b → IsArray n b vs → AreWellFormedItems vs
  array_formed zero b vs h s = absurd s
  array_formed (suc n) b vs h s = items_formed (IsDocument n) (IsArray n) (document_formed n) (array_formed n) s.0 vs (body_bytes s.1.0 s.0 b s.1.2 h) s.2

-- ---- what is read

spelled_formed : (max depth : ℕ) (bytes : List ℕ) (fs : List (List ℕ × Value)) → AreBytes bytes → SpellsWithin max depth bytes fs → IsWellFormedDocument fs
unfolding Spells
spelled_formed max depth bytes fs h s = document_formed s.spells.1 bytes fs h s.spells.2

pub read_formed : (n tag end : ℕ) (bytes : List ℕ) (x : Value × List ℕ) → AreBytes bytes → value_at n tag end bytes ≡ Ok x → IsWellFormed x.0
read_formed n tag end bytes x h e =
    let t = value_found (IsDocument n) (IsArray n) (document_at n) (array_at n) (scoped_at n) (document_found n) (array_found n) (scoped_found n) tag end bytes x e in
    value_formed (IsDocument n) (IsArray n) (document_formed n) (array_formed n) t.spelling x.0 (front_bytes t.spelling x.1 (subst AreBytes t.parts h)) t.spells

pub whole_formed : {E : Type 0} (max depth : ℕ) (bytes : List ℕ) (r : Result (List (List ℕ × Value)) E) → AreBytes bytes → IfOk r (λ fs. SpellsWithin max depth bytes fs) → IfOk r (λ fs. IsWellFormedDocument fs)
whole_formed max depth bytes (Ok fs) h s = spelled_formed max depth bytes fs h s
whole_formed max depth bytes (Err e) h s = tt
