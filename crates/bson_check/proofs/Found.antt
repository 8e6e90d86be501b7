-- What is read is spelled.
use Rattle.std.proofs.Common.{◌≡◌, ℕ, zero, suc, ◌+◌, ◌-◌, ◌<◌, ◌≤◌, ◌^◌, Bool, true, false, cond, ltb, eqb, List, [], ◌∷◌, ◌++◌, length, take, drop, slice_index, Ok, refl, sym, ap, subst, ◌∙◌, append_assoc, arith, inl, inr}
use Rattle.std.specs.Prelude.{◌==◌, ◌||◌, Option, None, Some, ℤ, Contains, if◌then◌else◌}
use Rattle.std.specs.Int.{w32, from_le_bytes, cast_signed}
use Rattle.std.specs.List.{position_from}
use Rattle.std.specs.Str.{is_utf8}
use Rattle.std.proofs.lemmas.List.{take_at, drop_at, take-append-drop, drop-drop, length-append, length-take, length-drop, append-nil, nil_from_length, take-append-le}
use Rattle.std.proofs.Math.Seq.{drop-length}
use Rattle.std.proofs.lemmas.Bool.{ltb-false, eqb-true, eqb-false}
use Rattle.containers.specs.Entries.{AreDistinct, IsAbsent, names_of, place_of}
use Rattle.containers.proofs.Entries.{none_is_absent, distinct_push}
use Rattle.bson_value.specs.declared.value.Value.{Value, out-Value, roll-Value, out-roll-Value}
use Rattle.bson_value.specs.declared.value.Value.TheOpen.{Value-F}
use Rattle.bson_value.specs.declared.value.Value.TheVariants as values
use Rattle.bson_value.specs.declared.value.Value.TheVariants.{rolls-Null, rolls-Int, rolls-Bool, rolls-Str, rolls-Object, rolls-Array, rolls-Undefined, rolls-Code, rolls-Symbol, rolls-MinKey, rolls-MaxKey, rolls-Double, rolls-Oid, rolls-Decimal, rolls-Date, rolls-Long, rolls-Binary, rolls-Regex, rolls-DbPointer, rolls-Stamp, rolls-ScopedCode}
use Rattle.bson_check.specs.Reading.{◌>>=◌, Taken, Frame, Scoped, Reader, number, place, cut, split_zero, closed, unless_there, run_at, int_at, bool_at, text_at, raw_at, binary_at, cut_at, regex_at, pointer_at, frame_at, scope_at, total_at, name_at, named, is_type, field_at, item_at, fields_at, items_at, value_with, value_at, document_at, array_at, scoped_at, document_of, stamp_of, long_of}
use Rattle.bson_check.specs.Spells.{IsCount, IsSigned, IsName, IsString, IsFrame, type_byte, AreBytesOf, AreFields, AreItems, IsDocument, IsArray}
use Rattle.bson_check.proofs.Cutting.{bind_ok, passes, holds, chosen, neither, done, ok_is, splits, parts_at}
use Rattle.bson_check.proofs.Again.{document_number}

-- ---- numbers and runs

count_found : (bytes : List ℕ) → 4 ≤ length bytes → IsCount (take 4 bytes) (number bytes)
unfolding number
count_found bytes le = record { four = omega (arith, length-take 4 bytes); value = refl }

number_on : (b rest : List ℕ) → 4 ≤ length b → number (b ++ rest) ≡ number b
unfolding number
number_on b rest le = ap (λ (xs : List ℕ). from_le_bytes w32 xs) (take-append-le 4 b rest le)

-- so many bytes were taken
pub record TookRun (n : ℕ) (bytes : List ℕ) (x : List ℕ × List ℕ) : Type 0 where
  pub count : length x.0 ≡ n
  pub parts : bytes ≡ x.0 ++ x.1

run_found : (n end : ℕ) (bytes : List ℕ) (x : List ℕ × List ℕ) → run_at n end bytes ≡ Ok x → TookRun n bytes x
unfolding run_at
run_found n end bytes x e =
    let g = passes (ltb (length bytes) n) _ _ x e in
    let le : n ≤ length bytes = ltb-false _ _ g.0 in
    let is = ok_is (take n bytes, drop n bytes) x g.1 in
    subst (λ (y : List ℕ × List ℕ). TookRun n bytes y) is (record { count = omega (arith, length-take n bytes); parts = sym (take-append-drop n bytes) })

-- ---- texts

-- the bytes in front of the rest are this string, which may be no text
pub record TookString (bytes t rest : List ℕ) : Type 0 where
  pub count : List ℕ
  pub is_count : IsCount count (length t + 1)
  pub parts : bytes ≡ (count ++ t ++ 0 ∷ []) ++ rest

string_found : (bytes : List ℕ) → 4 ≤ length bytes → (number bytes ≡ 0 → ⊥) → number bytes ≤ length bytes - 4 → slice_index bytes (number bytes + 3) ≡ 0 → TookString bytes (take (number bytes - 1) (drop 4 bytes)) (drop (number bytes + 4) bytes)
string_found bytes four pos le z =
    let k = number bytes - 1 in
    let i : number bytes + 3 ≡ k + 4 = omega (arith, pos) in
    let j : k + 5 ≡ number bytes + 4 = omega (arith, pos) in
    let len : number bytes ≡ length (take k (drop 4 bytes)) + 1 = omega (arith, length-take k (drop 4 bytes), length-drop 4 bytes, pos, le) in
    let at : slice_index bytes (k + 4) ≡ 0 = ap (λ (m : ℕ). slice_index bytes m) (sym i) ∙ z in
    record {
      count = take 4 bytes;
      is_count = subst (λ (n : ℕ). IsCount (take 4 bytes) n) len (count_found bytes four);
      parts = splits bytes k (omega (arith, pos, le, four)) at ∙ ap (λ (m : ℕ). (take 4 bytes ++ take k (drop 4 bytes) ++ 0 ∷ []) ++ drop m bytes) j;
    }

text_found : (end : ℕ) (bytes : List ℕ) (x : List ℕ × List ℕ) → text_at end bytes ≡ Ok x → (b : List ℕ) × IsString b x.0 × (bytes ≡ b ++ x.1)
unfolding text_at
text_found end bytes x e =
    let a = passes (ltb (length bytes) 4) _ _ x e in
    let b = passes (eqb (number bytes) 0 || ltb (length bytes - 4) (number bytes)) _ _ x a.1 in
    let c = holds (eqb (slice_index bytes (number bytes + 3)) 0) _ _ x b.1 in
    let d = holds (is_utf8 (take (number bytes - 1) (drop 4 bytes))) _ _ x c.1 in
    let n = neither (eqb (number bytes) 0) (ltb (length bytes - 4) (number bytes)) b.0 in
    let s = string_found bytes (ltb-false _ _ a.0) (eqb-false _ _ n.0) (ltb-false _ _ n.1) (eqb-true _ _ c.0) in
    let t = take (number bytes - 1) (drop 4 bytes) in
    let rest = drop (number bytes + 4) bytes in
    subst (λ (y : List ℕ × List ℕ). (b : List ℕ) × IsString b y.0 × (bytes ≡ b ++ y.1)) (ok_is (t, rest) x d.1) (s.count ++ t ++ 0 ∷ [], (s.count, s.is_count, d.0, refl), s.parts)

raw_found : (at : ℕ) (bytes : List ℕ) (x : List ℕ × List ℕ) → raw_at at bytes ≡ Ok x → TookString bytes x.0 x.1
unfolding raw_at
raw_found at bytes x e =
    let a = passes (ltb (length bytes) 4) _ _ x e in
    let b = passes (eqb (number bytes) 0 || ltb (length bytes - 4) (number bytes)) _ _ x a.1 in
    let c = holds (eqb (slice_index bytes (number bytes + 3)) 0) _ _ x b.1 in
    let n = neither (eqb (number bytes) 0) (ltb (length bytes - 4) (number bytes)) b.0 in
    let s = string_found bytes (ltb-false _ _ a.0) (eqb-false _ _ n.0) (ltb-false _ _ n.1) (eqb-true _ _ c.0) in
    subst (λ (y : List ℕ × List ℕ). TookString bytes y.0 y.1) (ok_is (take (number bytes - 1) (drop 4 bytes), drop (number bytes + 4) bytes) x c.1) s

pointer_found : (end : ℕ) (bytes : List ℕ) (x : (List ℕ × List ℕ) × List ℕ) → pointer_at end bytes ≡ Ok x → (string : List ℕ) × IsString string x.0.0 × (length x.0.1 ≡ 12) × (bytes ≡ (string ++ x.0.1) ++ x.1)
unfolding pointer_at
pointer_found end bytes x e =
    let a = bind_ok (raw_at (place end bytes) bytes) _ x e in
    let ns = a.0 in
    let b = passes (ltb (length ns.1) 12) _ _ x a.2 in
    let c = holds (is_utf8 ns.0) _ _ x b.1 in
    let s = raw_found (place end bytes) bytes ns a.1 in
    let string = s.count ++ ns.0 ++ 0 ∷ [] in
    let le : 12 ≤ length ns.1 = ltb-false _ _ b.0 in
    let whole : bytes ≡ (string ++ take 12 ns.1) ++ drop 12 ns.1 = s.parts ∙ ap (λ (r : List ℕ). string ++ r) (sym (take-append-drop 12 ns.1)) ∙ sym (append_assoc string (take 12 ns.1) (drop 12 ns.1)) in
    subst (λ (y : (List ℕ × List ℕ) × List ℕ). (s : List ℕ) × IsString s y.0.0 × (length y.0.1 ≡ 12) × (bytes ≡ (s ++ y.0.1) ++ y.1)) (ok_is ((ns.0, take 12 ns.1), drop 12 ns.1) x c.1)
    (string, (s.count, s.is_count, c.0, refl), omega (arith, length-take 12 ns.1), whole)

binary_found : (end : ℕ) (bytes : List ℕ) (x : (ℕ × List ℕ) × List ℕ) → binary_at end bytes ≡ Ok x → (count : List ℕ) × IsCount count (length x.0.1) × (bytes ≡ (count ++ x.0.0 ∷ x.0.1) ++ x.1)
unfolding binary_at
binary_found end bytes x e =
    let a = passes (ltb (length bytes) 5) _ _ x e in
    let b = passes (ltb (length bytes - 5) (number bytes)) _ _ x a.1 in
    let n = number bytes in
    let five : 5 ≤ length bytes = ltb-false _ _ a.0 in
    let le : n ≤ length bytes - 5 = ltb-false _ _ b.0 in
    let count = take 4 bytes in
    let s = slice_index bytes 4 in
    let d = take n (drop 5 bytes) in
    let rest = drop (n + 5) bytes in
    let len : n ≡ length d = omega (arith, length-take n (drop 5 bytes), length-drop 5 bytes) in
    let i : 5 + n ≡ n + 5 = omega arith in
    let behind : drop n (drop 5 bytes) ≡ rest = drop-drop n 5 bytes ∙ ap (λ (m : ℕ). drop m bytes) i in
    let last : drop 5 bytes ≡ d ++ rest = sym (take-append-drop n (drop 5 bytes)) ∙ ap (λ (r : List ℕ). d ++ r) behind in
    let whole : bytes ≡ (count ++ s ∷ d) ++ rest = parts_at bytes 4 (omega arith) ∙ ap (λ (r : List ℕ). count ++ (s ∷ r)) last ∙ sym (append_assoc count (s ∷ d) rest) in
    subst (λ (y : (ℕ × List ℕ) × List ℕ). (c : List ℕ) × IsCount c (length y.0.1) × (bytes ≡ (c ++ y.0.0 ∷ y.0.1) ++ y.1)) (ok_is ((s, d), rest) x b.1)
    (count, subst (λ (m : ℕ). IsCount count m) len (count_found bytes (omega arith)), whole)

-- ---- what a zero ends

-- a zero ends what was taken
pub record TookZero (bytes n rest : List ℕ) : Type 0 where
  pub no_zero : Contains n 0 → ⊥
  pub parts : bytes ≡ (n ++ 0 ∷ []) ++ rest

contains_more : (b : ℕ) (n : List ℕ) → (b ≡ 0 → ⊥) → (Contains n 0 → ⊥) → Contains (b ∷ n) 0 → ⊥
contains_more b n other h (zero, lt, is) = other is
contains_more b n other h (suc k, lt, is) = h (k, omega (arith, lt), is)

abbrev pub ZeroAt : ℕ → List ℕ → Option ℕ → Type 0
ZeroAt k bytes None = Unit {0}
ZeroAt k bytes (Some i) = (n rest : List ℕ) × (i ≡ k + length n) × (Contains n 0 → ⊥) × (bytes ≡ n ++ (0 ∷ rest))

zero_further : (b k : ℕ) (bytes : List ℕ) → (b ≡ 0 → ⊥) → (o : Option ℕ) → ZeroAt (k + 1) bytes o → ZeroAt k (b ∷ bytes) o
zero_further b k bytes other None z = tt
zero_further b k bytes other (Some i) z = (b ∷ z.0, z.1, omega (arith, z.2), contains_more b z.0 other z.3, ap (λ (x : List ℕ). b ∷ x) z.4)

zero_found : (k : ℕ) (bytes : List ℕ) → ZeroAt k bytes (position_from (λ b. b == 0) k bytes)
zero_found k [] = tt
zero_found k (b ∷ bytes) = go (eqb b 0) refl (zero_found (k + 1) bytes) where
  go : (t : Bool) → eqb b 0 ≡ t → ZeroAt (k + 1) bytes (position_from (λ b. b == 0) (k + 1) bytes) → ZeroAt k (b ∷ bytes) (cond t (Some k) (position_from (λ b. b == 0) (k + 1) bytes))
  go true e more = ([], bytes, omega arith, (λ c. absurd (omega (arith, c.1))), ap (λ (x : ℕ). x ∷ bytes) (eqb-true b 0 e))
  go false e more = zero_further b k bytes (eqb-false b 0 e) (position_from (λ b. b == 0) (k + 1) bytes) more

took_zero : (bytes : List ℕ) (i : ℕ) → ZeroAt 0 bytes (Some i) → TookZero bytes (take i bytes) (drop (i + 1) bytes)
took_zero bytes i z =
    let n = z.0 in
    let rest = z.1 in
    let is : i ≡ length n = omega (arith, z.2) in
    let whole : bytes ≡ (n ++ 0 ∷ []) ++ rest = z.4 ∙ sym (append_assoc n (0 ∷ []) rest) in
    let front : take i bytes ≡ n = ap (λ (x : List ℕ). take i x) z.4 ∙ take_at n (0 ∷ rest) i (sym is) in
    let back : drop (i + 1) bytes ≡ rest = ap (λ (x : List ℕ). drop (i + 1) x) whole ∙ drop_at (n ++ 0 ∷ []) rest (i + 1) (omega (arith, is, length-append n (0 ∷ []))) in
    subst (λ (m : List ℕ). TookZero bytes m (drop (i + 1) bytes)) (sym front) (subst (λ (r : List ℕ). TookZero bytes n r) (sym back) (record { no_zero = z.3; parts = whole }))

cut_is : (at : ℕ) (bytes : List ℕ) (o : Option ℕ) (x : List ℕ × List ℕ) → ZeroAt 0 bytes o → cut at bytes o ≡ Ok x → TookZero bytes x.0 x.1
cut_is at bytes None x z e = absurd cc
cut_is at bytes (Some i) x z e = subst (λ (y : List ℕ × List ℕ). TookZero bytes y.0 y.1) (ok_is (take i bytes, drop (i + 1) bytes) x e) (took_zero bytes i z)

split_is : (end : ℕ) (bytes : List ℕ) (o : Option ℕ) (x : List ℕ × List ℕ) → ZeroAt 0 bytes o → split_zero end bytes o ≡ Ok x → TookZero bytes x.0 x.1
split_is end bytes None x z e = absurd cc
split_is end bytes (Some i) x z e = subst (λ (y : List ℕ × List ℕ). TookZero bytes y.0 y.1) (ok_is (take i bytes, drop (i + 1) bytes) x e) (took_zero bytes i z)

cut_found : (at : ℕ) (bytes : List ℕ) (x : List ℕ × List ℕ) → cut_at at bytes ≡ Ok x → TookZero bytes x.0 x.1
unfolding cut_at
cut_found at bytes x e = cut_is at bytes (position_from (λ b. b == 0) 0 bytes) x (zero_found 0 bytes) e

name_found : (end : ℕ) (bytes : List ℕ) (x : List ℕ × List ℕ) → name_at end bytes ≡ Ok x → TookZero bytes x.0 x.1
unfolding name_at
name_found end bytes x e = split_is end bytes (position_from (λ b. b == 0) 0 bytes) x (zero_found 0 bytes) e

regex_found : (end : ℕ) (bytes : List ℕ) (x : (List ℕ × List ℕ) × List ℕ) → regex_at end bytes ≡ Ok x → IsName x.0.0 × IsName x.0.1 × (bytes ≡ ((x.0.0 ++ 0 ∷ []) ++ (x.0.1 ++ 0 ∷ [])) ++ x.1)
unfolding regex_at
regex_found end bytes x e =
    let at = place end bytes in
    let a = bind_ok (cut_at at bytes) _ x e in
    let p = a.0 in
    let b = bind_ok (cut_at at p.1) _ x a.2 in
    let o = b.0 in
    let c = holds (is_utf8 p.0) _ _ x b.2 in
    let d = holds (is_utf8 o.0) _ _ x c.1 in
    let first = cut_found at bytes p a.1 in
    let second = cut_found at p.1 o b.1 in
    let whole : bytes ≡ ((p.0 ++ 0 ∷ []) ++ (o.0 ++ 0 ∷ [])) ++ o.1 = first.parts ∙ ap (λ (r : List ℕ). (p.0 ++ 0 ∷ []) ++ r) second.parts ∙ sym (append_assoc (p.0 ++ 0 ∷ []) (o.0 ++ 0 ∷ []) o.1) in
    subst (λ (y : (List ℕ × List ℕ) × List ℕ). IsName y.0.0 × IsName y.0.1 × (bytes ≡ ((y.0.0 ++ 0 ∷ []) ++ (y.0.1 ++ 0 ∷ [])) ++ y.1)) (ok_is ((p.0, o.0), o.1) x d.1)
    (record { utf8 = c.0; no_zero = first.no_zero }, record { utf8 = d.0; no_zero = second.no_zero }, whole)

-- ---- frames

-- bytes that say how many they are, and end with a zero
frame_of : (bytes : List ℕ) → 5 ≤ number bytes → number bytes ≤ length bytes → slice_index bytes (number bytes - 1) ≡ 0
    → (b : List ℕ) × IsFrame b (take (number bytes - 5) (drop 4 bytes)) × (bytes ≡ b ++ drop (number bytes) bytes)
frame_of bytes low high z =
    let n = number bytes in
    let k = n - 5 in
    let body = take k (drop 4 bytes) in
    let i : n - 1 ≡ k + 4 = omega (arith, low) in
    let j : k + 5 ≡ n = omega (arith, low) in
    let at : slice_index bytes (k + 4) ≡ 0 = ap (λ (m : ℕ). slice_index bytes m) (sym i) ∙ z in
    let b = take 4 bytes ++ body ++ 0 ∷ [] in
    let whole : bytes ≡ b ++ drop n bytes = splits bytes k (omega (arith, low, high)) at ∙ ap (λ (m : ℕ). b ++ drop m bytes) j in
    let len : n ≡ length b = omega (arith, length-append (take 4 bytes ++ body) (0 ∷ []), length-append (take 4 bytes) body, length-take 4 bytes, length-take k (drop 4 bytes), length-drop 4 bytes, low, high) in
    (b, (take 4 bytes, subst (λ (m : ℕ). IsCount (take 4 bytes) m) len (count_found bytes (omega (arith, low, high))), refl), whole)

frame_found : (levels end : ℕ) (bytes : List ℕ) (f : Frame) → frame_at levels end bytes ≡ Ok f → f.last ≡ 0 → (b : List ℕ) × IsFrame b f.body × (bytes ≡ b ++ f.after)
unfolding frame_at
frame_found levels end bytes f e =
    let n = number bytes in
    let a = passes (ltb (length bytes) 4) _ _ f e in
    let b = passes (ltb n 5 || ltb (length bytes) n) _ _ f a.1 in
    let c = passes (eqb levels 0) _ _ f b.1 in
    let t = neither (ltb n 5) (ltb (length bytes) n) b.0 in
    let made : Frame = record { body = take (n - 5) (drop 4 bytes); stop = place end bytes + (n - 1); last = slice_index bytes (n - 1); after = drop n bytes } in
    subst (λ (g : Frame). g.last ≡ 0 → (b : List ℕ) × IsFrame b g.body × (bytes ≡ b ++ g.after)) (ok_is made f c.1)
    (λ z. frame_of bytes (ltb-false _ _ t.0) (ltb-false _ _ t.1) z)

no_level : (end : ℕ) (bytes : List ℕ) (f : Frame) → frame_at 0 end bytes ≡ Ok f → ⊥
unfolding frame_at
no_level end bytes f e =
    let n = number bytes in
    let a = passes (ltb (length bytes) 4) _ _ f e in
    let b = passes (ltb n 5 || ltb (length bytes) n) _ _ f a.1 in
    absurd (cc (b.1))

-- the scope of a code
pub record TookScope (bytes code after : List ℕ) (s : Scoped) : Type 0 where
  pub frame : IsFrame bytes s.scope.body
  pub utf8 : is_utf8 code ≡ true
  pub code_is : s.code ≡ code
  pub after_is : s.scope.after ≡ after

scope_found : (levels at stop : ℕ) (after code bytes : List ℕ) (s : Scoped) → scope_at levels at stop after code bytes ≡ Ok s → s.scope.last ≡ 0 → TookScope bytes code after s
unfolding scope_at
scope_found levels at stop after code bytes s e =
    let n = length bytes in
    let a = passes (ltb n 5) _ _ s e in
    let b = holds (eqb (number bytes) n) _ _ s a.1 in
    let c = passes (eqb levels 0) _ _ s b.1 in
    let d = holds (is_utf8 code) _ _ s c.1 in
    let is : number bytes ≡ n = eqb-true _ _ b.0 in
    let low : 5 ≤ n = ltb-false _ _ a.0 in
    let made : Scoped = record { code = code; scope = record { body = take (n - 5) (drop 4 bytes); stop = stop; last = slice_index bytes (n - 1); after = after } } in
    subst (λ (g : Scoped). g.scope.last ≡ 0 → TookScope bytes code after g) (ok_is made s d.1)
    (λ z.
    let f = frame_of bytes (omega (arith, is, low)) (omega (arith, is)) (ap (λ (m : ℕ). slice_index bytes (m - 1)) is ∙ z) in
    let body : take (number bytes - 5) (drop 4 bytes) ≡ take (n - 5) (drop 4 bytes) = ap (λ (m : ℕ). take (m - 5) (drop 4 bytes)) is in
    let rest : drop (number bytes) bytes ≡ [] = ap (λ (m : ℕ). drop m bytes) is ∙ drop-length bytes in
    let all : f.0 ≡ bytes = sym (append-nil f.0) ∙ ap (λ (r : List ℕ). f.0 ++ r) (sym rest) ∙ sym f.2 in
    record {
      frame = subst (λ (x : List ℕ). IsFrame bytes x) body (subst (λ (x : List ℕ). IsFrame x (take (number bytes - 5) (drop 4 bytes))) all f.1);
      utf8 = d.0;
      code_is = refl;
      after_is = refl;
    })

-- a code with its scope
pub record TookScoped (bytes : List ℕ) (s : Scoped) : Type 0 where
  pub spelling : List ℕ
  pub total : List ℕ
  pub string : List ℕ
  pub scope : List ℕ
  pub is_total : IsCount total (length spelling)
  pub is_string : IsString string s.code
  pub is_scope : IsFrame scope s.scope.body
  pub spelling_is : spelling ≡ total ++ (string ++ scope)
  pub parts : bytes ≡ spelling ++ s.scope.after

total_found : (levels end : ℕ) (bytes : List ℕ) (s : Scoped) → total_at levels end bytes ≡ Ok s → s.scope.last ≡ 0 → TookScoped bytes s
unfolding total_at
total_found levels end bytes s e z =
    let n = number bytes in
    let at = place end bytes in
    let a = passes (ltb (length bytes) 4) _ _ s e in
    let b = passes (ltb n 14 || ltb (length bytes) n) _ _ s a.1 in
    let t = neither (ltb n 14) (ltb (length bytes) n) b.0 in
    let low : 14 ≤ n = ltb-false _ _ t.0 in
    let high : n ≤ length bytes = ltb-false _ _ t.1 in
    let inner = take (n - 4) (drop 4 bytes) in
    let c = bind_ok (raw_at at inner) _ s b.1 in
    let code = c.0 in
    let r = raw_found at inner code c.1 in
    let string = r.count ++ code.0 ++ 0 ∷ [] in
    let w = scope_found levels at (at + (n - 1)) (drop n bytes) code.0 code.1 s c.2 z in
    let count = take 4 bytes in
    let b = count ++ (string ++ code.1) in
    let i : 4 + (n - 4) ≡ n = omega (arith, low) in
    let behind : drop (n - 4) (drop 4 bytes) ≡ drop n bytes = drop-drop (n - 4) 4 bytes ∙ ap (λ (m : ℕ). drop m bytes) i in
    let last : drop 4 bytes ≡ inner ++ drop n bytes = sym (take-append-drop (n - 4) (drop 4 bytes)) ∙ ap (λ (x : List ℕ). inner ++ x) behind in
    let whole : bytes ≡ b ++ drop n bytes =
    sym (take-append-drop 4 bytes) ∙ ap (λ (x : List ℕ). count ++ x) last ∙ sym (append_assoc count inner (drop n bytes)) ∙ ap (λ (x : List ℕ). (count ++ x) ++ drop n bytes) r.parts in
    let len : n ≡ length b = omega (arith, length-append count (string ++ code.1), ap length r.parts, length-take 4 bytes, length-take (n - 4) (drop 4 bytes), length-drop 4 bytes, low, high) in
    record {
      spelling = b;
      total = count;
      string = string;
      scope = code.1;
      is_total = subst (λ (m : ℕ). IsCount count m) len (count_found bytes (omega (arith, low, high)));
      is_string = subst (λ (t : List ℕ). IsString string t) (sym w.code_is) (r.count, r.is_count, w.utf8, refl);
      is_scope = w.frame;
      spelling_is = refl;
      parts = whole ∙ ap (λ (x : List ℕ). b ++ x) (sym w.after_is);
    }

no_scope : (at stop : ℕ) (after code bytes : List ℕ) (s : Scoped) → scope_at 0 at stop after code bytes ≡ Ok s → ⊥
unfolding scope_at
no_scope at stop after code bytes s e =
    let a = passes (ltb (length bytes) 5) _ _ s e in
    let b = holds (eqb (number bytes) (length bytes)) _ _ s a.1 in
    absurd (cc (b.1))

no_total : (end : ℕ) (bytes : List ℕ) (s : Scoped) → total_at 0 end bytes ≡ Ok s → ⊥
unfolding total_at
no_total end bytes s e =
    let n = number bytes in
    let a = passes (ltb (length bytes) 4) _ _ s e in
    let b = passes (ltb n 14 || ltb (length bytes) n) _ _ s a.1 in
    let c = bind_ok (raw_at (place end bytes) (take (n - 4) (drop 4 bytes))) _ s b.1 in
    no_scope (place end bytes) (place end bytes + (n - 1)) (drop n bytes) c.0.0 c.0.1 s c.2

-- ---- elements

pub record TookName (name known : List ℕ) (done : List (List ℕ × Value)) : Type 0 where
  pub same : known ≡ name
  pub utf8 : is_utf8 name ≡ true
  pub fresh : IsAbsent name (names_of done)

fresh_name : (at : ℕ) (name known : List ℕ) (done : List (List ℕ × Value)) (o : Option ℕ) → o ≡ place_of name done → unless_there at name o ≡ Ok known → (known ≡ name) × IsAbsent name (names_of done)
fresh_name at name known done None is e = (sym (ok_is name known e), none_is_absent name done None is)
fresh_name at name known done (Some i) is e = absurd cc

named_found : (at : ℕ) (done : List (List ℕ × Value)) (name known : List ℕ) → named at done name ≡ Ok known → TookName name known done
unfolding named
named_found at done name known e =
    let a = holds (is_utf8 name) _ _ known e in
    let b = fresh_name at name known done (place_of name done) refl a.1 in
    record { same = b.0; utf8 = a.0; fresh = b.1 }

-- a value of this type, and the bytes of it
pub record TookValue (V : List ℕ → Value → Type 0) (tag : ℕ) (bytes : List ℕ) (v : Value) (rest : List ℕ) : Type 0 where
  pub spelling : List ℕ
  pub spells : V spelling v
  pub kind : tag ≡ type_byte (out-Value v)
  pub parts : bytes ≡ spelling ++ rest

pub record TookField (V : List ℕ → Value → Type 0) (tag : ℕ) (bytes : List ℕ) (done : List (List ℕ × Value)) (f : List ℕ × Value) (rest : List ℕ) : Type 0 where
  pub spelling : List ℕ
  pub name : IsName f.0
  pub fresh : IsAbsent f.0 (names_of done)
  pub spells : V spelling f.1
  pub kind : tag ≡ type_byte (out-Value f.1)
  pub parts : bytes ≡ (f.0 ++ 0 ∷ []) ++ (spelling ++ rest)

pub record TookItem (V : List ℕ → Value → Type 0) (tag : ℕ) (bytes : List ℕ) (v : Value) (rest : List ℕ) : Type 0 where
  pub name : List ℕ
  pub no_zero : Contains name 0 → ⊥
  pub spelling : List ℕ
  pub spells : V spelling v
  pub kind : tag ≡ type_byte (out-Value v)
  pub parts : bytes ≡ (name ++ 0 ∷ []) ++ (spelling ++ rest)

module _ (V : List ℕ → Value → Type 0) (read : Reader) (finds : (tag end : ℕ) (bytes : List ℕ) (x : Value × List ℕ) → read tag end bytes ≡ Ok x → TookValue V tag bytes x.0 x.1) where
  field_found : (end : ℕ) (done : List (List ℕ × Value)) (tag : ℕ) (bytes : List ℕ) (x : (List ℕ × Value) × List ℕ) → field_at read end done tag bytes ≡ Ok x → TookField V tag bytes done x.0 x.1
  unfolding field_at
  field_found end done tag bytes x e =
      let a = holds (is_type tag) _ _ x e in
      let b = bind_ok (name_at end bytes) _ x a.1 in
      let name = b.0 in
      let c = bind_ok (named (place end bytes) done name.0) _ x b.2 in
      let d = bind_ok (read tag end name.1) _ x c.2 in
      let n = name_found end bytes name b.1 in
      let k = named_found (place end bytes) done name.0 c.0 c.1 in
      let v = finds tag end name.1 d.0 d.1 in
      let whole : bytes ≡ (name.0 ++ 0 ∷ []) ++ (v.spelling ++ d.0.1) = n.parts ∙ ap (λ (r : List ℕ). (name.0 ++ 0 ∷ []) ++ r) v.parts in
      let with_name : TookField V tag bytes done (name.0, d.0.0) d.0.1 = record { spelling = v.spelling; name = record { utf8 = k.utf8; no_zero = n.no_zero }; fresh = k.fresh; spells = v.spells; kind = v.kind; parts = whole } in
      let with_known : TookField V tag bytes done (c.0, d.0.0) d.0.1 = subst (λ (m : List ℕ). TookField V tag bytes done (m, d.0.0) d.0.1) (sym k.same) with_name in
      subst (λ (y : (List ℕ × Value) × List ℕ). TookField V tag bytes done y.0 y.1) (ok_is ((c.0, d.0.0), d.0.1) x d.2) with_known

  item_found : (end tag : ℕ) (bytes : List ℕ) (x : Value × List ℕ) → item_at read end tag bytes ≡ Ok x → TookItem V tag bytes x.0 x.1
  unfolding item_at
  item_found end tag bytes x e =
      let a = holds (is_type tag) _ _ x e in
      let b = bind_ok (name_at end bytes) _ x a.1 in
      let name = b.0 in
      let n = name_found end bytes name b.1 in
      let v = finds tag end name.1 x b.2 in
      record { name = name.0; no_zero = n.no_zero; spelling = v.spelling; spells = v.spells; kind = v.kind; parts = n.parts ∙ ap (λ (r : List ℕ). (name.0 ++ 0 ∷ []) ++ r) v.parts }

  fields_found : (turns end : ℕ) (done : List (List ℕ × Value)) (body : List ℕ) (out : List (List ℕ × Value)) → length body ≤ turns → AreDistinct (names_of done) → fields_at read turns end done body ≡ Ok out
      → (fs : List (List ℕ × Value)) × (done ++ fs ≡ out) × AreDistinct (names_of out) × AreFields V body fs
  unfolding fields_at
  fields_found turns end done [] out le d e =
      let is = ok_is done out e in
      ([], append-nil done ∙ is, subst (λ (es : List (List ℕ × Value)). AreDistinct (names_of es)) is d, refl)
  fields_found zero end done (tag ∷ bytes) out le d e = absurd (omega (arith, le))
  fields_found (suc turns) end done (tag ∷ bytes) out le d e =
      let a = bind_ok (field_at read end done tag bytes) _ out e in
      let x = a.0 in
      let f = field_found end done tag bytes x a.1 in
      let less : length x.1 ≤ turns = omega (arith, le, ap length f.parts, length-append (x.0.0 ++ 0 ∷ []) (f.spelling ++ x.1), length-append f.spelling x.1) in
      let more = fields_found turns end (done ++ x.0 ∷ []) x.1 out less (distinct_push done x.0.0 x.0.1 f.fresh d) a.2 in (
        x.0 ∷ more.0,
        sym (append_assoc done (x.0 ∷ []) more.0) ∙ more.1,
        more.2,
        (f.spelling, x.1, f.name, f.spells, more.3, ap (λ (t : ℕ). t ∷ bytes) f.kind ∙ ap (λ (r : List ℕ). type_byte (out-Value x.0.1) ∷ r) f.parts),
      )

  items_found : (turns end : ℕ) (done : List Value) (body : List ℕ) (out : List Value) → length body ≤ turns → items_at read turns end done body ≡ Ok out
      → (vs : List Value) × (done ++ vs ≡ out) × AreItems V body vs
  unfolding items_at
  items_found turns end done [] out le e = ([], append-nil done ∙ ok_is done out e, refl)
  items_found zero end done (tag ∷ bytes) out le e = absurd (omega (arith, le))
  items_found (suc turns) end done (tag ∷ bytes) out le e =
      let a = bind_ok (item_at read end tag bytes) _ out e in
      let x = a.0 in
      let f = item_found end tag bytes x a.1 in
      let less : length x.1 ≤ turns = omega (arith, le, ap length f.parts, length-append (f.name ++ 0 ∷ []) (f.spelling ++ x.1), length-append f.spelling x.1) in
      let more = items_found turns end (done ++ x.0 ∷ []) x.1 out less a.2 in (
        x.0 ∷ more.0,
        sym (append_assoc done (x.0 ∷ []) more.0) ∙ more.1,
        (f.name, f.spelling, x.1, f.no_zero, f.spells, more.2, ap (λ (t : ℕ). t ∷ bytes) f.kind ∙ ap (λ (r : List ℕ). type_byte (out-Value x.0) ∷ r) f.parts),
      )

-- ---- values

bool_found : (end : ℕ) (bytes : List ℕ) (x : Value × List ℕ) → bool_at end bytes ≡ Ok x → (t : Bool) × (x.0 ≡ values.Bool t) × (bytes ≡ (if t then 1 else 0) ∷ x.1)
unfolding bool_at
bool_found end [] x e = absurd cc
bool_found end (zero ∷ bytes) x e = let is = ok_is (values.Bool false, bytes) x e in (false, sym (ap (λ (y : Value × List ℕ). y.0) is), ap (λ (y : Value × List ℕ). 0 ∷ y.1) is)
bool_found end (suc zero ∷ bytes) x e = let is = ok_is (values.Bool true, bytes) x e in (true, sym (ap (λ (y : Value × List ℕ). y.0) is), ap (λ (y : Value × List ℕ). 1 ∷ y.1) is)
bool_found end (suc (suc b) ∷ bytes) x e = absurd cc

int_found : (end : ℕ) (bytes : List ℕ) (x : Value × List ℕ) → int_at end bytes ≡ Ok x → (b : List ℕ) × (z : ℤ) × IsSigned w32 b z × (x.0 ≡ values.Int z) × (bytes ≡ b ++ x.1)
unfolding int_at
int_found end bytes x e =
    let a = passes (ltb (length bytes) 4) _ _ x e in
    let c = count_found bytes (ltb-false _ _ a.0) in
    let z = cast_signed w32 (number bytes) in
    subst (λ (y : Value × List ℕ). (b : List ℕ) × (z : ℤ) × IsSigned w32 b z × (y.0 ≡ values.Int z) × (bytes ≡ b ++ y.1)) (ok_is (values.Int z, drop 4 bytes) x a.1)
    (take 4 bytes, z, record { count = c.four; value = ap (λ (n : ℕ). cast_signed w32 n) c.value }, refl, sym (take-append-drop 4 bytes))

stamp_found : (run : List ℕ) → length run ≡ 8 → (low high : List ℕ) × IsCount low (stamp_of run).inc × IsCount high (stamp_of run).secs × (run ≡ low ++ high)
stamp_found run eight =
    let high = drop 4 run in
    let four : length high ≡ 4 = omega (arith, length-drop 4 run, eight) in
    let all : take 4 high ≡ high = ap (λ (x : List ℕ). take 4 x) (sym (append-nil high)) ∙ take_at high [] 4 four in
    (take 4 run, high, count_found run (omega (arith, eight)), subst (λ (x : List ℕ). IsCount x (number high)) all (count_found high (omega (arith, four))), sym (take-append-drop 4 run))

module _ (D : List ℕ → List (List ℕ × Value) → Type 0) (A : List ℕ → List Value → Type 0)
    (document : ℕ → List ℕ → Taken (List (List ℕ × Value))) (array : ℕ → List ℕ → Taken (List Value)) (scoped : ℕ → List ℕ → Taken (List ℕ × List (List ℕ × Value)))
    (documents : (end : ℕ) (bytes : List ℕ) (x : List (List ℕ × Value) × List ℕ) → document end bytes ≡ Ok x → (b : List ℕ) × D b x.0 × (bytes ≡ b ++ x.1))
    (arrays : (end : ℕ) (bytes : List ℕ) (x : List Value × List ℕ) → array end bytes ≡ Ok x → (b : List ℕ) × A b x.0 × (bytes ≡ b ++ x.1))
    (codes : (end : ℕ) (bytes : List ℕ) (x : (List ℕ × List (List ℕ × Value)) × List ℕ) → scoped end bytes ≡ Ok x → (b : List ℕ) × AreBytesOf D A b (Value-F.ScopedCode x.0.0 x.0.1) × (bytes ≡ b ++ x.1)) where
  abbrev Took : ℕ → List ℕ → Value × List ℕ → Type 0
  Took tag bytes x = TookValue (λ c v. AreBytesOf D A c (out-Value v)) tag bytes x.0 x.1

  -- a value by its one level
  rolled : (tag : ℕ) (bytes : List ℕ) (one : Value-F Value) (w : Value) (rest b : List ℕ) → w ≡ roll-Value one → tag ≡ type_byte one → AreBytesOf D A b one → bytes ≡ b ++ rest → Took tag bytes (w, rest)
  rolled tag bytes one w rest b is kind spells parts =
      let out : one ≡ out-Value w = sym (out-roll-Value one) ∙ ap out-Value (sym is) in
      record { spelling = b; spells = subst (λ (f : Value-F Value). AreBytesOf D A b f) out spells; kind = kind ∙ ap type_byte out; parts = parts }

  -- the same where it was read
  read_so : (tag : ℕ) (bytes : List ℕ) (one : Value-F Value) (w : Value) (rest b : List ℕ) (x : Value × List ℕ) → done (w, rest) ≡ done x → w ≡ roll-Value one → tag ≡ type_byte one → AreBytesOf D A b one → bytes ≡ b ++ rest → Took tag bytes x
  read_so tag bytes one w rest b x e is kind spells parts = subst (λ (y : Value × List ℕ). Took tag bytes y) (ok_is (w, rest) x e) (rolled tag bytes one w rest b is kind spells parts)

  of_run : (n tag end : ℕ) (bytes : List ℕ) (one : List ℕ → Value-F Value) (w : List ℕ → Value) (x : Value × List ℕ) → (run_at n end bytes >>= λ y. Ok (w y.0, y.1)) ≡ Ok x
      → ((d : List ℕ) → length d ≡ n → (w d ≡ roll-Value (one d)) × (tag ≡ type_byte (one d)) × AreBytesOf D A d (one d)) → Took tag bytes x
  of_run n tag end bytes one w x e h =
      let a = bind_ok (run_at n end bytes) _ x e in
      let r = run_found n end bytes a.0 a.1 in
      let k = h a.0.0 r.count in
      read_so tag bytes (one a.0.0) (w a.0.0) a.0.1 a.0.0 x a.2 k.0 k.1 k.2 r.parts

  of_text : (tag end : ℕ) (bytes : List ℕ) (one : List ℕ → Value-F Value) (w : List ℕ → Value) (x : Value × List ℕ) → (text_at end bytes >>= λ y. Ok (w y.0, y.1)) ≡ Ok x
      → ((b t : List ℕ) → IsString b t → (w t ≡ roll-Value (one t)) × (tag ≡ type_byte (one t)) × AreBytesOf D A b (one t)) → Took tag bytes x
  of_text tag end bytes one w x e h =
      let a = bind_ok (text_at end bytes) _ x e in
      let r = text_found end bytes a.0 a.1 in
      let k = h r.0 a.0.0 r.1 in
      read_so tag bytes (one a.0.0) (w a.0.0) a.0.1 r.0 x a.2 k.0 k.1 k.2 r.2

  of_nothing : (tag : ℕ) (bytes : List ℕ) (one : Value-F Value) (w : Value) (x : Value × List ℕ) → done (w, bytes) ≡ done x → w ≡ roll-Value one → tag ≡ type_byte one → AreBytesOf D A [] one → Took tag bytes x
  of_nothing tag bytes one w x e is kind spells = read_so tag bytes one w bytes [] x e is kind spells refl

  pub value_found : (tag end : ℕ) (bytes : List ℕ) (x : Value × List ℕ) → value_with document array scoped tag end bytes ≡ Ok x → Took tag bytes x
  unfolding value_with
  value_found tag end bytes x e0 =
      elim (chosen (eqb tag 1) _ _ _ (e0)) [
        | inl h ↦ of_run 8 tag end bytes (λ d. Value-F.Double d) (λ d. values.Double d) x h.1 (λ d l. (sym (rolls-Double d), eqb-true tag 1 h.0, (l, refl)))
        | inr n1 ↦
            elim (chosen (eqb tag 2) _ _ _ (n1.1)) [
              | inl h ↦ of_text tag end bytes (λ t. Value-F.Str t) (λ t. values.Str t) x h.1 (λ b t s. (sym (rolls-Str t), eqb-true tag 2 h.0, s))
              | inr n2 ↦
                  elim (chosen (eqb tag 3) _ _ _ (n2.1)) [
                    | inl h ↦ let a = bind_ok (document end bytes) _ x h.1 in let r = documents end bytes a.0 a.1 in read_so tag bytes (Value-F.Object a.0.0) (values.Object a.0.0) a.0.1 r.0 x a.2 (sym (rolls-Object a.0.0)) (eqb-true tag 3 h.0) r.1 r.2
                    | inr n3 ↦
                        elim (chosen (eqb tag 4) _ _ _ (n3.1)) [
                          | inl h ↦ let a = bind_ok (array end bytes) _ x h.1 in let r = arrays end bytes a.0 a.1 in read_so tag bytes (Value-F.Array a.0.0) (values.Array a.0.0) a.0.1 r.0 x a.2 (sym (rolls-Array a.0.0)) (eqb-true tag 4 h.0) r.1 r.2
                          | inr n4 ↦
                              elim (chosen (eqb tag 5) _ _ _ (n4.1)) [
                                | inl h ↦ let a = bind_ok (binary_at end bytes) _ x h.1 in let r = binary_found end bytes a.0 a.1 in read_so tag bytes (Value-F.Binary a.0.0.0 a.0.0.1) (values.Binary a.0.0.0 a.0.0.1) a.0.1 (r.0 ++ a.0.0.0 ∷ a.0.0.1) x a.2 (sym (rolls-Binary a.0.0.0 a.0.0.1)) (eqb-true tag 5 h.0) (r.0, r.1, refl) r.2
                                | inr n5 ↦
                                    elim (chosen (eqb tag 6) _ _ _ (n5.1)) [
                                      | inl h ↦ of_nothing tag bytes Value-F.Undefined values.Undefined x h.1 (sym rolls-Undefined) (eqb-true tag 6 h.0) refl
                                      | inr n6 ↦
                                          elim (chosen (eqb tag 7) _ _ _ (n6.1)) [
                                            | inl h ↦ of_run 12 tag end bytes (λ d. Value-F.Oid d) (λ d. values.Oid d) x h.1 (λ d l. (sym (rolls-Oid d), eqb-true tag 7 h.0, (l, refl)))
                                            | inr n7 ↦
                                                elim (chosen (eqb tag 8) _ _ _ (n7.1)) [
                                                  | inl h ↦ let r = bool_found end bytes x h.1 in rolled tag bytes (Value-F.Bool r.0) x.0 x.1 ((if r.0 then 1 else 0) ∷ []) (r.1 ∙ sym (rolls-Bool r.0)) (eqb-true tag 8 h.0) refl r.2
                                                  | inr n8 ↦
                                                      elim (chosen (eqb tag 9) _ _ _ (n8.1)) [
                                                        | inl h ↦ of_run 8 tag end bytes (λ d. Value-F.Date (long_of d)) (λ d. values.Date (long_of d)) x h.1 (λ d l. (sym (rolls-Date (long_of d)), eqb-true tag 9 h.0, record { count = l; value = refl }))
                                                        | inr n9 ↦
                                                            elim (chosen (eqb tag 10) _ _ _ (n9.1)) [
                                                              | inl h ↦ of_nothing tag bytes Value-F.Null values.Null x h.1 (sym rolls-Null) (eqb-true tag 10 h.0) refl
                                                              | inr n10 ↦
                                                                  elim (chosen (eqb tag 11) _ _ _ (n10.1)) [
                                                                    | inl h ↦ let a = bind_ok (regex_at end bytes) _ x h.1 in let r = regex_found end bytes a.0 a.1 in read_so tag bytes (Value-F.Regex a.0.0.0 a.0.0.1) (values.Regex a.0.0.0 a.0.0.1) a.0.1 ((a.0.0.0 ++ 0 ∷ []) ++ (a.0.0.1 ++ 0 ∷ [])) x a.2 (sym (rolls-Regex a.0.0.0 a.0.0.1)) (eqb-true tag 11 h.0) (r.0, r.1, refl) r.2
                                                                    | inr n11 ↦
                                                                        elim (chosen (eqb tag 12) _ _ _ (n11.1)) [
                                                                          | inl h ↦ let a = bind_ok (pointer_at end bytes) _ x h.1 in let r = pointer_found end bytes a.0 a.1 in read_so tag bytes (Value-F.DbPointer a.0.0.0 a.0.0.1) (values.DbPointer a.0.0.0 a.0.0.1) a.0.1 (r.0 ++ a.0.0.1) x a.2 (sym (rolls-DbPointer a.0.0.0 a.0.0.1)) (eqb-true tag 12 h.0) (r.0, r.1, r.2, refl) r.3
                                                                          | inr n12 ↦
                                                                              elim (chosen (eqb tag 13) _ _ _ (n12.1)) [
                                                                                | inl h ↦ of_text tag end bytes (λ t. Value-F.Code t) (λ t. values.Code t) x h.1 (λ b t s. (sym (rolls-Code t), eqb-true tag 13 h.0, s))
                                                                                | inr n13 ↦
                                                                                    elim (chosen (eqb tag 14) _ _ _ (n13.1)) [
                                                                                      | inl h ↦ of_text tag end bytes (λ t. Value-F.Symbol t) (λ t. values.Symbol t) x h.1 (λ b t s. (sym (rolls-Symbol t), eqb-true tag 14 h.0, s))
                                                                                      | inr n14 ↦
                                                                                          elim (chosen (eqb tag 15) _ _ _ (n14.1)) [
                                                                                            | inl h ↦ let a = bind_ok (scoped end bytes) _ x h.1 in let r = codes end bytes a.0 a.1 in read_so tag bytes (Value-F.ScopedCode a.0.0.0 a.0.0.1) (values.ScopedCode a.0.0.0 a.0.0.1) a.0.1 r.0 x a.2 (sym (rolls-ScopedCode a.0.0.0 a.0.0.1)) (eqb-true tag 15 h.0) r.1 r.2
                                                                                            | inr n15 ↦
                                                                                                elim (chosen (eqb tag 16) _ _ _ (n15.1)) [
                                                                                                  | inl h ↦ let r = int_found end bytes x h.1 in rolled tag bytes (Value-F.Int r.1) x.0 x.1 r.0 (r.3 ∙ sym (rolls-Int r.1)) (eqb-true tag 16 h.0) r.2 r.4
                                                                                                  | inr n16 ↦
                                                                                                      elim (chosen (eqb tag 17) _ _ _ (n16.1)) [
                                                                                                        | inl h ↦ of_run 8 tag end bytes (λ d. Value-F.Stamp (stamp_of d)) (λ d. values.Stamp (stamp_of d)) x h.1 (λ d l. (sym (rolls-Stamp (stamp_of d)), eqb-true tag 17 h.0, stamp_found d l))
                                                                                                        | inr n17 ↦
                                                                                                            elim (chosen (eqb tag 18) _ _ _ (n17.1)) [
                                                                                                              | inl h ↦ of_run 8 tag end bytes (λ d. Value-F.Long (long_of d)) (λ d. values.Long (long_of d)) x h.1 (λ d l. (sym (rolls-Long (long_of d)), eqb-true tag 18 h.0, record { count = l; value = refl }))
                                                                                                              | inr n18 ↦
                                                                                                                  elim (chosen (eqb tag 19) _ _ _ (n18.1)) [
                                                                                                                    | inl h ↦ of_run 16 tag end bytes (λ d. Value-F.Decimal d) (λ d. values.Decimal d) x h.1 (λ d l. (sym (rolls-Decimal d), eqb-true tag 19 h.0, (l, refl)))
                                                                                                                    | inr n19 ↦
                                                                                                                        elim (chosen (eqb tag 255) _ _ _ (n19.1)) [
                                                                                                                          | inl h ↦ of_nothing tag bytes Value-F.MinKey values.MinKey x h.1 (sym rolls-MinKey) (eqb-true tag 255 h.0) refl
                                                                                                                          | inr n20 ↦
                                                                                                                              elim (chosen (eqb tag 127) _ _ _ (n20.1)) [
                                                                                                                                | inl h ↦ of_nothing tag bytes Value-F.MaxKey values.MaxKey x h.1 (sym rolls-MaxKey) (eqb-true tag 127 h.0) refl
                                                                                                                                | inr n21 ↦
                                                                                                                                    absurd (cc (n21.1))
                                                                                                                              ]
                                                                                                                        ]
                                                                                                                  ]
                                                                                                            ]
                                                                                                      ]
                                                                                                ]
                                                                                          ]
                                                                                    ]
                                                                              ]
                                                                        ]
                                                                  ]
                                                            ]
                                                      ]
                                                ]
                                          ]
                                    ]
                              ]
                        ]
                  ]
            ]
      ]

-- ---- documents and arrays

abbrev pub FoundDocument : ℕ → List ℕ → List (List ℕ × Value) × List ℕ → Type 0
FoundDocument levels bytes x = (b : List ℕ) × IsDocument levels b x.0 × (bytes ≡ b ++ x.1)

abbrev pub FoundArray : ℕ → List ℕ → List Value × List ℕ → Type 0
FoundArray levels bytes x = (b : List ℕ) × IsArray levels b x.0 × (bytes ≡ b ++ x.1)

abbrev pub FoundCode : ℕ → List ℕ → (List ℕ × List (List ℕ × Value)) × List ℕ → Type 0
FoundCode levels bytes x = (b : List ℕ) × AreBytesOf (IsDocument levels) (IsArray levels) b (Value-F.ScopedCode x.0.0 x.0.1) × (bytes ≡ b ++ x.1)

mutual
  unfolding document_at IsDocument

  pub document_found : (levels end : ℕ) (bytes : List ℕ) (x : List (List ℕ × Value) × List ℕ) → document_at levels end bytes ≡ Ok x → FoundDocument levels bytes x
  document_found zero end bytes x e =
      let a = bind_ok (frame_at 0 end bytes) _ x e in
      absurd (no_level end bytes a.0 a.1)
  document_found (suc levels) end bytes x e =
      let a = bind_ok (frame_at (suc levels) end bytes) _ x e in
      let f = a.0 in
      let b = bind_ok (fields_at (value_at levels) (length f.body) f.stop [] f.body) _ x a.2 in
      let c = holds (eqb f.last 0) _ _ x b.2 in
      let r = frame_found (suc levels) end bytes f a.1 (eqb-true _ _ c.0) in
      let fs = fields_found (λ c v. AreBytesOf (IsDocument levels) (IsArray levels) c (out-Value v)) (value_at levels)
      (value_found (IsDocument levels) (IsArray levels) (document_at levels) (array_at levels) (scoped_at levels) (document_found levels) (array_found levels) (scoped_found levels))
      (length f.body) f.stop [] f.body b.0 (omega arith) tt b.1 in
      let spelled : AreFields (λ c v. AreBytesOf (IsDocument levels) (IsArray levels) c (out-Value v)) f.body b.0 = subst (λ (es : List (List ℕ × Value)). AreFields (λ c v. AreBytesOf (IsDocument levels) (IsArray levels) c (out-Value v)) f.body es) fs.1 fs.3 in
      subst (λ (y : List (List ℕ × Value) × List ℕ). FoundDocument (suc levels) bytes y) (ok_is (b.0, f.after) x c.1) (r.0, (f.body, r.1, fs.2, spelled), r.2)

  pub array_found : (levels end : ℕ) (bytes : List ℕ) (x : List Value × List ℕ) → array_at levels end bytes ≡ Ok x → FoundArray levels bytes x
  array_found zero end bytes x e =
      let a = bind_ok (frame_at 0 end bytes) _ x e in
      absurd (no_level end bytes a.0 a.1)
  array_found (suc levels) end bytes x e =
      let a = bind_ok (frame_at (suc levels) end bytes) _ x e in
      let f = a.0 in
      let b = bind_ok (items_at (value_at levels) (length f.body) f.stop [] f.body) _ x a.2 in
      let c = holds (eqb f.last 0) _ _ x b.2 in
      let r = frame_found (suc levels) end bytes f a.1 (eqb-true _ _ c.0) in
      let vs = items_found (λ c v. AreBytesOf (IsDocument levels) (IsArray levels) c (out-Value v)) (value_at levels)
      (value_found (IsDocument levels) (IsArray levels) (document_at levels) (array_at levels) (scoped_at levels) (document_found levels) (array_found levels) (scoped_found levels))
      (length f.body) f.stop [] f.body b.0 (omega arith) b.1 in
      let spelled : AreItems (λ c v. AreBytesOf (IsDocument levels) (IsArray levels) c (out-Value v)) f.body b.0 = subst (λ (ws : List Value). AreItems (λ c v. AreBytesOf (IsDocument levels) (IsArray levels) c (out-Value v)) f.body ws) vs.1 vs.2 in
      subst (λ (y : List Value × List ℕ). FoundArray (suc levels) bytes y) (ok_is (b.0, f.after) x c.1) (r.0, (f.body, r.1, spelled), r.2)

  pub scoped_found : (levels end : ℕ) (bytes : List ℕ) (x : (List ℕ × List (List ℕ × Value)) × List ℕ) → scoped_at levels end bytes ≡ Ok x → FoundCode levels bytes x
  scoped_found zero end bytes x e =
      let a = bind_ok (total_at 0 end bytes) _ x e in
      absurd (no_total end bytes a.0 a.1)
  scoped_found (suc levels) end bytes x e =
      let a = bind_ok (total_at (suc levels) end bytes) _ x e in
      let s = a.0 in
      let f = s.scope in
      let o = bind_ok (fields_at (value_at levels) (length f.body) f.stop [] f.body >>= closed f) _ x a.2 in
      let b = bind_ok (fields_at (value_at levels) (length f.body) f.stop [] f.body) _ o.0 o.1 in
      let c = holds (eqb f.last 0) _ _ o.0 b.2 in
      let r = total_found (suc levels) end bytes s a.1 (eqb-true _ _ c.0) in
      let fs = fields_found (λ c v. AreBytesOf (IsDocument levels) (IsArray levels) c (out-Value v)) (value_at levels)
      (value_found (IsDocument levels) (IsArray levels) (document_at levels) (array_at levels) (scoped_at levels) (document_found levels) (array_found levels) (scoped_found levels))
      (length f.body) f.stop [] f.body b.0 (omega arith) tt b.1 in
      let spelled : AreFields (λ c v. AreBytesOf (IsDocument levels) (IsArray levels) c (out-Value v)) f.body b.0 = subst (λ (es : List (List ℕ × Value)). AreFields (λ c v. AreBytesOf (IsDocument levels) (IsArray levels) c (out-Value v)) f.body es) fs.1 fs.3 in
      let read : ((s.code, b.0), f.after) ≡ x = ap (λ (y : List (List ℕ × Value) × List ℕ). ((s.code, y.0), y.1)) (ok_is (b.0, f.after) o.0 c.1) ∙ ok_is ((s.code, o.0.0), o.0.1) x o.2 in
      subst (λ (y : (List ℕ × List (List ℕ × Value)) × List ℕ). FoundCode (suc levels) bytes y) read
      (r.spelling, (r.total, r.string, r.scope, r.is_total, r.is_string, (f.body, r.is_scope, fs.2, spelled), r.spelling_is), r.parts)

-- the whole input
pub record WholeFound (max depth : ℕ) (bytes : List ℕ) (fs : List (List ℕ × Value)) : Type 0 where
  pub document : IsDocument depth bytes fs
  pub small : length bytes < 2 ^ 31
  pub short : length bytes ≤ max

pub whole_found : (max depth : ℕ) (bytes : List ℕ) (fs : List (List ℕ × Value)) → document_of max depth bytes ≡ Ok fs → WholeFound max depth bytes fs
unfolding document_of
whole_found max depth bytes fs e =
    let n = number bytes in
    let a = passes (ltb (length bytes) 4) _ _ fs e in
    let b = passes (ltb n 5 || ltb 2147483647 n) _ _ fs a.1 in
    let c = passes (ltb max n) _ _ fs b.1 in
    let d = passes (ltb (length bytes) n) _ _ fs c.1 in
    let g = passes (ltb n (length bytes)) _ _ fs d.1 in
    let h = bind_ok (document_at depth (length bytes) bytes) _ fs g.1 in
    let r = document_found depth (length bytes) bytes h.0 h.1 in
    let t = neither (ltb n 5) (ltb 2147483647 n) b.0 in
    let high : n ≤ 2147483647 = ltb-false _ _ t.1 in
    let fits : n ≤ max = ltb-false _ _ c.0 in
    let same : n ≡ length bytes = (let p : n ≤ length bytes = ltb-false _ _ d.0 in let q : length bytes ≤ n = ltb-false _ _ g.0 in omega arith) in
    let k = document_number depth r.0 h.0.0 r.1 in
    let front : n ≡ number r.0 = ap number r.2 ∙ number_on r.0 h.0.1 (omega (arith, k.1)) in
    let all : length h.0.1 ≡ 0 = omega (arith, ap length r.2, length-append r.0 h.0.1, same, front, k.0) in
    let whole : r.0 ≡ bytes = sym (append-nil r.0) ∙ ap (λ (x : List ℕ). r.0 ++ x) (sym (nil_from_length h.0.1 all)) ∙ sym r.2 in
    let doc : IsDocument depth bytes fs = subst (λ (es : List (List ℕ × Value)). IsDocument depth bytes es) (ok_is h.0.0 fs h.2) (subst (λ (x : List ℕ). IsDocument depth x h.0.0) whole r.1) in
    record { document = doc; small = omega (arith, same, high); short = omega (arith, same, fits) }
