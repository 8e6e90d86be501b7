-- What is spelled is read.
use Rattle.std.proofs.Common.{◌≡◌, ℕ, zero, suc, ◌+◌, ◌-◌, ◌<◌, ◌≤◌, ◌^◌, Bool, true, false, ltb, eqb, List, [], ◌∷◌, ◌++◌, length, take, drop, slice_index, Ok, refl, sym, ap, subst, ◌∙◌, append_assoc, add-zero, zero-add, arith}
use Rattle.std.specs.Prelude.{◌==◌, None, Some, ℤ, Contains}
use Rattle.std.specs.Int.{w32, from_le_bytes}
use Rattle.std.specs.List.{position_from}
use Rattle.std.specs.Str.{is_utf8, bytes_eq}
use Rattle.std.proofs.lemmas.List.{take_at, drop_at, get_or_at, length-append, append-nil}
use Rattle.std.proofs.lemmas.Bool.{le-ltb, ne_eqb, eq-eqb}
use Rattle.std.proofs.Math.Dec.{eqb-suc-zero}
use Rattle.std.proofs.lemmas.Slice.Eq.{bytes_eq-Decides}
use Rattle.containers.specs.Entries.{AreDistinct, IsAbsent, names_of, place_of}
use Rattle.bson_value.specs.declared.value.Ts.{Ts}
use Rattle.bson_value.specs.declared.value.Value.{Value, out-Value, roll-Value, roll-out-Value}
use Rattle.bson_value.specs.declared.value.Value.TheOpen.{Value-F}
use Rattle.bson_value.specs.declared.value.Value.TheVariants as values
use Rattle.bson_value.specs.declared.value.Value.TheVariants.{rolls-Null, rolls-Int, rolls-Bool, rolls-Str, rolls-Object, rolls-Array, rolls-Undefined, rolls-Code, rolls-Symbol, rolls-MinKey, rolls-MaxKey, rolls-Double, rolls-Oid, rolls-Decimal, rolls-Date, rolls-Long, rolls-Binary, rolls-Regex, rolls-DbPointer, rolls-Stamp, rolls-ScopedCode}
use Rattle.bson_check.specs.Reading.{Taken, Reader, number, place, run_at, int_at, bool_at, text_at, raw_at, binary_at, cut_at, regex_at, pointer_at, frame_at, scope_at, total_at, name_at, named, is_type, field_at, item_at, fields_at, items_at, value_with, value_at, document_at, array_at, scoped_at, document_of, stamp_of}
use Rattle.bson_check.specs.Spells.{IsCount, IsSigned, IsName, IsString, IsFrame, type_byte, AreBytesOf, AreFields, AreItems, IsDocument, IsArray}
use Rattle.bson_check.proofs.Cutting.{Begins, begins}

-- ---- numbers and runs

pub number_front : (count rest : List ℕ) (n : ℕ) → IsCount count n → number (count ++ rest) ≡ n
unfolding number
number_front count rest n c = ap (λ (xs : List ℕ). from_le_bytes w32 xs) (take_at count rest 4 c.four) ∙ c.value

number_begins : (bytes count body rest : List ℕ) (n : ℕ) → Begins bytes count body rest → IsCount count n → number bytes ≡ n
unfolding number
number_begins bytes count body rest n w c = ap (λ (xs : List ℕ). from_le_bytes w32 xs) w.count_is ∙ c.value

run_again : (n end : ℕ) (d rest : List ℕ) → length d ≡ n → run_at n end (d ++ rest) ≡ Ok (d, rest)
unfolding run_at
run_again n end d rest e =
    let a : ltb (length (d ++ rest)) n ≡ false = le-ltb _ _ (omega (arith, length-append d rest, e)) in
    rw (a, take_at d rest n e, drop_at d rest n e) refl

int_again : (end : ℕ) (b rest : List ℕ) (z : ℤ) → IsSigned w32 b z → int_at end (b ++ rest) ≡ Ok (values.Int z, rest)
unfolding int_at
int_again end b rest z s =
    let a : ltb (length (b ++ rest)) 4 ≡ false = le-ltb _ _ (omega (arith, length-append b rest, s.count)) in
    let n : number (b ++ rest) ≡ from_le_bytes w32 b = number_front b rest (from_le_bytes w32 b) (record { four = s.count; value = refl }) in
    rw (a, n, s.value, drop_at b rest 4 s.count) refl

stamp_again : (low high : List ℕ) (t : Ts) → IsCount low t.inc → IsCount high t.secs → stamp_of (low ++ high) ≡ t
stamp_again low high t l h =
    let inc : number (low ++ high) ≡ t.inc = number_front low high t.inc l in
    let secs : number (drop 4 (low ++ high)) ≡ t.secs = ap number (drop_at low high 4 l.four ∙ sym (append-nil high)) ∙ number_front high [] t.secs h in
    rw (inc, secs) refl

-- ---- texts

text_begins : (end : ℕ) (bytes count t rest : List ℕ) → Begins bytes count t rest → number bytes ≡ length t + 1 → is_utf8 t ≡ true → text_at end bytes ≡ Ok (t, rest)
unfolding text_at
text_begins end bytes count t rest w is utf8 =
    let a : ltb (length bytes) 4 ≡ false = le-ltb _ _ (omega (arith, w.length_is)) in
    let b : eqb (number bytes) 0 ≡ false = ne_eqb (number bytes) 0 (λ e. omega (arith, is, e)) in
    let c : ltb (length bytes - 4) (number bytes) ≡ false = le-ltb _ _ (omega (arith, is, w.length_is)) in
    let i : number bytes + 3 ≡ length t + 4 = omega (arith, is) in
    let j : number bytes - 1 ≡ length t = omega (arith, is) in
    let k : number bytes + 4 ≡ length t + 5 = omega (arith, is) in
    let l : slice_index bytes (number bytes + 3) ≡ 0 = ap (λ (m : ℕ). slice_index bytes m) i ∙ w.zero_is in
    let f : take (number bytes - 1) (drop 4 bytes) ≡ t = ap (λ (m : ℕ). take m (drop 4 bytes)) j ∙ w.body_is in
    let d : drop (number bytes + 4) bytes ≡ rest = ap (λ (m : ℕ). drop m bytes) k ∙ w.rest_is in
    rw (a, b, c, l, f, utf8, d) refl

raw_begins : (at : ℕ) (bytes count t rest : List ℕ) → Begins bytes count t rest → number bytes ≡ length t + 1 → raw_at at bytes ≡ Ok (t, rest)
unfolding raw_at
raw_begins at bytes count t rest w is =
    let a : ltb (length bytes) 4 ≡ false = le-ltb _ _ (omega (arith, w.length_is)) in
    let b : eqb (number bytes) 0 ≡ false = ne_eqb (number bytes) 0 (λ e. omega (arith, is, e)) in
    let c : ltb (length bytes - 4) (number bytes) ≡ false = le-ltb _ _ (omega (arith, is, w.length_is)) in
    let i : number bytes + 3 ≡ length t + 4 = omega (arith, is) in
    let j : number bytes - 1 ≡ length t = omega (arith, is) in
    let k : number bytes + 4 ≡ length t + 5 = omega (arith, is) in
    let l : slice_index bytes (number bytes + 3) ≡ 0 = ap (λ (m : ℕ). slice_index bytes m) i ∙ w.zero_is in
    let f : take (number bytes - 1) (drop 4 bytes) ≡ t = ap (λ (m : ℕ). take m (drop 4 bytes)) j ∙ w.body_is in
    let d : drop (number bytes + 4) bytes ≡ rest = ap (λ (m : ℕ). drop m bytes) k ∙ w.rest_is in
    rw (a, b, c, l, f, d) refl

pub text_again : (end : ℕ) (b t rest : List ℕ) → IsString b t → text_at end (b ++ rest) ≡ Ok (t, rest)
text_again end b t rest s =
    let w = begins s.0 t rest s.1.four in
    subst (λ (x : List ℕ). text_at end (x ++ rest) ≡ Ok (t, rest)) (sym s.3)
    (text_begins end ((s.0 ++ t ++ 0 ∷ []) ++ rest) s.0 t rest w (number_begins ((s.0 ++ t ++ 0 ∷ []) ++ rest) s.0 t rest (length t + 1) w s.1) s.2)

raw_again : (at : ℕ) (b t rest : List ℕ) → IsString b t → raw_at at (b ++ rest) ≡ Ok (t, rest)
raw_again at b t rest s =
    let w = begins s.0 t rest s.1.four in
    subst (λ (x : List ℕ). raw_at at (x ++ rest) ≡ Ok (t, rest)) (sym s.3)
    (raw_begins at ((s.0 ++ t ++ 0 ∷ []) ++ rest) s.0 t rest w (number_begins ((s.0 ++ t ++ 0 ∷ []) ++ rest) s.0 t rest (length t + 1) w s.1))

pointer_again : (end : ℕ) (b t d rest : List ℕ) → IsString b t → length d ≡ 12 → pointer_at end ((b ++ d) ++ rest) ≡ Ok ((t, d), rest)
unfolding pointer_at
pointer_again end b t d rest s e =
    let whole : (b ++ d) ++ rest ≡ b ++ (d ++ rest) = append_assoc b d rest in
    let first : raw_at (place end ((b ++ d) ++ rest)) ((b ++ d) ++ rest) ≡ Ok (t, d ++ rest) = ap (λ (x : List ℕ). raw_at (place end ((b ++ d) ++ rest)) x) whole ∙ raw_again (place end ((b ++ d) ++ rest)) b t (d ++ rest) s in
    let a : ltb (length (d ++ rest)) 12 ≡ false = le-ltb _ _ (omega (arith, length-append d rest, e)) in
    rw (first, a, s.2, take_at d rest 12 e, drop_at d rest 12 e) refl

binary_begins : (end n s : ℕ) (bytes d rest : List ℕ) → number bytes ≡ n → n + 5 ≤ length bytes → slice_index bytes 4 ≡ s → take n (drop 5 bytes) ≡ d → drop (n + 5) bytes ≡ rest → binary_at end bytes ≡ Ok ((s, d), rest)
unfolding binary_at
binary_begins end n s bytes d rest is le sub front back =
    let a : ltb (length bytes) 5 ≡ false = le-ltb _ _ (omega arith) in
    let b : ltb (length bytes - 5) (number bytes) ≡ false = le-ltb _ _ (omega (arith, is)) in
    let f : take (number bytes) (drop 5 bytes) ≡ d = ap (λ (m : ℕ). take m (drop 5 bytes)) is ∙ front in
    let g : drop (number bytes + 5) bytes ≡ rest = ap (λ (m : ℕ). drop (m + 5) bytes) is ∙ back in
    rw (a, b, sub, f, g) refl

binary_again : (end s : ℕ) (count d rest : List ℕ) → IsCount count (length d) → binary_at end ((count ++ s ∷ d) ++ rest) ≡ Ok ((s, d), rest)
binary_again end s count d rest c =
    let bytes = (count ++ s ∷ d) ++ rest in
    let whole : bytes ≡ count ++ (s ∷ (d ++ rest)) = append_assoc count (s ∷ d) rest in
    let ahead : bytes ≡ (count ++ s ∷ []) ++ (d ++ rest) = whole ∙ sym (append_assoc count (s ∷ []) (d ++ rest)) in
    let five : length (count ++ s ∷ []) ≡ 5 = omega (arith, length-append count (s ∷ []), c.four) in
    let all : length (count ++ s ∷ d) ≡ length d + 5 = omega (arith, length-append count (s ∷ d), c.four) in
    binary_begins end (length d) s bytes d rest (ap number whole ∙ number_front count (s ∷ (d ++ rest)) (length d) c) (omega (arith, length-append (count ++ s ∷ d) rest, all))
    (ap (λ (x : List ℕ). slice_index x 4) whole ∙ get_or_at count s (d ++ rest) 0 4 c.four)
    (ap (λ (x : List ℕ). take (length d) (drop 5 x)) ahead ∙ ap (λ (x : List ℕ). take (length d) x) (drop_at (count ++ s ∷ []) (d ++ rest) 5 five) ∙ take_at d rest (length d) refl)
    (drop_at (count ++ s ∷ d) rest (length d + 5) all)

-- ---- what a zero ends

pub first_no_zero : (b : ℕ) (n : List ℕ) → (Contains (b ∷ n) 0 → ⊥) → b ≡ 0 → ⊥
first_no_zero b n h e = h (0, omega arith, e)

pub others_no_zero : (b : ℕ) (n : List ℕ) → (Contains (b ∷ n) 0 → ⊥) → Contains n 0 → ⊥
others_no_zero b n h c = h (suc c.0, omega (arith, c.1), c.2)

pub zero_behind : (n rest : List ℕ) (k : ℕ) → (Contains n 0 → ⊥) → position_from (λ b. b == 0) k (n ++ (0 ∷ rest)) ≡ Some (k + length n)
zero_behind [] rest k h = rw add-zero refl
zero_behind (b ∷ n) rest k h =
    let other : eqb b 0 ≡ false = ne_eqb b 0 (first_no_zero b n h) in
    let i : (k + 1) + length n ≡ k + suc (length n) = omega arith in
    rw other (zero_behind n rest (k + 1) (others_no_zero b n h) ∙ ap Some i)

pub zero_at : (n rest : List ℕ) → (Contains n 0 → ⊥) → position_from (λ b. b == 0) 0 ((n ++ 0 ∷ []) ++ rest) ≡ Some (length n)
zero_at n rest h = ap (λ (x : List ℕ). position_from (λ b. b == 0) 0 x) (append_assoc n (0 ∷ []) rest) ∙ zero_behind n rest 0 h ∙ ap Some (zero-add (length n))

pub front_of : (n rest : List ℕ) → take (length n) ((n ++ 0 ∷ []) ++ rest) ≡ n
front_of n rest = ap (λ (x : List ℕ). take (length n) x) (append_assoc n (0 ∷ []) rest) ∙ take_at n (0 ∷ rest) (length n) refl

pub behind_of : (n rest : List ℕ) → drop (length n + 1) ((n ++ 0 ∷ []) ++ rest) ≡ rest
behind_of n rest = drop_at (n ++ 0 ∷ []) rest (length n + 1) (length-append n (0 ∷ []))

cut_again : (at : ℕ) (n rest : List ℕ) → (Contains n 0 → ⊥) → cut_at at ((n ++ 0 ∷ []) ++ rest) ≡ Ok (n, rest)
unfolding cut_at
cut_again at n rest h = rw (zero_at n rest h, front_of n rest, behind_of n rest) refl

name_again : (end : ℕ) (n rest : List ℕ) → (Contains n 0 → ⊥) → name_at end ((n ++ 0 ∷ []) ++ rest) ≡ Ok (n, rest)
unfolding name_at
name_again end n rest h = rw (zero_at n rest h, front_of n rest, behind_of n rest) refl

regex_again : (end : ℕ) (p o rest : List ℕ) → IsName p → IsName o → regex_at end (((p ++ 0 ∷ []) ++ (o ++ 0 ∷ [])) ++ rest) ≡ Ok ((p, o), rest)
unfolding regex_at
regex_again end p o rest a b =
    let bytes = ((p ++ 0 ∷ []) ++ (o ++ 0 ∷ [])) ++ rest in
    let whole : bytes ≡ (p ++ 0 ∷ []) ++ ((o ++ 0 ∷ []) ++ rest) = append_assoc (p ++ 0 ∷ []) (o ++ 0 ∷ []) rest in
    let first : cut_at (place end bytes) bytes ≡ Ok (p, (o ++ 0 ∷ []) ++ rest) = ap (λ (x : List ℕ). cut_at (place end bytes) x) whole ∙ cut_again (place end bytes) p ((o ++ 0 ∷ []) ++ rest) a.no_zero in
    rw (first, cut_again (place end bytes) o rest b.no_zero, a.utf8, b.utf8) refl

-- ---- frames

frame_begins : (levels end : ℕ) (bytes count body rest : List ℕ) → Begins bytes count body rest → number bytes ≡ length body + 5
    → frame_at (suc levels) end bytes ≡ Ok (record { body = body; stop = place end bytes + (number bytes - 1); last = 0; after = rest })
unfolding frame_at
frame_begins levels end bytes count body rest w is =
    let a : ltb (length bytes) 4 ≡ false = le-ltb _ _ (omega (arith, w.length_is)) in
    let b : ltb (number bytes) 5 ≡ false = le-ltb _ _ (omega (arith, is)) in
    let c : ltb (length bytes) (number bytes) ≡ false = le-ltb _ _ (omega (arith, is, w.length_is)) in
    let i : number bytes - 1 ≡ length body + 4 = omega (arith, is) in
    let j : number bytes - 5 ≡ length body = omega (arith, is) in
    let l : slice_index bytes (number bytes - 1) ≡ 0 = ap (λ (m : ℕ). slice_index bytes m) i ∙ w.zero_is in
    let f : take (number bytes - 5) (drop 4 bytes) ≡ body = ap (λ (m : ℕ). take m (drop 4 bytes)) j ∙ w.body_is in
    let d : drop (number bytes) bytes ≡ rest = ap (λ (m : ℕ). drop m bytes) is ∙ w.rest_is in
    rw (a, b, c, eqb-suc-zero levels, l, f, d) refl

frame_len : (count body : List ℕ) → length count ≡ 4 → length (count ++ body ++ 0 ∷ []) ≡ length body + 5
frame_len count body four = omega (arith, length-append (count ++ body) (0 ∷ []), length-append count body, four)

-- the frame of these bytes, wherever it stops
abbrev pub Framed : ℕ → ℕ → List ℕ → List ℕ → List ℕ → Type 0
Framed levels end b body rest = (stop : ℕ) × (frame_at levels end (b ++ rest) ≡ Ok (record { body = body; stop = stop; last = 0; after = rest }))

frame_again : (levels end : ℕ) (b body rest : List ℕ) → IsFrame b body → Framed (suc levels) end b body rest
frame_again levels end b body rest s =
    let w = begins s.0 body rest s.1.four in
    let bytes = (s.0 ++ body ++ 0 ∷ []) ++ rest in
    let len : length b ≡ length body + 5 = ap length s.2 ∙ frame_len s.0 body s.1.four in
    subst (λ (x : List ℕ). Framed (suc levels) end x body rest) (sym s.2)
    (place end bytes + (number bytes - 1), frame_begins levels end bytes s.0 body rest w (number_begins bytes s.0 body rest (length b) w s.1 ∙ len))

-- a frame with nothing behind it
frame_alone : (b body : List ℕ) (s : IsFrame b body) → Begins b s.0 body []
frame_alone b body s =
    subst (λ (x : List ℕ). Begins x s.0 body []) (append-nil (s.0 ++ body ++ 0 ∷ []) ∙ sym s.2) (begins s.0 body [] s.1.four)

scope_again : (levels at stop : ℕ) (after code b body : List ℕ) → IsFrame b body → is_utf8 code ≡ true
    → scope_at (suc levels) at stop after code b ≡ Ok (record { code = code; scope = record { body = body; stop = stop; last = 0; after = after } })
unfolding scope_at
scope_again levels at stop after code b body s utf8 =
    let w = frame_alone b body s in
    let len : length b ≡ length body + 5 = ap length s.2 ∙ frame_len s.0 body s.1.four in
    let n : number b ≡ length b = number_begins b s.0 body [] (length b) w s.1 in
    let a : ltb (length b) 5 ≡ false = le-ltb _ _ (omega (arith, len)) in
    let c : eqb (number b) (length b) ≡ true = eq-eqb (number b) (length b) n in
    let i : length b - 1 ≡ length body + 4 = omega (arith, len) in
    let j : length b - 5 ≡ length body = omega (arith, len) in
    let l : slice_index b (length b - 1) ≡ 0 = ap (λ (m : ℕ). slice_index b m) i ∙ w.zero_is in
    let f : take (length b - 5) (drop 4 b) ≡ body = ap (λ (m : ℕ). take m (drop 4 b)) j ∙ w.body_is in
    rw (a, c, eqb-suc-zero levels, utf8, l, f) refl

abbrev pub Totalled : ℕ → ℕ → List ℕ → List ℕ → List ℕ → List ℕ → Type 0
Totalled levels end b code body rest = (stop : ℕ) × (total_at levels end (b ++ rest) ≡ Ok (record { code = code; scope = record { body = body; stop = stop; last = 0; after = rest } }))

total_begins : (levels end n : ℕ) (bytes string scope code body rest : List ℕ) → number bytes ≡ n → 14 ≤ n → n ≤ length bytes → take (n - 4) (drop 4 bytes) ≡ string ++ scope → drop n bytes ≡ rest → IsString string code → IsFrame scope body
    → (stop : ℕ) × (total_at (suc levels) end bytes ≡ Ok (record { code = code; scope = record { body = body; stop = stop; last = 0; after = rest } }))
unfolding total_at
total_begins levels end n bytes string scope code body rest is low high front back s f =
    let at = place end bytes in
    let a : ltb (length bytes) 4 ≡ false = le-ltb _ _ (omega arith) in
    let b : ltb (number bytes) 14 ≡ false = le-ltb _ _ (omega (arith, is)) in
    let c : ltb (length bytes) (number bytes) ≡ false = le-ltb _ _ (omega (arith, is)) in
    let d : take (number bytes - 4) (drop 4 bytes) ≡ string ++ scope = ap (λ (m : ℕ). take (m - 4) (drop 4 bytes)) is ∙ front in
    let e : drop (number bytes) bytes ≡ rest = ap (λ (m : ℕ). drop m bytes) is ∙ back in
    (at + (number bytes - 1), rw (a, b, c, d, e, raw_again at string code scope s) (scope_again levels at (at + (number bytes - 1)) rest code scope body f s.2))

total_again : (levels end : ℕ) (b total string scope code body rest : List ℕ) → IsCount total (length b) → IsString string code → IsFrame scope body → b ≡ total ++ (string ++ scope) → Totalled (suc levels) end b code body rest
total_again levels end b total string scope code body rest c s f e =
    let bytes = (total ++ (string ++ scope)) ++ rest in
    let whole : bytes ≡ total ++ ((string ++ scope) ++ rest) = append_assoc total (string ++ scope) rest in
    let four = c.four in
    let ls : length string ≡ length code + 5 = ap length s.3 ∙ frame_len s.0 code s.1.four in
    let lf : length scope ≡ length body + 5 = ap length f.2 ∙ frame_len f.0 body f.1.four in
    let inner : length (string ++ scope) ≡ length string + length scope = length-append string scope in
    let outer : length (total ++ (string ++ scope)) ≡ 4 + length (string ++ scope) = omega (arith, length-append total (string ++ scope), four) in
    let n : length b ≡ 4 + length (string ++ scope) = ap length e ∙ outer in
    let k : length b - 4 ≡ length (string ++ scope) = omega (arith, n) in
    subst (λ (x : List ℕ). Totalled (suc levels) end x code body rest) (sym e)
    (total_begins levels end (length b) bytes string scope code body rest
    (ap number whole ∙ number_front total ((string ++ scope) ++ rest) (length b) c)
    (omega (arith, n, inner, ls, lf))
    (omega (arith, n, outer, length-append (total ++ (string ++ scope)) rest))
    (ap (λ (x : List ℕ). take (length b - 4) (drop 4 x)) whole ∙ ap (λ (x : List ℕ). take (length b - 4) x) (drop_at total ((string ++ scope) ++ rest) 4 four) ∙ take_at (string ++ scope) rest (length b - 4) (sym k))
    (drop_at (total ++ (string ++ scope)) rest (length b) (outer ∙ sym n))
    s f)

-- ---- elements

-- reading with this reader gives this value again, whatever follows its bytes
pub record CanReadAs (read : Reader) (tag : ℕ) (b : List ℕ) (v : Value) : Type 0 where
  pub kind : is_type tag ≡ true
  pub again : (end : ℕ) (rest : List ℕ) → read tag end (b ++ rest) ≡ Ok (v, rest)

abbrev pub CanRead : Reader → List ℕ → Value → Type 0
CanRead read b v = CanReadAs read (type_byte (out-Value v)) b v

other_name : (a b : List ℕ) (r : Bool) → bytes_eq a b ≡ r → (a ≡ b → ⊥) → bytes_eq a b ≡ false
other_name a b true e h = absurd (h ((bytes_eq-Decides a b).0 e))
other_name a b false e h = e

apart : (m n : List ℕ) (ds : List (List ℕ × Value)) (v : Value) (fs : List (List ℕ × Value)) → IsAbsent m (names_of (ds ++ (n, v) ∷ fs)) → m ≡ n → ⊥
apart m n [] v fs a = a.0
apart m n (d ∷ ds) v fs a = apart m n ds v fs a.1

fresh_at : (n : List ℕ) (v : Value) (done fs : List (List ℕ × Value)) (k : ℕ) → AreDistinct (names_of (done ++ (n, v) ∷ fs)) → position_from (λ e. bytes_eq e.0 n) k done ≡ None
fresh_at n v [] fs k d = refl
fresh_at n v (e ∷ done) fs k d =
    let other : bytes_eq e.0 n ≡ false = other_name e.0 n (bytes_eq e.0 n) refl (apart e.0 n done v fs d.0) in
    rw other (fresh_at n v done fs (k + 1) d.1)

field_again : (read : Reader) (end tag : ℕ) (done : List (List ℕ × Value)) (n b : List ℕ) (v : Value) (rest : List ℕ)
    → IsName n → place_of n done ≡ None → CanReadAs read tag b v → field_at read end done tag ((n ++ 0 ∷ []) ++ (b ++ rest)) ≡ Ok ((n, v), rest)
unfolding field_at named
field_again read end tag done n b v rest name fresh r =
    rw (r.kind, name_again end n (b ++ rest) name.no_zero, name.utf8, fresh, r.again end rest) refl

item_again : (read : Reader) (end tag : ℕ) (n b : List ℕ) (v : Value) (rest : List ℕ)
    → (Contains n 0 → ⊥) → CanReadAs read tag b v → item_at read end tag ((n ++ 0 ∷ []) ++ (b ++ rest)) ≡ Ok (v, rest)
unfolding item_at
item_again read end tag n b v rest no_zero r = rw (r.kind, name_again end n (b ++ rest) no_zero) (r.again end rest)

module _ (V : List ℕ → Value → Type 0) (read : Reader) (reads : (b : List ℕ) (v : Value) → V b v → CanRead read b v) where
  fields_again : (turns end : ℕ) (done fs : List (List ℕ × Value)) (body : List ℕ) → length body ≤ turns → AreDistinct (names_of (done ++ fs)) → AreFields V body fs → fields_at read turns end done body ≡ Ok (done ++ fs)
  unfolding fields_at
  fields_again turns end done [] body le d a = rw (a, append-nil) refl
  fields_again zero end done (e ∷ fs) body le d a = absurd (omega (arith, le, ap length a.5))
  fields_again (suc turns) end done (e ∷ fs) body le d a =
      let tag = type_byte (out-Value e.1) in
      let tail = (e.0 ++ 0 ∷ []) ++ (a.0 ++ a.1) in
      let first : field_at read end done tag tail ≡ Ok (e, a.1) = field_again read end tag done e.0 a.0 e.1 a.1 a.2 (fresh_at e.0 e.1 done fs 0 d) (reads a.0 e.1 a.3) in
      let more : (done ++ e ∷ []) ++ fs ≡ done ++ e ∷ fs = append_assoc done (e ∷ []) fs in
      let less : length a.1 ≤ turns = omega (arith, le, ap length a.5, length-append (e.0 ++ 0 ∷ []) (a.0 ++ a.1), length-append a.0 a.1) in
      let others = fields_again turns end (done ++ e ∷ []) fs a.1 less (rw more d) a.4 in
      subst (λ (b : List ℕ). fields_at read (suc turns) end done b ≡ Ok (done ++ e ∷ fs)) (sym a.5) (rw first (others ∙ ap (λ (es : List (List ℕ × Value)). Ok es) more))

  items_again : (turns end : ℕ) (done vs : List Value) (body : List ℕ) → length body ≤ turns → AreItems V body vs → items_at read turns end done body ≡ Ok (done ++ vs)
  unfolding items_at
  items_again turns end done [] body le a = rw (a, append-nil) refl
  items_again zero end done (v ∷ vs) body le a = absurd (omega (arith, le, ap length a.6))
  items_again (suc turns) end done (v ∷ vs) body le a =
      let tag = type_byte (out-Value v) in
      let tail = (a.0 ++ 0 ∷ []) ++ (a.1 ++ a.2) in
      let first : item_at read end tag tail ≡ Ok (v, a.2) = item_again read end tag a.0 a.1 v a.2 a.3 (reads a.1 v a.4) in
      let more : (done ++ v ∷ []) ++ vs ≡ done ++ v ∷ vs = append_assoc done (v ∷ []) vs in
      let less : length a.2 ≤ turns = omega (arith, le, ap length a.6, length-append (a.0 ++ 0 ∷ []) (a.1 ++ a.2), length-append a.1 a.2) in
      let others = items_again turns end (done ++ v ∷ []) vs a.2 less a.5 in
      subst (λ (b : List ℕ). items_at read (suc turns) end done b ≡ Ok (done ++ v ∷ vs)) (sym a.6) (rw first (others ∙ ap (λ (es : List Value). Ok es) more))

-- ---- values

abbrev pub Documents : Type 0
Documents = ℕ → List ℕ → Taken (List (List ℕ × Value))

module _ (D : List ℕ → List (List ℕ × Value) → Type 0) (A : List ℕ → List Value → Type 0)
    (document : ℕ → List ℕ → Taken (List (List ℕ × Value))) (array : ℕ → List ℕ → Taken (List Value)) (scoped : ℕ → List ℕ → Taken (List ℕ × List (List ℕ × Value)))
    (documents : (end : ℕ) (b : List ℕ) (fs : List (List ℕ × Value)) (rest : List ℕ) → D b fs → document end (b ++ rest) ≡ Ok (fs, rest))
    (arrays : (end : ℕ) (b : List ℕ) (vs : List Value) (rest : List ℕ) → A b vs → array end (b ++ rest) ≡ Ok (vs, rest))
    (codes : (end : ℕ) (b t : List ℕ) (fs : List (List ℕ × Value)) (rest : List ℕ) → AreBytesOf D A b (Value-F.ScopedCode t fs) → scoped end (b ++ rest) ≡ Ok ((t, fs), rest)) where
  one_again : (b : List ℕ) (x : Value-F Value) → AreBytesOf D A b x → CanReadAs (value_with document array scoped) (type_byte x) b (roll-Value x)
  unfolding value_with bool_at
  one_again b Value-F.Null s = record { kind = refl; again = λ end rest. rw s (ap (λ (v : Value). Ok (v, rest)) (sym rolls-Null)) }
  one_again b Value-F.Undefined s = record { kind = refl; again = λ end rest. rw s (ap (λ (v : Value). Ok (v, rest)) (sym rolls-Undefined)) }
  one_again b Value-F.MinKey s = record { kind = refl; again = λ end rest. rw s (ap (λ (v : Value). Ok (v, rest)) (sym rolls-MinKey)) }
  one_again b Value-F.MaxKey s = record { kind = refl; again = λ end rest. rw s (ap (λ (v : Value). Ok (v, rest)) (sym rolls-MaxKey)) }
  one_again b (Value-F.Bool true) s = record { kind = refl; again = λ end rest. rw s (ap (λ (v : Value). Ok (v, rest)) (sym (rolls-Bool true))) }
  one_again b (Value-F.Bool false) s = record { kind = refl; again = λ end rest. rw s (ap (λ (v : Value). Ok (v, rest)) (sym (rolls-Bool false))) }
  one_again b (Value-F.Int z) s = record { kind = refl; again = λ end rest. int_again end b rest z s ∙ ap (λ (v : Value). Ok (v, rest)) (sym (rolls-Int z)) }
  one_again b (Value-F.Long z) s = record { kind = refl; again = λ end rest. rw (run_again 8 end b rest s.count, s.value) (ap (λ (v : Value). Ok (v, rest)) (sym (rolls-Long z))) }
  one_again b (Value-F.Date z) s = record { kind = refl; again = λ end rest. rw (run_again 8 end b rest s.count, s.value) (ap (λ (v : Value). Ok (v, rest)) (sym (rolls-Date z))) }
  one_again b (Value-F.Double d) s = record { kind = refl; again = λ end rest. rw (s.1, run_again 8 end d rest s.0) (ap (λ (v : Value). Ok (v, rest)) (sym (rolls-Double d))) }
  one_again b (Value-F.Oid d) s = record { kind = refl; again = λ end rest. rw (s.1, run_again 12 end d rest s.0) (ap (λ (v : Value). Ok (v, rest)) (sym (rolls-Oid d))) }
  one_again b (Value-F.Decimal d) s = record { kind = refl; again = λ end rest. rw (s.1, run_again 16 end d rest s.0) (ap (λ (v : Value). Ok (v, rest)) (sym (rolls-Decimal d))) }
  one_again b (Value-F.Stamp t) s =
      let eight : length (s.0 ++ s.1) ≡ 8 = omega (arith, length-append s.0 s.1, s.2.four, s.3.four) in
      record { kind = refl; again = λ end rest. rw (s.4, run_again 8 end (s.0 ++ s.1) rest eight, stamp_again s.0 s.1 t s.2 s.3) (ap (λ (v : Value). Ok (v, rest)) (sym (rolls-Stamp t))) }
  one_again b (Value-F.Str t) s = record { kind = refl; again = λ end rest. rw (text_again end b t rest s) (ap (λ (v : Value). Ok (v, rest)) (sym (rolls-Str t))) }
  one_again b (Value-F.Code t) s = record { kind = refl; again = λ end rest. rw (text_again end b t rest s) (ap (λ (v : Value). Ok (v, rest)) (sym (rolls-Code t))) }
  one_again b (Value-F.Symbol t) s = record { kind = refl; again = λ end rest. rw (text_again end b t rest s) (ap (λ (v : Value). Ok (v, rest)) (sym (rolls-Symbol t))) }
  one_again b (Value-F.Binary k d) s = record { kind = refl; again = λ end rest. rw (s.2, binary_again end k s.0 d rest s.1) (ap (λ (v : Value). Ok (v, rest)) (sym (rolls-Binary k d))) }
  one_again b (Value-F.Regex p o) s = record { kind = refl; again = λ end rest. rw (s.2, regex_again end p o rest s.0 s.1) (ap (λ (v : Value). Ok (v, rest)) (sym (rolls-Regex p o))) }
  one_again b (Value-F.DbPointer t d) s = record { kind = refl; again = λ end rest. rw (s.3, pointer_again end s.0 t d rest s.1 s.2) (ap (λ (v : Value). Ok (v, rest)) (sym (rolls-DbPointer t d))) }
  one_again b (Value-F.Object fs) s = record { kind = refl; again = λ end rest. rw (documents end b fs rest s) (ap (λ (v : Value). Ok (v, rest)) (sym (rolls-Object fs))) }
  one_again b (Value-F.Array vs) s = record { kind = refl; again = λ end rest. rw (arrays end b vs rest s) (ap (λ (v : Value). Ok (v, rest)) (sym (rolls-Array vs))) }
  one_again b (Value-F.ScopedCode t fs) s = record { kind = refl; again = λ end rest. rw (codes end b t fs rest s) (ap (λ (v : Value). Ok (v, rest)) (sym (rolls-ScopedCode t fs))) }

  pub value_again : (b : List ℕ) (v : Value) → AreBytesOf D A b (out-Value v) → CanRead (value_with document array scoped) b v
  value_again b v s =
      subst (λ (w : Value). CanReadAs (value_with document array scoped) (type_byte (out-Value v)) b w) (roll-out-Value v) (one_again b (out-Value v) s)

-- ---- documents and arrays

mutual
  unfolding document_at IsDocument

  pub document_again : (levels end : ℕ) (b : List ℕ) (fs : List (List ℕ × Value)) (rest : List ℕ) → IsDocument levels b fs → document_at levels end (b ++ rest) ≡ Ok (fs, rest)
  document_again zero end b fs rest h = absurd h
  document_again (suc levels) end b fs rest h =
      let f = frame_again levels end b h.0 rest h.1 in
      let all = fields_again (λ c v. AreBytesOf (IsDocument levels) (IsArray levels) c (out-Value v)) (value_at levels)
      (value_again (IsDocument levels) (IsArray levels) (document_at levels) (array_at levels) (scoped_at levels) (document_again levels) (array_again levels) (scoped_again levels))
      (length h.0) f.0 [] fs h.0 (omega arith) h.2 h.3 in
      rw (f.1, all) refl

  pub array_again : (levels end : ℕ) (b : List ℕ) (vs : List Value) (rest : List ℕ) → IsArray levels b vs → array_at levels end (b ++ rest) ≡ Ok (vs, rest)
  array_again zero end b vs rest h = absurd h
  array_again (suc levels) end b vs rest h =
      let f = frame_again levels end b h.0 rest h.1 in
      let all = items_again (λ c v. AreBytesOf (IsDocument levels) (IsArray levels) c (out-Value v)) (value_at levels)
      (value_again (IsDocument levels) (IsArray levels) (document_at levels) (array_at levels) (scoped_at levels) (document_again levels) (array_again levels) (scoped_again levels))
      (length h.0) f.0 [] vs h.0 (omega arith) h.2 in
      rw (f.1, all) refl

  pub scoped_again : (levels end : ℕ) (b t : List ℕ) (fs : List (List ℕ × Value)) (rest : List ℕ) → AreBytesOf (IsDocument levels) (IsArray levels) b (Value-F.ScopedCode t fs) → scoped_at levels end (b ++ rest) ≡ Ok ((t, fs), rest)
  scoped_again zero end b t fs rest h = absurd h.5
  scoped_again (suc levels) end b t fs rest h =
      let g = h.5 in
      let f = total_again levels end b h.0 h.1 h.2 t g.0 rest h.3 h.4 g.1 h.6 in
      let all = fields_again (λ c v. AreBytesOf (IsDocument levels) (IsArray levels) c (out-Value v)) (value_at levels)
      (value_again (IsDocument levels) (IsArray levels) (document_at levels) (array_at levels) (scoped_at levels) (document_again levels) (array_again levels) (scoped_again levels))
      (length g.0) f.0 [] fs g.0 (omega arith) g.2 g.3 in
      rw (f.1, all) refl

-- a document says how many bytes it has
frame_number : (b body : List ℕ) → IsFrame b body → (number b ≡ length b) × (5 ≤ length b)
frame_number b body s = (number_begins b s.0 body [] (length b) (frame_alone b body s) s.1, omega (arith, ap length s.2 ∙ frame_len s.0 body s.1.four))

pub document_number : (levels : ℕ) (b : List ℕ) (fs : List (List ℕ × Value)) → IsDocument levels b fs → (number b ≡ length b) × (5 ≤ length b)
unfolding IsDocument
document_number zero b fs h = absurd h
document_number (suc levels) b fs h = frame_number b h.0 h.1

-- the whole input
pub whole_again : (max depth : ℕ) (bytes : List ℕ) (fs : List (List ℕ × Value)) → IsDocument depth bytes fs → length bytes < 2 ^ 31 → length bytes ≤ max → document_of max depth bytes ≡ Ok fs
unfolding document_of
whole_again max depth bytes fs h small fits =
    let n = document_number depth bytes fs h in
    let a : ltb (length bytes) 4 ≡ false = le-ltb _ _ (omega (arith, n.1)) in
    let b : ltb (number bytes) 5 ≡ false = le-ltb _ _ (omega (arith, n.0, n.1)) in
    let c : ltb 2147483647 (number bytes) ≡ false = le-ltb _ _ (omega (arith, n.0)) in
    let d : ltb max (number bytes) ≡ false = le-ltb _ _ (omega (arith, n.0)) in
    let e : ltb (length bytes) (number bytes) ≡ false = le-ltb _ _ (omega (arith, n.0)) in
    let f : ltb (number bytes) (length bytes) ≡ false = le-ltb _ _ (omega (arith, n.0)) in
    let g : document_at depth (length bytes) bytes ≡ Ok (fs, []) = ap (λ (xs : List ℕ). document_at depth (length bytes) xs) (sym (append-nil bytes)) ∙ document_again depth (length bytes) bytes fs [] h in
    rw (a, b, c, d, e, f, g) refl
