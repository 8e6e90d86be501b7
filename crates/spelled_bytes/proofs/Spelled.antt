-- The spelling of a well-formed value is of bytes.
use Rattle.std.proofs.Common.{◌≡◌, ℕ, ◌+◌, ◌%◌, ◌^◌, ◌<◌, Bool as Truth, true, false, List, [], ◌∷◌, ◌++◌, length, map, sym, subst, arith}
use Rattle.std.specs.Prelude.{ℤ, flat_map, if◌then◌else◌}
use Rattle.std.specs.Int.{Width, w32, w64, byte_len, to_le_bytes, cast_unsigned}
use Rattle.std.specs.Fmt.{decimal}
use Rattle.std.specs.List.{AllByRecursion}
use Rattle.std.specs.Str.{is_utf8}
use Rattle.bson_value.specs.declared.value.Value.{Value, Value-F, roll-Value, out-roll-Value, map-Value, fold-roll-Value, ind-Value}
use Rattle.bson_value.specs.declared.value.Value.TheVariants.{Long, rolls-Long}
use Rattle.bson_value.specs.Spelling as spellings
use Rattle.bson_value.specs.Spelling.{count_bytes, Typed, element, framed, numbered, spelling_step, spelling, typed_fields, document_text}
use Rattle.bson_value.specs.WellFormed.{IsName, IsRun, IsWellFormedLevel, IsWellFormed}
use Rattle.bson_value.proofs.WellFormed.{IsHeldWellFormed, here_formed, held_formed}
use Rattle.spelled_bytes.specs.Laws.{DocumentsAreBytes}
use Rattle.spelled_bytes.proofs.Runs.{Bytes, by_index, by_recursion, join, zero_last, number_bytes}
use Rattle.spelled_bytes.proofs.Texts.{text_bytes, digits_bytes}

-- the byte of a type, and bytes
abbrev pub IsTyped : Typed → Type 0
IsTyped p = (p.0 < 256) × Bytes p.1

word : (w : Width) (n : ℕ) → Bytes (to_le_bytes w n)
word w n = number_bytes 0 (byte_len w) n

text : (t : List ℕ) → is_utf8 t ≡ true → Bytes (spellings.text_bytes t)
text t u = join (count_bytes (length t + 1) ++ t) (0 ∷ []) (join (count_bytes (length t + 1)) t (word w32 ((length t + 1) % (2 ^ 32))) (text_bytes t u)) (omega arith, tt)

frame : (body : List ℕ) → Bytes body → Bytes (framed body)
frame body h = join (count_bytes (length body + 5) ++ body) (0 ∷ []) (join (count_bytes (length body + 5)) body (word w32 ((length body + 5) % (2 ^ 32))) h) (omega arith, tt)

count_all : (bs : List ℕ) → Bytes bs → Bytes (spellings.counted bs)
count_all bs h = join (count_bytes (length bs + 4)) bs (word w32 ((length bs + 4) % (2 ^ 32))) h

one_element : (name : List ℕ) (p : Typed) → Bytes name → IsTyped p → Bytes (element (name, p))
one_element name p n h = (h.0, join name (0 ∷ p.1) n (omega arith, h.1))

truth : (b : Truth) → (if b then 1 else 0) < 256
truth true = omega arith
truth false = omega arith

-- ---- the induction

abbrev IsSpelled : Value → Type 0
IsSpelled v = IsWellFormed v → IsTyped (spelling v)

abbrev Proved : Type 0
Proved = (v : Value) × IsSpelled v

abbrev value_in : Proved → Value
value_in p = p.0

abbrev on_value : List ℕ × Proved → List ℕ × Value
on_value e = (e.0, e.1.0)

fields : (ys : List (List ℕ × Proved)) → AllByRecursion (λ e. IsName e.0) (map on_value ys) → AllByRecursion (λ e. IsWellFormed e.1) (map on_value ys) → Bytes (flat_map element (typed_fields (map on_value ys)))
fields [] n h = tt
fields (y ∷ ys) n h = join (element (y.0, spelling y.1.0)) (flat_map element (typed_fields (map on_value ys))) (one_element y.0 (spelling y.1.0) (text_bytes y.0 n.0.utf8) (y.1.1 h.0)) (fields ys n.1 h.1)

items : (i : ℕ) (ys : List Proved) → AllByRecursion IsWellFormed (map value_in ys) → Bytes (numbered i (map spelling (map value_in ys)))
items i [] h = tt
items i (y ∷ ys) h = join (element (decimal i, spelling y.0)) (numbered (i + 1) (map spelling (map value_in ys))) (one_element (decimal i) (spelling y.0) (digits_bytes i) (y.1 h.0)) (items (i + 1) ys h.1)

run : (n : ℕ) (d : List ℕ) → IsRun n d → Bytes d
run n d h = by_recursion d h.are_bytes

level : (y : Value-F Proved) → IsWellFormedLevel (map-Value Proved Value value_in y) → IsHeldWellFormed (map-Value Proved Value value_in y) → IsTyped (spelling_step (map-Value Value Typed spelling (map-Value Proved Value value_in y)))
level (Value-F.Double d) k h = (omega arith, run 8 d k)
level (Value-F.Str t) k h = (omega arith, text t k)
level (Value-F.Object ys) k h = (omega arith, frame _ (fields ys k.1 h))
level (Value-F.Array ys) k h = (omega arith, frame _ (items 0 ys h))
level (Value-F.Binary s b) k h = (omega arith, join (count_bytes (length b)) (s ∷ b) (word w32 (length b % (2 ^ 32))) (k.0, by_recursion b k.1))
level Value-F.Undefined k h = (omega arith, tt)
level (Value-F.Oid d) k h = (omega arith, run 12 d k)
level (Value-F.Bool b) k h = (omega arith, (truth b, tt))
level (Value-F.Date z) k h = (omega arith, word w64 (cast_unsigned w64 z))
level Value-F.Null k h = (omega arith, tt)
level (Value-F.Regex p o) k h = (omega arith, zero_last ((p ++ 0 ∷ []) ++ o) (join (p ++ 0 ∷ []) o (zero_last p (text_bytes p k.0.utf8)) (text_bytes o k.1.utf8)))
level (Value-F.DbPointer t d) k h = (omega arith, join (spellings.text_bytes t) d (text t k.0) (run 12 d k.1))
level (Value-F.Code t) k h = (omega arith, text t k)
level (Value-F.Symbol t) k h = (omega arith, text t k)
level (Value-F.ScopedCode t ys) k h =
    let scope : List ℕ = framed (flat_map element (typed_fields (map on_value ys))) in
    (omega arith, count_all (spellings.text_bytes t ++ scope) (join (spellings.text_bytes t) scope (text t k.0) (frame _ (fields ys k.1.1 h))))
level (Value-F.Int z) k h = (omega arith, word w32 (cast_unsigned w32 z))
level (Value-F.Stamp s) k h = (omega arith, join (to_le_bytes w32 s.inc) (to_le_bytes w32 s.secs) (word w32 s.inc) (word w32 s.secs))
level (Value-F.Long z) k h = (omega arith, word w64 (cast_unsigned w64 z))
level (Value-F.Decimal d) k h = (omega arith, run 16 d k)
level Value-F.MinKey k h = (omega arith, tt)
level Value-F.MaxKey k h = (omega arith, tt)

step : (x : Value-F Value) (y : Value-F Proved) → map-Value Proved Value (λ p. p.0) y ≡ x → IsSpelled (roll-Value x)
step x y e k =
    subst IsTyped (sym (fold-roll-Value Typed spelling_step x))
    (subst (λ (z : Value-F Value). IsWellFormedLevel z → IsHeldWellFormed z → IsTyped (spelling_step (map-Value Value Typed spelling z))) e (level y)
    (subst IsWellFormedLevel (out-roll-Value x) (here_formed (roll-Value x) k)) (subst IsHeldWellFormed (out-roll-Value x) (held_formed (roll-Value x) k)))

pub spelled : (v : Value) → IsSpelled v
spelled v = ind-Value IsSpelled step v

-- ---- documents

-- a name and a value of bytes
abbrev pub IsSpelledField : List ℕ × Value → Type 0
IsSpelledField f = Bytes f.0 × IsTyped (spelling f.1)

elements : (fs : List (List ℕ × Value)) → AllByRecursion IsSpelledField fs → Bytes (flat_map element (typed_fields fs))
elements [] h = tt
elements (f ∷ fs) h = join (element (f.0, spelling f.1)) (flat_map element (typed_fields fs)) (one_element f.0 (spelling f.1) h.0.0 h.0.1) (elements fs h.1)

pub document_bytes : (fs : List (List ℕ × Value)) → AllByRecursion IsSpelledField fs → Bytes (document_text fs)
document_bytes fs h = frame _ (elements fs h)

formed_fields : (fs : List (List ℕ × Value)) → AllByRecursion (λ e. IsName e.0) fs → AllByRecursion (λ e. IsWellFormed e.1) fs → AllByRecursion IsSpelledField fs
formed_fields [] n h = tt
formed_fields (f ∷ fs) n h = ((text_bytes f.0 n.0.utf8, spelled f.1 h.0), formed_fields fs n.1 h.1)

pub documents_bytes : DocumentsAreBytes
documents_bytes d h = by_index (document_text d) (document_bytes d (formed_fields d h.0.1 h.1))

-- an integer of 64 bits, whichever number it is of
pub long_typed : (z : ℤ) → IsTyped (spelling (Long z))
long_typed z = subst (λ (v : Value). IsTyped (spelling v)) (rolls-Long z) (subst IsTyped (sym (fold-roll-Value Typed spelling_step (Value-F.Long z))) (omega arith, word w64 (cast_unsigned w64 z)))
