-- The one spelling of each value and document whose array names are "0", "1" and so on.
use Rattle.std.specs.Prelude.{ℕ, ◌+◌, ◌%◌, ◌^◌, List, [], ◌∷◌, ◌++◌, length, map, if◌then◌else◌}
use Rattle.std.specs.Int.{w32, w64, to_le_bytes, cast_unsigned}
use Rattle.std.specs.List.{flat_map}
use Rattle.std.specs.Fmt.{decimal}
use Rattle.bson_value.specs.declared.value.Value.{Value, fold-Value}
use Rattle.bson_value.specs.declared.value.Value.TheOpen.{Value-F}

-- a count in four bytes, modulo 2 ^ 32
abbrev pub count_bytes : ℕ → List ℕ
count_bytes n = to_le_bytes w32 (n % (2 ^ 32))

-- the byte of a type, and the bytes of a value
abbrev pub Typed : Type 0
Typed = ℕ × List ℕ

-- a type byte, a name and its zero, and the value
abbrev pub element : List ℕ × Typed → List ℕ
element e = e.1.0 ∷ (e.0 ++ (0 ∷ e.1.1))

-- the length, the elements, and a zero
abbrev pub framed : List ℕ → List ℕ
framed body = count_bytes (length body + 5) ++ body ++ 0 ∷ []

-- the elements of an array, named from this number on
abbrev pub numbered : ℕ → List Typed → List ℕ
numbered i [] = []
numbered i (v ∷ vs) = element (decimal i, v) ++ numbered (i + 1) vs

-- a total that counts itself, and the bytes
abbrev pub counted : List ℕ → List ℕ
counted bytes = count_bytes (length bytes + 4) ++ bytes

abbrev pub text_bytes : List ℕ → List ℕ
text_bytes t = count_bytes (length t + 1) ++ t ++ 0 ∷ []

-- one level, with each value inside already spelled
abbrev pub spelling_step : Value-F Typed → Typed
spelling_step (Value-F.Double d) = (1, d)
spelling_step (Value-F.Str t) = (2, text_bytes t)
spelling_step (Value-F.Object fs) = (3, framed (flat_map element fs))
spelling_step (Value-F.Array vs) = (4, framed (numbered 0 vs))
spelling_step (Value-F.Binary s b) = (5, count_bytes (length b) ++ s ∷ b)
spelling_step Value-F.Undefined = (6, [])
spelling_step (Value-F.Oid d) = (7, d)
spelling_step (Value-F.Bool b) = (8, (if b then 1 else 0) ∷ [])
spelling_step (Value-F.Date z) = (9, to_le_bytes w64 (cast_unsigned w64 z))
spelling_step Value-F.Null = (10, [])
spelling_step (Value-F.Regex p o) = (11, (p ++ 0 ∷ []) ++ o ++ 0 ∷ [])
spelling_step (Value-F.DbPointer t d) = (12, text_bytes t ++ d)
spelling_step (Value-F.Code t) = (13, text_bytes t)
spelling_step (Value-F.Symbol t) = (14, text_bytes t)
spelling_step (Value-F.ScopedCode t fs) = (15, counted (text_bytes t ++ framed (flat_map element fs)))
spelling_step (Value-F.Int z) = (16, to_le_bytes w32 (cast_unsigned w32 z))
spelling_step (Value-F.Stamp s) = (17, to_le_bytes w32 s.inc ++ to_le_bytes w32 s.secs)
spelling_step (Value-F.Long z) = (18, to_le_bytes w64 (cast_unsigned w64 z))
spelling_step (Value-F.Decimal d) = (19, d)
spelling_step Value-F.MinKey = (255, [])
spelling_step Value-F.MaxKey = (127, [])

abbrev pub spelling : Value → Typed
spelling = fold-Value Typed spelling_step

abbrev pub typed_fields : List (List ℕ × Value) → List (List ℕ × Typed)
typed_fields fs = map (λ e. (e.0, spelling e.1)) fs

abbrev pub elements_of : List (List ℕ × Value) → List ℕ
elements_of fs = flat_map element (typed_fields fs)

abbrev pub items_of : List Value → List ℕ
items_of vs = numbered 0 (map spelling vs)

abbrev pub document_text : List (List ℕ × Value) → List ℕ
document_text fs = framed (elements_of fs)

abbrev pub tag_of : Value → ℕ
tag_of v = (spelling v).0

abbrev pub spelled : Value → List ℕ
spelled v = (spelling v).1
