-- The bytes of the fields with which an entry begins.
use Rattle.std.proofs.Common.{◌≡◌, ℕ, ◌+◌, List, [], ◌∷◌, ◌++◌, length, sym, ap, ◌∙◌, append_assoc, length-append, arith}
use Rattle.std.specs.Prelude.{ℤ, codes, pos}
use Rattle.std.specs.Int.{w32, w64, to_le_bytes, cast_unsigned}
use Rattle.std.proofs.lemmas.List.{append-nil}
use Rattle.bson_value.specs.declared.value.Ts.{Ts}
use Rattle.bson_value.specs.declared.value.Value.{Value, Value-F, fold-roll-Value}
use Rattle.bson_value.specs.declared.value.Value.TheVariants.{Str, Long, Stamp, rolls-Str, rolls-Long, rolls-Stamp}
use Rattle.bson_value.specs.Spelling.{Typed, spelling_step, spelling, element, elements_of, count_bytes, text_bytes}
use Rattle.entry_model.specs.Spelling.{namespace_text}

stamp_spelling : (s : Ts) → spelling (Stamp s) ≡ (17, to_le_bytes w32 s.inc ++ to_le_bytes w32 s.secs)
stamp_spelling s = ap (λ (v : Value). spelling v) (sym (rolls-Stamp s)) ∙ fold-roll-Value Typed spelling_step (Value-F.Stamp s)

long_spelling : (z : ℤ) → spelling (Long z) ≡ (18, to_le_bytes w64 (cast_unsigned w64 z))
long_spelling z = ap (λ (v : Value). spelling v) (sym (rolls-Long z)) ∙ fold-roll-Value Typed spelling_step (Value-F.Long z)

text_spelling : (t : List ℕ) → spelling (Str t) ≡ (2, text_bytes t)
text_spelling t = ap (λ (v : Value). spelling v) (sym (rolls-Str t)) ∙ fold-roll-Value Typed spelling_step (Value-F.Str t)

-- ---- the timestamp, the term and the version

abbrev pub stamp_head : List ℕ
stamp_head = 17 ∷ (116 ∷ (115 ∷ (0 ∷ [])))

abbrev pub term : List ℕ
term = 18 ∷ (116 ∷ (0 ∷ (1 ∷ (0 ∷ (0 ∷ (0 ∷ (0 ∷ (0 ∷ (0 ∷ (0 ∷ []))))))))))

abbrev pub version : List ℕ
version = 18 ∷ (118 ∷ (0 ∷ (2 ∷ (0 ∷ (0 ∷ (0 ∷ (0 ∷ (0 ∷ (0 ∷ (0 ∷ []))))))))))

front_fields : (s : Ts) → elements_of ((codes "ts", Stamp s) ∷ ((codes "t", Long (pos 1)) ∷ ((codes "v", Long (pos 2)) ∷ []))) ≡ stamp_head ++ ((to_le_bytes w32 s.inc ++ to_le_bytes w32 s.secs) ++ (term ++ version))
front_fields s = λ i. element (codes "ts", stamp_spelling s i) ++ (element (codes "t", long_spelling (pos 1) i) ++ (element (codes "v", long_spelling (pos 2) i) ++ []))

pub front_put : (s : Ts) (old one two three four five : List ℕ) → one ≡ old ++ stamp_head → two ≡ one ++ to_le_bytes w32 s.inc → three ≡ two ++ to_le_bytes w32 s.secs → four ≡ three ++ term → five ≡ four ++ version →
    five ≡ old ++ elements_of ((codes "ts", Stamp s) ∷ ((codes "t", Long (pos 1)) ∷ ((codes "v", Long (pos 2)) ∷ [])))
front_put s old one two three four five a b c d e =
    let low = to_le_bytes w32 s.inc in
    let high = to_le_bytes w32 s.secs in
    e ∙ ap (λ (z : List ℕ). z ++ version) (d ∙ ap (λ (z : List ℕ). z ++ term) (c ∙ ap (λ (z : List ℕ). z ++ high) (b ∙ ap (λ (z : List ℕ). z ++ low) a)))
    ∙ append_assoc ((((old ++ stamp_head) ++ low) ++ high)) term version
    ∙ append_assoc ((old ++ stamp_head) ++ low) high (term ++ version)
    ∙ append_assoc (old ++ stamp_head) low (high ++ (term ++ version))
    ∙ append_assoc old stamp_head (low ++ (high ++ (term ++ version)))
    ∙ ap (λ (z : List ℕ). old ++ (stamp_head ++ z)) (sym (append_assoc low high (term ++ version)))
    ∙ ap (λ (z : List ℕ). old ++ z) (sym (front_fields s))

-- ---- the operation and the namespace

abbrev pub operation_head : ℕ → List ℕ
operation_head op = 2 ∷ (111 ∷ (112 ∷ (0 ∷ (2 ∷ (0 ∷ (0 ∷ (0 ∷ (op ∷ (0 ∷ (2 ∷ (110 ∷ (115 ∷ (0 ∷ [])))))))))))))

heading_fields : (op : ℕ) (ns : List ℕ) → elements_of ((codes "op", Str (op ∷ [])) ∷ ((codes "ns", Str ns) ∷ [])) ≡ operation_head op ++ (text_bytes ns ++ [])
heading_fields op ns = λ i. element (codes "op", text_spelling (op ∷ []) i) ++ (element (codes "ns", text_spelling ns i) ++ [])

pub heading_put : (op n : ℕ) (db coll old one two three four five six : List ℕ) → one ≡ old ++ operation_head op → n ≡ length db + length coll + 2 → two ≡ one ++ count_bytes n → three ≡ two ++ db → four ≡ three ++ 46 ∷ [] → five ≡ four ++ coll → six ≡ five ++ 0 ∷ [] →
    six ≡ old ++ elements_of ((codes "op", Str (op ∷ [])) ∷ ((codes "ns", Str (namespace_text db coll)) ∷ []))
heading_put op n db coll old one two three four five six a len b c d e f =
    let head = operation_head op in
    let ns = namespace_text db coll in
    let count = count_bytes n in
    let size : n ≡ length ns + 1 = omega (arith, len, length-append db (46 ∷ coll)) in
    let named : (((count ++ db) ++ 46 ∷ []) ++ coll) ≡ count ++ ns =
    append_assoc (count ++ db) (46 ∷ []) coll ∙ append_assoc count db (46 ∷ coll) in
    f ∙ ap (λ (z : List ℕ). z ++ 0 ∷ []) (e ∙ ap (λ (z : List ℕ). z ++ coll) (d ∙ ap (λ (z : List ℕ). z ++ 46 ∷ []) (c ∙ ap (λ (z : List ℕ). z ++ db) (b ∙ ap (λ (z : List ℕ). z ++ count) a))))
    ∙ ap (λ (z : List ℕ). z ++ 0 ∷ [])
    (ap (λ (z : List ℕ). (z ++ 46 ∷ []) ++ coll) (append_assoc (old ++ head) count db)
    ∙ ap (λ (z : List ℕ). z ++ coll) (append_assoc (old ++ head) (count ++ db) (46 ∷ []))
    ∙ append_assoc (old ++ head) ((count ++ db) ++ 46 ∷ []) coll
    ∙ ap (λ (z : List ℕ). (old ++ head) ++ z) named)
    ∙ append_assoc (old ++ head) (count ++ ns) (0 ∷ [])
    ∙ append_assoc old head ((count ++ ns) ++ 0 ∷ [])
    ∙ ap (λ (m : ℕ). old ++ (head ++ ((count_bytes m ++ ns) ++ 0 ∷ []))) size
    ∙ ap (λ (z : List ℕ). old ++ (head ++ z)) (sym (append-nil (text_bytes ns)))
    ∙ ap (λ (z : List ℕ). old ++ z) (sym (heading_fields op ns))
