-- Values of one key are one value.
use Rattle.std.proofs.Common.{◌≡◌, ℕ, ◌+◌, ◌<◌, ◌≤◌, ◌^◌, List, [], ◌++◌, length, Result, Ok, Err, sym, ap, subst, ◌∙◌, arith}
use Rattle.bson_value.specs.declared.value.Value.{Value, out-Value}
use Rattle.bson_value.specs.Levels.{levels_in}
use Rattle.bson_value.specs.Spelling.{spelled, tag_of}
use Rattle.bson_value.specs.WellFormed.{IsWellFormed}
use Rattle.bson_check.specs.Spells.{type_byte, IsDocument, IsArray}
use Rattle.bson_check.specs.declared.fault.BsonFault.{BsonFault}
use Rattle.bson_check.specs.Reading.{value_at, document_at, array_at, scoped_at}
use Rattle.bson_check.proofs.Again.{CanRead, value_again, document_again, array_again, scoped_again}
use Rattle.bson_encode.specs.Laws.{EqualKeys}
use Rattle.bson_encode.proofs.Grammar.{value_spelled, document_spelled, array_spelled, tag_is}

reads_back : (n : ℕ) (v : Value) → IsWellFormed v → levels_in v ≤ n → length (spelled v) < 2 ^ 31 → CanRead (value_at n) (spelled v) v
reads_back n v k le small =
    value_again (IsDocument n) (IsArray n) (document_at n) (array_at n) (scoped_at n) (document_again n) (array_again n) (scoped_again n) (spelled v) v
    (value_spelled (IsDocument n) (IsArray n) n (document_spelled n) (array_spelled n) v k le small)

abbrev Read : Type 0
Read = Result (Value × List ℕ) BsonFault

abbrev value_of : Value → Read → Value
value_of v (Ok x) = x.0
value_of v (Err e) = v

same_read : (a b : Value) (r : List ℕ) (x y : Read) → x ≡ Ok (a, r) → y ≡ Ok (b, r) → x ≡ y → a ≡ b
same_read a b r x y e f g = ap (value_of a) (sym e ∙ (g ∙ f))

pub equal_keys : EqualKeys
equal_keys a b ka kb small e =
    let tags : tag_of a ≡ tag_of b = cc in
    let bytes : spelled a ≡ spelled b = cc in
    let n = levels_in a + levels_in b in
    let types : type_byte (out-Value a) ≡ type_byte (out-Value b) = tag_is a ∙ (tags ∙ sym (tag_is b)) in
    let first = (reads_back n a ka (omega arith) small).again 0 [] in
    let second = (reads_back n b kb (omega arith) (subst (λ (l : List ℕ). length l < 2 ^ 31) bytes small)).again 0 [] in
    same_read a b [] _ _ first second (ap (λ (t : ℕ). value_at n t 0 (spelled a ++ [])) types ∙ (ap (λ (l : List ℕ). value_at n (type_byte (out-Value b)) 0 (l ++ [])) bytes))
