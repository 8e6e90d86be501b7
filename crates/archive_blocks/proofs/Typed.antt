-- The bytes of a value, read as one of a type.
use Rattle.std.proofs.Common.{◌≡◌, ℕ, zero, suc, ◌+◌, ◌-◌, ◌≤◌, append_assoc, false, true, ltb, eqb, List, [], ◌∷◌, ◌++◌, length, take, drop, slice_index, refl, sym, ap, subst, ◌∙◌, arith}
use Rattle.std.specs.Prelude.{Option, None, Some, ℤ, Bool, Result, Ok, Err, OnErr, IfOk, IfErr}
use Rattle.std.specs.Result.{result_ok, result_err}
use Rattle.std.specs.Int.{w32, w64, from_le_bytes, cast_signed}
use Rattle.std.specs.Str.{is_utf8}
use Rattle.std.proofs.lemmas.List.{take_at, drop_at, length-append}
use Rattle.std.proofs.lemmas.Bool.{le-ltb, ne_eqb}
use Rattle.containers.specs.Entries.{lookup}
use Rattle.bson_value.specs.declared.value.Value.{Value, out-Value}
use Rattle.bson_value.specs.declared.value.Value.TheOpen.{Value-F}
use Rattle.bson_check.specs.Reading.{number, text_at}
use Rattle.bson_check.specs.Spells.{IsCount, IsString, IsSigned, Spells, type_byte, AreBytesOf, IsDocument, IsArray}
use Rattle.bson_check.specs.declared.fault.BsonFault.{BsonFault}
use Rattle.bson_check.proofs.Whole.{read_is_spelled, no_fault as read_ok}
use Rattle.bson_check.proofs.Cutting.{Begins}
use Rattle.archive_format.specs.Shapes.{Shaped, wrong_type, ◌>>=◌, string_in, bool_in, long_in, string_of, long_of, bool_of, field, crc_told, db_name, collection_name, eof_name, crc_name, named, of_namespace, ns_head_of, Head}
use Rattle.archive_format.specs.Archive.{fields_of, fault_in, head_in, head_fault_in}
use Rattle.archive_blocks.specs.Found.{SpellFields, BeginsValue}
use Rattle.archive_blocks.specs.Heads.{IsHeadFault, ReadsPart}
use Rattle.archive_blocks.specs.declared.heads.HeadFault.{HeadFault}
use Rattle.archive_blocks.specs.declared.heads.HeadFault.TheVariants as faults
use Rattle.bson_check.proofs.Again.{text_again}

-- ---- texts

text_begins : (end : ℕ) (bytes count t rest : List ℕ) → Begins bytes count t rest → number bytes ≡ length t + 1 → is_utf8 t ≡ true → text_at end bytes ≡ Ok (t, rest)
unfolding text_at
text_begins end bytes count t rest w is utf8 =
    let a : ltb (length bytes) 4 ≡ false = le-ltb _ _ (omega (arith, w.length_is)) in
    let b : eqb (number bytes) 0 ≡ false = ne_eqb (number bytes) 0 (λ e. omega (arith, is, e)) in
    let c : ltb (length bytes - 4) (number bytes) ≡ false = le-ltb _ _ (omega (arith, is, w.length_is)) in
    let i : number bytes + 3 ≡ length t + 4 = omega (arith, is) in
    let j : number bytes - 1 ≡ length t = omega (arith, is) in
    let k : number bytes + 4 ≡ length t + 5 = omega (arith, is) in
    let l : slice_index bytes (number bytes + 3) ≡ 0 = ap (λ (m : ℕ). slice_index bytes m) i ∙ w.zero_is in
    let f : take (number bytes - 1) (drop 4 bytes) ≡ t = ap (λ (m : ℕ). take m (drop 4 bytes)) j ∙ w.body_is in
    let d : drop (number bytes + 4) bytes ≡ rest = ap (λ (m : ℕ). drop m bytes) k ∙ w.rest_is in
    rw (a, b, c, l, f, utf8, d) refl

number_begins : (bytes count body rest : List ℕ) (n : ℕ) → Begins bytes count body rest → IsCount count n → number bytes ≡ n
unfolding number
number_begins bytes count body rest n w c = ap (λ (xs : List ℕ). from_le_bytes w32 xs) w.count_is ∙ c.value

a_string : (n : ℕ) (b : List ℕ) (f : Value-F Value) → AreBytesOf (IsDocument n) (IsArray n) b f → 2 ≡ type_byte f → (t : List ℕ) × (string_in f ≡ Some t) × IsString b t
a_string n b (Value-F.Str t) s k = (t, refl, s)
a_string n b _ s k = absurd (omega (arith, k))

pub text_is : (n : ℕ) (bytes : List ℕ) (v : Value) → BeginsValue n 2 bytes v → (t : List ℕ) × (string_of v ≡ Some t) × (rest : List ℕ) × ((end : ℕ) → text_at end bytes ≡ Ok (t, rest))
text_is n bytes v b =
    let a = a_string n b.spelling (out-Value v) b.spells b.kind in
    (a.0, a.1, b.rest, λ end. ap (text_at end) b.parts ∙ text_again end b.spelling a.0 b.rest a.2)

none_string : (f : Value-F Value) → (type_byte f ≡ 2 → ⊥) → string_in f ≡ None
none_string (Value-F.Str t) h = absurd (h refl)
none_string _ h = refl

pub no_string : (n tag : ℕ) (bytes : List ℕ) (v : Value) → BeginsValue n tag bytes v → (tag ≡ 2 → ⊥) → string_of v ≡ None
no_string n tag bytes v b other = none_string (out-Value v) (λ e. other (b.kind ∙ e))

-- ---- numbers and truth values

none_bool : (f : Value-F Value) → (type_byte f ≡ 8 → ⊥) → bool_in f ≡ None
none_bool (Value-F.Bool b) h = absurd (h refl)
none_bool _ h = refl

pub no_bool : (n tag : ℕ) (bytes : List ℕ) (v : Value) → BeginsValue n tag bytes v → (tag ≡ 8 → ⊥) → bool_of v ≡ None
no_bool n tag bytes v b other = none_bool (out-Value v) (λ e. other (b.kind ∙ e))

none_long : (f : Value-F Value) → (type_byte f ≡ 18 → ⊥) → long_in f ≡ None
none_long (Value-F.Long z) h = absurd (h refl)
none_long _ h = refl

pub no_long : (n tag : ℕ) (bytes : List ℕ) (v : Value) → BeginsValue n tag bytes v → (tag ≡ 18 → ⊥) → long_of v ≡ None
no_long n tag bytes v b other = none_long (out-Value v) (λ e. other (b.kind ∙ e))

a_long : (n : ℕ) (b : List ℕ) (f : Value-F Value) → AreBytesOf (IsDocument n) (IsArray n) b f → 18 ≡ type_byte f → (z : ℤ) × (long_in f ≡ Some z) × IsSigned w64 b z
a_long n b (Value-F.Long z) s k = (z, refl, s)
a_long n b _ s k = absurd (omega (arith, k))

pub long_is : (n : ℕ) (bytes : List ℕ) (v : Value) → BeginsValue n 18 bytes v → long_of v ≡ Some (cast_signed w64 (from_le_bytes w64 (take 8 bytes)))
long_is n bytes v b =
    let a = a_long n b.spelling (out-Value v) b.spells b.kind in
    let front : take 8 bytes ≡ b.spelling = ap (take 8) b.parts ∙ take_at b.spelling b.rest 8 a.2.count in
    a.1 ∙ ap Some (sym a.2.value ∙ ap (λ z. cast_signed w64 (from_le_bytes w64 z)) (sym front))

pub long_fits : (n : ℕ) (bytes : List ℕ) (v : Value) → BeginsValue n 18 bytes v → 8 ≤ length bytes
long_fits n bytes v b =
    let a = a_long n b.spelling (out-Value v) b.spells b.kind in
    omega (arith, a.2.count, ap length b.parts, length-append b.spelling b.rest)

abbrev pub Reading : List ℕ × List ℕ → Result (List ℕ × List ℕ) BsonFault
Reading x = Ok x

same_reading : (x y : List ℕ × List ℕ) → Reading x ≡ Reading y → x ≡ y
same_reading x y e = cc

pub same_front : (a c b d : List ℕ) → Reading (a, b) ≡ Reading (c, d) → a ≡ c
same_front a c b d e = ap (λ (z : List ℕ × List ℕ). z.0) (same_reading (a, b) (c, d) e)

pub crc_is : (eof : Bool) (fs : List (List ℕ × Value)) (v : Value) (z : ℤ) → eof ≡ true → lookup crc_name fs ≡ Some v → long_of v ≡ Some z → crc_told eof fs ≡ Ok (Some z)
crc_is eof fs v z a b d = rw (a, b, d) refl

pub crc_wrong : (eof : Bool) (fs : List (List ℕ × Value)) (v : Value) → eof ≡ true → lookup crc_name fs ≡ Some v → long_of v ≡ None → result_err (crc_told eof fs) ≡ Some (wrong_type crc_name)
crc_wrong eof fs v a b d = rw (a, b, d) refl

-- ---- one part after the other

no_fault : (f : HeadFault) → IsHeadFault f None → ⊥
no_fault faults.MissingField h = let k = h.1 in cc
no_fault faults.WrongType h = let k = h.1 in cc
no_fault faults.BadNs h = cc

later_fault : {A B : Type 0} (r : Shaped A) (g : A → Shaped B) (f : HeadFault) → IsHeadFault f (result_err r) → IsHeadFault f (result_err (r >>= g))
later_fault (Ok a) g f h = absurd (no_fault f h)
later_fault (Err e) g f h = h

bind_ok : {A B : Type 0} (r : Shaped A) (g : A → Shaped B) (a : A) → r ≡ Ok a → (r >>= g) ≡ g a
bind_ok {A = A} r g a e = ap (λ (s : Shaped A). s >>= g) e

module _ (f : HeadFault) (fs : List (List ℕ × Value)) where
  pub no_db : IsHeadFault f (result_err (field string_of db_name fs)) → IsHeadFault f (result_err (ns_head_of fs))
  unfolding ns_head_of
  no_db h = later_fault _ _ f h

  module _ (db : List ℕ) (a : field string_of db_name fs ≡ Ok db) where
    pub no_coll : IsHeadFault f (result_err (field string_of collection_name fs)) → IsHeadFault f (result_err (ns_head_of fs))
    unfolding ns_head_of
    no_coll h = subst (λ s. IsHeadFault f (result_err s)) (sym (bind_ok _ _ db a)) (later_fault _ _ f h)

    module _ (coll : List ℕ) (b : field string_of collection_name fs ≡ Ok coll) where
      pub no_eof : IsHeadFault f (result_err (field bool_of eof_name fs)) → IsHeadFault f (result_err (ns_head_of fs))
      unfolding ns_head_of
      no_eof h = subst (λ s. IsHeadFault f (result_err s)) (sym (bind_ok _ _ db a ∙ bind_ok _ _ coll b)) (later_fault _ _ f h)

      module _ (eof : Bool) (c : field bool_of eof_name fs ≡ Ok eof) where
        pub no_crc : IsHeadFault f (result_err (crc_told eof fs)) → IsHeadFault f (result_err (ns_head_of fs))
        unfolding ns_head_of
        no_crc h = subst (λ s. IsHeadFault f (result_err s)) (sym (bind_ok _ _ db a ∙ bind_ok _ _ coll b ∙ bind_ok _ _ eof c)) (later_fault _ _ f h)

pub all_there : (fs : List (List ℕ × Value)) (db coll : List ℕ) (eof : Bool) (crc : Option ℤ) → field string_of db_name fs ≡ Ok db → field string_of collection_name fs ≡ Ok coll → field bool_of eof_name fs ≡ Ok eof → crc_told eof fs ≡ Ok crc
    → ns_head_of fs ≡ of_namespace (named db coll) (record { ns = named db coll; eof = eof; crc = crc })
unfolding ns_head_of
all_there fs db coll eof crc a b c d = bind_ok _ _ db a ∙ bind_ok _ _ coll b ∙ bind_ok _ _ eof c ∙ bind_ok _ _ crc d

-- ---- the elements of a document

pub record Body (b : List ℕ) : Type 0 where
  pub fields : List (List ℕ × Value)
  pub levels : ℕ
  pub read : fields_of b ≡ Ok fields
  pub spells : SpellFields levels (take (length b - 1 - 4) (drop 4 b)) fields
  pub long : 5 ≤ length b

body_by : (b : List ℕ) (fs : List (List ℕ × Value)) (n : ℕ) → fields_of b ≡ Ok fs → IsDocument n b fs → Body b
unfolding IsDocument
body_by b fs zero e d = absurd d
body_by b fs (suc n) e d =
    let frame = d.1 in
    let size : length b ≡ length d.0 + 5 = omega (arith, ap length frame.2, length-append (frame.0 ++ d.0) (0 ∷ []), length-append frame.0 d.0, frame.1.four) in
    let whole : b ≡ frame.0 ++ (d.0 ++ 0 ∷ []) = frame.2 ∙ append_assoc frame.0 d.0 (0 ∷ []) in
    let inner : take (length b - 1 - 4) (drop 4 b) ≡ d.0 =
    ap (λ z. take (length b - 1 - 4) (drop 4 z)) whole ∙ ap (take (length b - 1 - 4)) (drop_at frame.0 (d.0 ++ 0 ∷ []) 4 frame.1.four) ∙ take_at d.0 (0 ∷ []) (length b - 1 - 4) (omega (arith, size)) in
    record { fields = fs; levels = n; read = e; spells = subst (λ (z : List ℕ). SpellFields n z fs) (sym inner) d.3; long = omega (arith, size) }

pub body_of : (b : List ℕ) → fault_in b ≡ None → Body b
unfolding fault_in fields_of Spells
body_of b h =
    let r = read_ok (fields_of b) h in
    let s = (read_is_spelled 16793600 200 b r.0 r.1).spells in
    body_by b r.0 s.1 r.1 s.2

-- what was read of a header's elements is what it says
pub read_again : {A : Type 0} (view : A → Head) (b : List ℕ) (body : Body b) (r : Result A HeadFault) → ReadsPart view r (ns_head_of body.fields) → IfOk r (λ h. head_in b ≡ Some (view h))
unfolding head_in
read_again view b body (Ok h) k = rw (body.read, k) refl
read_again view b body (Err f) k = tt

pub fault_again : {A : Type 0} (view : A → Head) (b : List ℕ) (body : Body b) (r : Result A HeadFault) → ReadsPart view r (ns_head_of body.fields) → IfErr r (λ f. IsHeadFault f (head_fault_in b))
unfolding head_fault_in
fault_again view b body (Ok h) k = tt
fault_again view b body (Err f) k = rw body.read k

no_part : {A : Type 0} (s : Shaped A) (f : HeadFault) → IsHeadFault f (result_err s) → result_ok s ≡ None
no_part (Ok x) f h = absurd (no_fault f h)
no_part (Err e) f h = refl

pub none_again : {A : Type 0} (view : A → Head) (b : List ℕ) (body : Body b) (r : Result A HeadFault) → ReadsPart view r (ns_head_of body.fields) → OnErr r (head_in b ≡ None)
unfolding head_in
none_again view b body (Ok h) k = tt
none_again view b body (Err f) k = rw body.read (no_part (ns_head_of body.fields) f k)
