-- What is written of an archive's own documents is read again.
use Rattle.std.proofs.Common.{◌≡◌, ℕ, zero, suc, ◌+◌, ◌≤◌, Bool as Truth, true, false, List, [], ◌∷◌, length, refl, sym, ap, ◌∙◌, arith, rules}
use Rattle.std.specs.Prelude.{ℤ, codes, bytes_eq, pos, Some, None, Ok, Contains, nat_lt, FitsSigned, ◌==◌, if◌then◌else◌}
use Rattle.std.specs.Int.{w32, w64}
use Rattle.std.specs.Str.{is_utf8, IsAscii}
use Rattle.std.specs.List.{list_any, list_all}
use Rattle.std.proofs.lemmas.List.{length-append}
use Rattle.std.proofs.lemmas.Bool.{eq-eqb, or_parts, and_parts, ltb-true}
use Rattle.std.proofs.lemmas.Str.{is_utf8-from_IsUtf8, IsUtf8-from_ascii}
use Rattle.std.proofs.lemmas.Slice.Eq.{bytes_eq-Decides}
use Rattle.bson_value.specs.declared.namespace.NsName.{NsName}
use Rattle.bson_value.specs.declared.value.Value.{Value, Value-F, out-Value, out-roll-Value, fold-roll-Value}
use Rattle.bson_value.specs.declared.value.Value.TheVariants.{Str, Int, Long, Bool, rolls-Str, rolls-Int, rolls-Long, rolls-Bool}
use Rattle.bson_value.specs.Levels.{levels_of, levels_in, levels_step}
use Rattle.bson_value.specs.Spelling.{Typed, spelling, spelling_step, spelled, element, elements_of, document_text}
use Rattle.bson_value.proofs.Sizes.{document_length, levels-str, spelled-str}
use Rattle.bson_check.specs.Spells.{IsName}
use Rattle.bson_check.proofs.Whole.{spelled_is_read}
use Rattle.bson_value.specs.WellFormed.{IsWellFormedDocument}
use Rattle.bson_encode.proofs.Grammar.{spelling_spells}
use Rattle.bson_value.proofs.WellFormed.{formed_str, formed_int, formed_long, formed_bool}
use Rattle.archive_format.specs.Shapes.{Header, Metadata, ns_head_of, meta_of, header_of, is_namespace, db_name, collection_name, eof_name, crc_name, metadata_name, concurrent_name, version_name, server_name, tool_name, format_version}
use Rattle.archive_format.specs.Archive.{fields_of, head_in, metadata_in, header_in}
use Rattle.archive_format.specs.Written.{head_fields, meta_fields, header_fields, head_text, meta_text, header_text, size_name, type_name, HeadFits, MetaFits, HeaderFits, AreTexts}
use Rattle.archive_format.specs.Laws.{HeadsAreRead, MetasAreRead, HeadersAreRead}

-- ---- values of four types

str_out : (t : List ℕ) → out-Value (Str t) ≡ Value-F.Str t
str_out t = ap out-Value (sym (rolls-Str t)) ∙ out-roll-Value (Value-F.Str t)

int_out : (z : ℤ) → out-Value (Int z) ≡ Value-F.Int z
int_out z = ap out-Value (sym (rolls-Int z)) ∙ out-roll-Value (Value-F.Int z)

long_out : (z : ℤ) → out-Value (Long z) ≡ Value-F.Long z
long_out z = ap out-Value (sym (rolls-Long z)) ∙ out-roll-Value (Value-F.Long z)

bool_out : (b : Truth) → out-Value (Bool b) ≡ Value-F.Bool b
bool_out b = ap out-Value (sym (rolls-Bool b)) ∙ out-roll-Value (Value-F.Bool b)

int_level : (z : ℤ) → levels_in (Int z) ≡ 0
unfolding levels_in
int_level z = ap levels_in (sym (rolls-Int z)) ∙ fold-roll-Value ℕ levels_step (Value-F.Int z)

long_level : (z : ℤ) → levels_in (Long z) ≡ 0
unfolding levels_in
long_level z = ap levels_in (sym (rolls-Long z)) ∙ fold-roll-Value ℕ levels_step (Value-F.Long z)

bool_level : (b : Truth) → levels_in (Bool b) ≡ 0
unfolding levels_in
bool_level b = ap levels_in (sym (rolls-Bool b)) ∙ fold-roll-Value ℕ levels_step (Value-F.Bool b)

int_size : (z : ℤ) → length (spelled (Int z)) ≡ 4
int_size z = ap (λ (v : Value). length (spelled v)) (sym (rolls-Int z)) ∙ ap (λ (p : Typed). length p.1) (fold-roll-Value Typed spelling_step (Value-F.Int z))

long_size : (z : ℤ) → length (spelled (Long z)) ≡ 8
long_size z = ap (λ (v : Value). length (spelled v)) (sym (rolls-Long z)) ∙ ap (λ (p : Typed). length p.1) (fold-roll-Value Typed spelling_step (Value-F.Long z))

bool_size : (b : Truth) → length (spelled (Bool b)) ≡ 1
bool_size b = ap (λ (v : Value). length (spelled v)) (sym (rolls-Bool b)) ∙ ap (λ (p : Typed). length p.1) (fold-roll-Value Typed spelling_step (Value-F.Bool b))

-- ---- a field and the others

elements_size : (n : List ℕ) (v : Value) (fs : List (List ℕ × Value)) → length (elements_of ((n, v) ∷ fs)) ≡ length n + length (spelled v) + 2 + length (elements_of fs)
elements_size n v fs = omega (arith, length-append (element (n, spelling v)) (elements_of fs), length-append n (0 ∷ spelled v))

any_zero : (x : ℕ) (xs : List ℕ) → (list_any (λ b. b == 0) (x ∷ xs) ≡ false) → (x ≡ 0 → ⊥) × (list_any (λ b. b == 0) xs ≡ false)
any_zero x xs h = let k = or_parts (x == 0) (list_any (λ b. b == 0) xs) h in (λ e. let t : (x == 0) ≡ true = eq-eqb x 0 e in let f = k.0 in cc, k.1)

no_zero_of : (xs : List ℕ) → list_any (λ b. b == 0) xs ≡ false → Contains xs 0 → ⊥
no_zero_of [] h c = omega (arith, c.1)
no_zero_of (x ∷ xs) h (zero, l, e) = (any_zero x xs h).0 e
no_zero_of (x ∷ xs) h (suc i, l, e) = no_zero_of xs (any_zero x xs h).1 (i, omega (arith, l), e)

all_ascii : (t : List ℕ) → list_all (λ b. nat_lt b 128) t ≡ true → IsAscii t
all_ascii [] h i = omega arith
all_ascii (x ∷ xs) h zero = ltb-true x 128 (and_parts (nat_lt x 128) (list_all (λ b. nat_lt b 128) xs) h).0
all_ascii (x ∷ xs) h (suc i) = all_ascii xs (and_parts (nat_lt x 128) (list_all (λ b. nat_lt b 128) xs) h).1 i

a_text : (t : List ℕ) → list_all (λ b. nat_lt b 128) t ≡ true → is_utf8 t ≡ true
a_text t h = is_utf8-from_IsUtf8 t (IsUtf8-from_ascii t (all_ascii t h))

a_name : (n : List ℕ) → list_all (λ b. nat_lt b 128) n ≡ true → list_any (λ b. b == 0) n ≡ false → IsName n
a_name n u z = record { utf8 = a_text n u; no_zero = no_zero_of n z }

-- ---- documents

is_read : (fs : List (List ℕ × Value)) → IsWellFormedDocument fs → length (elements_of fs) + 5 ≤ 16793600 → levels_of fs ≤ 200 → fields_of (document_text fs) ≡ Ok fs
unfolding fields_of
is_read fs k l d = let n = document_length fs in spelled_is_read 16793600 200 (document_text fs) fs (record { spells = spelling_spells fs k (omega (arith, l, n)); short = omega (arith, l, n); shallow = d })

differ : (a b : List ℕ) → bytes_eq a b ≡ false → a ≡ b → ⊥
differ a b h e = let k : bytes_eq a b ≡ true = (bytes_eq-Decides a b).1 e in cc

-- ---- the header of a block

module _ (ns : NsName) (eof : Truth) (z : ℤ) where
  pub head_size : length (head_text ns eof z) ≡ length ns.db + length ns.coll + 50
  unfolding head_text
  head_size =
      let fs = head_fields ns eof z in
      omega (arith, document_length fs, elements_size db_name (Str ns.db) ((collection_name, Str ns.coll) ∷ (eof_name, Bool eof) ∷ (crc_name, Long z) ∷ []), elements_size collection_name (Str ns.coll) ((eof_name, Bool eof) ∷ (crc_name, Long z) ∷ []), elements_size eof_name (Bool eof) ((crc_name, Long z) ∷ []), elements_size crc_name (Long z) [], spelled-str ns.db, spelled-str ns.coll, bool_size eof, long_size z)

  module _ (db_text : is_utf8 ns.db ≡ true) (coll_text : is_utf8 ns.coll ≡ true) (fit : FitsSigned w64 z) where
    head_kept : IsWellFormedDocument (head_fields ns eof z)
    head_kept = (
      (
        ((differ _ _ refl, (differ _ _ refl, (differ _ _ refl, tt))), ((differ _ _ refl, (differ _ _ refl, tt)), ((differ _ _ refl, tt), (tt, tt)))),
        (a_name _ refl refl, (a_name _ refl refl, (a_name _ refl refl, (a_name _ refl refl, tt)))),
      ),
      (formed_str ns.db db_text, (formed_str ns.coll coll_text, (formed_bool eof, (formed_long z fit, tt)))),
    )

    head_fields_read : HeadFits ns → fields_of (head_text ns eof z) ≡ Ok (head_fields ns eof z)
    unfolding head_text
    head_fields_read fits = is_read (head_fields ns eof z) head_kept (omega (arith, head_size, document_length (head_fields ns eof z), fits)) (omega (arith, levels-str ns.db, levels-str ns.coll, bool_level eof, long_level z))

    head_shaped : is_namespace ns ≡ true → ns_head_of (head_fields ns eof z) ≡ Ok (record { ns = ns; eof = eof; crc = if eof then Some z else None })
    unfolding ns_head_of
    head_shaped sound = elim eof as (λ b. ns_head_of (head_fields ns b z) ≡ Ok (record { ns = ns; eof = b; crc = if b then Some z else None })) [
      | true ↦ rw (str_out ns.db, str_out ns.coll, bool_out true, long_out z, sound) refl
      | false ↦ rw (str_out ns.db, str_out ns.coll, bool_out false, sound) refl
    ]

pub heads_are_read : HeadsAreRead
unfolding head_in
heads_are_read ns eof z texts fit fits sound = rw (head_fields_read ns eof z texts.0 texts.1 fit fits, head_shaped ns eof z texts.0 texts.1 fit sound) refl

-- ---- metadata

module _ (m : Metadata) where
  pub meta_size : length (meta_text m) ≡ length m.ns.db + length m.ns.coll + length m.text + 77
  unfolding meta_text
  meta_size =
      let rest : List (List ℕ × Value) = (size_name, Int (pos 0)) ∷ (type_name, Str (codes "collection")) ∷ [] in
      omega (arith, document_length (meta_fields m), elements_size db_name (Str m.ns.db) ((collection_name, Str m.ns.coll) ∷ (metadata_name, Str m.text) ∷ rest), elements_size collection_name (Str m.ns.coll) ((metadata_name, Str m.text) ∷ rest), elements_size metadata_name (Str m.text) rest, elements_size size_name (Int (pos 0)) ((type_name, Str (codes "collection")) ∷ []), elements_size type_name (Str (codes "collection")) [], spelled-str m.ns.db, spelled-str m.ns.coll, spelled-str m.text, spelled-str (codes "collection"), int_size (pos 0))

  module _ (texts : AreTexts m.ns) (text : is_utf8 m.text ≡ true) where
    meta_kept : IsWellFormedDocument (meta_fields m)
    meta_kept = (
      (
        ((differ _ _ refl, (differ _ _ refl, (differ _ _ refl, (differ _ _ refl, tt)))), ((differ _ _ refl, (differ _ _ refl, (differ _ _ refl, tt))), ((differ _ _ refl, (differ _ _ refl, tt)), ((differ _ _ refl, tt), (tt, tt))))),
        (a_name _ refl refl, (a_name _ refl refl, (a_name _ refl refl, (a_name _ refl refl, (a_name _ refl refl, tt))))),
      ),
      (formed_str m.ns.db texts.0, (formed_str m.ns.coll texts.1, (formed_str m.text text, (formed_int (pos 0) (search rules), (formed_str (codes "collection") (a_text (codes "collection") refl), tt))))),
    )

    meta_fields_read : MetaFits m → fields_of (meta_text m) ≡ Ok (meta_fields m)
    unfolding meta_text
    meta_fields_read fits = is_read (meta_fields m) meta_kept (omega (arith, meta_size, document_length (meta_fields m), fits)) (omega (arith, levels-str m.ns.db, levels-str m.ns.coll, levels-str m.text, int_level (pos 0), levels-str (codes "collection")))

    meta_shaped : is_namespace m.ns ≡ true → meta_of (meta_fields m) ≡ Ok m
    unfolding meta_of
    meta_shaped sound = rw (str_out m.ns.db, str_out m.ns.coll, str_out m.text, sound) refl

pub metas_are_read : MetasAreRead
unfolding metadata_in
metas_are_read m texts text fits sound = rw (meta_fields_read m texts text fits, meta_shaped m texts text sound) refl

-- ---- the header of the prelude

module _ (h : Header) where
  pub header_size : length (header_text h) ≡ length h.server + length h.tool + 90
  unfolding header_text
  header_size =
      let rest : List (List ℕ × Value) = (server_name, Str h.server) ∷ (tool_name, Str h.tool) ∷ [] in
      omega (arith, document_length (header_fields h), elements_size concurrent_name (Int h.concurrent) ((version_name, Str format_version) ∷ rest), elements_size version_name (Str format_version) rest, elements_size server_name (Str h.server) ((tool_name, Str h.tool) ∷ []), elements_size tool_name (Str h.tool) [], spelled-str format_version, spelled-str h.server, spelled-str h.tool, int_size h.concurrent)

  module _ (server_text : is_utf8 h.server ≡ true) (tool_text : is_utf8 h.tool ≡ true) (fit : FitsSigned w32 h.concurrent) where
    header_kept : IsWellFormedDocument (header_fields h)
    header_kept = (
      (
        ((differ _ _ refl, (differ _ _ refl, (differ _ _ refl, tt))), ((differ _ _ refl, (differ _ _ refl, tt)), ((differ _ _ refl, tt), (tt, tt)))),
        (a_name _ refl refl, (a_name _ refl refl, (a_name _ refl refl, (a_name _ refl refl, tt)))),
      ),
      (formed_int h.concurrent fit, (formed_str format_version (a_text format_version refl), (formed_str h.server server_text, (formed_str h.tool tool_text, tt)))),
    )

    header_fields_read : HeaderFits h → fields_of (header_text h) ≡ Ok (header_fields h)
    unfolding header_text
    header_fields_read fits = is_read (header_fields h) header_kept (omega (arith, header_size, document_length (header_fields h), fits)) (omega (arith, levels-str format_version, levels-str h.server, levels-str h.tool, int_level h.concurrent))

    header_shaped : header_of (header_fields h) ≡ Ok h
    unfolding header_of
    header_shaped = rw (int_out h.concurrent, str_out format_version, str_out h.server, str_out h.tool) refl

pub headers_are_read : HeadersAreRead
unfolding header_in
headers_are_read h server tool fit fits = rw (header_fields_read h server tool fit fits, header_shaped h server tool fit) refl
