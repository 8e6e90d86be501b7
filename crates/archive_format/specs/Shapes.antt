-- The documents of an archive beside those of the collections: the header, metadata, and the headers of blocks.
-- Each is read field by field, in the order of the format. A field is missing before it is of the wrong type; what it holds is looked at when every field was.
-- Other fields are passed over.
use Rattle.std.specs.Prelude.{ℕ, ℤ, ◌&&◌, ◌||◌, not, Bool, List, [], Option, Some, None, Result, Ok, Err, bytes_eq, ◌==◌, codes, if◌then◌else◌}
use Rattle.std.specs.List.{list_any}
use Rattle.std.specs.Result.{result_err}
use Rattle.containers.specs.Entries.{lookup}
use Rattle.bson_value.specs.Namespace.{dot}
use Rattle.bson_value.specs.declared.namespace.NsName.{NsName}
use Rattle.bson_value.specs.declared.value.Value.{Value, Value-F, out-Value}

-- why a document has another shape: the field's name, the version that it tells, or its namespace
pub data ShapeFault : Type 0 where
  missing_field : List ℕ → ShapeFault
  wrong_type : List ℕ → ShapeFault
  wrong_version : List ℕ → ShapeFault
  bad_ns : ShapeFault

abbrev pub Shaped : Type 0 → Type 0
Shaped A = Result A ShapeFault

infixl 10 ◌>>=◌
abbrev pub ◌>>=◌ : {A B : Type 0} → Shaped A → (A → Shaped B) → Shaped B
(Ok x) >>= f = f x
(Err e) >>= f = Err e

abbrev pub typed : {A : Type 0} → List ℕ → Option A → Shaped A
typed name None = Err (wrong_type name)
typed name (Some a) = Ok a

abbrev pub found : {A : Type 0} → (Value → Option A) → List ℕ → Option Value → Shaped A
found view name None = Err (missing_field name)
found view name (Some v) = typed name (view v)

-- the field of this name, of the type that the view knows
abbrev pub field : {A : Type 0} → (Value → Option A) → List ℕ → List (List ℕ × Value) → Shaped A
field view name fs = found view name (lookup name fs)

-- the same of a field that may be missing
abbrev pub optional : {A : Type 0} → (Value → Option A) → List ℕ → Option Value → Shaped (Option A)
optional view name None = Ok None
optional view name (Some v) = typed name (view v) >>= λ a. Ok (Some a)

abbrev pub string_in : Value-F Value → Option (List ℕ)
string_in (Value-F.Str t) = Some t
string_in _ = None

abbrev pub int_in : Value-F Value → Option ℤ
int_in (Value-F.Int z) = Some z
int_in _ = None

abbrev pub long_in : Value-F Value → Option ℤ
long_in (Value-F.Long z) = Some z
long_in _ = None

abbrev pub bool_in : Value-F Value → Option Bool
bool_in (Value-F.Bool b) = Some b
bool_in _ = None

abbrev pub string_of : Value → Option (List ℕ)
string_of v = string_in (out-Value v)

abbrev pub int_of : Value → Option ℤ
int_of v = int_in (out-Value v)

abbrev pub long_of : Value → Option ℤ
long_of v = long_in (out-Value v)

abbrev pub bool_of : Value → Option Bool
bool_of v = bool_in (out-Value v)

-- the names of the fields
abbrev pub concurrent_name : List ℕ
concurrent_name = codes "concurrent_collections"

abbrev pub version_name : List ℕ
version_name = codes "version"

abbrev pub server_name : List ℕ
server_name = codes "server_version"

abbrev pub tool_name : List ℕ
tool_name = codes "tool_version"

abbrev pub db_name : List ℕ
db_name = codes "db"

abbrev pub collection_name : List ℕ
collection_name = codes "collection"

abbrev pub metadata_name : List ℕ
metadata_name = codes "metadata"

abbrev pub eof_name : List ℕ
eof_name = codes "EOF"

abbrev pub crc_name : List ℕ
crc_name = codes "CRC"

-- the one version of the format
abbrev pub format_version : List ℕ
format_version = codes "0.1"

-- the header behind the magic number
pub record Header : Type 0 where
  pub concurrent : ℤ
  pub server : List ℕ
  pub tool : List ℕ

abbrev pub of_version : List ℕ → Header → Shaped Header
of_version version h = if bytes_eq version format_version then Ok h else Err (wrong_version version)

unfoldable pub header_of : List (List ℕ × Value) → Shaped Header
header_of fs =
    field int_of concurrent_name fs >>= λ concurrent.
    (field string_of version_name fs >>= λ version.
    (field string_of server_name fs >>= λ server.
    (field string_of tool_name fs >>= λ tool.
    of_version version (record { concurrent = concurrent; server = server; tool = tool }))))

-- the oplog has no database
abbrev pub oplog_name : List ℕ
oplog_name = codes "oplog"

abbrev pub is_oplog : NsName → Bool
is_oplog n = bytes_eq n.db [] && bytes_eq n.coll oplog_name

-- a database has a name without a dot, a collection has a name; the oplog alone has no database
unfoldable pub is_namespace : NsName → Bool
is_namespace n = is_oplog n || (not (bytes_eq n.db []) && not (list_any (λ b. b == dot) n.db) && not (bytes_eq n.coll []))

-- a namespace and what was read with it
abbrev pub of_namespace : {A : Type 0} → NsName → A → Shaped A
of_namespace n a = if is_namespace n then Ok a else Err bad_ns

abbrev pub named : List ℕ → List ℕ → NsName
named db coll = record { db = db; coll = coll }

-- the metadata of a namespace, as text
pub record Metadata : Type 0 where
  pub ns : NsName
  pub text : List ℕ

unfoldable pub meta_of : List (List ℕ × Value) → Shaped Metadata
meta_of fs =
    field string_of db_name fs >>= λ db.
    (field string_of collection_name fs >>= λ coll.
    (field string_of metadata_name fs >>= λ text.
    of_namespace (named db coll) (record { ns = named db coll; text = text })))

-- a block of this namespace begins, or the namespace ends; the checksum is read only at its end, where it may be missing
pub record Head : Type 0 where
  pub ns : NsName
  pub eof : Bool
  pub crc : Option ℤ

abbrev pub crc_told : Bool → List (List ℕ × Value) → Shaped (Option ℤ)
crc_told eof fs = if eof then optional long_of crc_name (lookup crc_name fs) else Ok None

unfoldable pub ns_head_of : List (List ℕ × Value) → Shaped Head
ns_head_of fs =
    field string_of db_name fs >>= λ db.
    (field string_of collection_name fs >>= λ coll.
    (field bool_of eof_name fs >>= λ eof.
    (crc_told eof fs >>= λ crc.
    of_namespace (named db coll) (record { ns = named db coll; eof = eof; crc = crc }))))

-- the first fault of each, or none
abbrev pub header_fault : List (List ℕ × Value) → Option ShapeFault
header_fault fs = result_err (header_of fs)

abbrev pub meta_fault : List (List ℕ × Value) → Option ShapeFault
meta_fault fs = result_err (meta_of fs)

abbrev pub ns_head_fault : List (List ℕ × Value) → Option ShapeFault
ns_head_fault fs = result_err (ns_head_of fs)
