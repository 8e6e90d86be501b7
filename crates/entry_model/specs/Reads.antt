-- The reading of an update's o to touches in the order of its fields, or its first fault.
use Rattle.std.specs.Prelude.{ℕ, ℤ, pos, negsuc, zero, suc, ◌^◌, ◌==◌, List, [], ◌∷◌, ◌++◌, Bool, true, false, if◌then◌else◌, Option, Some, None, option_map, nat_lt, Result, Ok, Err, is_some}
use Rattle.std.specs.Str.{bytes_eq}
use Rattle.containers.specs.Entries.{lookup}
use Rattle.bson_value.specs.declared.value.Value.{Value, Value-F, out-Value}
use Rattle.bson_value.specs.Digits.{index_of}
use Rattle.doc_path.specs.declared.parts.Part.{Part}
use Rattle.doc_path.specs.declared.parts.Part.TheVariants.{Name as name, Index as index}
use Rattle.doc_path.specs.declared.parts.Form.{Form}
use Rattle.doc_path.specs.declared.parts.Form.TheVariants.{V1, V2}
use Rattle.doc_path.specs.Paths.{parts_of}
use Rattle.doc_path.specs.Played.{way_and_last}
use Rattle.entry_model.specs.declared.fault.EntryFault.{EntryFault}
use Rattle.entry_model.specs.declared.fault.EntryFault.TheVariants.{BadField, MissingField, UnknownUpdate}
use Rattle.entry_model.specs.Edits.{Step, Sets, Unsets, Resizes, Edit, mapped, under}
use Rattle.entry_model.specs.Written.{Fields, d_name, u_name, i_name, a_name, l_name, v_name, set_name, unset_name, diff_name}

-- None is a fault: inside a field of o each is BadField of that field
abbrev pub Read : Type 0
Read = Option (List Edit)

abbrev pub then_also : Read → Read → Read
then_also None later = None
then_also (Some es) later = option_map (λ ds. es ++ ds) later

-- what each gives, one after the other
abbrev pub all_read : {A : Type 0} → (A → Read) → List A → Read
all_read f [] = Some []
all_read f (x ∷ xs) = then_also (f x) (all_read f xs)

abbrev pub object_in : (Fields → Read) → Value-F Value → Read
object_in go (Value-F.Object fs) = go fs
object_in go _ = None

-- the value is a document that is read so
abbrev pub as_object : (Fields → Read) → Value → Read
as_object go v = object_in go (out-Value v)

abbrev pub fields_as : (List ℕ × Value → Edit) → Value → Read
fields_as g v = as_object (λ fs. Some (mapped g fs)) v

-- ---- a field of a document's D

abbrev pub unset_of : List ℕ × Value → Edit
unset_of f = ([], Unsets (name f.0))

abbrev pub set_of : Bool → List ℕ × Value → Edit
set_of fresh f = ([], Sets (name f.0) f.1 fresh)

abbrev pub below_part : Part → (Fields → Read) → Value → Read
below_part r go v = option_map (mapped (under r)) (as_object go v)

abbrev pub document_field : (Fields → Read) → List ℕ → Value → Read
document_field go [] v = None
document_field go (c ∷ cs) v =
    if c == 115 then below_part (name cs) go v
    else (if bytes_eq (c ∷ cs) d_name then fields_as unset_of v
    else (if bytes_eq (c ∷ cs) u_name then fields_as (set_of false) v
    else (if bytes_eq (c ∷ cs) i_name then fields_as (set_of true) v
    else None)))

-- ---- a field of an array's D

abbrev pub at_index : Option ℕ → (ℕ → Read) → Read
at_index None go = None
at_index (Some n) go = if nat_lt n (2 ^ 32) then go n else None

abbrev pub length_of : ℤ → Read
length_of (pos n) = Some (([], Resizes n) ∷ [])
length_of (negsuc n) = None

abbrev pub length_read : Value-F Value → Read
length_read (Value-F.Int z) = length_of z
length_read _ = None

abbrev pub array_field : (Fields → Read) → List ℕ → Value → Read
array_field go [] v = None
array_field go (c ∷ cs) v =
    if bytes_eq (c ∷ cs) a_name then Some []
    else (if bytes_eq (c ∷ cs) l_name then length_read (out-Value v)
    else (if c == 117 then at_index (index_of cs) (λ n. Some (([], Sets (index n) v false) ∷ []))
    else (if c == 115 then at_index (index_of cs) (λ n. below_part (index n) go v)
    else None)))

-- ---- D

abbrev pub has_a : Fields → Bool
has_a fs = is_some (lookup a_name fs)

-- D of at most n levels
abbrev pub diff_read : ℕ → Fields → Read
diff_read zero fs = None
diff_read (suc n) fs = if has_a fs then all_read (λ f. array_field (diff_read n) f.0 f.1) fs else all_read (λ f. document_field (diff_read n) f.0 f.1) fs

-- the outermost D is that of a document
abbrev pub outermost : ℕ → Fields → Read
outermost n fs = if has_a fs then None else diff_read n fs

-- ---- the whole o

abbrev pub at_path : List (List ℕ) → (Part → Step) → List Edit
at_path [] s = []
at_path (k ∷ ks) s = let w = way_and_last (name k) (mapped name ks) in (w.0, s w.1) ∷ []

abbrev pub path_fields : (List ℕ × Value → List Edit) → Fields → Read
path_fields g fs = all_read (λ f. Some (g f)) fs

-- whether two integers are equal
abbrev pub int_eq : ℤ → ℤ → Bool
int_eq (pos m) (pos n) = m == n
int_eq (pos m) (negsuc n) = false
int_eq (negsuc m) (pos n) = false
int_eq (negsuc m) (negsuc n) = m == n

abbrev pub or_bad : List ℕ → Read → Result (List Edit) EntryFault
or_bad n None = Err (BadField n)
or_bad n (Some es) = Ok es

abbrev pub v1_field : List ℕ → Value → Read
v1_field n v =
    if bytes_eq n v_name then Some []
    else (if bytes_eq n set_name then as_object (path_fields (λ f. at_path (parts_of f.0) (λ p. Sets p f.1 false))) v
    else (if bytes_eq n unset_name then as_object (path_fields (λ f. at_path (parts_of f.0) (λ p. Unsets p))) v
    else None))

abbrev pub v2_field : ℕ → List ℕ → Value → Read
v2_field levels n v =
    if bytes_eq n v_name then Some []
    else (if bytes_eq n diff_name then as_object (outermost levels) v
    else None)

abbrev pub and_then : Result (List Edit) EntryFault → Result (List Edit) EntryFault → Result (List Edit) EntryFault
and_then (Err e) later = Err e
and_then (Ok es) (Err e) = Err e
and_then (Ok es) (Ok ds) = Ok (es ++ ds)

-- in the order of the fields, or BadField with the name of the first bad one
abbrev pub each_field : (List ℕ → Value → Read) → Fields → Result (List Edit) EntryFault
each_field read [] = Ok []
each_field read (f ∷ fs) = and_then (or_bad f.0 (read f.0 f.1)) (each_field read fs)

abbrev pub in_form : Form → Result (List Edit) EntryFault → Result (Form × List Edit) EntryFault
in_form form (Err e) = Err e
in_form form (Ok es) = Ok (form, es)

-- the second form has a field `diff`
abbrev pub with_diff : Option Value → Result (List Edit) EntryFault → Result (List Edit) EntryFault
with_diff d (Err e) = Err e
with_diff None (Ok es) = Err (MissingField diff_name)
with_diff (Some v) (Ok es) = Ok es

abbrev pub of_version : ℕ → ℤ → Fields → Result (Form × List Edit) EntryFault
of_version levels z fs =
    if int_eq z (pos 1) then in_form V1 (each_field v1_field fs)
    else (if int_eq z (pos 2) then in_form V2 (with_diff (lookup diff_name fs) (each_field (v2_field levels) fs))
    else Err (UnknownUpdate z))

abbrev pub version_in : ℕ → Value-F Value → Fields → Result (Form × List Edit) EntryFault
version_in levels (Value-F.Int z) fs = of_version levels z fs
version_in levels (Value-F.Long z) fs = of_version levels z fs
version_in levels _ fs = Err (BadField v_name)

abbrev pub version_of : ℕ → Option Value → Fields → Result (Form × List Edit) EntryFault
version_of levels None fs = of_version levels (pos 1) fs
version_of levels (Some v) fs = version_in levels (out-Value v) fs

-- the form and the touches of a delta, or its first fault
abbrev pub update_read : ℕ → Fields → Result (Form × List Edit) EntryFault
update_read levels fs = version_of levels (lookup v_name fs) fs
