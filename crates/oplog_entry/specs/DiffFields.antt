-- What a field of a diff says by its name, and the touches of a diff behind a front of their places.
use Rattle.std.specs.Prelude.{◌≡◌, ℕ, ◌^◌, ◌==◌, List, [], ◌∷◌, ◌++◌, Bool, true, false, if◌then◌else◌, nat_lt, Option, Some, None, option_map}
use Rattle.std.specs.Str.{bytes_eq}
use Rattle.bson_value.specs.declared.value.Value.{Value, out-Value}
use Rattle.bson_value.specs.Digits.{index_of}
use Rattle.doc_path.specs.declared.parts.Part.{Part}
use Rattle.doc_path.specs.declared.parts.Part.TheVariants.{Name as name, Index as index}
use Rattle.doc_path.specs.declared.touches.Touch.{Touch}
use Rattle.oplog_entry.specs.declared.delta.DiffField.{DiffField}
use Rattle.oplog_entry.specs.declared.delta.DiffField.TheVariants.{Mark, Length, Unsets as Removes, Sets as Puts, At, Below}
use Rattle.oplog_entry.specs.declared.delta.DeltaFault.{DeltaFault}
use Rattle.oplog_entry.specs.declared.delta.DeltaFault.TheVariants.{NoMemory, Bad}
use Rattle.entry_model.specs.Edits.{Sets, Edit, mapped}
use Rattle.entry_model.specs.Written.{Fields, d_name, u_name, i_name, a_name, l_name}
use Rattle.entry_model.specs.Reads.{Read, fields_as, unset_of, set_of, below_part, length_read, all_read, diff_read, outermost}
use Rattle.entry_model.specs.Touches.{touch_by}

-- what stands behind this first letter
abbrev pub behind_letter : ℕ → List ℕ → Option (List ℕ)
behind_letter c [] = None
behind_letter c (x ∷ xs) = if x == c then Some xs else None

abbrev pub low_index : Option ℕ → Option ℕ
low_index None = None
low_index (Some n) = if nat_lt n (2 ^ 32) then Some n else None

abbrev pub or_else : Option DiffField → Option DiffField → Option DiffField
or_else None later = later
or_else (Some k) later = Some k

abbrev pub by_letter : (ℕ → DiffField) → Option (List ℕ) → Option DiffField → Option DiffField
by_letter k None later = later
by_letter k (Some cs) later = option_map k (low_index (index_of cs))

-- a field of a document's diff, and of an array's
abbrev pub document_kind : List ℕ → Option DiffField
document_kind n = or_else (option_map (λ cs. Below (name cs)) (behind_letter 115 n))
    (if bytes_eq n d_name then Some Removes else (if bytes_eq n u_name then Some (Puts false) else (if bytes_eq n i_name then Some (Puts true) else None)))

abbrev pub array_kind : List ℕ → Option DiffField
array_kind n = if bytes_eq n a_name then Some Mark else (if bytes_eq n l_name then Some Length else by_letter (λ i. At i) (behind_letter 117 n) (by_letter (λ i. Below (index i)) (behind_letter 115 n) None))

abbrev pub kind_in : Bool → List ℕ → Option DiffField
kind_in true n = array_kind n
kind_in false n = document_kind n

-- what a field of a kind is read as, where go reads the diff below it
abbrev pub by_kind : (Fields → Read) → DiffField → Value → Read
by_kind go Mark v = Some []
by_kind go Length v = length_read (out-Value v)
by_kind go Removes v = fields_as unset_of v
by_kind go (Puts fresh) v = fields_as (set_of fresh) v
by_kind go (At n) v = Some (([], Sets (index n) v false) ∷ [])
by_kind go (Below r) v = below_part r go v

abbrev pub by_name : (Fields → Read) → Option DiffField → Value → Read
by_name go None v = None
by_name go (Some k) v = by_kind go k v

-- the fields of a diff
abbrev pub fields_read : Bool → ℕ → Fields → Read
fields_read array n fs = all_read (λ f. by_name (diff_read n) (kind_in array f.0) f.1) fs

-- ---- behind a front

abbrev pub at_front : List Part → Edit → Touch
at_front front e = touch_by (front ++ e.0) e.1

-- the outermost diff is that of a document
abbrev pub diff_at : List Part → ℕ → Fields → Read
diff_at [] n fs = outermost n fs
diff_at (p ∷ ps) n fs = diff_read n fs

-- the touches stand behind those that were there
abbrev pub Adds : List Part → Read → List Touch → List Touch → Type 0
Adds front None old new = ⊥
Adds front (Some es) old new = new ≡ old ++ mapped (at_front front) es

abbrev pub IsBad : DeltaFault → Read → Type 0
IsBad NoMemory r = Unit {0}
IsBad Bad r = r ≡ None
