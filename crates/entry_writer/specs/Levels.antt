-- The fields of one level of a diff, by what they are for.
use Rattle.std.specs.Prelude.{ℕ, pos, List, [], ◌∷◌, ◌++◌, Bool, true, false, Option, Some, None, if◌then◌else◌}
use Rattle.bson_value.specs.declared.value.Value.{Value, Int, Bool as Truth}
use Rattle.doc_path.specs.declared.parts.Part.{Part}
use Rattle.doc_path.specs.declared.parts.Part.TheVariants.{Name as name, Index as index}
use Rattle.doc_path.specs.declared.touches.Touch.{Touch}
use Rattle.doc_path.specs.Touch.{key_of}
use Rattle.doc_path.specs.Paths.{dot}
use Rattle.entry_model.specs.Edits.{Step, Sets, Unsets, Resizes, Edit, picked}
use Rattle.entry_model.specs.Written.{Fields, d_name, u_name, i_name, l_name, path_set, path_gone, set_name, unset_name}
use Rattle.entry_model.specs.Touches.{edit_of}
use Rattle.entry_writer.specs.declared.level.Kind.{Kind}
use Rattle.entry_writer.specs.declared.level.Kind.TheVariants.{Removed, Changed, Fresh, Length}

abbrev pub set_field : Part → Value → Option (List ℕ × Value)
set_field (name k) a = Some (k, a)
set_field (index n) a = None

-- what a step gives
abbrev pub by_step : Kind → Step → Option (List ℕ × Value)
by_step Removed (Unsets p) = set_field p (Truth false)
by_step Changed (Sets p a fresh) = if fresh then None else set_field p a
by_step Fresh (Sets p a fresh) = if fresh then set_field p a else None
by_step Length (Resizes n) = Some (l_name, Int (pos n))
by_step _ _ = None

-- the field that an edit gives at its level
abbrev pub field_in : Kind → List Part → Step → Option (List ℕ × Value)
field_in kind [] s = by_step kind s
field_in kind (p ∷ ps) s = None

abbrev pub field_of : Kind → Edit → Option (List ℕ × Value)
field_of kind e = field_in kind e.0 e.1

abbrev pub fields_of : Kind → List Edit → Fields
fields_of kind es = picked (field_of kind) es

abbrev pub section_name : Kind → List ℕ
section_name Removed = d_name
section_name Changed = u_name
section_name Fresh = i_name
section_name Length = l_name

-- ---- the first form

-- a dot before each part
abbrev pub dotted : List Part → List ℕ
dotted [] = []
dotted (p ∷ ps) = dot ∷ (key_of p ++ dotted ps)

abbrev pub path_field : Bool → Touch → Option (List ℕ × Value)
path_field true t = path_set (edit_of t).0 (edit_of t).1
path_field false t = path_gone (edit_of t).0 (edit_of t).1

abbrev pub path_name : Bool → List ℕ
path_name true = set_name
path_name false = unset_name
