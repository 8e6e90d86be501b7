-- The edits of a level by their parts, and where a part stands among them.
use Rattle.std.specs.Prelude.{ℕ, zero, suc, ◌≡◌, List, [], ◌∷◌, ◌++◌, Bool, false, Option, Some, None, option_map, if◌then◌else◌}
use Rattle.std.specs.List.{list_any}
use Rattle.std.specs.Ordering.{nat_cmp}
use Rattle.std.specs.BTreeMap.{get, get_by_text}
use Rattle.bson_value.specs.declared.value.Value.{Value, Object}
use Rattle.doc_path.specs.declared.parts.Part.{Part}
use Rattle.doc_path.specs.declared.parts.Part.TheVariants.{Name as name, Index as index}
use Rattle.entry_model.specs.Edits.{Edit, picked, mapped, same_part, group, heads, once}
use Rattle.entry_model.specs.Written.{Fields, s_of, at_part, diff}
use Rattle.entry_writer.specs.declared.index.Index.{Index}
use Rattle.entry_writer.specs.declared.parts.PartEdits.{PartEdits}
use Rattle.entry_writer.specs.Edits.{edits_in, part_by}

-- a part, and edits that have it
abbrev pub Group : Type 0
Group = Part × List Edit

abbrev pub group_in : PartEdits → Group
group_in g = (g.part.now, edits_in g.edits.items)

abbrev pub groups_in : List PartEdits → List Group
groups_in gs = mapped group_in gs

-- whether the part is one of the list
abbrev pub among : Part → List Part → Bool
among r ps = list_any (λ p. same_part p r) ps

abbrev pub is_part : Part → Option Part → Bool
is_part r None = false
is_part r (Some p) = same_part p r

-- the edits that have the part
abbrev pub members : Bool → Part → List Edit → List Edit
members at r es = picked (λ e. if is_part r (part_by at e) then Some e else None) es

-- the parts of edits, each once
abbrev pub parts_by : Bool → List Edit → List Part
parts_by at es = once (picked (part_by at) es)

abbrev pub grouped : Bool → List Edit → List Group
grouped at es = mapped (λ r. (r, members at r es)) (parts_by at es)

-- an edit more, in the group of its part
abbrev pub put_edit : Part → Edit → List Group → List Group
put_edit r e [] = (r, e ∷ []) ∷ []
put_edit r e (g ∷ gs) = if same_part g.0 r then (g.0, g.1 ++ e ∷ []) ∷ gs else g ∷ put_edit r e gs

abbrev pub put_by : Option Part → Edit → List Group → List Group
put_by None e gs = gs
put_by (Some r) e gs = put_edit r e gs

-- an edit more, in the group at this place
abbrev pub joined : ℕ → Edit → List Group → List Group
joined n e [] = []
joined zero e (g ∷ gs) = (g.0, g.1 ++ e ∷ []) ∷ gs
joined (suc n) e (g ∷ gs) = g ∷ joined n e gs

-- ---- what a diff of so many levels has of a group

abbrev pub field_below : ℕ → Group → List ℕ × Value
field_below n g = (s_of g.0, Object (diff n (group g.0 g.1)))

-- what a diff of a document has below the parts of edits
abbrev pub fields_below : ℕ → List Edit → Fields
fields_below n es = mapped (λ r. (s_of r, Object (diff n (group r es)))) (heads es)

abbrev pub fields_at : ℕ → Group → Fields
fields_at n g = at_part (λ r. diff n (group r g.1)) g.1 g.0

-- ---- places

-- where the group of a part stands
abbrev pub place_of : Part → List Group → Option ℕ
place_of r [] = None
place_of r (g ∷ gs) = if same_part g.0 r then Some 0 else option_map (λ n. suc n) (place_of r gs)

abbrev pub place_in : Index → Part → Option ℕ
place_in m (name k) = get_by_text m.names k
place_in m (index n) = get nat_cmp m.indexes n

abbrev pub IsIndex : Index → List Group → Type 0
IsIndex m gs = (q : Part) → place_in m q ≡ place_of q gs
