-- The written form of an update's touches.
use Rattle.std.specs.Prelude.{ℕ, zero, suc, pos, List, [], ◌∷◌, ◌++◌, Bool, true, false, if◌then◌else◌, Option, Some, None}
use Rattle.bson_value.specs.declared.value.Value.{Value, Object, Int, Bool as Truth}
use Rattle.doc_path.specs.declared.parts.Part.{Part}
use Rattle.doc_path.specs.declared.parts.Part.TheVariants.{Name as name, Index as index}
use Rattle.doc_path.specs.Touch.{key_of}
use Rattle.doc_path.specs.Paths.{dot}
use Rattle.entry_model.specs.Edits.{Step, Sets, Unsets, Resizes, Edit, picked, mapped, gathered, same_part, group, once, heads, rising}

abbrev pub Fields : Type 0
Fields = List (List ℕ × Value)

-- the names `d`, `u`, `i`, `a`, `l`, and `s` and `u` before a part
abbrev pub d_name : List ℕ
d_name = 100 ∷ []

abbrev pub u_name : List ℕ
u_name = 117 ∷ []

abbrev pub i_name : List ℕ
i_name = 105 ∷ []

abbrev pub a_name : List ℕ
a_name = 97 ∷ []

abbrev pub l_name : List ℕ
l_name = 108 ∷ []

abbrev pub s_of : Part → List ℕ
s_of p = 115 ∷ key_of p

abbrev pub u_of : Part → List ℕ
u_of p = 117 ∷ key_of p

-- a field for a document of these fields, where there are any
abbrev pub section : List ℕ → Fields → Fields
section n [] = []
section n (f ∷ fs) = (n, Object (f ∷ fs)) ∷ []

-- ---- a document: what is removed, what is set, what is new, and what is below

abbrev pub gone_in : List Part → Step → Option (List ℕ × Value)
gone_in [] (Unsets (name k)) = Some (k, Truth false)
gone_in _ _ = None

abbrev pub set_in : List Part → Step → Option (List ℕ × Value)
set_in [] (Sets (name k) a false) = Some (k, a)
set_in _ _ = None

abbrev pub new_in : List Part → Step → Option (List ℕ × Value)
new_in [] (Sets (name k) a true) = Some (k, a)
new_in _ _ = None

abbrev pub gone : List Edit → Fields
gone es = picked (λ e. gone_in e.0 e.1) es

abbrev pub set : List Edit → Fields
set es = picked (λ e. set_in e.0 e.1) es

abbrev pub new : List Edit → Fields
new es = picked (λ e. new_in e.0 e.1) es

-- go gives the diff below a part
abbrev pub document_diff : (Part → Fields) → List Edit → Fields
document_diff go es = section d_name (gone es) ++ (section u_name (set es) ++ (section i_name (new es) ++ mapped (λ r. (s_of r, Object (go r))) (heads es)))

-- ---- an array: its length, and by rising index what is set there and what is below

abbrev pub length_in : List Part → Step → Option (List ℕ × Value)
length_in [] (Resizes n) = Some (l_name, Int (pos n))
length_in _ _ = None

abbrev pub set_at : Part → List Part → Step → Option (List ℕ × Value)
set_at r [] (Sets p a fresh) = if same_part p r then Some (u_of p, a) else None
set_at r _ _ = None

-- the part at which an edit stands, or below which
abbrev pub part_in : List Part → Step → Option Part
part_in (p ∷ ps) s = Some p
part_in [] (Sets p a fresh) = Some p
part_in [] _ = None

abbrev pub parts : List Edit → List Part
parts es = rising (once (picked (λ e. part_in e.0 e.1) es))

-- the diff below a part where there are edits
abbrev pub below : (Part → Fields) → Part → List Edit → Fields
below go r [] = []
below go r (e ∷ es) = (s_of r, Object (go r)) ∷ []

abbrev pub at_part : (Part → Fields) → List Edit → Part → Fields
at_part go es r = picked (λ e. set_at r e.0 e.1) es ++ below go r (group r es)

abbrev pub array_diff : (Part → Fields) → List Edit → Fields
array_diff go es = (a_name, Truth true) ∷ (picked (λ e. length_in e.0 e.1) es ++ gathered (at_part go es) (parts es))

-- ---- either

abbrev pub is_index : Part → Bool
is_index (name k) = false
is_index (index n) = true

abbrev pub in_array : List Part → Step → Bool
in_array (p ∷ ps) s = is_index p
in_array [] (Sets p a fresh) = is_index p
in_array [] (Unsets p) = is_index p
in_array [] (Resizes n) = true

-- whether the edits are those of an array
abbrev pub is_array : List Edit → Bool
is_array [] = false
is_array (e ∷ es) = in_array e.0 e.1

-- D, of at most n levels
abbrev pub diff : ℕ → List Edit → Fields
diff zero es = []
diff (suc n) es = if is_array es then array_diff (λ r. diff n (group r es)) es else document_diff (λ r. diff n (group r es)) es

-- ---- the whole o of an entry

-- the parts with dots between them
abbrev pub path_of : List Part → List ℕ
path_of [] = []
path_of (p ∷ []) = key_of p
path_of (p ∷ (q ∷ ps)) = key_of p ++ (dot ∷ path_of (q ∷ ps))

abbrev pub path_set : List Part → Step → Option (List ℕ × Value)
path_set ps (Sets p a fresh) = Some (path_of (ps ++ (p ∷ [])), a)
path_set ps _ = None

abbrev pub path_gone : List Part → Step → Option (List ℕ × Value)
path_gone ps (Unsets p) = Some (path_of (ps ++ (p ∷ [])), Truth true)
path_gone ps _ = None

-- `$v`, `$set`, `$unset`, `diff`
abbrev pub v_name : List ℕ
v_name = 36 ∷ (118 ∷ [])

abbrev pub set_name : List ℕ
set_name = 36 ∷ (115 ∷ (101 ∷ (116 ∷ [])))

abbrev pub unset_name : List ℕ
unset_name = 36 ∷ (117 ∷ (110 ∷ (115 ∷ (101 ∷ (116 ∷ [])))))

abbrev pub diff_name : List ℕ
diff_name = 100 ∷ (105 ∷ (102 ∷ (102 ∷ [])))

abbrev pub spelled_v1 : List Edit → Fields
spelled_v1 es = (v_name, Int (pos 1)) ∷ (section set_name (picked (λ e. path_set e.0 e.1) es) ++ section unset_name (picked (λ e. path_gone e.0 e.1) es))

abbrev pub spelled_v2 : ℕ → List Edit → Fields
spelled_v2 n es = (v_name, Int (pos 2)) ∷ ((diff_name, Object (diff n es)) ∷ [])
