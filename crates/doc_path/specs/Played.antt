-- Replay of touches: those that are left at once, and the others by a walk.
use Rattle.std.specs.Prelude.{⊤, ℕ, ◌≡◌, List, [], ◌∷◌, ◌++◌, Bool, false, not, ◌||◌, nat_lt, if◌then◌else◌}
use Rattle.std.specs.Str.{bytes_eq}
use Rattle.bson_value.specs.declared.value.Value.{Value}
use Rattle.doc_path.specs.declared.parts.Part.{Part}
use Rattle.doc_path.specs.declared.parts.Part.TheVariants.{Name as name, Index as index}
use Rattle.doc_path.specs.declared.parts.Form.{Form}
use Rattle.doc_path.specs.declared.parts.Change.{Change}
use Rattle.doc_path.specs.declared.parts.Change.TheVariants.{Put, Delete, Resize as Length}
use Rattle.doc_path.specs.declared.touches.Touch.{Touch as Recorded}
use Rattle.doc_path.specs.declared.touches.Touch.TheVariants.{Set as Sets, Unset as Unsets, Resize as Resizes}
use Rattle.doc_path.specs.Touch.{Touch, Set, Unset, Resize, limit, play}

-- the name `_id`
abbrev pub id_name : List ℕ
id_name = 95 ∷ (105 ∷ (100 ∷ []))

abbrev pub is_id : Part → Bool
is_id (name k) = bytes_eq k id_name
is_id (index n) = false

abbrev pub starts_at_id : List Part → Bool
starts_at_id [] = false
starts_at_id (p ∷ ps) = is_id p

abbrev pub is_far : Part → Bool
is_far (name k) = false
is_far (index n) = not (nat_lt n limit)

abbrev pub any_far : List Part → Bool
any_far [] = false
any_far (p ∷ ps) = is_far p || any_far ps

-- a place at which nothing is played: `_id` first, or an index that is too large
abbrev pub left_at : List Part → Bool
left_at ps = starts_at_id ps || any_far ps

abbrev pub is_left : Touch → Bool
is_left (Set ps p a) = left_at (ps ++ (p ∷ []))
is_left (Unset ps p) = left_at (ps ++ (p ∷ []))
is_left (Resize ps n) = left_at ps || not (nat_lt n limit)

-- the document after a touch
abbrev pub played : Form → Touch → Value → Value
played f t v = if is_left t then v else play f t v

-- PlayedDoc: the touches one after the other
abbrev pub played_all : Form → List Touch → Value → Value
played_all f [] v = v
played_all f (t ∷ ts) v = played_all f ts (played f t v)

abbrev pub NoneLeft : List Touch → Type 0
NoneLeft [] = ⊤
NoneLeft (t ∷ ts) = (is_left t ≡ false) × NoneLeft ts

-- the way and the last part of a place that isn't empty
abbrev pub way_and_last : Part → List Part → List Part × Part
way_and_last p [] = ([], p)
way_and_last p (q ∷ qs) = (p ∷ (way_and_last q qs).0, (way_and_last q qs).1)

abbrev pub touch_by : List Part × Part → Change → Touch
touch_by w (Put a) = Set w.0 w.1 a
touch_by w Delete = Unset w.0 w.1
touch_by w (Length n) = Resize (w.0 ++ (w.1 ∷ [])) n

abbrev pub touch_at : List Part → Change → Touch
touch_at [] c = Resize [] limit
touch_at (p ∷ ps) c = touch_by (way_and_last p ps) c

-- the touch of the theory that a touch in code stands for
abbrev pub touch_of : Recorded → Touch
touch_of (Sets place a fresh) = touch_at place (Put a)
touch_of (Unsets place) = touch_at place Delete
touch_of (Resizes place n) = touch_at place (Length n)

abbrev pub too_long : Change → Bool
too_long (Put a) = false
too_long Delete = false
too_long (Length n) = not (nat_lt n limit)
