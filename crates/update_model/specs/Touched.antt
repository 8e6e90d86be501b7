-- The touches of an update in their order: the highest places that were changed, each once, as they were first made, with what stands there after the update.
use Rattle.std.specs.Prelude.{ℕ, List, [], ◌∷◌, ◌++◌, length, map, Bool, true, false, ◌&&◌, nat_lt, if◌then◌else◌, Option, Some, None}
use Rattle.std.specs.List.{list_any}
use Rattle.bson_value.specs.declared.value.Value.{Value, Value-F, out-Value}
use Rattle.bson_value.specs.Place.{Place}
use Rattle.doc_path.specs.declared.parts.Part.{Part}
use Rattle.doc_path.specs.declared.touches.Touch.{Touch}
use Rattle.doc_path.specs.declared.touches.Touch.TheVariants.{Set, Unset, Resize}
use Rattle.doc_path.specs.Touch.{limit, Touch as Played}
use Rattle.doc_path.specs.Played.{touch_at}
use Rattle.doc_path.specs.declared.parts.Change.TheVariants.{Put, Delete, Resize as Length}
use Rattle.doc_path.specs.Places.{keys}
use Rattle.doc_path.specs.Ways.{value_in}
use Rattle.update_model.specs.Conflicts.{begins}
use Rattle.update_model.specs.declared.mark.Mark.{Mark}
use Rattle.update_model.specs.declared.mark.Made.{Made}
use Rattle.update_model.specs.declared.mark.Made.TheVariants as made

abbrev pub parts_of : Mark → List Part
parts_of m = m.way ++ (m.last ∷ [])

abbrev pub place_of : Mark → Place
place_of m = keys (parts_of m)

-- a mark covers its place and all below it
abbrev pub mark_covers : Mark → Place → Bool
mark_covers m q = begins (place_of m) q

abbrev pub any_mark : List Mark → Place → Bool
any_mark ms q = list_any (λ m. mark_covers m q) ms

-- the marks with none above them: where none covers the way
abbrev pub tops : List Mark → List Mark → List Mark
tops all [] = []
tops all (m ∷ ms) = if any_mark all (keys m.way) then tops all ms else m ∷ tops all ms

-- one of the marks has this place
abbrev pub stands_in : Place → List Mark → Bool
stands_in q ms = list_any (λ m. begins (place_of m) q && begins q (place_of m)) ms

-- each place once, at its first making; seen are those that stand before
abbrev pub firsts : List Mark → List Mark → List Mark
firsts seen [] = []
firsts seen (m ∷ ms) = if stands_in (place_of m) seen then firsts seen ms else m ∷ firsts (m ∷ seen) ms

abbrev pub touched : List Mark → List Mark
touched ms = firsts [] (tops ms ms)

abbrev pub is_fresh : Made → Bool
is_fresh made.Fresh = true
is_fresh made.Changed = false
is_fresh made.Cut = false

-- the length of an array that was cut
abbrev pub length_in : Value-F Value → Option ℕ
length_in (Value-F.Array vs) = if nat_lt (length vs) limit then Some (length vs) else None
length_in _ = None

abbrev pub cut_to_length : Made → Value → Option ℕ
cut_to_length made.Cut a = length_in (out-Value a)
cut_to_length _ a = None

abbrev pub set_or_cut : Mark → Value → Option ℕ → Touch
set_or_cut m a (Some n) = Resize (parts_of m) n
set_or_cut m a None = Set (parts_of m) a (is_fresh m.made)

abbrev pub touch_by : Mark → Option Value → Touch
touch_by m None = Unset (parts_of m)
touch_by m (Some a) = set_or_cut m a (cut_to_length m.made a)

abbrev pub touch_of : Value → Mark → Touch
touch_of z m = touch_by m (value_in (parts_of m) z)

-- z is the document after the update
abbrev pub touches : Value → List Mark → List Touch
touches z ms = map (touch_of z) (touched ms)

-- what a touch of a document is as it is played, with a Set of the whole array in place of a length
abbrev pub whole_at : List Part → ℕ → Option Value → Played
whole_at place n None = touch_at place (Length n)
whole_at place n (Some a) = touch_at place (Put a)

abbrev pub whole : Value → Touch → Played
whole z (Resize place n) = whole_at place n (value_in place z)
whole z (Set place a fresh) = touch_at place (Put a)
whole z (Unset place) = touch_at place Delete
