-- What an operator changes: the document after each change, and the places that it changed.
use Rattle.std.specs.Prelude.{ℕ, zero, suc, ◌-◌, List, [], ◌∷◌, ◌++◌, length, Bool}
use Rattle.bson_value.specs.declared.value.Value.{Value, Array}
use Rattle.doc_path.specs.declared.parts.Part.{Part}
use Rattle.doc_path.specs.declared.parts.Part.TheVariants.{Name as name, Index as index}
use Rattle.doc_path.specs.declared.parts.Form.TheVariants.{V2}
use Rattle.doc_path.specs.declared.parts.Change.TheVariants.{Put, Delete, Resize as Length}
use Rattle.doc_path.specs.Touch.{changed}
use Rattle.update_model.specs.declared.mark.Mark.{Mark}
use Rattle.update_model.specs.declared.mark.Made.{Made}
use Rattle.update_model.specs.declared.mark.Made.TheVariants as made

-- changes one after the other: the places of each, and the document after it
abbrev pub Trace : Type 0
Trace = List (List Mark × Value)

-- the last document
abbrev pub after : Value → Trace → Value
after v [] = v
after v (s ∷ ss) = after s.1 ss

abbrev pub marks_of : Trace → List Mark
marks_of [] = []
marks_of (s ∷ ss) = s.0 ++ marks_of ss

abbrev pub mark : List Part → Part → Made → Mark
mark ws p m = record { way = ws; last = p; made = m }

-- so many elements from an index on
abbrev pub elements : List Part → ℕ → ℕ → List Mark
elements ws from zero = []
elements ws from (suc n) = mark ws (index from) made.Changed ∷ elements ws (suc from) n

-- the nulls between an array's elements and the part
abbrev pub padding : List Part → Part → ℕ → List Mark
padding ws (name k) n = []
padding ws (index i) n = elements ws n (i - n)

abbrev pub putting : List Part → Part → Value → Value → Value
putting ws p a v = changed V2 ws p (Put a) v

-- another value in the place of the one that is there
abbrev pub replaced : List Part → Part → Value → Value → Trace
replaced ws p a v = (mark ws p made.Changed ∷ [], putting ws p a v) ∷ []

abbrev pub newly : Part → Made
newly (name k) = made.Fresh
newly (index n) = made.Changed

-- a value where nothing was, of a document or of an array with so many elements
abbrev pub added : List Part → Part → ℕ → Value → Value → Trace
added ws p n a v = (padding ws p n ++ (mark ws p (newly p) ∷ []), putting ws p a v) ∷ []

-- values behind the elements of an array
abbrev pub appended : List Part → Part → List Value → List Value → Value → Trace
appended ws p is vs v = (elements (ws ++ (p ∷ [])) (length is) (length vs), putting ws p (Array (is ++ vs)) v) ∷ []

-- the field is taken out
abbrev pub removed : List Part → Part → Value → Trace
removed ws p v = (mark ws p made.Changed ∷ [], changed V2 ws p Delete v) ∷ []

-- the array has its first n elements alone
abbrev pub cut : List Part → Part → ℕ → Value → Trace
cut ws p n v = (mark ws p made.Cut ∷ [], changed V2 ws p (Length n) v) ∷ []
