-- The texts of places.
use Rattle.std.specs.Prelude.{◌≡◌, Bool, List}
use Rattle.std.specs.List.{list_any, AllByRecursion}
use Rattle.std.specs.Str.{bytes_eq}
use Rattle.doc_path.specs.declared.parts.Part.{Part}
use Rattle.doc_path.specs.Places.{keys}
use Rattle.update_model.specs.declared.mark.Mark.{Mark}
use Rattle.update_model.specs.Touched.{parts_of, stands_in}
use Rattle.update_model.specs.Conflicts.{Path}
use Rattle.update_ops.specs.Prefixes.{Text, starts}
use Rattle.update_ops.specs.Keys.{key, HaveNoZero}

abbrev pub key_of_parts : List Part → Text
key_of_parts ps = key (keys ps)

abbrev pub key_of_mark : Mark → Text
key_of_mark m = key_of_parts (parts_of m)

-- whether one of the marks is at a front of this text
abbrev pub is_covered : List Mark → Text → Bool
is_covered ms t = list_any (λ m. starts (key_of_mark m) t) ms

abbrev pub IsCleanMark : Mark → Type 0
IsCleanMark m = HaveNoZero (keys (parts_of m))

abbrev pub AreCleanMarks : List Mark → Type 0
AreCleanMarks ms = AllByRecursion IsCleanMark ms

-- the texts of the places of these marks are in the set
abbrev pub HasSeen : List Text → List Mark → Type 0
HasSeen ts ms = (q : Path) → HaveNoZero q → list_any (bytes_eq (key q)) ts ≡ stands_in q ms
