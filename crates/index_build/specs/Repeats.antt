-- The first element of a list that shares something with an earlier one.
use Rattle.std.specs.Prelude.{List, [], ◌∷◌, ◌++◌, Bool, Option, Some, None, if◌then◌else◌}

module _ {A : Type 0} where
  -- the first element with a property
  abbrev pub first_where : (A → Bool) → List A → Option A
  first_where p [] = None
  first_where p (x ∷ xs) = if p x then Some x else first_where p xs

  -- an element and the one that it shares with, or else what comes later
  abbrev pub or_later : A → Option A → Option (A × A) → Option (A × A)
  or_later x (Some y) later = Some (y, x)
  or_later x None later = later

  module _ (shares : A → A → Bool) where
    -- the first element that shares with an earlier one or with one of these, behind the first such one
    abbrev pub repeat_behind : List A → List A → Option (A × A)
    repeat_behind before [] = None
    repeat_behind before (x ∷ xs) = or_later x (first_where (shares x) before) (repeat_behind (before ++ x ∷ []) xs)

    -- the first element that shares with an earlier one, behind the first such earlier one
    abbrev pub repeat : List A → Option (A × A)
    repeat xs = repeat_behind [] xs
