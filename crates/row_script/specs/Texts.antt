-- Words of a row, and answers.
use Rattle.std.specs.Prelude.{ℕ, List, Bool, codes, if◌then◌else◌}
use Rattle.std.specs.List.{slice_split}
use Rattle.std.specs.Str.Parse.{digits_value, without_leading_plus}
use Rattle.row_script.specs.Rows.{is_blank}

-- the number that a word writes
abbrev pub number_of : List ℕ → ℕ
number_of word = digits_value 10 (without_leading_plus word)

-- the words between the blanks of a text
abbrev pub words_of : List ℕ → List (List ℕ)
words_of text = slice_split is_blank text

-- a truth in a word
abbrev pub truth_text : Bool → List ℕ
truth_text is_so = if is_so then codes "yes" else codes "no"
