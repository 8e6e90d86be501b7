-- How many rows there were, and how many of them differ.
use Rattle.std.specs.Prelude.{ℕ, ◌+◌, ◌-◌, ◌^◌, min, Bool, true, false, List, ◌++◌, codes}
use Rattle.std.specs.Fmt.{decimal}
use Rattle.row_script.specs.declared.tally.Tally.{Tally}

abbrev pub no_rows : Tally
no_rows = record { rows = 0; differ = 0 }

-- one more, up to the last number of 32 bits
abbrev pub one_more : ℕ → ℕ
one_more n = min (n + 1) (2 ^ 32 - 1)

-- with a row more, which differs or doesn't
abbrev pub with_row : Tally → Bool → Tally
with_row t false = record { rows = one_more t.rows; differ = t.differ }
with_row t true = record { rows = one_more t.rows; differ = one_more t.differ }

-- what the last line says
abbrev pub last_line : Tally → List ℕ
last_line t = decimal t.rows ++ codes " rows, " ++ decimal t.differ ++ codes " differ\n"
