-- What a call must answer.
use Rattle.std.specs.Prelude.{ℕ, List, Bool, ◌&&◌, ◌==◌, Option, Some, None, length}
use Rattle.std.specs.Str.{bytes_eq}
use Rattle.std.specs.List.{starts_with}
use Rattle.worked_rows.specs.declared.call.Answer.{Answer}
use Rattle.worked_rows.specs.declared.wanted.Wanted.{Wanted}

-- the bytes that are wanted, or any that are so many
abbrev pub are_wanted : Option ℕ → List ℕ → List ℕ → Bool
are_wanted None wanted bytes = bytes_eq bytes wanted
are_wanted (Some count) wanted bytes = length bytes == count

abbrev pub is_wanted : Wanted → Answer → Bool
is_wanted w a = a.status == w.status && are_wanted w.told w.report.items a.report.items && are_wanted w.length w.output.items a.output.items

-- behind a failure there is a front of what the call writes without it
abbrev pub is_wanted_front : Wanted → Answer → Answer → Bool
is_wanted_front w a whole = a.status == w.status && bytes_eq a.report.items w.report.items && starts_with ◌==◌ whole.output.items a.output.items
