-- Collections that show the commands of a transaction what others do.
use Rattle.std.specs.Prelude.{⊤, List, [], ◌∷◌}
use Rattle.coll_state.specs.Rows.{Rows}
use Rattle.schedule_model.specs.declared.command.DocumentCommand.{DocumentCommand}
use Rattle.transaction_indexes.specs.Shown.{Shows}

abbrev pub ShowAll : List DocumentCommand → Rows → Rows → Type 0
ShowAll [] s r = ⊤
ShowAll (c ∷ cs) s r = Shows c s r × ShowAll cs s r
