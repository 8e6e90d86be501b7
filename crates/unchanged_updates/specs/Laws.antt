-- Updates that change nothing.
use Rattle.std.specs.Prelude.{◌≡◌, [], None, Ok}
use Rattle.update_model.specs.declared.updated.Updated.{Updated}
use Rattle.update_model.specs.Arguments.{Fields}
use Rattle.update_model.specs.Reading.{operators, ops_fault}
use Rattle.update_model.specs.Updating.{updated}

-- where an update by operators that were read leaves the document as it was, it has no touch
abbrev pub UnchangedIsUntouched : Type 0
UnchangedIsUntouched = (d doc : Fields) (u : Updated) → ops_fault d ≡ None → updated (operators d) doc ≡ Ok u → u.doc ≡ doc → u.touches ≡ []
