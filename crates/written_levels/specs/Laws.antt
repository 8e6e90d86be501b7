-- The levels of what is written of an update.
use Rattle.std.specs.Prelude.{ℕ, ◌+◌, ◌≤◌, List}
use Rattle.bson_value.specs.declared.value.Value.{Value}
use Rattle.bson_value.specs.Levels.{levels_in, levels_of}
use Rattle.doc_path.specs.declared.parts.Form.{Form}
use Rattle.doc_path.specs.declared.touches.Touch.{Touch}
use Rattle.entry_model.specs.Touches.{written, Writable}

-- two more than the new document, at most
abbrev pub WrittenIsShallow : Type 0
WrittenIsShallow = (form : Form) (n : ℕ) (ts : List Touch) (old new : Value) → Writable form n ts old new → levels_of (written form n ts) ≤ levels_in new + 2
