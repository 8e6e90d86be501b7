-- Edits as the code has them: what of a touch's way is still to come, and the touch.
use Rattle.std.specs.Prelude.{List, Bool, true, false, Option}
use Rattle.doc_path.specs.declared.parts.Part.{Part}
use Rattle.entry_model.specs.Edits.{Step, Sets, Unsets, Resizes, Edit, mapped, first_in}
use Rattle.entry_model.specs.Written.{part_in}
use Rattle.entry_model.specs.Touches.{edit_of}
use Rattle.entry_writer.specs.declared.edits.Edit.{Edit as Held}
use Rattle.entry_writer.specs.declared.edits.Step.{Step as HeldStep}
use Rattle.entry_writer.specs.declared.edits.Step.TheVariants.{Set, Unset, Resize}

abbrev pub step_in : HeldStep → Step
step_in (Set p a fresh) = Sets p.now a.now fresh
step_in (Unset p) = Unsets p.now
step_in (Resize n) = Resizes n

abbrev pub edit_in : Held → Edit
edit_in e = (e.way.now, (edit_of e.touch.now).1)

abbrev pub edits_in : List Held → List Edit
edits_in es = mapped edit_in es

-- the part below which an edit is, or also that at which it sets
abbrev pub part_by : Bool → Edit → Option Part
part_by false e = first_in e.0
part_by true e = part_in e.0 e.1
