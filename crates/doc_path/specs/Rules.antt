-- By which rule a change goes down a place: by that of a document's own places, or as replay does in one of its two forms.
use Rattle.std.specs.Prelude.{◌≡◌, Bool, List, Option, None}
use Rattle.bson_value.specs.declared.value.Value.{Value}
use Rattle.bson_value.specs.Place.{Shape}
use Rattle.doc_path.specs.declared.parts.Part.{Part}
use Rattle.doc_path.specs.declared.parts.Form.{Form}
use Rattle.doc_path.specs.declared.parts.Form.TheVariants as form
use Rattle.doc_path.specs.declared.parts.Change.{Change}
use Rattle.doc_path.specs.declared.parts.Change.TheVariants.{Delete}
use Rattle.doc_path.specs.declared.parts.Rule.{Rule}
use Rattle.doc_path.specs.declared.parts.Rule.TheVariants as rule
use Rattle.doc_path.specs.Touch.{takes, walk_by, step_by, made_for}
use Rattle.doc_path.specs.Ways.{leads}

abbrev pub taken_by : Rule → Part → Shape → Bool
taken_by rule.Plain = leads
taken_by rule.V1 = takes form.V1
taken_by rule.V2 = takes form.V2

-- what a missing value on the way counts as
abbrev pub made_by : Rule → Change → Option Value
made_by rule.Plain c = None
made_by rule.V1 c = made_for form.V1 c
made_by rule.V2 c = None

-- a change at the end of the way
abbrev pub changed_by : Rule → List Part → Part → Change → Value → Value
changed_by r ps p c v = walk_by (taken_by r) (made_by r c) ps (step_by (taken_by r) p c) v

abbrev pub rule_of : Form → Rule
rule_of form.V1 = rule.V1
rule_of form.V2 = rule.V2

-- a change that takes no memory
abbrev pub IsCalm : Rule → Change → Type 0
IsCalm r c = (r ≡ rule.Plain) × (c ≡ Delete)
