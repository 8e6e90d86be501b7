-- The document after an update and its touches, or the first refusal.
use Rattle.std.specs.Prelude.{◌≡◌, ℕ, List, [], ◌∷◌, ◌++◌, length, Bool, true, false, nat_lt, if◌then◌else◌, Option, Some, None, Result, Ok, Err}
use Rattle.bson_value.specs.declared.value.Value.{Value, Value-F, Object, out-Value}
use Rattle.bson_value.specs.Levels.{levels_of}
use Rattle.bson_value.specs.Spelling.{document_text}
use Rattle.update_model.specs.declared.operator.Operator.{Operator}
use Rattle.update_model.specs.declared.fault.UpdateFault.{UpdateFault}
use Rattle.update_model.specs.declared.fault.UpdateFault.TheVariants as faults
use Rattle.update_model.specs.declared.updated.Updated.{Updated}
use Rattle.update_model.specs.Arguments.{Fields}
use Rattle.update_model.specs.Steps.{Trace, after, marks_of}
use Rattle.update_model.specs.Acts.{Act, Steps, Refused, Oversized, act}
use Rattle.update_model.specs.Touched.{touches}

abbrev pub fields_in : Value-F Value → Fields
fields_in (Value-F.Object fs) = fs
fields_in _ = []

abbrev pub fields_of : Value → Fields
fields_of v = fields_in (out-Value v)

abbrev pub byte_limit : ℕ
byte_limit = 16777216

abbrev pub level_limit : ℕ
level_limit = 100

abbrev pub Outcome : Type 0
Outcome = Result Trace UpdateFault

-- what refuses the last document; is_large says that an array was oversized
abbrev pub refusal_at_end : Bool → Fields → Option UpdateFault
refusal_at_end is_large doc =
    if is_large then Some faults.TooLong
    else if nat_lt byte_limit (length (document_text doc)) then Some faults.TooLong
    else if nat_lt level_limit (levels_of doc) then Some faults.Deep
    else None

abbrev pub ended : Option UpdateFault → Outcome
ended None = Ok []
ended (Some f) = Err f

abbrev pub and_more : Trace → Outcome → Outcome
and_more ss (Ok ts) = Ok (ss ++ ts)
and_more ss (Err f) = Err f

abbrev pub on_act : (Bool → Value → Outcome) → Bool → Value → Act → Outcome
on_act go is_large v (Steps ss) = and_more ss (go is_large (after v ss))
on_act go is_large v (Refused f) = Err f
on_act go is_large v Oversized = go true v

-- the operators one after the other, each on the document that those before it left. An oversized array is left out: no later operator sees it
abbrev pub outcome : List Operator → Bool → Value → Outcome
outcome [] is_large v = ended (refusal_at_end is_large (fields_of v))
outcome (o ∷ os) is_large v = on_act (outcome os) is_large v (act o v)

abbrev pub updated_by : Value → Outcome → Result Updated UpdateFault
updated_by v (Err f) = Err f
updated_by v (Ok ss) = Ok (record { doc = fields_of (after v ss); touches = touches (after v ss) (marks_of ss) })

-- Updated and Touched of a document
unfoldable pub updated : List Operator → Fields → Result Updated UpdateFault
updated ops doc = updated_by (Object doc) (outcome ops false (Object doc))

-- the error is this refusal, unless memory ran out
abbrev pub IsRefusal : UpdateFault → Result Updated UpdateFault → Type 0
IsRefusal faults.NoMemory u = Unit {0}
IsRefusal e u = u ≡ Err e
