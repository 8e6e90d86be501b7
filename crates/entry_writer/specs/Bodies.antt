-- What is written of an action outside of groups.
use Rattle.std.specs.Prelude.{[]}
use Rattle.bson_value.specs.declared.namespace.NsName.{NsName}
use Rattle.entry_model.specs.declared.entry.Entry.{Entry}
use Rattle.entry_model.specs.declared.entry.Action.{Action, out-Action}
use Rattle.entry_model.specs.Written.{Fields}
use Rattle.entry_model.specs.Spelling.{body_at, body_fields, body_of}

-- a group has no items here
abbrev pub plain_fields : NsName → Action → Fields
plain_fields ns a = body_fields (body_at (λ es. []) ns (out-Action a)) []

abbrev pub whole_fields : Entry → Fields
whole_fields e = body_fields (body_of e) []
