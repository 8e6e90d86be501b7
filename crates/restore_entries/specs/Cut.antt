-- What a filter takes of an entry.
use Rattle.std.specs.Prelude.{Bool, true, ◌||◌, filter, codes}
use Rattle.std.specs.Str.{bytes_eq}
use Rattle.bson_value.specs.declared.namespace.NsName.{NsName}
use Rattle.entry_model.specs.declared.entry.Entry.{Entry}
use Rattle.entry_model.specs.declared.entry.Action.{Action, out-Action}
use Rattle.entry_model.specs.declared.entry.Action.TheOpen.{Action-F}
use Rattle.entry_model.specs.declared.entry.Action.TheVariants.{Group}
use Rattle.restore_filter.specs.Rules.{Rules}
use Rattle.restore_filter.specs.Names.{takes}

-- the namespace of an unknown command that names no collection
abbrev pub names_none : NsName → Bool
names_none n = bytes_eq n.coll (codes "$cmd")

-- a dropped database acts on the collections that are there; a rename is taken where either name is; a group is looked at item by item; what names no collection is always taken
abbrev pub takes_action : {A E : Type 0} → Rules → NsName → Action-F A E → Bool
takes_action r n Action-F.DropDb = true
takes_action r n (Action-F.Group items) = true
takes_action r n (Action-F.Rename from to) = takes r from || takes r to
takes_action r n (Action-F.Other name) = takes r n || names_none n
takes_action r n a = takes r n

abbrev pub takes_entry : Rules → Entry → Bool
takes_entry r e = takes_action r e.ns (out-Action e.action)

abbrev pub cut_action : Rules → Action → Action-F Action Entry → Action
cut_action r a (Action-F.Group items) = Group (filter (takes_entry r) items)
cut_action r a b = a

-- the entry, of a group with the items that are taken
abbrev pub cut_entry : Rules → Entry → Entry
cut_entry r e = record { ts = e.ts; ns = e.ns; action = cut_action r e.action (out-Action e.action) }
