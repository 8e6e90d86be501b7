-- Which entries can be written: those whose document is read as the same entry.
use Rattle.std.specs.Prelude.{ℕ, suc, ◌≡◌, List, [], ◌∷◌, codes, true, Some, Ok}
use Rattle.std.specs.List.{AllByRecursion}
use Rattle.std.specs.Option.{IsSome}
use Rattle.containers.specs.Entries.{lookup, IsAbsent, names_of}
use Rattle.bson_value.specs.declared.value.Value.{Object, Str}
use Rattle.bson_value.specs.declared.value.Ts.{Ts}
use Rattle.bson_value.specs.declared.namespace.NsName.{NsName}
use Rattle.bson_value.specs.Namespace.{IsSplit}
use Rattle.doc_path.specs.Played.{id_name}
use Rattle.entry_model.specs.declared.entry.Entry.{Entry}
use Rattle.entry_model.specs.declared.entry.Action.{Action, out-Action}
use Rattle.entry_model.specs.declared.entry.Action.TheOpen.{Action-F}
use Rattle.entry_model.specs.Written.{Fields}
use Rattle.entry_model.specs.Touches.{written, touches_read}
use Rattle.entry_model.specs.Spelling.{level_limit, namespace_text, text_of, entry_fields}
use Rattle.entry_model.specs.Reading.{is_whole, entry_of}

-- a collection of a database: neither name is empty, and that of the database has no dot
abbrev pub IsCollection : NsName → Type 0
IsCollection ns = IsSplit (text_of ns) ns.db ns.coll

-- a database alone
abbrev pub IsDatabase : NsName → Type 0
IsDatabase ns = IsSplit (namespace_text ns.db (codes "$cmd")) ns.db (codes "$cmd") × (ns.coll ≡ [])

-- a document `key` and a string `name`
abbrev pub IsDefinition : Fields → Type 0
IsDefinition d = ((key : Fields) × (lookup (codes "key") d ≡ Some (Object key))) × ((name : List ℕ) × (lookup (codes "name") d ≡ Some (Str name)))

abbrev pub IsOneDefinition : List Fields → Type 0
IsOneDefinition [] = ⊥
IsOneDefinition (d ∷ []) = IsDefinition d
IsOneDefinition (d ∷ (e ∷ ds)) = ⊥

-- an action that a group may have
abbrev pub IsPlain : NsName → Action-F Action Entry → Type 0
IsPlain ns Action-F.Nothing = (ns.db ≡ []) × (ns.coll ≡ [])
IsPlain ns (Action-F.Put doc) = IsCollection ns × IsSome (lookup id_name doc)
IsPlain ns (Action-F.Remove id) = IsCollection ns
IsPlain ns (Action-F.Whole id doc) = IsCollection ns × (is_whole doc ≡ true)
IsPlain ns (Action-F.Delta id form touches) = IsCollection ns × (touches_read (suc level_limit) (written form level_limit touches) ≡ Ok (form, touches))
IsPlain ns (Action-F.Create options) = IsCollection ns × IsAbsent (codes "idIndex") (names_of options)
IsPlain ns Action-F.DropColl = IsCollection ns
IsPlain ns Action-F.DropDb = IsDatabase ns
IsPlain ns (Action-F.AddIndexes defs) = IsCollection ns × IsOneDefinition defs
IsPlain ns (Action-F.DropIndex name) = IsCollection ns
IsPlain ns (Action-F.Rename from to) = IsCollection from × IsCollection to × (ns ≡ from)
IsPlain ns (Action-F.Group entries) = ⊥
IsPlain ns (Action-F.Other name) = ⊥

abbrev pub IsItem : Ts → Entry → Type 0
IsItem ts e = (e.ts ≡ ts) × IsPlain e.ns (out-Action e.action)

abbrev pub CanWrite : Ts → NsName → Action-F Action Entry → Type 0
CanWrite ts ns (Action-F.Group entries) = IsDatabase ns × AllByRecursion (IsItem ts) entries
CanWrite ts ns a = IsPlain ns a

abbrev pub IsWritable : Entry → Type 0
IsWritable e = CanWrite e.ts e.ns (out-Action e.action)

-- the document of an entry is read as that entry
abbrev pub ReadsBack : Entry → Type 0
ReadsBack e = entry_of (entry_fields e) ≡ Ok e

abbrev pub WritableReadsBack : Type 0
WritableReadsBack = (e : Entry) → IsWritable e → ReadsBack e
