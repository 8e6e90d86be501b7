-- What is good can be written.
use Rattle.std.proofs.Common.{◌≡◌, ℕ, List, [], ◌∷◌, Bool, true, false, refl, sym, ap, ◌∙◌, subst, Some, None}
use Rattle.std.specs.Prelude.{codes, map as each, if◌then◌else◌}
use Rattle.std.specs.List.{AllByRecursion}
use Rattle.std.specs.Option.{IsSome}
use Rattle.std.specs.Str.{bytes_eq}
use Rattle.std.proofs.lemmas.Slice.Eq.{bytes_eq-Decides}
use Rattle.containers.specs.Entries.{lookup, IsAbsent, names_of}
use Rattle.bson_value.specs.declared.namespace.NsName.{NsName}
use Rattle.bson_value.specs.declared.value.Value.{Value, Object}
use Rattle.bson_value.specs.declared.value.Ts.{Ts}
use Rattle.doc_path.specs.Played.{id_name}
use Rattle.extjson.specs.Values.{value_of}
use Rattle.extjson.proofs.RoundTrips.{read_back}
use Rattle.bson_value.proofs.WellFormed.{formed_object}
use Rattle.update_model.specs.Updating.{fields_in}
use Rattle.bson_value.specs.declared.value.Value.TheVariants.{outs-Object}
use Rattle.entry_model.specs.declared.entry.Entry.{Entry}
use Rattle.entry_model.specs.declared.entry.Action.{Action, out-Action}
use Rattle.entry_model.specs.declared.entry.Action.TheOpen.{Action-F}
use Rattle.entry_model.specs.declared.entry.Action.TheVariants as actions
use Rattle.entry_model.specs.Written.{Fields}
use Rattle.entry_model.specs.Reading.{is_whole}
use Rattle.entry_model.specs.Writable.{IsPlain, IsItem, IsDefinition, CanWrite, IsWritable, WritableReadsBack}
use Rattle.json_tree.specs.declared.tree.Tree.{Tree}
use Rattle.coll_state.specs.Definitions.{definition_name}
use Rattle.history_model.specs.Documents.{options_of}
use Rattle.history_model.specs.Entries.{Item, Put, Remove, Whole, Delta, Create, DropColl, DropDb, AddIndex, DropIndex, Nothing, One, Rename, Group, fields_read, database, item_entry, entry_at}
use Rattle.recorded_entries.specs.Good.{IsGoodDocument, IsGoodDefinition, IsGoodItem, AreGoodItems}
use Rattle.recorded_entries.specs.Laws.{GoodIsWritable, GoodIsReadBack}
use Rattle.recorded_entries.proofs.Names.{good_split, db_of, alone, admin_alone}

pub none_absent : {A : Type 0} (k : List ℕ) (fs : List (List ℕ × A)) → lookup k fs ≡ None → IsAbsent k (names_of fs)
none_absent k [] e = tt
none_absent k (f ∷ fs) e = by (bytes_eq f.0 k) refl e (λ g. none_absent k fs g)
  where
    by : (b : Bool) → bytes_eq f.0 k ≡ b → (if b then Some f.1 else lookup k fs) ≡ None → (lookup k fs ≡ None → IsAbsent k (names_of fs)) → IsAbsent k (names_of (f ∷ fs))
    by true q g ih = cc
    by false q g ih = ((λ p. (let t : bytes_eq f.0 k ≡ true = (bytes_eq-Decides f.0 k).1 (sym p) in cc)), ih g)

id_there : (id : Value) (d : Fields) → IsGoodDocument id d → IsSome (lookup id_name d)
id_there id d g = subst (λ (z : Fields). IsSome (lookup id_name z)) (sym g.first.1) refl

whole_first : (id : Value) (d : Fields) → IsGoodDocument id d → is_whole d ≡ true
whole_first id d g = ap is_whole g.first.1

-- the definition that a tree is read as
pub definition_fields : (d : Tree) (g : IsGoodDefinition d) → fields_read (value_of d) ≡ g.fields
unfolding options_of
definition_fields d g =
    ap (λ (t : Tree). fields_read (value_of t)) g.tree
    ∙ (ap fields_read (read_back (Object g.fields) (formed_object g.fields g.formed) g.plain)
    ∙ ap fields_in (outs-Object g.fields))

is_definition : (d : Tree) → IsGoodDefinition d → IsDefinition (fields_read (value_of d))
is_definition d g = subst IsDefinition (sym (definition_fields d g)) (g.key, (definition_name d, g.name))

pub item_plain : (ts : Ts) (i : Item) → IsGoodItem i → IsPlain (item_entry ts i).ns (out-Action (item_entry ts i).action)
item_plain ts (Put n id d) g = subst (IsPlain n) (sym (actions.outs-Put d)) (good_split n g.0, id_there id d g.1)
item_plain ts (Remove n id) g = subst (IsPlain n) (sym (actions.outs-Remove id)) (good_split n g.0)
item_plain ts (Whole n id d) g = subst (IsPlain n) (sym (actions.outs-Whole id d)) (good_split n g.0, whole_first id d g.1)
item_plain ts (Delta n id f us) g = subst (IsPlain n) (sym (actions.outs-Delta id f us)) (good_split n g.0, g.2.again)
item_plain ts (Create n o) g = subst (IsPlain n) (sym (actions.outs-Create o)) (good_split n g.0, none_absent (codes "idIndex") o g.1.no_id_index)
item_plain ts (DropColl n) g = subst (IsPlain n) (sym actions.outs-DropColl) (good_split n g)
item_plain ts (DropDb db) g = subst (IsPlain (database db)) (sym actions.outs-DropDb) (alone db (db_of db g))
item_plain ts (AddIndex n d) g = subst (IsPlain n) (sym (actions.outs-AddIndexes (fields_read (value_of d) ∷ []))) (good_split n g.0, is_definition d g.1)
item_plain ts (DropIndex n i) g = subst (IsPlain n) (sym (actions.outs-DropIndex i)) (good_split n g.0)

plain_can : (ts : Ts) (ns : NsName) (f : Action-F Action Entry) → IsPlain ns f → CanWrite ts ns f
plain_can ts ns (Action-F.Group es) h = absurd h
plain_can ts ns Action-F.Nothing h = h
plain_can ts ns (Action-F.Put d) h = h
plain_can ts ns (Action-F.Remove id) h = h
plain_can ts ns (Action-F.Whole id d) h = h
plain_can ts ns (Action-F.Delta id f us) h = h
plain_can ts ns (Action-F.Create o) h = h
plain_can ts ns Action-F.DropColl h = h
plain_can ts ns Action-F.DropDb h = h
plain_can ts ns (Action-F.AddIndexes ds) h = h
plain_can ts ns (Action-F.DropIndex i) h = h
plain_can ts ns (Action-F.Rename a b) h = h
plain_can ts ns (Action-F.Other t) h = h

pub item_ts : (ts : Ts) (i : Item) → (item_entry ts i).ts ≡ ts
item_ts ts (Put n id d) = refl
item_ts ts (Remove n id) = refl
item_ts ts (Whole n id d) = refl
item_ts ts (Delta n id f us) = refl
item_ts ts (Create n o) = refl
item_ts ts (DropColl n) = refl
item_ts ts (DropDb db) = refl
item_ts ts (AddIndex n d) = refl
item_ts ts (DropIndex n i) = refl

items_plain : (ts : Ts) (is : List Item) → AreGoodItems is → AllByRecursion (IsItem ts) (each (item_entry ts) is)
items_plain ts [] g = tt
items_plain ts (i ∷ is) g = ((item_ts ts i, item_plain ts i g.0), items_plain ts is g.1)

item_can : (ts : Ts) (i : Item) → IsGoodItem i → IsWritable (item_entry ts i)
item_can ts i g = plain_can (item_entry ts i).ts (item_entry ts i).ns (out-Action (item_entry ts i).action) (item_plain ts i g)

pub good_writable : GoodIsWritable
good_writable ts Nothing g = subst (CanWrite ts (database [])) (sym actions.outs-Nothing) (refl, refl)
good_writable ts (One i) g = item_can ts i g
good_writable ts (Rename a b) g = subst (CanWrite ts a) (sym (actions.outs-Rename a b)) (good_split a g.0, good_split b g.1, refl)
good_writable ts (Group is) g = subst (CanWrite ts (database (codes "admin"))) (sym (actions.outs-Group (each (item_entry ts) is))) (admin_alone, items_plain ts is g.0)

pub good_read : WritableReadsBack → GoodIsReadBack
good_read back ts c g = back (entry_at ts c) (good_writable ts c g)
