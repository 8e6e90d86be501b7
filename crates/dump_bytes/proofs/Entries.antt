-- The documents of entries are well-formed.
use Rattle.std.proofs.Common.{map, sym, ap, subst}
use Rattle.bson_value.specs.declared.value.Ts.{Ts}
use Rattle.bson_value.specs.WellFormed.{IsWellFormedDocument}
use Rattle.std.specs.Prelude.{[], codes}
use Rattle.entry_model.specs.declared.entry.Entry.{Entry}
use Rattle.entry_model.specs.declared.entry.Action.{Action}
use Rattle.entry_model.specs.declared.entry.Action.TheOpen.{Action-F}
use Rattle.entry_model.specs.declared.entry.Action.TheVariants as actions
use Rattle.entry_model.specs.Spelling.{Body, body_at, item_value, body_of, entry_fields}
use Rattle.entry_documents.specs.Laws.{fields_at, FitsStamp}
use Rattle.entry_documents.proofs.Documents.{entries_are}
use Rattle.history_model.specs.Entries.{Content, Nothing, One, Rename, Group, database, item_entry, entry_at}
use Rattle.recorded_entries.specs.Good.{IsGood}
use Rattle.recorded_entries.proofs.Written.{item_ts}
use Rattle.entry_bytes.proofs.Bodies.{IsSmallBody, item_small, group_body, rename_small, nothing_small}

small_formed : (ts : Ts) (b : Body) → FitsStamp ts → IsSmallBody b → IsWellFormedDocument (fields_at ts b)
small_formed ts b f h = entries_are ts b f h.formed

pub entry_formed : (ts : Ts) (c : Content) → FitsStamp ts → IsGood c → IsWellFormedDocument (entry_fields (entry_at ts c))
entry_formed ts Nothing f g =
    small_formed ts (body_of (entry_at ts Nothing)) f (subst (λ (x : Action-F Action Entry). IsSmallBody (body_at (map item_value) (database []) x)) (sym actions.outs-Nothing) nothing_small)
entry_formed ts (One i) f g = small_formed (item_entry ts i).ts (body_of (item_entry ts i)) (subst FitsStamp (sym (item_ts ts i)) f) (item_small (map item_value) ts i g)
entry_formed ts (Rename a b) f g =
    small_formed ts (body_of (entry_at ts (Rename a b))) f (subst (λ (x : Action-F Action Entry). IsSmallBody (body_at (map item_value) a x)) (sym (actions.outs-Rename a b)) (rename_small a b g.0 g.1))
entry_formed ts (Group is) f g =
    subst (λ (b : Body). IsWellFormedDocument (fields_at ts b)) (sym (ap (body_at (map item_value) (database (codes "admin"))) (actions.outs-Group (map (item_entry ts) is)))) (entries_are ts _ f (group_body ts is g.0))
