-- No entry but a rename is refused.
use Rattle.std.proofs.Common.{◌≡◌, List, [], ◌∷◌, Bool, true, false, map, refl, ap, ◌∙◌, Option, None}
use Rattle.std.specs.Prelude.{if◌then◌else◌}
use Rattle.bson_value.specs.declared.value.Ts.{Ts}
use Rattle.extjson.specs.Values.{value_of}
use Rattle.entry_model.specs.declared.entry.Entry.{Entry}
use Rattle.entry_model.specs.declared.entry.Action.{out-Action}
use Rattle.entry_model.specs.declared.entry.Action.TheVariants as actions
use Rattle.replay.specs.declared.fault.ReplayFault.{ReplayFault}
use Rattle.replay.specs.Moves.{is_config}
use Rattle.replay.specs.Refusals.{first, first_refused}
use Rattle.replay.proofs.Folds.{Level, refused_below, refused_is}
use Rattle.history_model.specs.Entries.{Item, Put, Remove, Whole, Delta, Create, DropColl, DropDb, AddIndex, DropIndex, Nothing, One, Rename, Group, fields_read, item_entry, entry_at}
use Rattle.replayed_entries.specs.Laws.{GoodIsPlayed}

neither : (o : Option ReplayFault) (b : Bool) → o ≡ None → (if b then None else o) ≡ None
neither o true e = refl
neither o false e = e

refused_at : (e : Entry) (a : Level) → out-Action e.action ≡ a → refused_below e.ts a ≡ None → first_refused e ≡ None
refused_at e a o h = refused_is e ∙ (ap (λ (x : Level). if is_config e.ns then None else refused_below e.ts x) o ∙ neither (refused_below e.ts a) (is_config e.ns) h)

item_played : (ts : Ts) (i : Item) → first_refused (item_entry ts i) ≡ None
item_played ts (Put n id d) = refused_at (item_entry ts (Put n id d)) _ (actions.outs-Put d) refl
item_played ts (Remove n id) = refused_at (item_entry ts (Remove n id)) _ (actions.outs-Remove id) refl
item_played ts (Whole n id d) = refused_at (item_entry ts (Whole n id d)) _ (actions.outs-Whole id d) refl
item_played ts (Delta n id f us) = refused_at (item_entry ts (Delta n id f us)) _ (actions.outs-Delta id f us) refl
item_played ts (Create n o) = refused_at (item_entry ts (Create n o)) _ (actions.outs-Create o) refl
item_played ts (DropColl n) = refused_at (item_entry ts (DropColl n)) _ actions.outs-DropColl refl
item_played ts (DropDb db) = refused_at (item_entry ts (DropDb db)) _ actions.outs-DropDb refl
item_played ts (AddIndex n d) = refused_at (item_entry ts (AddIndex n d)) _ (actions.outs-AddIndexes (fields_read (value_of d) ∷ [])) refl
item_played ts (DropIndex n i) = refused_at (item_entry ts (DropIndex n i)) _ (actions.outs-DropIndex i) refl

items_played : (ts : Ts) (is : List Item) → first (map first_refused (map (item_entry ts) is)) ≡ None
items_played ts [] = refl
items_played ts (i ∷ is) = ap (λ (o : Option ReplayFault). first (o ∷ map first_refused (map (item_entry ts) is))) (item_played ts i) ∙ items_played ts is

pub good_played : GoodIsPlayed
good_played ts Nothing h = refused_at (entry_at ts Nothing) _ actions.outs-Nothing refl
good_played ts (One i) h = item_played ts i
good_played ts (Rename a b) h = absurd h
good_played ts (Group is) h = refused_at (entry_at ts (Group is)) _ (actions.outs-Group (map (item_entry ts) is)) (items_played ts is)
