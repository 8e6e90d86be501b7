-- The moves of an entry are those of what was recorded.
use Rattle.std.proofs.Common.{◌≡◌, ℕ, List, [], ◌∷◌, ◌++◌, Bool, false, map as each, refl, sym, ap, ◌∙◌, append_assoc, Some}
use Rattle.std.specs.Prelude.{codes, if◌then◌else◌}
use Rattle.std.specs.Str.{bytes_eq}
use Rattle.std.proofs.lemmas.Slice.Eq.{bytes_eq-Decides}
use Rattle.std.proofs.lemmas.Bool.{cases_Bool}
use Rattle.std.proofs.Common.{inl, inr}
use Rattle.bson_value.specs.declared.namespace.NsName.{NsName}
use Rattle.bson_value.specs.declared.value.Value.{Value, Object}
use Rattle.bson_value.specs.declared.value.Ts.{Ts}
use Rattle.bson_encode.specs.Key.{key_of}
use Rattle.doc_path.specs.declared.parts.Form.{Form}
use Rattle.doc_path.specs.declared.touches.Touch.{Touch}
use Rattle.doc_path.specs.Played.{touch_of}
use Rattle.json_tree.specs.declared.tree.Tree.{Tree}
use Rattle.extjson.specs.Values.{value_of}
use Rattle.state_model.specs.Keys.{Key}
use Rattle.state_model.specs.Moves.{Move}
use Rattle.state_model.specs.Moves as moves
use Rattle.state_model.specs.Windows.{joined}
use Rattle.coll_state.specs.Rows.{Document as Fields, id_of}
use Rattle.coll_state.specs.Definitions.{definition_name}
use Rattle.copy_model.specs.Writes as copies
use Rattle.entry_model.specs.declared.entry.Entry.{Entry}
use Rattle.entry_model.specs.declared.entry.Action.{out-Action}
use Rattle.entry_model.specs.declared.entry.Action.TheVariants as actions
use Rattle.entry_model.specs.Edits.{gathered}
use Rattle.replay.specs.Moves.{Step, is_config, put_moves, with_id, deltas, normal_of, definition_moves, steps_of, moves_of, options_of as replayed_options}
use Rattle.replay.proofs.Folds.{Level, steps_below, steps_is}
use Rattle.index_keys.specs.Definition.{normal}
use Rattle.history_model.specs.Documents.{options_of}
use Rattle.history_model.specs.Entries.{Item, Put, Remove, Whole, Delta, Create, DropColl, DropDb, AddIndex, DropIndex, Nothing, One, Rename, Group, item_moves, fields_read, item_entry, entry_at}
use Rattle.recorded_entries.specs.Good.{IsGoodDocument, IsGoodDefinition, IsGoodItem, AreGoodItems}
use Rattle.replayed_entries.specs.Laws.{GoodMovesAre}
use Rattle.recorded_entries.proofs.Names.{good_config, db_of}
use Rattle.recorded_entries.proofs.Written.{definition_fields}
use Rattle.history_model.proofs.Torn.{append_none as append_nil}

-- outside of `config`, by what the action says
steps_at : (e : Entry) (a : Level) → is_config e.ns ≡ false → out-Action e.action ≡ a → moves_of e ≡ joined (steps_below e.ns a)
steps_at e a c o =
    ap joined (steps_is e ∙ (ap (λ (b : Bool). if b then [] else steps_below e.ns (out-Action e.action)) c ∙ ap (steps_below e.ns) o))

deltas_are : (n : NsName) (k : Key) (f : Form) (us : List Touch) → deltas n k f us ≡ copies.deltas n k f (each touch_of us)
deltas_are n k f [] = refl
deltas_are n k f (u ∷ us) = ap (λ (z : List Move). moves.Delta n k f (touch_of u) ∷ z) (deltas_are n k f us)

pub id_is : (id : Value) (d : Fields) → IsGoodDocument id d → id_of d ≡ Some id
id_is id d g = ap id_of g.first.1

pub id_stays : (id : Value) (d : Fields) → IsGoodDocument id d → with_id id d ≡ d
id_stays id d g = ap (with_id id) g.first.1 ∙ sym g.first.1

options_are : (o : Fields) → replayed_options o ≡ options_of o
unfolding replayed_options options_of
options_are o = refl

normal_are : (d : Tree) (g : IsGoodDefinition d) → normal_of (fields_read (value_of d)) ≡ Some d
unfolding normal_of options_of
normal_are d g = ap normal_of (definition_fields d g) ∙ (ap normal (sym g.tree) ∙ g.normal_form)

not_other : (a b : List ℕ) → (a ≡ b → ⊥) → bytes_eq a b ≡ false
not_other a b h = elim (cases_Bool (bytes_eq a b)) [ inl e ↦ absurd (h ((bytes_eq-Decides a b).0 e)) | inr e ↦ e ]

definition_step : (n : NsName) (d : Tree) → IsGoodDefinition d → definition_moves n (normal_of (fields_read (value_of d))) ≡ moves.AddIndex n (definition_name d) d ∷ []
definition_step n d g =
    ap (definition_moves n) (normal_are d g)
    ∙ ap (λ (b : Bool). if b then [] else moves.AddIndex n (definition_name d) d ∷ []) (not_other (definition_name d) (codes "_id_") g.other)

item_moves_are : (ts : Ts) (i : Item) → IsGoodItem i → moves_of (item_entry ts i) ≡ item_moves i
item_moves_are ts (Put n id d) g = steps_at (item_entry ts (Put n id d)) _ (good_config n g.0) (actions.outs-Put d) ∙ (append_nil (put_moves n d (id_of d)) ∙ ap (put_moves n d) (id_is id d g.1))
item_moves_are ts (Remove n id) g = steps_at (item_entry ts (Remove n id)) _ (good_config n g.0) (actions.outs-Remove id)
item_moves_are ts (Whole n id d) g = steps_at (item_entry ts (Whole n id d)) _ (good_config n g.0) (actions.outs-Whole id d) ∙ ap (λ (x : Fields). moves.Whole n (key_of id) (Object x) ∷ []) (id_stays id d g.1)
item_moves_are ts (Delta n id f us) g = steps_at (item_entry ts (Delta n id f us)) _ (good_config n g.0) (actions.outs-Delta id f us) ∙ (append_nil (deltas n (key_of id) f us) ∙ deltas_are n (key_of id) f us)
item_moves_are ts (Create n o) g = steps_at (item_entry ts (Create n o)) _ (good_config n g.0) (actions.outs-Create o) ∙ ap (λ (t : Tree). moves.Create n t ∷ []) (options_are o)
item_moves_are ts (DropColl n) g = steps_at (item_entry ts (DropColl n)) _ (good_config n g) actions.outs-DropColl
item_moves_are ts (DropDb db) g = steps_at (item_entry ts (DropDb db)) _ (db_of db g).other actions.outs-DropDb
item_moves_are ts (AddIndex n d) g =
    steps_at (item_entry ts (AddIndex n d)) _ (good_config n g.0) (actions.outs-AddIndexes (fields_read (value_of d) ∷ []))
    ∙ (append_nil (definition_moves n (normal_of (fields_read (value_of d)))) ∙ definition_step n d g.1)
item_moves_are ts (DropIndex n i) g = steps_at (item_entry ts (DropIndex n i)) _ (good_config n g.0) (actions.outs-DropIndex i)

joined_append : (xs ys : List Step) → joined (xs ++ ys) ≡ joined xs ++ joined ys
joined_append [] ys = refl
joined_append (x ∷ xs) ys = ap (λ (z : List Move). x ++ z) (joined_append xs ys) ∙ sym (append_assoc x (joined xs) (joined ys))

group_moves : (ts : Ts) (is : List Item) → AreGoodItems is → joined (gathered steps_of (each (item_entry ts) is)) ≡ joined (each item_moves is)
group_moves ts [] g = refl
group_moves ts (i ∷ is) g =
    let a = item_moves_are ts i g.0 in
    let b = group_moves ts is g.1 in
    joined_append (steps_of (item_entry ts i)) (gathered steps_of (each (item_entry ts) is)) ∙ (λ j. a j ++ b j)

pub moves_are : GoodMovesAre
moves_are ts Nothing g = steps_at (entry_at ts Nothing) _ refl actions.outs-Nothing
moves_are ts (One i) g = item_moves_are ts i g
moves_are ts (Rename a b) g = steps_at (entry_at ts (Rename a b)) _ (good_config a g.0) (actions.outs-Rename a b)
moves_are ts (Group is) g = steps_at (entry_at ts (Group is)) _ refl (actions.outs-Group (each (item_entry ts) is)) ∙ group_moves ts is g.0
