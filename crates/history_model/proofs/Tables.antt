-- A write keeps rows sound, and is the write on their state.
use Rattle.std.proofs.Common.{◌≡◌, List, [], ◌∷◌, refl, sym, ap, ◌∙◌, Option, Some, None}
use Rattle.std.specs.Prelude.{option_map}
use Rattle.std.specs.FinMap as map
use Rattle.bson_value.specs.declared.namespace.NsName.{NsName}
use Rattle.state_model.specs.States.{Collection}
use Rattle.coll_state.specs.Rows.{Rows, Table, AreSound, collection_of, state_of}
use Rattle.coll_state.specs.Changes.{counted, renamed_in, rename}
use Rattle.coll_state.proofs.Links.{get_collection, rename_link}
use Rattle.coll_state.proofs.Sound.{kept_renamed}
use Rattle.copy_model.specs.Writes.{SingleWrite, change_rows}
use Rattle.copy_model.proofs.RowWrites.{change_link, change_sound}
use Rattle.history_model.specs.Stages.{Write, Single, Rename, Txn, change_all, moved, changed_by, rows_all, rows_by}

all_sound : (ws : List SingleWrite) (r : Rows) → AreSound r → AreSound (rows_all ws r)
all_sound [] r ok = ok
all_sound (w ∷ ws) r ok = all_sound ws (change_rows w r) (change_sound w r ok)

pub write_sound : (w : Write) (r : Rows) → AreSound r → AreSound (rows_by w r)
write_sound (Single w) r ok = change_sound w r ok
write_sound (Rename a b) r ok = kept_renamed r.count r.tables a b ok
write_sound (Txn ws) r ok = all_sound ws r ok

all_link : (ws : List SingleWrite) (r : Rows) → AreSound r → state_of (rows_all ws r) ≡ change_all ws (state_of r)
all_link [] r ok = refl
all_link (w ∷ ws) r ok = all_link ws (change_rows w r) (change_sound w r ok) ∙ ap (change_all ws) (change_link w r ok)

moved_link : (a b : NsName) (r : Rows) (o : Option Table) → map.get r.tables a ≡ o → state_of (rename a b r) ≡ moved a b (map.get (state_of r) a) (state_of r)
moved_link a b r None e =
    ap (λ (o : Option Table). state_of (counted (renamed_in a o b r.count r.tables) r)) e ∙ sym (ap (λ (o : Option Collection). moved a b o (state_of r)) (get_collection r a ∙ ap (option_map collection_of) e))
moved_link a b r (Some t) e =
    rename_link a b t r e ∙ sym (ap (λ (o : Option Collection). moved a b o (state_of r)) (get_collection r a ∙ ap (option_map collection_of) e))

pub write_link : (w : Write) (r : Rows) → AreSound r → state_of (rows_by w r) ≡ changed_by w (state_of r)
write_link (Single w) r ok = change_link w r ok
write_link (Rename a b) r ok = moved_link a b r (map.get r.tables a) refl
write_link (Txn ws) r ok = all_link ws r ok
