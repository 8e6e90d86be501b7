-- What an accepted command makes of a store.
use Rattle.std.proofs.Common.{◌≡◌, ℕ, List, [], ◌∷◌, refl, sym, ap, ◌∙◌, subst, Ok}
use Rattle.bson_value.specs.declared.namespace.NsName.{NsName}
use Rattle.bson_value.specs.declared.value.Ts.{Ts}
use Rattle.bson_value.specs.Spelling.{document_text}
use Rattle.entry_model.specs.Spelling.{entry_fields}
use Rattle.coll_state.specs.Rows.{Rows}
use Rattle.coll_state.specs.Changes.{rename}
use Rattle.copy_model.specs.Writes.{SingleWrite, change_rows}
use Rattle.schedule_model.specs.declared.command.Command.{Command}
use Rattle.history_model.specs.Entries.{Item, One, entry_at, entry_bytes}
use Rattle.history_model.specs.Entries as entries
use Rattle.history_model.specs.Stages.{Single, Effect, Stage, Made, stage_after, made_in, rows_by}
use Rattle.history_model.specs.Stages as stages
use Rattle.history_model.specs.Indexes.{IndexesHold}
use Rattle.history_model.specs.Commands.{only, effects, set_by, answered}
use Rattle.history_model.proofs.IndexesHeld.{applied_holds}
use Rattle.history_model.proofs.Inductive.{told_same}
use Rattle.store_log.specs.Logged.{Logged, next_ts, logged}
use Rattle.store_core.specs.Stores.{Stored}
use Rattle.store_core.specs.Applying.{Makes, stage_in, stored_set, stored_after, with_rename}
use Rattle.store_core.proofs.Bytes.{entry_text}

-- ---- the indexes hold after it

rows_of_effects : List Effect → Rows → Rows
rows_of_effects [] r = r
rows_of_effects (d ∷ ds) r = rows_of_effects ds (rows_by d.0 r)

after_rows : (ds : List Effect) (st : Stage) → (stage_after ds st).rows ≡ rows_of_effects ds st.rows
unfolding rows_of_effects
after_rows [] st = refl
after_rows (d ∷ ds) st = after_rows ds (stages.stage_by d st)

holds_after : (c : Command) (s : Stored) (ds : List Effect) → IndexesHold s.rows → effects c (stage_in s) ≡ Ok ds → IndexesHold (rows_of_effects ds s.rows)
holds_after c s ds h e =
    (let st = stage_in s in
    subst IndexesHold (after_rows ds (set_by c st) ∙ ap (rows_of_effects ds) (told_same c st))
    (applied_holds c st (stage_after ds (set_by c st), made_in ds (set_by c st)) (ap (answered (set_by c st)) e) h))

pub holds_one : (c : Command) (s : Stored) (w : SingleWrite) (i : Item) → IndexesHold s.rows → effects c (stage_in s) ≡ Ok (only w i) → IndexesHold (change_rows w s.rows)
unfolding rows_of_effects
holds_one c s w i h e = holds_after c s (only w i) h e

pub holds_two : (c : Command) (s : Stored) (w v : SingleWrite) (i j : Item) → IndexesHold s.rows → effects c (stage_in s) ≡ Ok ((Single w, One i) ∷ (Single v, One j) ∷ []) → IndexesHold (change_rows v (change_rows w s.rows))
unfolding rows_of_effects
holds_two c s w v i j h e = holds_after c s ((Single w, One i) ∷ (Single v, One j) ∷ []) h e

pub holds_renamed : (c : Command) (s : Stored) (a b : NsName) → IndexesHold s.rows → effects c (stage_in s) ≡ Ok ((stages.Rename a b, entries.Rename a b) ∷ []) → IndexesHold (rename a b s.rows)
unfolding rows_of_effects
holds_renamed c s a b h e = holds_after c s ((stages.Rename a b, entries.Rename a b) ∷ []) h e

pub holds_group : (c : Command) (s : Stored) (ws : List SingleWrite) (is : List Item) → IndexesHold s.rows → effects c (stage_in s) ≡ Ok ((stages.Txn ws, entries.Group is) ∷ []) → IndexesHold (stages.rows_all ws s.rows)
unfolding rows_of_effects
holds_group c s ws is h e = holds_after c s ((stages.Txn ws, entries.Group is) ∷ []) h e

-- ---- the store after it

-- the entry's bytes, where its timestamp is the next one
pub bytes_at : (ts : Ts) (l : Logged) (c : entries.Content) (b : List ℕ) → ts ≡ next_ts l.clock l.newest → b ≡ document_text (entry_fields (entry_at ts c)) → b ≡ entry_bytes (record { ts = next_ts l.clock l.newest; content = c })
bytes_at ts l c b e f = f ∙ (ap (λ (z : Ts). document_text (entry_fields (entry_at z c))) e ∙ entry_text (next_ts l.clock l.newest) c)

pub made_one : (c : Command) (w : SingleWrite) (i : Item) (old new : Stored) (bytes : List ℕ) (ts : Ts) → stored_set c old ≡ old → effects c (stage_in old) ≡ Ok (only w i) → ts ≡ next_ts old.log.clock old.log.newest →
    bytes ≡ document_text (entry_fields (entry_at ts (One i))) → new ≡ record { rows = change_rows w old.rows; log = logged bytes old.log } → Makes c old 1 new
made_one c w i old new bytes ts same e t b f =
    record {
      deeds = only w i;
      accepted = e;
      number = refl;
      made = f ∙ (ap (λ (z : List ℕ). record { rows = change_rows w old.rows; log = logged z old.log }) (bytes_at ts old.log (One i) bytes t b) ∙ ap (stored_after (only w i)) (sym same));
    }

pub made_two : (c : Command) (w v : SingleWrite) (i j : Item) (old new : Stored) (first second : List ℕ) (ts later : Ts) → stored_set c old ≡ old → effects c (stage_in old) ≡ Ok ((Single w, One i) ∷ (Single v, One j) ∷ []) →
    ts ≡ next_ts old.log.clock old.log.newest → later ≡ next_ts old.log.clock (next_ts old.log.clock old.log.newest) → first ≡ document_text (entry_fields (entry_at ts (One i))) → second ≡ document_text (entry_fields (entry_at later (One j))) →
    new ≡ record { rows = change_rows v (change_rows w old.rows); log = logged second (logged first old.log) } → Makes c old 2 new
made_two c w v i j old new first second ts later same e t u b d f =
    (let ds : List Effect = (Single w, One i) ∷ (Single v, One j) ∷ [] in
    let a = bytes_at ts old.log (One i) first t b in
    let mid = logged (entry_bytes (record { ts = next_ts old.log.clock old.log.newest; content = One i })) old.log in
    let z = bytes_at later mid (One j) second u d in
    record {
      deeds = ds;
      accepted = e;
      number = refl;
      made = f ∙ ((λ n. record { rows = change_rows v (change_rows w old.rows); log = logged (z n) (logged (a n) old.log) }) ∙ ap (stored_after ds) (sym same));
    })

pub made_renamed : (c : Command) (a b : NsName) (old new : Stored) (bytes : List ℕ) (ts : Ts) → stored_set c old ≡ old → effects c (stage_in old) ≡ Ok ((stages.Rename a b, entries.Rename a b) ∷ []) → ts ≡ next_ts old.log.clock old.log.newest →
    bytes ≡ document_text (entry_fields (entry_at ts (entries.Rename a b))) → new ≡ record { rows = rename a b old.rows; log = with_rename (logged bytes old.log) } → Makes c old 1 new
made_renamed c a b old new bytes ts same e t d f =
    (let ds : List Effect = (stages.Rename a b, entries.Rename a b) ∷ [] in
    record {
      deeds = ds;
      accepted = e;
      number = refl;
      made = f ∙ (ap (λ (z : List ℕ). record { rows = rename a b old.rows; log = with_rename (logged z old.log) }) (bytes_at ts old.log (entries.Rename a b) bytes t d) ∙ ap (stored_after ds) (sym same));
    })
