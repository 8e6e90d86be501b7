-- What holds of a stage and of all that was made still holds after a command.
use Rattle.std.proofs.Common.{◌≡◌, ℕ, zero, suc, ◌-◌, List, [], ◌∷◌, ◌++◌, true, false, refl, sym, ap, ◌∙◌, subst, Option, Some, Result, Ok, Err, inl, inr, append_assoc}
use Rattle.std.specs.Prelude.{◌⊎◌}
use Rattle.std.specs.FinMap as map
use Rattle.bson_value.specs.declared.namespace.NsName.{NsName}
use Rattle.bson_value.specs.declared.value.Ts.{Ts}
use Rattle.bson_value.specs.NamespaceOrder.{namespace_cmp}
use Rattle.state_model.specs.States.{State}
use Rattle.coll_state.specs.Rows.{Table, Rows, AreSound, state_of}
use Rattle.coll_state.specs.Changes.{no_rows}
use Rattle.schedule_model.specs.declared.command.Command.{Command}
use Rattle.schedule_model.specs.declared.command.Command.TheVariants as commands
use Rattle.schedule_model.specs.declared.refused.Refused.{Refused}
use Rattle.history_model.specs.Entries.{Content, size_of}
use Rattle.history_model.specs.Stages.{Write, Single, Rename, Txn, changed_by, rows_by, earlier, first_ts, Caps, Oplog, kept_behind, kept, Stage, Made, entry_of, next_ts, renamed_by, Effect, made_of, stage_by, stage_after, made_in}
use Rattle.history_model.specs.Commands.{effects, set_by, answered, applied}
use Rattle.history_model.specs.Runs.{first_entry, first_stage, newest_first}
use Rattle.history_model.specs.Histories.{history_of, state_from}
use Rattle.history_model.specs.Recordings.{IsRecordedBy, AllMade, rows_of_made, EachMade, OfRename}
use Rattle.history_model.specs.Invariants.{RisesTo, UpTo, RenamesUpTo, Holds}
use Rattle.update_records.specs.Laws.{UpdatesRecord}
use Rattle.history_model.specs.WellFormed.{IsWellFormedCommand}
use Rattle.history_model.proofs.WellFormed.{IsWellFormedWrite, AreWellFormedEffects, write_formed, nothing_formed, effects_formed}
use Rattle.std.specs.Prelude.{option_map}
use Rattle.state_model.specs.States.{Collection}
use Rattle.state_model.proofs.Maps.{ns_map_same}
use Rattle.coll_state.specs.Rows.{collection_of}
use Rattle.coll_state.proofs.Links.{get_collection}
use Rattle.history_model.proofs.Tables.{write_sound, write_link}
use Rattle.history_model.proofs.Accepted.{EffectsOk, command_ok, same_ok}
use Rattle.history_model.proofs.Order.{next_later, earlier_trans, earlier_turn, earlier_not, earlier_below}
use Rattle.history_model.proofs.RingKept.{kept_again}

made_snoc : (ms : List Made) (m : Made) (r : Rows) → AllMade ms r → IsRecordedBy m.write m.content (rows_of_made ms r) → AllMade (ms ++ (m ∷ [])) r
made_snoc [] m r a h = (h, tt)
made_snoc (x ∷ ms) m r a h = (a.0, made_snoc ms m (rows_by x.write r) a.1 h)

rows_snoc : (ms : List Made) (m : Made) (r : Rows) → rows_of_made (ms ++ (m ∷ [])) r ≡ rows_by m.write (rows_of_made ms r)
rows_snoc [] m r = refl
rows_snoc (x ∷ ms) m r = rows_snoc ms m (rows_by x.write r)

pub rises_snoc : (ms : List Made) (m : Made) (low mid : Ts) → RisesTo low ms mid → earlier mid m.ts ≡ true → RisesTo low (ms ++ (m ∷ [])) m.ts
rises_snoc [] m low mid a h = (subst (λ (z : Ts). earlier z m.ts ≡ true) (sym a) h, refl)
rises_snoc (x ∷ ms) m low mid a h = (a.0, rises_snoc ms m x.ts mid a.1 h)

state_snoc : (ms : List Made) (m : Made) (s : State) → state_from s (history_of (ms ++ (m ∷ []))) ≡ changed_by m.write (state_from s (history_of ms))
state_snoc [] m s = refl
state_snoc (x ∷ ms) m s = state_snoc ms m (changed_by x.write s)

pub newest_snoc : (ms : List Made) (m : Made) (es : Oplog) → newest_first (ms ++ (m ∷ [])) es ≡ entry_of m ∷ newest_first ms es
newest_snoc [] m es = refl
newest_snoc (x ∷ ms) m es = newest_snoc ms m (entry_of x ∷ es)

pub each_map : (P Q : Made → Type 0) → ((m : Made) → P m → Q m) → (ms : List Made) → EachMade P ms → EachMade Q ms
each_map P Q f [] h = tt
each_map P Q f (m ∷ ms) h = (f m h.0, each_map P Q f ms h.1)

pub each_both : (P Q R : Made → Type 0) → ((m : Made) → P m → Q m → R m) → (ms : List Made) → EachMade P ms → EachMade Q ms → EachMade R ms
each_both P Q R f [] h g = tt
each_both P Q R f (m ∷ ms) h g = (f m h.0 g.0, each_both P Q R f ms h.1 g.1)

pub each_join : (P : Made → Type 0) (ms ns : List Made) → EachMade P ms → EachMade P ns → EachMade P (ms ++ ns)
each_join P [] ns h g = g
each_join P (m ∷ ms) ns h g = (h.0, each_join P ms ns h.1 g)

-- from the first moment to the last
pub rises_on : (ms : List Made) (low high : Ts) → RisesTo low ms high → (low ≡ high) ⊎ (earlier low high ≡ true)
rises_on [] low high h = inl h
rises_on (m ∷ ms) low high h = by (rises_on ms m.ts high h.1)
  where
    by : (m.ts ≡ high) ⊎ (earlier m.ts high ≡ true) → (low ≡ high) ⊎ (earlier low high ≡ true)
    by (inl e) = inr (subst (λ (z : Ts). earlier low z ≡ true) e h.0)
    by (inr e) = inr (earlier_trans low m.ts high h.0 e)

pub not_above : (a b : Ts) → (a ≡ b) ⊎ (earlier a b ≡ true) → earlier b a ≡ false
not_above a b (inl e) = subst (λ (z : Ts). earlier z a ≡ false) e (earlier_not a)
not_above a b (inr e) = earlier_turn a b e

-- nothing that was made is later than the newest
pub none_above : (ms : List Made) (low high : Ts) → RisesTo low ms high → EachMade (λ (m : Made). earlier high m.ts ≡ false) ms
none_above [] low high h = tt
none_above (m ∷ ms) low high h = (not_above m.ts high (rises_on ms m.ts high h.1), none_above ms m.ts high h.1)

-- and all is behind what it begins with
pub all_above : (ms : List Made) (low high : Ts) → RisesTo low ms high → EachMade (λ (m : Made). earlier low m.ts ≡ true) ms
all_above [] low high h = tt
all_above (m ∷ ms) low high h = (h.0, each_map (λ (x : Made). earlier m.ts x.ts ≡ true) (λ (x : Made). earlier low x.ts ≡ true) (λ x g. earlier_trans low m.ts x.ts h.0 g) ms (all_above ms m.ts high h.1))

pub of_rename : (w : Write) (P Q : Type 0) → (P → Q) → OfRename w P → OfRename w Q
of_rename (Rename a b) P Q f h = f h
of_rename (Single w) P Q f h = tt
of_rename (Txn ws) P Q f h = tt

pub always : (w : Write) (P : Type 0) → P → OfRename w P
always (Rename a b) P h = h
always (Single w) P h = tt
always (Txn ws) P h = tt

pub renamed_more : (w : Write) (ts : Ts) (o : Option Ts) (e : Content) (made : List Made) (low high : Ts) → RisesTo low made high → earlier high ts ≡ true → RenamesUpTo o made → RenamesUpTo (renamed_by w ts o) (made ++ (record { ts = ts; write = w; content = e } ∷ []))
renamed_more (Single w) ts o e made low high r l h = each_join (λ (m : Made). OfRename m.write (UpTo o m.ts)) made _ h (tt, tt)
renamed_more (Txn ws) ts o e made low high r l h = each_join (λ (m : Made). OfRename m.write (UpTo o m.ts)) made _ h (tt, tt)
renamed_more (Rename a b) ts o e made low high r l h =
    each_join (λ (m : Made). OfRename m.write (UpTo (Some ts) m.ts)) made _
    (each_map (λ (m : Made). earlier high m.ts ≡ false) (λ (m : Made). OfRename m.write (UpTo (Some ts) m.ts)) (λ m g. always m.write (UpTo (Some ts) m.ts) (below m g)) made (none_above made low high r))
    (earlier_not ts, tt)
  where
    below : (m : Made) → earlier high m.ts ≡ false → earlier ts m.ts ≡ false
    below m g = earlier_turn m.ts ts (earlier_below high m.ts ts g l)

one_more : (c : Caps) (d : Effect) (st : Stage) (made : List Made) → Holds c st made → IsWellFormedWrite d.0 → IsRecordedBy d.0 d.1 st.rows → Holds c (stage_by d st) (made ++ (made_of d st ∷ []))
one_more c d st made h w r = record {
  sound = write_sound d.0 st.rows h.sound;
  formed = write_formed d.0 st.rows w h.formed;
  recorded = made_snoc made (made_of d st) no_rows h.recorded (subst (λ (z : Rows). IsRecordedBy d.0 d.1 z) (sym h.rows) r);
  rows = rows_snoc made (made_of d st) no_rows ∙ ap (rows_by d.0) h.rows;
  rises = rises_snoc made (made_of d st) first_ts st.newest h.rises (next_later st);
  state = write_link d.0 st.rows h.sound ∙ (ap (changed_by d.0) h.state ∙ sym (state_snoc made (made_of d st) map.empty));
  caps = h.caps;
  oplog = ap (λ (z : Caps). kept z (entry_of (made_of d st) ∷ st.oplog)) h.caps
      ∙ (ap (λ (z : Oplog). kept c (entry_of (made_of d st) ∷ z)) h.oplog
      ∙ (kept_again c (entry_of (made_of d st)) (newest_first made (first_entry ∷ []))
      ∙ ap (kept c) (sym (newest_snoc made (made_of d st) (first_entry ∷ [])))));
  renamed = renamed_more d.0 (next_ts st) st.renamed d.1 made first_ts st.newest h.rises (next_later st) h.renamed;
}

append_nil : (xs : List Made) → xs ++ [] ≡ xs
append_nil [] = refl
append_nil (x ∷ xs) = ap (λ (z : List Made). x ∷ z) (append_nil xs)

nothing_behind : (n : ℕ) (b : Option ℕ) (s : ℕ) → kept_behind n b s [] ≡ []
nothing_behind zero b s = refl
nothing_behind (suc n) b s = refl

many_more : (c : Caps) (ds : List Effect) (st : Stage) (made : List Made) → Holds c st made → AreWellFormedEffects ds → EffectsOk ds st.rows → Holds c (stage_after ds st) (made ++ made_in ds st)
many_more c [] st made h w r = subst (λ (z : List Made). Holds c st z) (sym (append_nil made)) h
many_more c (d ∷ ds) st made h w r =
    subst (λ (z : List Made). Holds c (stage_after ds (stage_by d st)) z) (append_assoc made (made_of d st ∷ []) (made_in ds (stage_by d st)))
    (many_more c ds (stage_by d st) (made ++ (made_of d st ∷ [])) (one_more c d st made h w.0 r.0) w.1 r.1)

told_holds : (c : Caps) (k : Command) (st : Stage) (made : List Made) → Holds c st made → Holds c (set_by k st) made
told_holds c (commands.At s) st made h = record { sound = h.sound; formed = h.formed; recorded = h.recorded; rows = h.rows; rises = h.rises; state = h.state; caps = h.caps; oplog = h.oplog; renamed = h.renamed }
told_holds c (commands.Recording f) st made h = record { sound = h.sound; formed = h.formed; recorded = h.recorded; rows = h.rows; rises = h.rises; state = h.state; caps = h.caps; oplog = h.oplog; renamed = h.renamed }
told_holds c (commands.Create n o) st made h = h
told_holds c (commands.DropColl n) st made h = h
told_holds c (commands.DropDatabase db) st made h = h
told_holds c (commands.Rename a b) st made h = h
told_holds c (commands.Document d) st made h = h
told_holds c (commands.CreateIndex n d) st made h = h
told_holds c (commands.DropIndex n i) st made h = h
told_holds c (commands.Txn cs) st made h = h

pub told_same : (k : Command) (st : Stage) → (set_by k st).rows ≡ st.rows
told_same (commands.At s) st = refl
told_same (commands.Recording f) st = refl
told_same (commands.Create n o) st = refl
told_same (commands.DropColl n) st = refl
told_same (commands.DropDatabase db) st = refl
told_same (commands.Rename a b) st = refl
told_same (commands.Document d) st = refl
told_same (commands.CreateIndex n d) st = refl
told_same (commands.DropIndex n i) st = refl
told_same (commands.Txn cs) st = refl

pub taken_holds : UpdatesRecord → (c : Caps) (k : Command) (st : Stage) (made : List Made) (x : Stage × List Made) → IsWellFormedCommand k → Holds c st made → applied k st ≡ Ok x → Holds c x.0 (made ++ x.1)
taken_holds sound c k st made x w h e = by (effects k st) refl e
  where
    by : (y : Result (List Effect) Refused) → effects k st ≡ y → answered (set_by k st) y ≡ Ok x → Holds c x.0 (made ++ x.1)
    by (Err z) f g = cc
    by (Ok ds) f g =
        (let ok = command_ok sound k st ds w h.formed f in
        let there : EffectsOk ds (set_by k st).rows = subst (λ (z : Rows). EffectsOk ds z) (sym (told_same k st)) ok in
        subst (λ (z : Stage × List Made). Holds c z.0 (made ++ z.1)) (same_ok (stage_after ds (set_by k st), made_in ds (set_by k st)) x g)
        (many_more c ds (set_by k st) made (told_holds c k st made h) (effects_formed k st ds w h.formed f) there))

none_there : (n : NsName) (t : Table) → map.get {R = namespace_cmp} map.empty n ≡ Some t → ⊥
none_there n t e = (let f = map.get-empty {X = Table} namespace_cmp n in cc)

pub nothing_sound : AreSound no_rows
nothing_sound n t e = absurd (none_there n t e)

pub empty_state : state_of no_rows ≡ map.empty
empty_state = ns_map_same _ _ (λ n. get_collection no_rows n ∙ (ap (option_map collection_of) (map.get-empty {X = Table} namespace_cmp n) ∙ sym (map.get-empty {X = Collection} namespace_cmp n)))

pub first_holds : (c : Caps) → Holds c (first_stage c) []
first_holds c = record { sound = nothing_sound; formed = nothing_formed; recorded = tt; rows = refl; rises = refl; state = empty_state; caps = refl; oplog = ap (λ (z : Oplog). first_entry ∷ z) (sym (nothing_behind (c.entries - 1) c.bytes (size_of first_entry))); renamed = tt }
