-- Transactions: the size of their entry, and what they make of a store.
use Rattle.std.proofs.Common.{◌≡◌, ℕ, suc, ◌+◌, ◌<◌, ◌≤◌, ◌^◌, List, [], ◌∷◌, length, map as each, Bool, true, false, arith, refl, sym, ap, ◌∙◌, subst, Option, Some, None, Result, Ok, Err}
use Rattle.std.specs.Prelude.{IfOk, codes, is_err, nat_lt}
use Rattle.std.proofs.lemmas.Bool.{lt-ltb, le-ltb}
use Rattle.bson_value.specs.declared.value.Ts.{Ts}
use Rattle.bson_value.specs.declared.value.Value.{Value, Array}
use Rattle.bson_value.specs.Spelling.{document_text}
use Rattle.bson_encode.specs.Key.{key_of}
use Rattle.coll_state.specs.declared.change.Change.{Change}
use Rattle.coll_state.specs.ChangeAll.{change_all}
use Rattle.coll_state.specs.Rows.{Document as Fields, Rows, key_in}
use Rattle.coll_state.specs.Changes.{Tables}
use Rattle.copy_model.specs.Writes.{SingleWrite, Put, Remove, change_rows}
use Rattle.copy_model.specs.Writes as writes
use Rattle.entry_documents.specs.Laws.{EntrySizes, part_sizes}
use Rattle.entry_model.specs.declared.entry.Entry.{Entry}
use Rattle.entry_model.specs.declared.entry.Action.TheVariants as actions
use Rattle.entry_model.specs.Spelling.{Body, command_body, body_at, body_of, item_value, entry_fields}
use Rattle.schedule_model.specs.declared.command.Command.TheVariants.{Txn}
use Rattle.schedule_model.specs.declared.command.DocumentCommand.{DocumentCommand}
use Rattle.schedule_model.specs.declared.refused.Refused.{Refused}
use Rattle.schedule_model.specs.declared.refused.Refused.TheVariants.{TooLarge}
use Rattle.transactions.specs.declared.transaction.Transaction.{Transaction}
use Rattle.transactions.specs.Transactions.{IsGood, AreGood, AreKeptBehind, ChangesAreWrites, write_by, write_of}
use Rattle.history_model.specs.Entries.{Item, Group, Content, database, entry_with, item_entry, entry_at, entry_bytes, no_ts, size_of, content_size}
use Rattle.history_model.specs.Entries as entries
use Rattle.history_model.specs.Indexes.{IndexesHold}
use Rattle.history_model.specs.Stages as stages
use Rattle.history_model.specs.Stages.{Effect, rows_all}
use Rattle.history_model.specs.Commands.{RecordedWrite, changes_together, effects, grouped, group_of, is_too_large, or_too_large}
use Rattle.store_log.specs.Logged.{Logged, next_ts, logged}
use Rattle.store_core.specs.Stores.{Stored, IsSoundStore}
use Rattle.kept_indexes.specs.Kept.{KeptCollections, AreKept}
use Rattle.transaction_indexes.specs.Following.{OthersStay, AreForgotten}
use Rattle.store_core.specs.Applying.{Makes, stage_in}
use Rattle.store_core.specs.Together.{Trial, IsTogether, MakesTogether, AreKeptAfter, group_effect, rows_behind, rows_changed}
use Rattle.store_core.specs.declared.fault.StoreFault.{StoreFault}
use Rattle.store_core.specs.declared.transaction.Group.{Group as Made}
use Rattle.store_core.proofs.Bytes.{entry_text}
use Rattle.store_core.proofs.Good.{AreGood as GoodRows, AreGoodSingles, IsGoodSingle, singles_good}
use Rattle.store_core.proofs.Made.{holds_group}
use Rattle.store_core.proofs.Sound.{good_of, sound_after}

-- ---- the size of an entry doesn't depend on its timestamp

item_same : (ts : Ts) (i : Item) → item_value (item_entry ts i) ≡ item_value (item_entry no_ts i)
item_same ts (entries.Put n id d) = refl
item_same ts (entries.Remove n id) = refl
item_same ts (entries.Whole n id d) = refl
item_same ts (entries.Delta n id f us) = refl
item_same ts (entries.Create n o) = refl
item_same ts (entries.DropColl n) = refl
item_same ts (entries.DropDb d) = refl
item_same ts (entries.AddIndex n d) = refl
item_same ts (entries.DropIndex n k) = refl

items_same : (ts : Ts) (is : List Item) → each item_value (each (item_entry ts) is) ≡ each item_value (each (item_entry no_ts) is)
items_same ts [] = refl
items_same ts (i ∷ is) = λ n. item_same ts i n ∷ items_same ts is n

group_body : (ts : Ts) (is : List Item) → body_of (entry_at ts (Group is)) ≡ body_of (entry_at no_ts (Group is))
group_body ts is =
    (let at = body_at (each item_value) (database (codes "admin")) in
    ap at (actions.outs-Group (each (item_entry ts) is))
    ∙ (ap (λ (vs : List Value). command_body (database (codes "admin")) (codes "applyOps") (Array vs) []) (items_same ts is)
    ∙ sym (ap at (actions.outs-Group (each (item_entry no_ts) is)))))

-- the entry of a group has the size that is asked for
pub group_size : EntrySizes → (ts : Ts) (is : List Item) → length (document_text (entry_fields (entry_at ts (Group is)))) ≡ content_size (Group is)
unfolding size_of entry_bytes
group_size law ts is =
    (let a = law ts (body_of (entry_at ts (Group is))) in
    let b = law no_ts (body_of (entry_at no_ts (Group is))) in
    a ∙ (ap (λ (z : Body). part_sizes z + 74) (group_body ts is) ∙ sym b))

-- ---- what a trial comes to

bytes_are : (ts : Ts) (es : List Entry) (is : List Item) (bytes : List ℕ) → es ≡ each (item_entry ts) is → bytes ≡ document_text (entry_fields (entry_with ts (database (codes "admin")) (actions.Group es))) → bytes ≡ document_text (entry_fields (entry_at ts (Group is)))
bytes_are ts es is bytes e f = f ∙ ap (λ (z : List Entry). document_text (entry_fields (entry_with ts (database (codes "admin")) (actions.Group z)))) e

no_changes : (cs : List Change) → each write_of cs ≡ [] → length cs ≡ 0
no_changes [] e = refl
no_changes (c ∷ cs) e = cc

some_makes : (cs : List Change) (ms : List RecordedWrite) → each write_of cs ≡ each (λ (m : RecordedWrite). m.0) ms → 0 < length cs → ms ≡ [] → ⊥
some_makes cs ms e l f = (let z = no_changes cs (e ∙ ap (each (λ (m : RecordedWrite). m.0)) f) in omega (arith, z, l))

group_is : (ms : List RecordedWrite) → (ms ≡ [] → ⊥) → group_of ms ≡ (stages.Txn (each (λ (m : RecordedWrite). m.0) ms), Group (each (λ (m : RecordedWrite). m.1) ms)) ∷ []
group_is [] h = absurd (h refl)
group_is (m ∷ ms) h = refl

large_is : (ms : List RecordedWrite) → (ms ≡ [] → ⊥) → is_too_large (group_of ms) ≡ nat_lt 16793600 (content_size (Group (each (λ (m : RecordedWrite). m.1) ms)))
large_is ms h = ap is_too_large (group_is ms h)

tried : (ds : List DocumentCommand) (s : Stored) (ms : List RecordedWrite) → changes_together s.log.form ds s.rows ≡ Ok ms → effects (Txn ds) (stage_in s) ≡ or_too_large (is_too_large (group_of ms)) (group_of ms)
tried ds s ms e = ap grouped e

no_writes : (cs : List Change) (ms : List RecordedWrite) → each write_of cs ≡ each (λ (m : RecordedWrite). m.0) ms → length cs ≡ 0 → ms ≡ []
no_writes cs [] e l = refl
no_writes [] (m ∷ ms) e l = cc
no_writes (c ∷ cs) (m ∷ ms) e l = absurd (omega (arith, l))

pub together_none : (ds : List DocumentCommand) (s : Stored) (t : Transaction) → Trial ds s t → length t.changes ≡ 0 → effects (Txn ds) (stage_in s) ≡ Ok []
together_none ds s t h l =
    tried ds s h.makes h.accepted ∙ ap (λ (ms : List RecordedWrite). or_too_large (is_too_large (group_of ms)) (group_of ms)) (no_writes t.changes h.makes h.made.writes l)

pub together_made : EntrySizes → (ds : List DocumentCommand) (s : Stored) (t : Transaction) (bytes : List ℕ) (ts : Ts) → Trial ds s t → 0 < length t.changes → length t.changes < 2 ^ 64 → ts ≡ next_ts s.log.clock s.log.newest →
    bytes ≡ document_text (entry_fields (entry_with ts (database (codes "admin")) (actions.Group t.entries))) → length bytes ≤ 16793600 → IsTogether ds s (record { changes = t.changes; bytes = bytes })
together_made law ds s t bytes ts h some few same b l =
    (let ms = h.makes in
    let is = each (λ (m : RecordedWrite). m.1) ms in
    let there = some_makes t.changes ms h.made.writes some in
    let text : bytes ≡ document_text (entry_fields (entry_at ts (Group is))) = bytes_are ts t.entries is bytes (h.made.records ∙ ap (λ (z : Ts). each (item_entry z) is) (sym same)) b in
    let size : length bytes ≡ content_size (Group is) = ap length text ∙ group_size law ts is in
    let small : is_too_large (group_of ms) ≡ false = large_is ms there ∙ le-ltb 16793600 (content_size (Group is)) (omega (arith, size, l)) in
    record {
      items = is;
      accepted = tried ds s ms h.accepted ∙ (ap (λ (x : Bool). or_too_large x (group_of ms)) small ∙ (ap Ok (group_is ms there) ∙ ap (λ (ws : List SingleWrite). Ok ((stages.Txn ws, Group is) ∷ [])) (sym h.made.writes)));
      spelled = text ∙ (ap (λ (z : Ts). document_text (entry_fields (entry_at z (Group is)))) same ∙ entry_text (next_ts s.log.clock s.log.newest) (Group is));
      there = h.there;
      ids = h.ids;
      good = h.good;
      few = few;
    })

pub together_large : EntrySizes → (ds : List DocumentCommand) (s : Stored) (t : Transaction) (bytes : List ℕ) (ts : Ts) → Trial ds s t → 0 < length t.changes → ts ≡ next_ts s.log.clock s.log.newest →
    bytes ≡ document_text (entry_fields (entry_with ts (database (codes "admin")) (actions.Group t.entries))) → 16793600 < length bytes → effects (Txn ds) (stage_in s) ≡ Err TooLarge
together_large law ds s t bytes ts h some same b l =
    (let ms = h.makes in
    let is = each (λ (m : RecordedWrite). m.1) ms in
    let there = some_makes t.changes ms h.made.writes some in
    let text : bytes ≡ document_text (entry_fields (entry_at ts (Group is))) = bytes_are ts t.entries is bytes (h.made.records ∙ ap (λ (z : Ts). each (item_entry z) is) (sym same)) b in
    let size : length bytes ≡ content_size (Group is) = ap length text ∙ group_size law ts is in
    let large : is_too_large (group_of ms) ≡ true = large_is ms there ∙ lt-ltb 16793600 (content_size (Group is)) (omega (arith, size, l)) in
    tried ds s ms h.accepted ∙ ap (λ (x : Bool). or_too_large x (group_of ms)) large)

-- ---- changes

write_good : (c : Change) (ts : Tables) → IsGood c ts → IsGoodSingle (write_of c)
write_good c ts g = by c.doc refl
  where
    by : (o : Option Fields) → c.doc ≡ o → IsGoodSingle (write_by c.ns (key_of c.id) o)
    by None e = tt
    by (Some d) e = (sym (ap key_in (g.id d e)), g.short d e)

writes_good : (cs : List Change) (ts : Tables) → AreGood cs ts → AreGoodSingles (each write_of cs)
writes_good [] ts h = tt
writes_good (c ∷ cs) ts h = (write_good c ts h.0, writes_good cs ts h.1)

change_count : (w : SingleWrite) (r : Rows) → (change_rows w r).count ≤ r.count + 1
change_count (Put n k d) r = omega arith
change_count (Remove n k) r = omega arith
change_count (writes.Create n o) r = omega arith
change_count (writes.DropColl n) r = omega arith
change_count (writes.DropDb d) r = omega arith
change_count (writes.AddIndex n d) r = omega arith
change_count (writes.DropIndex n i) r = omega arith

changes_count : (ws : List SingleWrite) (r : Rows) → (rows_all ws r).count ≤ r.count + length ws
changes_count [] r = omega arith
changes_count (w ∷ ws) r = (let a = change_count w r in let b = changes_count ws (change_rows w r) in omega (arith, a, b))

each_length : (cs : List Change) → length (each write_of cs) ≡ length cs
each_length [] = refl
each_length (c ∷ cs) = ap suc (each_length cs)

pub sound_changes : {ks js : KeptCollections} → ChangesAreWrites → (cs : List Change) (r s : Rows) (l m : Logged) (old : Stored) (bytes : List ℕ) → ◌≡◌ {A = Stored} (record { rows = r; log = l }) old → IsSoundStore r l ks → AreGood cs old.rows.tables → length cs < 2 ^ 64 → IndexesHold (change_all cs old.rows) →
    s ≡ change_all cs r → m ≡ logged bytes l → old.log.recorded < 4000000000 → AreKept js s → IsSoundStore s m js
sound_changes law cs r s l m old bytes v h g few i e f low kept =
    (let here : l.recorded ≡ old.log.recorded = ap (λ (z : Stored). z.log.recorded) v in
    let more : m.recorded ≡ l.recorded + 1 = ap (λ (z : Logged). z.recorded) f in
    let made : s ≡ rows_all (each write_of cs) r = e ∙ law cs r in
    let good : GoodRows s = subst GoodRows (sym made) (singles_good (each write_of cs) r (writes_good cs old.rows.tables g) (good_of r l h)) in
    let holds : IndexesHold s = subst IndexesHold (ap (λ (z : Stored). change_all cs z.rows) (sym v) ∙ sym e) i in
    let n = changes_count (each write_of cs) r in
    let size = each_length cs in
    let count : s.count ≡ (rows_all (each write_of cs) r).count = ap (λ (z : Rows). z.count) made in
    sound_after r s l m 1 h good holds (omega (arith, n, size, count, few)) more (omega (arith, more, here, low)) kept)

pub changes_hold : ChangesAreWrites → (ds : List DocumentCommand) (s : Stored) (cs : List Change) (is : List Item) → IndexesHold s.rows → effects (Txn ds) (stage_in s) ≡ Ok (group_effect cs is ∷ []) → IndexesHold (change_all cs s.rows)
changes_hold law ds s cs is h e = subst IndexesHold (sym (law cs s.rows)) (holds_group (Txn ds) s (each write_of cs) is h e)

pub some_holds : ChangesAreWrites → (ds : List DocumentCommand) (s : Stored) (o : Option Made) (g : Made) → IndexesHold s.rows → MakesTogether ds s (Ok o) → o ≡ Some g → IndexesHold (change_all g.changes s.rows)
some_holds law ds s o g h m e = (let t : IsTogether ds s g = subst (λ (z : Option Made). MakesTogether ds s (Ok z)) e m in changes_hold law ds s g.changes t.items h t.accepted)

-- ---- the indexes behind a transaction

pub kept_done : {E : Type 0} (w : Result (Result Transaction Refused) E) (a : Result Transaction Refused) (t : Transaction) (ks : KeptCollections) (r : Rows) → w ≡ Ok a → a ≡ Ok t → AreKeptBehind w ks r → AreKept ks (change_all t.changes r)
kept_done w a t ks r v e k = subst (λ (z : Result (Result Transaction Refused) _). AreKeptBehind z ks r) (v ∙ ap (λ (z : Result Transaction Refused). Ok z) e) k

pub kept_refused : {E : Type 0} (w : Result (Result Transaction Refused) E) (a : Result Transaction Refused) (x : Refused) (ks : KeptCollections) (r : Rows) → w ≡ Ok a → a ≡ Err x → AreKeptBehind w ks r → AreKept ks r
kept_refused w a x ks r v e k = subst (λ (z : Result (Result Transaction Refused) _). AreKeptBehind z ks r) (v ∙ ap (λ (z : Result Transaction Refused). Ok z) e) k

-- of what is made of them
pub group_kept : (w : Result (Option Made) StoreFault) (t : Transaction) (ks : KeptCollections) (r : Rows) → is_err w ≡ false → IfOk w (λ (o : Option Made). rows_changed o r ≡ rows_behind t r) → AreKept ks (rows_behind t r) → AreKeptAfter rows_changed w ks r
group_kept (Ok o) t ks r e h k = subst (AreKept ks) (sym h) k
group_kept (Err f) t ks r e h k = cc

pub group_failed : (w : Result (Option Made) StoreFault) (ks : KeptCollections) (r : Rows) → is_err w ≡ true → AreKept ks r → AreKeptAfter rows_changed w ks r
group_failed (Ok o) ks r e k = cc
group_failed (Err f) ks r e k = k

-- indexes that are let go of
pub kept_elsewhere : (ds : List DocumentCommand) (ks js ls : KeptCollections) (r : Rows) → AreKept ks r → OthersStay ds ks js → AreForgotten ds js ls → AreKept ls r
kept_elsewhere ds ks js ls r h o f n hs e = (let x = f n hs e in h n hs (sym (o n x.0) ∙ x.1))

pub changed_kept : (o : Option Made) (g : Made) (ks : KeptCollections) (r : Rows) → o ≡ Some g → AreKept ks (rows_changed o r) → AreKept ks (change_all g.changes r)
changed_kept o g ks r e k = subst (λ (z : Option Made). AreKept ks (rows_changed z r)) e k

pub unchanged_kept : (o : Option Made) (ks : KeptCollections) (r : Rows) → o ≡ None → AreKept ks (rows_changed o r) → AreKept ks r
unchanged_kept o ks r e k = subst (λ (z : Option Made). AreKept ks (rows_changed z r)) e k

-- ---- the store behind a transaction

made_of : ChangesAreWrites → (ds : List DocumentCommand) (s : Stored) (g : Made) (new : Stored) → IsTogether ds s g → new ≡ record { rows = change_all g.changes s.rows; log = logged g.bytes s.log } → Makes (Txn ds) s 1 new
made_of law ds s g new t e = record {
  deeds = group_effect g.changes t.items ∷ [];
  accepted = t.accepted;
  number = refl;
  made = e ∙ (λ i. record { rows = law g.changes s.rows i; log = logged (t.spelled i) s.log });
}

pub some_made : ChangesAreWrites → (ds : List DocumentCommand) (s old : Stored) (o : Option Made) (g : Made) (new : Stored) → s ≡ old → MakesTogether ds s (Ok o) → o ≡ Some g → new ≡ record { rows = change_all g.changes s.rows; log = logged g.bytes s.log } → Makes (Txn ds) old 1 new
some_made law ds s old o g new v m e f = subst (λ (z : Stored). Makes (Txn ds) z 1 new) v (made_of law ds s g new (subst (λ (z : Option Made). MakesTogether ds s (Ok z)) e m) f)
