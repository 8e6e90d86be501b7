-- A command that is made on the rows that it was shown is made alike on those that it is for, whose indexes follow it.
use Rattle.std.proofs.Common.{◌≡◌, ℕ, ◌+◌, ◌≤◌, List, [], ◌∷◌, ◌++◌, length, drop, true, false, refl, sym, ap, ◌∙◌, subst, arith, Option, Some, None, Result, Ok, Err}
use Rattle.std.specs.Prelude.{IfOk, is_err, is_some}
use Rattle.std.specs.FinMap as map
use Rattle.bson_value.specs.declared.namespace.NsName.{NsName}
use Rattle.bson_value.specs.declared.value.Ts.{Ts}
use Rattle.bson_encode.specs.Key.{key_of}
use Rattle.doc_path.specs.declared.parts.Form.{Form}
use Rattle.state_model.specs.Keys.{Key, same_ns}
use Rattle.coll_state.specs.declared.change.Change.{Change}
use Rattle.coll_state.specs.ChangeAll.{change_one, change_all}
use Rattle.coll_state.specs.Rows.{Document, Rows, AreSound}
use Rattle.copy_model.specs.Writes.{change_rows}
use Rattle.copy_model.proofs.RowWrites.{change_sound}
use Rattle.entry_model.specs.declared.entry.Entry.{Entry}
use Rattle.schedule_model.specs.declared.command.DocumentCommand.{DocumentCommand}
use Rattle.schedule_model.specs.declared.refused.Refused.{Refused}
use Rattle.history_model.specs.Commands.{RecordedWrite, rows_of_changes, changes_together}
use Rattle.history_model.specs.Indexes.{IndexesHold}
use Rattle.history_model.specs.Refusals.{namespace_of, definitions_in, document_refusal}
use Rattle.history_model.proofs.IndexesHeld.{document_holds}
use Rattle.command_refusals.specs.Keyed.{AreKeyed}
use Rattle.kept_indexes.specs.Kept.{KeptCollections, kept_at, AreKept, HasIndexes}
use Rattle.transaction_indexes.specs.Following.{StayKept, HaveIndexes, OthersStay, AreForgotten, Passes, tested_in, tested_by}
use Rattle.transaction_indexes.specs.Reversal.{NoneOf}
use Rattle.transaction_indexes.specs.Laws.{IsShown, tested_write}
use Rattle.transaction_indexes.proofs.Indexes.{have_still}
use Rattle.transaction_indexes.proofs.Refusing.{changes_are_same, refusals_are_same, indexes_decide, unchanged_is_accepted}
use Rattle.transactions.specs.declared.change_record.ChangeRecord.{ChangeRecord}
use Rattle.transactions.specs.declared.transaction.Transaction.{Transaction}
use Rattle.transactions.specs.Shown.{ShowAll}
use Rattle.transactions.specs.Running.{Stands, NamesItsId, IsElsewhere, IsTested, rows_after, settled, Proceeds, Runs}
use Rattle.transactions.specs.Steps.{IsMade, IsStep, IsAppended}
use Rattle.transactions.specs.Transactions.{write_by, write_of, Answers, AreGood, AreKeptBehind}
use Rattle.transactions.proofs.Keys.{change_keys}
use Rattle.transactions.proofs.Progress.{HaveMade, none_made, step_more, is_refused, is_done}
use Rattle.transactions.proofs.Showing.{IsPlain, ArePlain, plain_changes, all_show, write_definitions, none_there}
use Rattle.transactions.proofs.Writes.{change_is}

abbrev Answer : Type 0
Answer = Result (Option ChangeRecord) Refused

-- ---- the write of a command

space_of : (n m : NsName) (k : Key) (o : Option Document) → IsPlain n (write_by m k o) → n ≡ m
space_of n m k None h = h
space_of n m k (Some d) h = h

-- it is of a document of the collection that the command names
step_plain : (f : Form) (c : DocumentCommand) (x : ChangeRecord) (old new : Rows) → document_refusal true c old ≡ None → IsMade f c x old new → IsPlain (namespace_of c) (write_of x.change)
step_plain f c x old new e g = (let p = subst (ArePlain (namespace_of c)) g.changes (plain_changes f c old (none_there c old e)) in p.0)

step_space : (f : Form) (c : DocumentCommand) (x : ChangeRecord) (old new : Rows) → document_refusal true c old ≡ None → IsMade f c x old new → namespace_of c ≡ x.change.ns
step_space f c x old new e g = space_of (namespace_of c) x.change.ns (key_of x.change.id) x.change.doc (step_plain f c x old new e g)

tested_is : (n : NsName) (k : Key) (o : Option Document) (r : Rows) → tested_write (write_by n k o) r ≡ tested_in n k o r
tested_is n k None r = refl
tested_is n k (Some d) r = refl

-- ---- what the indexes are asked of an answer

pub step_keyed : (f : Form) (c : DocumentCommand) (a : Answer) (old new : Rows) → IsStep true f c a old new → AreKeyed old → IfOk a (λ o. AreKeyed new)
step_keyed f c (Err e) old new s h = tt
step_keyed f c (Ok None) old new s h = subst AreKeyed (sym s.2) h
step_keyed f c (Ok (Some x)) old new s h = subst AreKeyed (sym s.1.after) (change_keys x.change old s.1.good.id h)

pub keyed_on : (a : Answer) (o : Option ChangeRecord) (new : Rows) → a ≡ Ok o → IfOk a (λ z. AreKeyed new) → AreKeyed new
keyed_on a o new e h = subst (λ (z : Answer). IfOk z (λ y. AreKeyed new)) e h

pub step_names : (f : Form) (c : DocumentCommand) (a : Answer) (old new : Rows) → IsStep true f c a old new → NamesItsId a
step_names f c (Err e) old new s = tt
step_names f c (Ok None) old new s = tt
step_names f c (Ok (Some x)) old new s = s.1.good.id

pub step_elsewhere : (f : Form) (c : DocumentCommand) (a : Answer) (old new : Rows) (n : NsName) → IsStep true f c a old new → same_ns (namespace_of c) n ≡ false → IsElsewhere a n
step_elsewhere f c (Err e) old new n s h = tt
step_elsewhere f c (Ok None) old new n s h = tt
step_elsewhere f c (Ok (Some x)) old new n s h = ap (λ (m : NsName). same_ns m n) (sym (step_space f c x old new s.0 s.1)) ∙ h

passed_stays : (x : Change) (ks : KeptCollections) (o : Option Refused) (js : KeptCollections) → Passes x ks o js → StayKept ks js
unfolding Passes
passed_stays x ks None js p = p.0
passed_stays x ks (Some e) js p = λ n h. ap (λ (q : KeptCollections). is_some (kept_at q n)) p.0 ∙ h

-- collections that are kept stay so
pub tested_stays : (a : Answer) (ks : KeptCollections) (o : Option Refused) (js : KeptCollections) → IsTested a ks o js → StayKept ks js
tested_stays (Err e) ks o js p n h = ap (λ (q : KeptCollections). is_some (kept_at q n)) p.1 ∙ h
tested_stays (Ok None) ks o js p n h = ap (λ (q : KeptCollections). is_some (kept_at q n)) p.1 ∙ h
tested_stays (Ok (Some x)) ks o js p n h = passed_stays x.change ks o js p n h

pub taken_still : (cs : List DocumentCommand) (ks js : KeptCollections) (r : Rows) → StayKept ks js → HaveIndexes cs ks r → HaveIndexes cs js r
taken_still cs ks js r s h = have_still cs ks js r r s (λ n. refl) h

-- ---- on the rows that the command is for

shown_on : (c : DocumentCommand) (cs : List DocumentCommand) (s r : Rows) (ks : KeptCollections) → Stands (c ∷ cs) s ks r → IsShown c s r
shown_on c cs s r ks h = record { shows = h.shows.0; plain = h.plain (namespace_of c) }

has_its : (f : Form) (c : DocumentCommand) (cs : List DocumentCommand) (x : ChangeRecord) (s new r : Rows) (ks : KeptCollections) → document_refusal true c s ≡ None → IsMade f c x s new → Stands (c ∷ cs) s ks r → HasIndexes ks x.change.ns r
has_its f c cs x s new r ks e g h = subst (λ (n : NsName). HasIndexes ks n r) (step_space f c x s new e g) h.taken.0

-- the indexes decide of its change
decided : (f : Form) (c : DocumentCommand) (cs : List DocumentCommand) (x : ChangeRecord) (s new r : Rows) (ks : KeptCollections) → document_refusal true c s ≡ None → IsMade f c x s new → Stands (c ∷ cs) s ks r → document_refusal true c r ≡ tested_by x.change r
decided f c cs x s new r ks e g h =
    indexes_decide f c s r (write_of x.change) g.item (shown_on c cs s r ks h) e g.changes ∙ tested_is x.change.ns (key_of x.change.id) x.change.doc r

made_on : (f : Form) (c : DocumentCommand) (cs : List DocumentCommand) (x : ChangeRecord) (s new r : Rows) (ks : KeptCollections) → document_refusal true c s ≡ None → document_refusal true c r ≡ None → IsMade f c x s new → Stands (c ∷ cs) s ks r →
    IsMade f c x r (change_one x.change r)
made_on f c cs x s new r ks e z g h = record {
  item = g.item;
  changes = sym (changes_are_same f c s r (shown_on c cs s r ks h)) ∙ g.changes;
  entry = g.entry;
  good = record {
    there = subst (λ (n : NsName). map.contains_key r.tables n ≡ true) (step_space f c x s new e g) (none_there c r z);
    id = g.good.id;
    short = g.good.short;
  };
  after = refl;
}

-- the other commands stand behind it
stands_behind : (f : Form) (c : DocumentCommand) (cs : List DocumentCommand) (x : ChangeRecord) (s new r : Rows) (ks js : KeptCollections) → document_refusal true c s ≡ None → document_refusal true c r ≡ None → IsMade f c x s new → IsMade f c x r (change_one x.change r) →
    Passes x.change ks None js → Stands (c ∷ cs) s ks r → Stands cs new js (change_one x.change r)
unfolding Passes
stands_behind f c cs x s new r ks js e z g m p h =
    (let w = write_of x.change in
    let n = namespace_of c in
    let plain : IsPlain n w = step_plain f c x s new e g in
    let here : change_one x.change r ≡ change_rows w r = change_is x.change r in
    let there : new ≡ change_rows w s = g.after ∙ change_is x.change s in
    let hold : IndexesHold (change_one x.change r) = subst IndexesHold (ap (λ (ms : List RecordedWrite). rows_of_changes ms r) m.changes ∙ sym here) (document_holds f true c r z h.hold) in
    record {
      sound = subst AreSound (sym here) (change_sound w r h.sound);
      keyed = change_keys x.change r g.good.id h.keyed;
      hold = hold;
      kept = p.2 r h.kept h.sound hold;
      taken = have_still cs ks js r (change_one x.change r) p.0 (λ l. ap (λ (q : Rows). definitions_in (map.get q.tables l)) here ∙ write_definitions n l w r plain (none_there c r z)) h.taken.1;
      sound_too = subst AreSound (sym there) (change_sound w s h.sound_too);
      plain = λ l. ap (λ (q : Rows). definitions_in (map.get q.tables l)) there ∙ (write_definitions n l w s plain (none_there c s e) ∙ h.plain l);
      shows = subst (λ (q : Rows). ShowAll cs q (change_one x.change r)) (sym there)
          (subst (λ (q : Rows). ShowAll cs (change_rows w s) q) (sym here) (all_show n w cs s r plain h.sound_too h.sound (none_there c s e) (none_there c r z) h.shows.1));
    })

-- ---- a command

pub step_refused : (f : Form) (c : DocumentCommand) (cs : List DocumentCommand) (e : Refused) (s new r : Rows) (ks : KeptCollections) → IsStep true f c (Err e) s new → Stands (c ∷ cs) s ks r → Proceeds f c cs (Err e) new ks r
unfolding Proceeds
step_refused f c cs e s new r ks a h = (refusals_are_same c s r e (shown_on c cs s r ks h) a, h.kept)

pub step_unchanged : (f : Form) (c : DocumentCommand) (cs : List DocumentCommand) (s new r : Rows) (ks : KeptCollections) → IsStep true f c (Ok None) s new → Stands (c ∷ cs) s ks r → Proceeds f c cs (Ok None) new ks r
unfolding Proceeds
step_unchanged f c cs s new r ks a h = (
  (unchanged_is_accepted f c s r (shown_on c cs s r ks h) a.0 a.1 h.hold, sym (changes_are_same f c s r (shown_on c cs s r ks h)) ∙ a.1, refl),
  subst (λ (q : Rows). Stands cs q ks r) (sym a.2) (record {
    sound = h.sound;
    keyed = h.keyed;
    hold = h.hold;
    kept = h.kept;
    taken = h.taken.1;
    sound_too = h.sound_too;
    plain = h.plain;
    shows = h.shows.1;
  }),
)

pub step_unpassed : (f : Form) (c : DocumentCommand) (cs : List DocumentCommand) (x : ChangeRecord) (e : Refused) (s new r : Rows) (ks js : KeptCollections) → IsStep true f c (Ok (Some x)) s new → Passes x.change ks (Some e) js → Stands (c ∷ cs) s ks r → Proceeds f c cs (Err e) new js r
unfolding Proceeds Passes
step_unpassed f c cs x e s new r ks js a p h =
    (decided f c cs x s new r ks a.0 a.1 h ∙ p.1 r h.kept (has_its f c cs x s new r ks a.0 a.1 h), subst (λ (q : KeptCollections). AreKept q r) (sym p.0) h.kept)

unrefused_by : (f : Form) (c : DocumentCommand) (cs : List DocumentCommand) (x : ChangeRecord) (s new r : Rows) (ks js : KeptCollections) → IsStep true f c (Ok (Some x)) s new → Passes x.change ks None js → Stands (c ∷ cs) s ks r → document_refusal true c r ≡ None
unfolding Passes
unrefused_by f c cs x s new r ks js a p h = decided f c cs x s new r ks a.0 a.1 h ∙ p.1 r h.kept (has_its f c cs x s new r ks a.0 a.1 h)

pub step_passed : (f : Form) (c : DocumentCommand) (cs : List DocumentCommand) (x : ChangeRecord) (s new r : Rows) (ks js : KeptCollections) → IsStep true f c (Ok (Some x)) s new → Passes x.change ks None js → Stands (c ∷ cs) s ks r → Proceeds f c cs (Ok (Some x)) new js r
unfolding Proceeds
step_passed f c cs x s new r ks js a p h =
    (let z = unrefused_by f c cs x s new r ks js a p h in
    let m = made_on f c cs x s new r ks a.0 z a.1 h in
    ((z, m), stands_behind f c cs x s new r ks js a.0 z a.1 m p h))

-- an answer that the indexes refuse
pub proceeds_refused : (f : Form) (c : DocumentCommand) (cs : List DocumentCommand) (a : Answer) (e : Refused) (s new r : Rows) (ks js : KeptCollections) → IsStep true f c a s new → IsTested a ks (Some e) js → Stands (c ∷ cs) s ks r → Proceeds f c cs (Err e) new js r
proceeds_refused f c cs (Err x) e s new r ks js a t h = (let n = t.0 in cc)
proceeds_refused f c cs (Ok None) e s new r ks js a t h = (let n = t.0 in cc)
proceeds_refused f c cs (Ok (Some x)) e s new r ks js a t h = step_unpassed f c cs x e s new r ks js a t h

-- and one that they don't
pub proceeds_on : (f : Form) (c : DocumentCommand) (cs : List DocumentCommand) (a : Answer) (s new r : Rows) (ks js : KeptCollections) → IsStep true f c a s new → IsTested a ks None js → Stands (c ∷ cs) s ks r → Proceeds f c cs a new js r
proceeds_on f c cs (Err e) s new r ks js a t h = subst (λ (q : KeptCollections). Proceeds f c cs (Err e) new q r) (sym t.1) (step_refused f c cs e s new r ks a h)
proceeds_on f c cs (Ok None) s new r ks js a t h = subst (λ (q : KeptCollections). Proceeds f c cs (Ok None) new q r) (sym t.1) (step_unchanged f c cs s new r ks a h)
proceeds_on f c cs (Ok (Some x)) s new r ks js a t h = step_passed f c cs x s new r ks js a t h

-- ---- an answer that is settled

pub settled_proceeds : {E : Type 0} (f : Form) (c : DocumentCommand) (a : Answer) (t : Result (Option Refused) E) (z : Result Answer E) (s new : Rows) (ks js : KeptCollections) → z ≡ settled a t → IsStep true f c a s new → IfOk t (λ o. IsTested a ks o js) →
    IfOk z (λ b. (cs : List DocumentCommand) (r : Rows) → Stands (c ∷ cs) s ks r → Proceeds f c cs b new js r)
settled_proceeds {E = E} f c a (Ok None) z s new ks js e p t =
    subst (λ (y : Result Answer E). IfOk y (λ b. (cs : List DocumentCommand) (r : Rows) → Stands (c ∷ cs) s ks r → Proceeds f c cs b new js r)) (sym e) (λ cs r h. proceeds_on f c cs a s new r ks js p t h)
settled_proceeds {E = E} f c a (Ok (Some x)) z s new ks js e p t =
    subst (λ (y : Result Answer E). IfOk y (λ b. (cs : List DocumentCommand) (r : Rows) → Stands (c ∷ cs) s ks r → Proceeds f c cs b new js r)) (sym e) (λ cs r h. proceeds_refused f c cs a x s new r ks js p t h)
settled_proceeds {E = E} f c a (Err x) z s new ks js e p t =
    subst (λ (y : Result Answer E). IfOk y (λ b. (cs : List DocumentCommand) (r : Rows) → Stands (c ∷ cs) s ks r → Proceeds f c cs b new js r)) (sym e) tt

pub settled_keyed : {E : Type 0} (a : Answer) (t : Result (Option Refused) E) (z : Result Answer E) (new : Rows) → z ≡ settled a t → IfOk a (λ o. AreKeyed new) → IfOk z (λ b. IfOk b (λ o. AreKeyed new))
settled_keyed {E = E} a (Ok None) z new e h = subst (λ (y : Result Answer E). IfOk y (λ b. IfOk b (λ o. AreKeyed new))) (sym e) h
settled_keyed {E = E} a (Ok (Some x)) z new e h = subst (λ (y : Result Answer E). IfOk y (λ b. IfOk b (λ o. AreKeyed new))) (sym e) tt
settled_keyed {E = E} a (Err x) z new e h = subst (λ (y : Result Answer E). IfOk y (λ b. IfOk b (λ o. AreKeyed new))) (sym e) tt

pub settled_stays : {E : Type 0} (a : Answer) (t : Result (Option Refused) E) (z : Result Answer E) (ks js : KeptCollections) → z ≡ settled a t → IfOk t (λ o. IsTested a ks o js) → IfOk z (λ b. StayKept ks js)
settled_stays {E = E} a (Ok o) z ks js e t = by z (tested_stays a ks o js t)
  where
    by : (y : Result Answer E) → StayKept ks js → IfOk y (λ b. StayKept ks js)
    by (Ok b) h = h
    by (Err x) h = tt
settled_stays {E = E} a (Err x) z ks js e t = subst (λ (y : Result Answer E). IfOk y (λ b. StayKept ks js)) (sym e) tt

-- ---- all commands

change_all_more : (xs : List Change) (x : Change) (r : Rows) → change_all (xs ++ x ∷ []) r ≡ change_one x (change_all xs r)
change_all_more [] x r = refl
change_all_more (y ∷ xs) x r = change_all_more xs x (change_one y r)

-- so many were made, and the others stand behind them
pub record IsRunning (ts : Ts) (f : Form) (cs : List DocumentCommand) (i : ℕ) (start shown : Rows) (ks : KeptCollections) (changes : List Change) (entries : List Entry) : Type 0 where
  pub made : HaveMade ts f cs i start (change_all changes start) changes entries
  pub stands : Stands (drop i cs) shown ks (change_all changes start)

pub running_none : (ts : Ts) (f : Form) (cs : List DocumentCommand) (start shown : Rows) (ks : KeptCollections) (changes : List Change) (entries : List Entry) → changes ≡ [] → entries ≡ [] → Stands cs shown ks start → IsRunning ts f cs 0 start shown ks changes entries
running_none ts f cs start shown ks changes entries a b h =
    (let same : start ≡ change_all changes start = sym (ap (λ (xs : List Change). change_all xs start) a) in
    record {
      made = subst (λ (r : Rows). HaveMade ts f cs 0 start r changes entries) same (none_made ts f cs start changes entries a b h.keyed);
      stands = subst (λ (r : Rows). Stands cs shown ks r) same h;
    })

-- the rows behind one more
after_more : (o : Option ChangeRecord) (ts : Ts) (changes more : List Change) (entries behind : List Entry) (r : Rows) → IsAppended ts o changes entries more behind → rows_after (Ok o) (change_all changes r) ≡ change_all more r
after_more None ts changes more entries behind r h = ap (λ (xs : List Change). change_all xs r) (sym h.0)
after_more (Some x) ts changes more entries behind r h = sym (change_all_more changes x.change r) ∙ ap (λ (xs : List Change). change_all xs r) (sym h.0)

pub running_more : (ts : Ts) (f : Form) (cs : List DocumentCommand) (i : ℕ) (c : DocumentCommand) (o : Option ChangeRecord) (start shown new : Rows) (ks js : KeptCollections) (changes more : List Change) (entries behind : List Entry) → drop i cs ≡ c ∷ drop (i + 1) cs →
    IsRunning ts f cs i start shown ks changes entries → ((r : Rows) → Stands (c ∷ drop (i + 1) cs) shown ks r → Proceeds f c (drop (i + 1) cs) (Ok o) new js r) → IsAppended ts o changes entries more behind → IsRunning ts f cs (i + 1) start new js more behind
unfolding Proceeds
running_more ts f cs i c o start shown new ks js changes more entries behind l h go a =
    (let now = change_all changes start in
    let p = go now (subst (λ (xs : List DocumentCommand). Stands xs shown ks now) l h.stands) in
    let same = after_more o ts changes more entries behind start a in
    record {
      made = subst (λ (r : Rows). HaveMade ts f cs (i + 1) start r more behind) same (step_more ts f cs i c o start now (rows_after (Ok o) now) changes more entries behind l h.made p.0 a);
      stands = subst (λ (r : Rows). Stands (drop (i + 1) cs) new js r) same p.1;
    })

pub refused_on : (ts : Ts) (f : Form) (cs : List DocumentCommand) (i : ℕ) (c : DocumentCommand) (e : Refused) (start shown new : Rows) (ks js : KeptCollections) (changes : List Change) (entries : List Entry) → drop i cs ≡ c ∷ drop (i + 1) cs →
    IsRunning ts f cs i start shown ks changes entries → ((r : Rows) → Stands (c ∷ drop (i + 1) cs) shown ks r → Proceeds f c (drop (i + 1) cs) (Err e) new js r) → AreKept js (change_all changes start)
unfolding Proceeds
refused_on ts f cs i c e start shown new ks js changes entries l h go =
    (let now = change_all changes start in (go now (subst (λ (xs : List DocumentCommand). Stands xs shown ks now) l h.stands)).1)

pub running_refused : (ts : Ts) (f : Form) (cs : List DocumentCommand) (i : ℕ) (c : DocumentCommand) (e : Refused) (start shown new : Rows) (ks js ls : KeptCollections) (changes : List Change) (entries : List Entry) → drop i cs ≡ c ∷ drop (i + 1) cs →
    IsRunning ts f cs i start shown ks changes entries → ((r : Rows) → Stands (c ∷ drop (i + 1) cs) shown ks r → Proceeds f c (drop (i + 1) cs) (Err e) new js r) → AreKept ls start → Runs ts f cs (Err e) ls start
unfolding Proceeds Runs
running_refused ts f cs i c e start shown new ks js ls changes entries l h go k =
    (let now = change_all changes start in
    let p = go now (subst (λ (xs : List DocumentCommand). Stands xs shown ks now) l h.stands) in
    (is_refused ts f cs i c e start now now changes entries l h.made p.0, k))

pub running_done : (ts : Ts) (f : Form) (cs : List DocumentCommand) (i : ℕ) (start shown : Rows) (ks : KeptCollections) (changes : List Change) (entries : List Entry) → length cs ≤ i → i ≤ length cs → IsRunning ts f cs i start shown ks changes entries →
    Runs ts f cs (Ok (record { changes = changes; entries = entries })) ks start
unfolding Runs
running_done ts f cs i start shown ks changes entries l m h =
    (is_done ts f cs i start (change_all changes start) changes entries l h.made, h.made.good, (let n = h.made.count in omega (arith, n, m)), h.stands.kept)

-- ---- the collections of the changes

none_joined : (xs : List Change) (x : Change) (n : NsName) → NoneOf xs n → same_ns x.ns n ≡ false → NoneOf (xs ++ x ∷ []) n
none_joined [] x n h e = (e, tt)
none_joined (y ∷ xs) x n h e = (h.0, none_joined xs x n h.1 e)

-- a change more is of a collection that its command names
none_more : (ts : Ts) (o : Option ChangeRecord) (changes more : List Change) (entries behind : List Entry) (n : NsName) → IsElsewhere (Ok o) n → IsAppended ts o changes entries more behind → NoneOf changes n → NoneOf more n
none_more ts None changes more entries behind n w p h = subst (λ (xs : List Change). NoneOf xs n) (sym p.0) h
none_more ts (Some x) changes more entries behind n w p h = subst (λ (xs : List Change). NoneOf xs n) (sym p.0) (none_joined changes x.change n h w)

pub none_on : (ts : Ts) (f : Form) (cs : List DocumentCommand) (i : ℕ) (c : DocumentCommand) (o : Option ChangeRecord) (start shown new : Rows) (ks js : KeptCollections) (changes more : List Change) (entries behind : List Entry) (n : NsName) → drop i cs ≡ c ∷ drop (i + 1) cs →
    IsRunning ts f cs i start shown ks changes entries → ((r : Rows) → Stands (c ∷ drop (i + 1) cs) shown ks r → Proceeds f c (drop (i + 1) cs) (Ok o) new js r) → IsAppended ts o changes entries more behind → same_ns (namespace_of c) n ≡ false → NoneOf changes n → NoneOf more n
unfolding Proceeds
none_on ts f cs i c o start shown new ks js changes more entries behind n l h go a e w =
    (let now = change_all changes start in
    let p = go now (subst (λ (xs : List DocumentCommand). Stands xs shown ks now) l h.stands) in
    none_more ts o changes more entries behind n (step_elsewhere f c (Ok o) now (rows_after (Ok o) now) n p.0 e) a w)

-- ---- what it comes to

pub runs_answer : (ts : Ts) (f : Form) (cs : List DocumentCommand) (a : Result Transaction Refused) (ks : KeptCollections) (r : Rows) → Runs ts f cs a ks r → Answers ts a (changes_together f cs r)
unfolding Runs
runs_answer ts f cs (Ok t) ks r h = h.0
runs_answer ts f cs (Err e) ks r h = h.0

pub runs_good : (ts : Ts) (f : Form) (cs : List DocumentCommand) (a : Result Transaction Refused) (ks : KeptCollections) (r : Rows) → Runs ts f cs a ks r → IfOk a (λ t. AreGood t.changes r.tables)
unfolding Runs
runs_good ts f cs (Ok t) ks r h = h.1
runs_good ts f cs (Err e) ks r h = tt

pub runs_count : (ts : Ts) (f : Form) (cs : List DocumentCommand) (a : Result Transaction Refused) (ks : KeptCollections) (r : Rows) → Runs ts f cs a ks r → IfOk a (λ t. length t.changes ≤ length cs)
unfolding Runs
runs_count ts f cs (Ok t) ks r h = h.2
runs_count ts f cs (Err e) ks r h = tt

-- indexes that are let go of on an error, and kept else
pub runs_kept : {E : Type 0} (ts : Ts) (f : Form) (cs : List DocumentCommand) (a : Result (Result Transaction Refused) E) (ks : KeptCollections) (r : Rows) → is_err a ≡ false → IfOk a (λ t. Runs ts f cs t ks r) → AreKeptBehind a ks r
unfolding Runs
runs_kept ts f cs (Ok (Ok t)) ks r e h = h.3
runs_kept ts f cs (Ok (Err x)) ks r e h = h.1
runs_kept ts f cs (Err x) ks r e h = cc

pub failed_kept : {E : Type 0} (a : Result (Result Transaction Refused) E) (cs : List DocumentCommand) (ks js ls : KeptCollections) (r : Rows) → is_err a ≡ true → AreKept ks r → OthersStay cs ks js → AreForgotten cs js ls → AreKeptBehind a ls r
failed_kept (Ok t) cs ks js ls r e k o f = cc
failed_kept (Err x) cs ks js ls r e k o f = λ n hs at. (let y = f n hs at in k n hs (sym (o n y.0) ∙ y.1))
