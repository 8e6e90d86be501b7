-- Commands that are made one after the other.
use Rattle.std.proofs.Common.{◌≡◌, ℕ, ◌+◌, ◌<◌, ◌≤◌, List, [], ◌∷◌, ◌++◌, length, length-append, append_assoc, append-nil, drop, get_or, Bool, true, false, cond, refl, sym, ap, ◌∙◌, subst, arith, Option, Some, None, Result, Ok, Err}
use Rattle.std.specs.Prelude.{map as each, is_some}
use Rattle.std.specs.FinMap as map
use Rattle.std.proofs.lemmas.List.{drop_more, drop_all, map-append}
use Rattle.bson_value.specs.declared.namespace.NsName.{NsName}
use Rattle.bson_value.specs.declared.value.Ts.{Ts}
use Rattle.bson_encode.specs.Key.{key_of}
use Rattle.doc_path.specs.declared.parts.Form.{Form}
use Rattle.state_model.specs.Keys.{Key, same_ns}
use Rattle.state_model.proofs.Keys.{ns_is}
use Rattle.state_model.proofs.Maps.{ns_at_insert}
use Rattle.coll_state.specs.declared.change.Change.{Change}
use Rattle.coll_state.specs.ChangeAll.{changed_by, HaveIds, AreThere}
use Rattle.coll_state.specs.Changes.{Tables, put_table, drop_table, or_fresh, on_found}
use Rattle.coll_state.specs.Rows.{Document, Rows, Table}
use Rattle.copy_model.specs.Writes.{change_rows}
use Rattle.entry_model.specs.declared.entry.Entry.{Entry}
use Rattle.schedule_model.specs.declared.command.DocumentCommand.{DocumentCommand}
use Rattle.schedule_model.specs.declared.refused.Refused.{Refused}
use Rattle.history_model.specs.Commands.{RecordedWrite, document_changes, rows_of_changes, and_then, changes_together}
use Rattle.history_model.specs.Entries.{item_entry, entry_with}
use Rattle.history_model.specs.Refusals.{is_there, document_refusal}
use Rattle.command_refusals.specs.Keyed.{AreKeyed}
use Rattle.transactions.specs.declared.change_record.ChangeRecord.{ChangeRecord}
use Rattle.transactions.specs.Steps.{IsStep, IsAppended}
use Rattle.transactions.specs.Transactions.{write_of, AreMade, Answers, IsGood, AreGood}
use Rattle.transactions.proofs.Keys.{change_keys}
use Rattle.transactions.proofs.Writes.{change_is}

-- these writes, and those that come behind them
abbrev pub onto : List RecordedWrite → Result (List RecordedWrite) Refused → Result (List RecordedWrite) Refused
onto ms (Ok more) = Ok (ms ++ more)
onto ms (Err x) = Err x

then_is : (cs : List RecordedWrite) (rest : Result (List RecordedWrite) Refused) → and_then None cs rest ≡ onto cs rest
then_is cs (Ok more) = refl
then_is cs (Err x) = refl

onto_twice : (ms ns : List RecordedWrite) (rest : Result (List RecordedWrite) Refused) → onto ms (onto ns rest) ≡ onto (ms ++ ns) rest
onto_twice ms ns (Ok more) = ap (λ (z : List RecordedWrite). Ok z) (sym (append_assoc ms ns more))
onto_twice ms ns (Err x) = refl

onto_none : (rest : Result (List RecordedWrite) Refused) → onto [] rest ≡ rest
onto_none (Ok more) = refl
onto_none (Err x) = refl

-- no other collections
abbrev HasSpaces : Rows → Rows → Type 0
HasSpaces s r = (n : NsName) → is_there n s ≡ true → is_there n r ≡ true

-- so many commands were made on rows, which are as they leave them
pub record HaveMade (ts : Ts) (f : Form) (cs : List DocumentCommand) (i : ℕ) (start now : Rows) (changes : List Change) (entries : List Entry) : Type 0 where
  pub writes : List RecordedWrite
  pub made : AreMade ts changes entries writes
  pub rest : changes_together f cs start ≡ onto writes (changes_together f (drop i cs) now)
  pub good : AreGood changes start.tables
  pub count : length changes ≤ i
  pub spaces : HasSpaces now start
  pub keyed : AreKeyed now

pub none_made : (ts : Ts) (f : Form) (cs : List DocumentCommand) (start : Rows) (changes : List Change) (entries : List Entry) → changes ≡ [] → entries ≡ [] → AreKeyed start → HaveMade ts f cs 0 start start changes entries
none_made ts f cs start changes entries a b k =
    subst (λ (z : List Change). HaveMade ts f cs 0 start start z entries) (sym a) (subst (λ (z : List Entry). HaveMade ts f cs 0 start start [] z) (sym b) (record {
      writes = [];
      made = record { writes = refl; records = refl };
      rest = sym (onto_none (changes_together f cs start));
      good = tt;
      count = omega arith;
      spaces = λ n e. e;
      keyed = k;
    }))

pub next_left : (cs : List DocumentCommand) (i : ℕ) (c : DocumentCommand) → i < length cs → c ≡ get_or cs i c → drop i cs ≡ c ∷ drop (i + 1) cs
next_left cs i c l e = drop_more cs i c l ∙ ap (λ (z : DocumentCommand). z ∷ drop (i + 1) cs) (sym e)

-- the next command isn't refused
together_on : (f : Form) (c : DocumentCommand) (left : List DocumentCommand) (now : Rows) → document_refusal true c now ≡ None → changes_together f (c ∷ left) now ≡ onto (document_changes f c now) (changes_together f left (rows_of_changes (document_changes f c now) now))
together_on f c left now e =
    ap (λ (x : Option Refused). and_then x (document_changes f c now) (changes_together f left (rows_of_changes (document_changes f c now) now))) e
    ∙ then_is (document_changes f c now) (changes_together f left (rows_of_changes (document_changes f c now) now))

-- a command that changes nothing
nothing_more : (ts : Ts) (f : Form) (cs : List DocumentCommand) (i : ℕ) (c : DocumentCommand) (start now new : Rows) (changes : List Change) (entries : List Entry) → drop i cs ≡ c ∷ drop (i + 1) cs → HaveMade ts f cs i start now changes entries → IsStep true f c (Ok None) now new →
    HaveMade ts f cs (i + 1) start new changes entries
nothing_more ts f cs i c start now new changes entries l h s =
    (let left = drop (i + 1) cs in
    subst (λ (z : Rows). HaveMade ts f cs (i + 1) start z changes entries) (sym s.2) (record {
      writes = h.writes;
      made = h.made;
      rest = h.rest ∙ ap (onto h.writes)
          (ap (λ (z : List DocumentCommand). changes_together f z now) l ∙ (together_on f c left now s.0 ∙ (ap (λ (z : List RecordedWrite). onto z (changes_together f left (rows_of_changes z now))) s.1 ∙ onto_none (changes_together f left now))));
      good = h.good;
      count = (let k = h.count in omega (arith, k));
      spaces = h.spaces;
      keyed = h.keyed;
    }))

-- ---- a change more

good_more : (xs : List Change) (x : Change) (ts : Tables) → AreGood xs ts → IsGood x ts → AreGood (xs ++ x ∷ []) ts
good_more [] x ts a b = (b, tt)
good_more (y ∷ xs) x ts a b = (a.0, good_more xs x ts a.1 b)

-- collections of a change that are there
set_spaces : (m l : NsName) (ts : Tables) (t : Table) → is_some (map.get ts l) ≡ true → is_some (map.get (map.insert ts l t) m) ≡ true → is_some (map.get ts m) ≡ true
set_spaces m l ts t h e = by (same_ns m l) refl (ap (λ (o : Option Table). is_some o) (sym (ns_at_insert ts l t m)) ∙ e)
  where
    by : (b : Bool) → same_ns m l ≡ b → is_some (cond b (Some t) (map.get ts m)) ≡ true → is_some (map.get ts m) ≡ true
    by true f g = ap (λ (n : NsName). is_some (map.get ts n)) (ns_is m l f) ∙ h
    by false f g = g

found_spaces : (m l : NsName) (ts : Tables) (g : Table → Table) (o : Option Table) → map.get ts l ≡ o → is_some (map.get (on_found g l o ts) m) ≡ true → is_some (map.get ts m) ≡ true
found_spaces m l ts g None p e = e
found_spaces m l ts g (Some t) p e = set_spaces m l ts (g t) (ap (λ (o : Option Table). is_some o) p) e

change_spaces : (l : NsName) (k : Key) (o : Option Document) (r : Rows) → is_some (map.get r.tables l) ≡ true → HasSpaces (changed_by l k o r) r
change_spaces l k None r h n e = found_spaces n l r.tables (drop_table k) (map.get r.tables l) refl e
change_spaces l k (Some d) r h n e = set_spaces n l r.tables (put_table k d (or_fresh r.count (map.get r.tables l))) h e

good_before : (x : Change) (now start : Rows) → HasSpaces now start → IsGood x now.tables → IsGood x start.tables
good_before x now start h g = record { there = h x.ns g.there; id = g.id; short = g.short }

made_more : (ts : Ts) (changes : List Change) (entries : List Entry) (ms : List RecordedWrite) (x : Change) (e : Entry) (m : RecordedWrite) → AreMade ts changes entries ms → write_of x ≡ m.0 → e ≡ item_entry ts m.1 → AreMade ts (changes ++ x ∷ []) (entries ++ e ∷ []) (ms ++ m ∷ [])
made_more ts changes entries ms x e m h w g = record {
  writes = map-append write_of changes (x ∷ []) ∙ ((λ i. h.writes i ++ w i ∷ []) ∙ sym (map-append (λ (z : RecordedWrite). z.0) ms (m ∷ [])));
  records = (λ i. h.records i ++ g i ∷ [])
      ∙ (sym (map-append (item_entry ts) (each (λ (z : RecordedWrite). z.1) ms) (m.1 ∷ [])) ∙ ap (each (item_entry ts)) (sym (map-append (λ (z : RecordedWrite). z.1) ms (m ∷ []))));
}

-- a command that makes a change
one_more : (ts : Ts) (f : Form) (cs : List DocumentCommand) (i : ℕ) (c : DocumentCommand) (x : ChangeRecord) (entry : Entry) (start now new : Rows) (changes more : List Change) (entries behind : List Entry) → drop i cs ≡ c ∷ drop (i + 1) cs →
    HaveMade ts f cs i start now changes entries → IsStep true f c (Ok (Some x)) now new → more ≡ changes ++ x.change ∷ [] → entry ≡ entry_with ts x.change.ns x.action → behind ≡ entries ++ entry ∷ [] → HaveMade ts f cs (i + 1) start new more behind
one_more ts f cs i c x entry start now new changes more entries behind l h s a e b =
    (let left = drop (i + 1) cs in
    let g = s.1 in
    let m : RecordedWrite = (write_of x.change, g.item) in
    let same : new ≡ change_rows (write_of x.change) now = g.after ∙ change_is x.change now in
    subst (λ (z : List Change). HaveMade ts f cs (i + 1) start new z behind) (sym a) (subst (λ (z : List Entry). HaveMade ts f cs (i + 1) start new (changes ++ x.change ∷ []) z) (sym b) (record {
      writes = h.writes ++ m ∷ [];
      made = made_more ts changes entries h.writes x.change entry m h.made refl (e ∙ sym (g.entry ts));
      rest = h.rest ∙ (ap (onto h.writes)
          (ap (λ (z : List DocumentCommand). changes_together f z now) l ∙ (together_on f c left now s.0 ∙ (ap (λ (z : List RecordedWrite). onto z (changes_together f left (rows_of_changes z now))) g.changes
          ∙ ap (λ (z : Rows). onto (m ∷ []) (changes_together f left z)) (sym same))))
          ∙ onto_twice h.writes (m ∷ []) (changes_together f left new));
      good = good_more changes x.change start.tables h.good (good_before x.change now start h.spaces g.good);
      count = (let k = h.count in let n = length-append changes (x.change ∷ []) in omega (arith, k, n));
      spaces = λ n q. h.spaces n (change_spaces x.change.ns (key_of x.change.id) x.change.doc now g.good.there n (ap (λ (z : Rows). is_some (map.get z.tables n)) (sym g.after) ∙ q));
      keyed = subst AreKeyed (sym g.after) (change_keys x.change now g.good.id h.keyed);
    })))

-- a command that isn't refused
pub step_more : (ts : Ts) (f : Form) (cs : List DocumentCommand) (i : ℕ) (c : DocumentCommand) (o : Option ChangeRecord) (start now new : Rows) (changes more : List Change) (entries behind : List Entry) → drop i cs ≡ c ∷ drop (i + 1) cs → HaveMade ts f cs i start now changes entries →
    IsStep true f c (Ok o) now new → IsAppended ts o changes entries more behind → HaveMade ts f cs (i + 1) start new more behind
step_more ts f cs i c None start now new changes more entries behind l h s a =
    subst (λ (z : List Change). HaveMade ts f cs (i + 1) start new z behind) (sym a.0) (subst (λ (z : List Entry). HaveMade ts f cs (i + 1) start new changes z) (sym a.1) (nothing_more ts f cs i c start now new changes entries l h s))
step_more ts f cs i c (Some x) start now new changes more entries behind l h s a = one_more ts f cs i c x (entry_with ts x.change.ns x.action) start now new changes more entries behind l h s a.0 refl a.1

-- ---- the answer

pub is_refused : (ts : Ts) (f : Form) (cs : List DocumentCommand) (i : ℕ) (c : DocumentCommand) (x : Refused) (start now new : Rows) (changes : List Change) (entries : List Entry) → drop i cs ≡ c ∷ drop (i + 1) cs → HaveMade ts f cs i start now changes entries → IsStep true f c (Err x) now new →
    Answers ts (Err x) (changes_together f cs start)
is_refused ts f cs i c x start now new changes entries l h s =
    subst (Answers ts (Err x)) (sym (h.rest ∙ ap (onto h.writes) (ap (λ (z : List DocumentCommand). changes_together f z now) l
    ∙ ap (λ (o : Option Refused). and_then o (document_changes f c now) (changes_together f (drop (i + 1) cs) (rows_of_changes (document_changes f c now) now))) s))) refl

pub is_done : (ts : Ts) (f : Form) (cs : List DocumentCommand) (i : ℕ) (start now : Rows) (changes : List Change) (entries : List Entry) → length cs ≤ i → HaveMade ts f cs i start now changes entries → Answers ts (Ok (record { changes = changes; entries = entries })) (changes_together f cs start)
is_done ts f cs i start now changes entries l h =
    subst (Answers ts (Ok (record { changes = changes; entries = entries })))
    (sym (h.rest ∙ (ap (λ (z : List DocumentCommand). onto h.writes (changes_together f z now)) (drop_all i cs l) ∙ ap (λ (z : List RecordedWrite). Ok z) (append-nil h.writes)))) h.made

-- ---- what good changes are

pub good_there : (cs : List Change) (ts : Tables) → AreGood cs ts → AreThere cs ts
good_there [] ts g = tt
good_there (c ∷ cs) ts g = (g.0.there, good_there cs ts g.1)

pub good_ids : (cs : List Change) (ts : Tables) → AreGood cs ts → HaveIds cs
good_ids [] ts g = tt
good_ids (c ∷ cs) ts g = (g.0.id, good_ids cs ts g.1)

-- ---- answers of calls
