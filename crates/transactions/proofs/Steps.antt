-- What the code makes of a command that isn't refused is what the command makes.
use Rattle.std.proofs.Common.{◌≡◌, List, [], ◌∷◌, Bool, true, false, refl, sym, ap, ◌∙◌, subst, length, Option, Some, None, Result, Ok, Err}
use Rattle.std.specs.Prelude.{◌≤◌, nat_le, is_some, IfSome}
use Rattle.std.proofs.lemmas.Bool.{leb-true, and_parts}
use Rattle.std.specs.FinMap as map
use Rattle.bson_value.specs.declared.namespace.NsName.{NsName}
use Rattle.bson_value.specs.declared.value.Value.{Value}
use Rattle.bson_value.specs.declared.value.Ts.{Ts}
use Rattle.bson_value.specs.Levels.{levels_of}
use Rattle.bson_value.specs.Spelling.{document_text}
use Rattle.bson_encode.specs.Key.{key_of}
use Rattle.doc_path.specs.declared.parts.Form.{Form}
use Rattle.doc_path.specs.declared.touches.Touch.{Touch}
use Rattle.state_model.specs.Keys.{Key}
use Rattle.coll_state.specs.declared.change.Change.{Change}
use Rattle.coll_state.specs.ChangeAll.{changed_by}
use Rattle.coll_state.specs.Changes.{document_of, document_in, document_at, remove}
use Rattle.coll_state.specs.Kept.{is_short}
use Rattle.coll_state.specs.Rows.{Document, Row, Rows, Table, id_of, key_in, row_of}
use Rattle.copy_model.specs.Writes as writes
use Rattle.entry_model.specs.declared.entry.Action.TheVariants as actions
use Rattle.update_action.specs.Recorded.{recorded, action_of}
use Rattle.update_action.specs.Recorded as delta
use Rattle.update_model.specs.declared.updated.Updated.{Updated}
use Rattle.schedule_model.specs.declared.command.DocumentCommand.{DocumentCommand}
use Rattle.schedule_model.specs.declared.command.DocumentCommand.TheVariants.{Insert, Replace, Update, Delete}
use Rattle.schedule_model.specs.declared.refused.Refused.{Refused}
use Rattle.history_model.specs.Documents.{id_first, is_good_document}
use Rattle.history_model.specs.Entries.{Item, entry_with, item_entry, delta_or_whole, update_item}
use Rattle.history_model.specs.Entries as entries
use Rattle.history_model.specs.Refusals.{is_there, namespace_of, row_in, row_at, update_of, document_rows, document_refusal}
use Rattle.history_model.specs.Commands.{RecordedWrite, put_change, insert_changes, replace_changes, update_changes, under_id, document_changes}
use Rattle.history_model.proofs.Accepted.{all_false}
use Rattle.transaction_indexes.proofs.Refusing.{there_refused}
use Rattle.stored_documents.proofs.Sizes.{first_id, good_id, good_short}
use Rattle.stored_documents.proofs.Updates.{keeps_id, stays_short}
use Rattle.transactions.specs.declared.change_record.ChangeRecord.{ChangeRecord}
use Rattle.transactions.specs.Transactions.{write_by, IsGood}
use Rattle.transactions.specs.Steps.{changes_nothing, update_made, IsPut, IsMade, IsStep}
use Rattle.history_model.proofs.IndexesHeld.{is_good}

-- ---- a command on a collection that is there

pub step_in : (f : Form) (c : DocumentCommand) (a : Result (Option ChangeRecord) Refused) (old new : Rows) → is_there (namespace_of c) old ≡ true → IsStep false f c a old new → IsStep true f c a old new
step_in f c (Err x) old new t h = there_refused c old t ∙ h
step_in f c (Ok None) old new t h = (there_refused c old t ∙ h.0, h.1, h.2)
step_in f c (Ok (Some x)) old new t h = (there_refused c old t ∙ h.0, h.1)

-- ---- a change that puts a document

same_some : {A : Type 0} (x y : A) → Some x ≡ Some y → x ≡ y
same_some x y e = cc

-- every document of the change is this one
the_document : (c : Change) (d e : Document) → c.doc ≡ Some d → c.doc ≡ Some e → d ≡ e
the_document c d e p q = same_some d e (sym p ∙ q)

pub put_good : (c : Change) (n : NsName) (d : Document) (old new : Rows) → IsPut c n d old new → map.contains_key old.tables n ≡ true → is_short d ≡ true → IsGood c old.tables
put_good c n d old new p t s = record {
  there = subst (λ (m : NsName). map.contains_key old.tables m ≡ true) (sym p.ns) t;
  id = λ e q. subst (λ (z : Document). id_of z ≡ Some c.id) (the_document c d e p.document q) p.id;
  short = λ e q. subst (λ (z : Document). is_short z ≡ true) (the_document c d e p.document q) s;
}

put_made : (f : Form) (k : DocumentCommand) (n : NsName) (d : Document) (i : Item) (x : ChangeRecord) (old new : Rows) → IsPut x.change n d old new → map.contains_key old.tables n ≡ true → is_short d ≡ true →
    document_changes f k old ≡ (writes.Put n (key_of x.change.id) d, i) ∷ [] → ((ts : Ts) → item_entry ts i ≡ entry_with ts n x.action) → IsMade f k x old new
put_made f k n d i x old new p t s e g = record {
  item = i;
  changes = e ∙ sym (λ j. (write_by (p.ns j) (key_of x.change.id) (p.document j), i) ∷ []);
  entry = λ ts. g ts ∙ ap (λ (m : NsName). entry_with ts m x.action) (sym p.ns);
  good = put_good x.change n d old new p t s;
  after = p.after ∙ sym (λ j. changed_by (p.ns j) (key_of x.change.id) (p.document j) old);
}

-- ---- what isn't refused

pub inserted_good : (n : NsName) (d : Document) (r : Rows) → document_refusal false (Insert n d) r ≡ None → is_good_document d ≡ true
inserted_good n d r h = is_good (is_good_document d) (all_false (document_rows false (Insert n d) r) h).1.1.1.1.1.0

pub replaced_good : (n : NsName) (d : Document) (r : Rows) → document_refusal false (Replace n d) r ≡ None → is_good_document d ≡ true
replaced_good n d r h = is_good (is_good_document d) (all_false (document_rows false (Replace n d) r) h).1.1.1.1.1.0

pub good_named : (d : Document) → is_good_document d ≡ true → is_some (id_of (id_first d)) ≡ true
good_named d g = ap (λ (o : Option Value). is_some o) (first_id d) ∙ good_id d g

-- ---- inserts

pub insert_made : (f : Form) (n : NsName) (d : Document) (x : ChangeRecord) (old new : Rows) → document_refusal false (Insert n d) old ≡ None → map.contains_key old.tables n ≡ true → IsPut x.change n (id_first d) old new → x.action ≡ actions.Put (id_first d) →
    IsStep false f (Insert n d) (Ok (Some x)) old new
insert_made f n d x old new h t p a =
    (let named : id_of d ≡ Some x.change.id = sym (first_id d) ∙ p.id in (
      h,
      put_made f (Insert n d) n (id_first d) (entries.Put n x.change.id (id_first d)) x old new p t (good_short d (inserted_good n d old h)).1
          (λ i. under_id (λ id. insert_changes (t i) n id (id_first d)) (named i))
          (λ ts. ap (entry_with ts n) (sym a)),
    ))

-- ---- replacements

-- no change, or this one
abbrev pub unless : Bool → List RecordedWrite → List RecordedWrite
unless b cs = elim b [ true ↦ [] | false ↦ cs ]

replace_told : (n : NsName) (id : Value) (d : Document) (o : Option Row) → replace_changes n id d o ≡ unless (changes_nothing (document_of o) d) (put_change n id d (entries.Whole n id d) ∷ [])
replace_told n id d None = refl
replace_told n id d (Some w) = refl

pub row_document : (n : NsName) (k : Key) (r : Rows) → document_of (row_at n k r) ≡ document_at n k r.tables
row_document n k r = by (map.get r.tables n)
  where
    by : (o : Option Table) → document_of (row_in k o) ≡ document_in k o
    by None = refl
    by (Some t) = refl

replace_changes_are : (f : Form) (n : NsName) (d : Document) (id : Value) (r : Rows) (b : Bool) → id_of (id_first d) ≡ Some id → b ≡ changes_nothing (document_at n (key_of id) r.tables) (id_first d) →
    document_changes f (Replace n d) r ≡ unless b (put_change n id (id_first d) (entries.Whole n id (id_first d)) ∷ [])
replace_changes_are f n d id r b e g =
    (let named : id_of d ≡ Some id = sym (first_id d) ∙ e in
    ap (under_id (λ v. replace_changes n v (id_first d) (row_at n (key_of v) r))) named
    ∙ (replace_told n id (id_first d) (row_at n (key_of id) r)
    ∙ ap (λ (x : Bool). unless x (put_change n id (id_first d) (entries.Whole n id (id_first d)) ∷ [])) (ap (λ (o : Option Document). changes_nothing o (id_first d)) (row_document n (key_of id) r) ∙ sym g)))

pub replace_kept : (f : Form) (n : NsName) (d : Document) (id : Value) (b : Bool) (r : Rows) → document_refusal false (Replace n d) r ≡ None → id_of (id_first d) ≡ Some id → b ≡ changes_nothing (document_at n (key_of id) r.tables) (id_first d) → b ≡ true →
    IsStep false f (Replace n d) (Ok None) r r
replace_kept f n d id b r h e g t = (h, replace_changes_are f n d id r b e g ∙ ap (λ (x : Bool). unless x (put_change n id (id_first d) (entries.Whole n id (id_first d)) ∷ [])) t, refl)

pub replace_made : (f : Form) (n : NsName) (d : Document) (id : Value) (b : Bool) (x : ChangeRecord) (old new : Rows) → document_refusal false (Replace n d) old ≡ None → map.contains_key old.tables n ≡ true → id_of (id_first d) ≡ Some id →
    b ≡ changes_nothing (document_at n (key_of id) old.tables) (id_first d) → b ≡ false → IsPut x.change n (id_first d) old new → x.action ≡ actions.Whole id (id_first d) → IsStep false f (Replace n d) (Ok (Some x)) old new
replace_made f n d id b x old new h t e g z p a =
    (let one : id ≡ x.change.id = same_some id x.change.id (sym e ∙ p.id) in (
      h,
      put_made f (Replace n d) n (id_first d) (entries.Whole n id (id_first d)) x old new p t (good_short d (replaced_good n d old h)).1
          (replace_changes_are f n d id old b e g
          ∙ (ap (λ (y : Bool). unless y (put_change n id (id_first d) (entries.Whole n id (id_first d)) ∷ [])) z
          ∙ ap (λ (v : Value). (writes.Put n (key_of v) (id_first d), entries.Whole n id (id_first d)) ∷ []) one))
          (λ ts. ap (entry_with ts n) (sym a)),
    ))

-- ---- updates

pub update_is : (n : NsName) (k : Key) (ops : Document) (r : Rows) → update_made (document_at n k r.tables) ops ≡ update_of (row_at n k r) ops
update_is n k ops r = by (map.get r.tables n)
  where
    one : (o : Option Row) → update_made (document_of o) ops ≡ update_of o ops
    one None = refl
    one (Some w) = refl

    by : (o : Option Table) → update_made (document_in k o) ops ≡ update_of (row_in k o) ops
    by None = refl
    by (Some t) = one (row_of t.rows k)

update_told : (f : Form) (n : NsName) (id : Value) (o : Option Row) (u : Updated) → update_changes f n id o (Some u) ≡ unless (changes_nothing (document_of o) u.doc) (put_change n id u.doc (update_item f n id u.doc u.touches) ∷ [])
update_told f n id None u = refl
update_told f n id (Some w) u = refl

update_none : (f : Form) (n : NsName) (id : Value) (o : Option Row) → update_changes f n id o None ≡ []
update_none f n id None = refl
update_none f n id (Some w) = refl

pub update_gone : (f : Form) (n : NsName) (id : Value) (ops : Document) (u : Option Updated) (r : Rows) → document_refusal false (Update n id ops) r ≡ None → u ≡ update_made (document_at n (key_of id) r.tables) ops → u ≡ None →
    IsStep false f (Update n id ops) (Ok None) r r
update_gone f n id ops u r h e g =
    (h, ap (update_changes f n id (row_at n (key_of id) r)) (sym (update_is n (key_of id) ops r) ∙ (sym e ∙ g)) ∙ update_none f n id (row_at n (key_of id) r), refl)

update_changes_are : (f : Form) (n : NsName) (id : Value) (ops : Document) (u : Updated) (r : Rows) (b : Bool) → Some u ≡ update_made (document_at n (key_of id) r.tables) ops → b ≡ changes_nothing (document_at n (key_of id) r.tables) u.doc →
    document_changes f (Update n id ops) r ≡ unless b (put_change n id u.doc (update_item f n id u.doc u.touches) ∷ [])
update_changes_are f n id ops u r b e g =
    ap (update_changes f n id (row_at n (key_of id) r)) (sym (update_is n (key_of id) ops r) ∙ sym e)
    ∙ (update_told f n id (row_at n (key_of id) r) u
    ∙ ap (λ (x : Bool). unless x (put_change n id u.doc (update_item f n id u.doc u.touches) ∷ [])) (ap (λ (o : Option Document). changes_nothing o u.doc) (row_document n (key_of id) r) ∙ sym g))

pub update_kept : (f : Form) (n : NsName) (id : Value) (ops : Document) (u : Updated) (b : Bool) (r : Rows) → document_refusal false (Update n id ops) r ≡ None → Some u ≡ update_made (document_at n (key_of id) r.tables) ops →
    b ≡ changes_nothing (document_at n (key_of id) r.tables) u.doc → b ≡ true → IsStep false f (Update n id ops) (Ok None) r r
update_kept f n id ops u b r h e g t =
    (h, update_changes_are f n id ops u r b e g ∙ ap (λ (x : Bool). unless x (put_change n id u.doc (update_item f n id u.doc u.touches) ∷ [])) t, refl)

-- an update that is made stands under the key that is named, and is short
pub record IsUpdated (id : Value) (u : Updated) : Type 0 where
  pub key : key_in (id_of u.doc) ≡ key_of id
  pub short : is_short u.doc ≡ true

pub update_stands : (id : Value) (ops : Document) (u : Updated) (o : Option Document) → Some u ≡ update_made o ops → ((d : Document) → o ≡ Some d → key_in (id_of d) ≡ key_of id) → IsUpdated id u
update_stands id ops u None e k = cc
update_stands id ops u (Some d) e k = record {
  key = ap key_in (keeps_id ops d u (sym e)) ∙ k d refl;
  short = stays_short ops d u (sym e);
}

pub held_key : (id : Value) (o : Option Document) (d : Document) → IfSome o (λ (x : Document). key_in (id_of x) ≡ key_of id) → o ≡ Some d → key_in (id_of d) ≡ key_of id
held_key id None d h e = cc
held_key id (Some x) d h e = subst (λ (z : Document). key_in (id_of z) ≡ key_of id) (same_some x d e) h

-- a document under a key has an `_id`
pub named_by : (id : Value) (o : Option Value) → key_in o ≡ key_of id → is_some o ≡ true
named_by id None e = cc
named_by id (Some v) e = refl

pub short_text : (d : Document) → is_short d ≡ true → length (document_text d) ≤ 16777216
short_text d s = leb-true (length (document_text d)) 16777216 (and_parts (nat_le (length (document_text d)) 16777216) (nat_le (levels_of d) 100) s).0

update_entry : (f : Form) (n : NsName) (id : Value) (d : Document) (us : List Touch) (ts : Ts) → item_entry ts (update_item f n id d us) ≡ entry_with ts n (action_of f id d us)
update_entry f n id d us ts = by (recorded f d us)
  where
    by : (o : Option (Form × List Touch)) → item_entry ts (delta_or_whole n id d o) ≡ entry_with ts n (delta.delta_or_whole id d o)
    by None = refl
    by (Some r) = refl

pub update_done : (f : Form) (n : NsName) (id : Value) (ops : Document) (u : Updated) (b : Bool) (x : ChangeRecord) (old new : Rows) → document_refusal false (Update n id ops) old ≡ None → map.contains_key old.tables n ≡ true →
    Some u ≡ update_made (document_at n (key_of id) old.tables) ops → IsUpdated id u → b ≡ changes_nothing (document_at n (key_of id) old.tables) u.doc → b ≡ false → IsPut x.change n u.doc old new → x.action ≡ action_of f id u.doc u.touches →
    IsStep false f (Update n id ops) (Ok (Some x)) old new
update_done f n id ops u b x old new h t e w g z p a =
    (let one : key_of id ≡ key_of x.change.id = sym w.key ∙ ap key_in p.id in (
      h,
      put_made f (Update n id ops) n u.doc (update_item f n id u.doc u.touches) x old new p t w.short
          (update_changes_are f n id ops u old b e g
          ∙ (ap (λ (y : Bool). unless y (put_change n id u.doc (update_item f n id u.doc u.touches) ∷ [])) z
          ∙ ap (λ (k : Key). (writes.Put n k u.doc, update_item f n id u.doc u.touches) ∷ []) one))
          (λ ts. update_entry f n id u.doc u.touches ts ∙ ap (entry_with ts n) (sym a)),
    ))

-- ---- deletions

pub delete_made : (f : Form) (n : NsName) (id : Value) (x : ChangeRecord) (old new : Rows) → document_refusal false (Delete n id) old ≡ None → map.contains_key old.tables n ≡ true → x.change.ns ≡ n → x.change.id ≡ id → x.change.doc ≡ None → x.action ≡ actions.Remove id →
    new ≡ remove n (key_of id) old → IsStep false f (Delete n id) (Ok (Some x)) old new
delete_made f n id x old new h t a b c e g = (
  h,
  record {
    item = entries.Remove n id;
    changes = sym (λ j. (write_by (a j) (key_of (b j)) (c j), entries.Remove n id) ∷ []);
    entry = λ ts. sym (λ j. entry_with ts (a j) (e j));
    good = record {
      there = subst (λ (m : NsName). map.contains_key old.tables m ≡ true) (sym a) t;
      id = λ d q. absurd (no_document d (sym c ∙ q));
      short = λ d q. absurd (no_document d (sym c ∙ q));
    };
    after = g ∙ sym (λ j. changed_by (a j) (key_of (b j)) (c j) old);
  },
)
  where
    no_document : (d : Document) → None ≡ Some d → ⊥
    no_document d q = cc
