-- What is refused in a transaction, on rows that show a command its document and on others.
use Rattle.std.proofs.Common.{◌≡◌, ℕ, List, [], ◌∷◌, Bool, true, false, not, refl, sym, ap, ◌∙◌, subst, Option, Some, None, inl, inr}
use Rattle.std.specs.Prelude.{◌&&◌, ◌⊎◌, is_some, if◌then◌else◌}
use Rattle.std.specs.List.{list_any}
use Rattle.std.proofs.lemmas.Bool.{cases_Bool}
use Rattle.std.specs.FinMap as map
use Rattle.bson_value.specs.declared.namespace.NsName.{NsName}
use Rattle.bson_value.specs.declared.value.Value.{Value}
use Rattle.bson_encode.specs.Key.{key_of}
use Rattle.doc_path.specs.declared.parts.Form.{Form}
use Rattle.json_tree.specs.declared.tree.Tree.{Tree}
use Rattle.state_model.specs.Keys.{Key, key_cmp, same_key}
use Rattle.index_keys.specs.declared.plan.Plan.{Plan}
use Rattle.index_keys.specs.Definition.{plan_of}
use Rattle.coll_state.specs.Changes.{document_of, document_in, put_row}
use Rattle.coll_state.specs.Rows.{Document, Row, Rows, Table, id_of, row_of}
use Rattle.update_model.specs.declared.updated.Updated.{Updated}
use Rattle.schedule_model.specs.declared.command.DocumentCommand.{DocumentCommand}
use Rattle.schedule_model.specs.declared.command.DocumentCommand.TheVariants.{Insert, Replace, Update, Delete}
use Rattle.schedule_model.specs.declared.refused.Refused.{Refused}
use Rattle.schedule_model.specs.declared.refused.Refused.TheVariants.{NoSuchNamespace}
use Rattle.history_model.specs.Documents.{id_first, is_good_document, is_bad_name}
use Rattle.history_model.specs.Refusals.{is_there, row_in, row_at, row_named, definitions_in, rows_in, update_of, with_document, with_update, with_good, rows_with, any_definition, unique_clash, any_parallel, namespace_of, makes, first_of, document_rows, document_refusal}
use Rattle.history_model.specs.Commands.{RecordedWrite, unless_same, insert_changes, replace_changes, update_changes, under_id, document_changes}
use Rattle.history_model.specs.Entries.{Item, update_item}
use Rattle.history_model.specs.Entries as entries
use Rattle.history_model.specs.Indexes.{IndexesHold}
use Rattle.bson_value.specs.declared.value.Value.{Value-F, out-Value, Object}
use Rattle.bson_value.specs.declared.value.Value.TheVariants.{outs-Object}
use Rattle.update_model.specs.Equality.{same}
use Rattle.update_model.proofs.SameValues.{same_is}
use Rattle.copy_model.specs.Writes.{SingleWrite}
use Rattle.copy_model.specs.Writes as writes
use Rattle.kept_indexes.proofs.Entries.{found_entry}
use Rattle.transaction_indexes.specs.Laws.{tested_write, ChangesAreSame, RefusalsAreSame, IndexesDecide, UnchangedIsAccepted}
use Rattle.command_refusals.specs.Conditions.{first_row}
use Rattle.command_refusals.specs.Tests.{rows_refusal, refusal_by}
use Rattle.command_refusals.proofs.DocumentRows.{insert_row, replace_row, update_row, delete_row}
use Rattle.transaction_indexes.specs.Shown.{ShowsIn, Shows}

-- ---- in a transaction

none_makes : (c : DocumentCommand) → makes true c ≡ false
none_makes (Insert n d) = refl
none_makes (Replace n d) = refl
none_makes (Update n id ops) = refl
none_makes (Delete n id) = refl

first_where : (a b : Bool) (es : List (Bool × Refused)) → a ≡ true → b ≡ false → first_of ((not a && not b, NoSuchNamespace) ∷ es) ≡ first_of es
first_where a b es e f = λ i. first_of ((not (e i) && not b, NoSuchNamespace) ∷ es)

first_else : (a b : Bool) (es : List (Bool × Refused)) → a ≡ false → b ≡ false → first_of ((not a && not b, NoSuchNamespace) ∷ es) ≡ Some NoSuchNamespace
first_else a b es e f = λ i. first_of ((not (e i) && not (f i), NoSuchNamespace) ∷ es)

-- the rows behind the first
abbrev later_rows : DocumentCommand → Rows → List (Bool × Refused)
later_rows c r = rest (document_rows true c r)
  where
    rest : List (Bool × Refused) → List (Bool × Refused)
    rest [] = []
    rest (e ∷ es) = es

pub missing_refused : (c : DocumentCommand) (r : Rows) → is_there (namespace_of c) r ≡ false → document_refusal true c r ≡ Some NoSuchNamespace
missing_refused c r e = first_else (is_there (namespace_of c) r) (makes true c) (later_rows c r) e (none_makes c)

pub there_refused : (c : DocumentCommand) (r : Rows) → is_there (namespace_of c) r ≡ true → document_refusal true c r ≡ document_refusal false c r
there_refused c r e =
    (λ i. first_of ((not (e i) && not (makes true c), NoSuchNamespace) ∷ later_rows c r))
    ∙ sym (λ i. first_of ((not (e i) && not (makes false c), NoSuchNamespace) ∷ later_rows c r))

-- ---- rows that show the same

same_found : (o p : Option Row) → document_of o ≡ document_of p → is_some o ≡ is_some p
same_found None None e = refl
same_found (Some v) (Some w) e = refl
same_found None (Some w) e = cc
same_found (Some v) None e = cc

some_document : (a b : Document) → Some a ≡ Some b → a ≡ b
some_document a b e = cc

same_update : (ops : Document) (o p : Option Row) → document_of o ≡ document_of p → update_of o ops ≡ update_of p ops
same_update ops None None e = refl
same_update ops (Some v) (Some w) e = ap made (some_document v.document w.document e)
  where
    made : Document → Option Updated
    made d = update_of (Some (record { no = 0; key = []; document = d })) ops
same_update ops None (Some w) e = cc
same_update ops (Some v) None e = cc

row_of_document : (k : Key) (o : Option Table) → document_of (row_in k o) ≡ document_in k o
row_of_document k None = refl
row_of_document k (Some t) = refl

same_rows : (k : Key) (o p : Option Table) → document_in k o ≡ document_in k p → document_of (row_in k o) ≡ document_of (row_in k p)
same_rows k o p e = row_of_document k o ∙ (e ∙ sym (row_of_document k p))

-- ---- the conditions of a command

-- but for what the indexes refuse
pub record Facts : Type 0 where
  pub no_namespace : Bool
  pub duplicate_id : Bool
  pub no_document : Bool
  pub bad_document : Bool
  pub bad_update : Bool
  pub bad_name : Bool

abbrev pub facts_of : DocumentCommand → Rows → Facts
facts_of (Insert n d) r = record { no_namespace = false; duplicate_id = is_some (row_named n (id_of d) r); no_document = false; bad_document = not (is_good_document d); bad_update = false; bad_name = not (is_there n r) && is_bad_name n }
facts_of (Replace n d) r = record {
  no_namespace = not (is_there n r);
  duplicate_id = false;
  no_document = is_some (id_of d) && not (is_some (row_named n (id_of d) r));
  bad_document = not (is_good_document d);
  bad_update = false;
  bad_name = not (is_there n r) && is_bad_name n;
}
facts_of (Update n id ops) r = record {
  no_namespace = not (is_there n r);
  duplicate_id = false;
  no_document = not (is_some (row_at n (key_of id) r));
  bad_document = false;
  bad_update = not (is_some (update_of (row_at n (key_of id) r) ops));
  bad_name = not (is_there n r) && is_bad_name n;
}
facts_of (Delete n id) r = record {
  no_namespace = not (is_there n r);
  duplicate_id = false;
  no_document = not (is_some (row_at n (key_of id) r));
  bad_document = false;
  bad_update = false;
  bad_name = not (is_there n r) && is_bad_name n;
}

-- the conditions one after the other
abbrev row : (a b c : Bool) (t : Option Refused) (d e f : Bool) → Option Refused
row a b c t d e f = first_row (record { no_namespace = a; duplicate_id = b; no_document = c; tested = t; bad_document = d; bad_update = e; bad_name = f })

abbrev pub first_of_facts : Facts → Option Refused → Option Refused
first_of_facts k t = row k.no_namespace k.duplicate_id k.no_document t k.bad_document k.bad_update k.bad_name

-- what the indexes refuse of the rows after a command
abbrev pub tested_of : DocumentCommand → Rows → Option Refused
tested_of c r = rows_refusal (rows_with c r) (definitions_in (map.get r.tables (namespace_of c)))

alone_is : (c : DocumentCommand) (r : Rows) → document_refusal false c r ≡ first_of_facts (facts_of c r) (tested_of c r)
alone_is (Insert n d) r = sym (insert_row n d r (is_some (row_named n (id_of d) r)) (is_good_document d) (not (is_there n r) && is_bad_name n) (tested_of (Insert n d) r) refl refl refl refl)
alone_is (Replace n d) r = sym (replace_row n d r (is_some (id_of d) && not (is_some (row_named n (id_of d) r))) (is_there n r) (is_good_document d) (not (is_there n r) && is_bad_name n) (tested_of (Replace n d) r) refl refl refl refl refl)
alone_is (Update n id ops) r =
    sym (update_row n id ops r (is_some (row_at n (key_of id) r)) (is_there n r) (not (is_there n r) && is_bad_name n) (tested_of (Update n id ops) r) (update_of (row_at n (key_of id) r) ops) (not (is_some (update_of (row_at n (key_of id) r) ops))) refl refl refl refl refl refl)
alone_is (Delete n id) r = sym (delete_row n id r (is_some (row_at n (key_of id) r)) (is_there n r) (not (is_there n r) && is_bad_name n) refl refl refl)

named_same : (n : NsName) (v : Option Value) (s r : Rows) → ShowsIn v (map.get s.tables n) (map.get r.tables n) → is_some (row_named n v s) ≡ is_some (row_named n v r)
named_same n None s r h = refl
named_same n (Some id) s r h = same_found (row_at n (key_of id) s) (row_at n (key_of id) r) (same_rows (key_of id) (map.get s.tables n) (map.get r.tables n) (h.document id refl))

facts_same : (c : DocumentCommand) (s r : Rows) → Shows c s r → facts_of c s ≡ facts_of c r
facts_same (Insert n d) s r h =
    (let named = named_same n (id_of d) s r h in
    λ i. record { no_namespace = false; duplicate_id = named i; no_document = false; bad_document = not (is_good_document d); bad_update = false; bad_name = not (h.there i) && is_bad_name n })
facts_same (Replace n d) s r h =
    (let named = named_same n (id_of d) s r h in
    λ i. record { no_namespace = not (h.there i); duplicate_id = false; no_document = is_some (id_of d) && not (named i); bad_document = not (is_good_document d); bad_update = false; bad_name = not (h.there i) && is_bad_name n })
facts_same (Update n id ops) s r h =
    (let rows = same_rows (key_of id) (map.get s.tables n) (map.get r.tables n) (h.document id refl) in
    let at = same_found (row_at n (key_of id) s) (row_at n (key_of id) r) rows in
    let made : update_of (row_at n (key_of id) s) ops ≡ update_of (row_at n (key_of id) r) ops = same_update ops (row_at n (key_of id) s) (row_at n (key_of id) r) rows in
    λ i. record { no_namespace = not (h.there i); duplicate_id = false; no_document = not (at i); bad_document = false; bad_update = not (is_some (made i)); bad_name = not (h.there i) && is_bad_name n })
facts_same (Delete n id) s r h =
    (let at = same_found (row_at n (key_of id) s) (row_at n (key_of id) r) (same_rows (key_of id) (map.get s.tables n) (map.get r.tables n) (h.document id refl)) in
    λ i. record { no_namespace = not (h.there i); duplicate_id = false; no_document = not (at i); bad_document = false; bad_update = false; bad_name = not (h.there i) && is_bad_name n })

no_definitions : (rs : Option (List Row)) → rows_refusal rs [] ≡ None
no_definitions None = refl
no_definitions (Some rs) = refl

-- without definitions, a command is refused by the conditions of the other rows, but for the indexes
plain_alone : (c : DocumentCommand) (s r : Rows) → Shows c s r → definitions_in (map.get s.tables (namespace_of c)) ≡ [] → document_refusal false c s ≡ first_of_facts (facts_of c r) None
plain_alone c s r h e =
    alone_is c s
    ∙ (ap (first_of_facts (facts_of c s)) (ap (rows_refusal (rows_with c s)) e ∙ no_definitions (rows_with c s)) ∙ ap (λ (k : Facts). first_of_facts k None) (facts_same c s r h))

abbrev NothingLater : Option Refused → Bool → Bool → Bool → Type 0
NothingLater t d e f = (t ≡ None) ⊎ ((d ≡ false) × (e ≡ false) × (f ≡ false))

row_none : (a b c : Bool) (t : Option Refused) (d e f : Bool) → NothingLater t d e f → row a b c None d e f ≡ None → row a b c t d e f ≡ t
row_none a b c t d e f (inl z) h = subst (λ (x : Option Refused). row a b c x d e f ≡ x) (sym z) h
row_none true b c t d e f (inr z) h = cc
row_none false true c t d e f (inr z) h = cc
row_none false false true t d e f (inr z) h = cc
row_none false false false (Some x) d e f (inr z) h = refl
row_none false false false None d e f (inr z) h = h

row_some : (a b c : Bool) (t : Option Refused) (d e f : Bool) (x : Refused) → NothingLater t d e f → row a b c None d e f ≡ Some x → row a b c t d e f ≡ Some x
row_some a b c t d e f x (inl z) h = subst (λ (y : Option Refused). row a b c y d e f ≡ Some x) (sym z) h
row_some true b c t d e f x (inr z) h = h
row_some false true c t d e f x (inr z) h = h
row_some false false true t d e f x (inr z) h = h
row_some false false false t d e f x (inr z) h = absurd (never (sym (λ i. row false false false None (z.0 i) (z.1 i) (z.2 i)) ∙ h))
  where
    never : None ≡ Some x → ⊥
    never g = cc

-- a document without an `_id`, or one that isn't there
row_document : (a b c : Bool) (t : Option Refused) (d e f : Bool) → row a b c t d e f ≡ None → c ≡ false
row_document true b c t d e f h = cc
row_document false true c t d e f h = cc
row_document false false true t d e f h = cc
row_document false false false t d e f h = refl

row_good : (a b c : Bool) (d e f : Bool) → row a b c None d e f ≡ None → d ≡ false
row_good true b c d e f h = cc
row_good false true c d e f h = cc
row_good false false true d e f h = cc
row_good false false false true e f h = cc
row_good false false false false e f h = refl

not_not : (b : Bool) → not b ≡ false → b ≡ true
not_not true e = refl
not_not false e = cc

there_named : (a b : Bool) → a ≡ true → (not a && b) ≡ false
there_named a b e = ap (λ (z : Bool). not z && b) e

-- what the indexes refuse, nothing later does
nothing_later : (c : DocumentCommand) (r : Rows) → is_there (namespace_of c) r ≡ true →
    NothingLater (tested_of c r) (facts_of c r).bad_document (facts_of c r).bad_update (facts_of c r).bad_name
nothing_later (Insert n d) r t = by (is_good_document d) refl
  where
    by : (b : Bool) → is_good_document d ≡ b → (rows_refusal (with_good (is_good_document d) d (rows_in (map.get r.tables n))) (definitions_in (map.get r.tables n)) ≡ None) ⊎ ((not (is_good_document d) ≡ false) × (false ≡ false) × ((not (is_there n r) && is_bad_name n) ≡ false))
    by true e = inr (ap not e, refl, there_named (is_there n r) (is_bad_name n) t)
    by false e = inl (ap (λ (b : Bool). rows_refusal (with_good b d (rows_in (map.get r.tables n))) (definitions_in (map.get r.tables n))) e)
nothing_later (Replace n d) r t = by (is_good_document d) refl
  where
    by : (b : Bool) → is_good_document d ≡ b → (rows_refusal (with_good (is_good_document d) d (rows_in (map.get r.tables n))) (definitions_in (map.get r.tables n)) ≡ None) ⊎ ((not (is_good_document d) ≡ false) × (false ≡ false) × ((not (is_there n r) && is_bad_name n) ≡ false))
    by true e = inr (ap not e, refl, there_named (is_there n r) (is_bad_name n) t)
    by false e = inl (ap (λ (b : Bool). rows_refusal (with_good b d (rows_in (map.get r.tables n))) (definitions_in (map.get r.tables n))) e)
nothing_later (Update n id ops) r t = by (update_of (row_at n (key_of id) r) ops) refl
  where
    by : (u : Option Updated) → update_of (row_at n (key_of id) r) ops ≡ u → (rows_refusal (with_update id (update_of (row_at n (key_of id) r) ops) (rows_in (map.get r.tables n))) (definitions_in (map.get r.tables n)) ≡ None)
        ⊎ ((false ≡ false) × (not (is_some (update_of (row_at n (key_of id) r) ops)) ≡ false) × ((not (is_there n r) && is_bad_name n) ≡ false))
    by (Some u) e = inr (refl, ap (λ (x : Option Updated). not (is_some x)) e, there_named (is_there n r) (is_bad_name n) t)
    by None e = inl (ap (λ (x : Option Updated). rows_refusal (with_update id x (rows_in (map.get r.tables n))) (definitions_in (map.get r.tables n))) e)
nothing_later (Delete n id) r t = inl refl

-- ---- on rows that show a command the same, and have no definitions

pub refused_too : (c : DocumentCommand) (s r : Rows) (x : Refused) → Shows c s r → definitions_in (map.get s.tables (namespace_of c)) ≡ [] → document_refusal true c s ≡ Some x → document_refusal true c r ≡ Some x
refused_too c s r x h e z = by (is_there (namespace_of c) r) refl
  where
    by : (b : Bool) → is_there (namespace_of c) r ≡ b → document_refusal true c r ≡ Some x
    by true t =
        (let k = facts_of c r in
        let base : first_of_facts k None ≡ Some x = sym (plain_alone c s r h e) ∙ (sym (there_refused c s (h.there ∙ t)) ∙ z) in
        there_refused c r t ∙ (alone_is c r ∙ row_some k.no_namespace k.duplicate_id k.no_document (tested_of c r) k.bad_document k.bad_update k.bad_name x (nothing_later c r t) base))
    by false t = missing_refused c r t ∙ (sym (missing_refused c s (h.there ∙ t)) ∙ z)

-- what isn't refused there
pub unrefused : (c : DocumentCommand) (s r : Rows) → Shows c s r → definitions_in (map.get s.tables (namespace_of c)) ≡ [] → document_refusal true c s ≡ None → (is_there (namespace_of c) r ≡ true) × (first_of_facts (facts_of c r) None ≡ None)
unrefused c s r h e z = by (is_there (namespace_of c) r) refl
  where
    by : (b : Bool) → is_there (namespace_of c) r ≡ b → (is_there (namespace_of c) r ≡ true) × (first_of_facts (facts_of c r) None ≡ None)
    by true t = (t, sym (plain_alone c s r h e) ∙ (sym (there_refused c s (h.there ∙ t)) ∙ z))
    by false t = (let f = sym (missing_refused c s (h.there ∙ t)) ∙ z in cc)

pub tested_too : (c : DocumentCommand) (s r : Rows) → Shows c s r → definitions_in (map.get s.tables (namespace_of c)) ≡ [] → document_refusal true c s ≡ None → document_refusal true c r ≡ tested_of c r
tested_too c s r h e z =
    (let u = unrefused c s r h e z in
    let k = facts_of c r in
    there_refused c r u.0 ∙ (alone_is c r ∙ row_none k.no_namespace k.duplicate_id k.no_document (tested_of c r) k.bad_document k.bad_update k.bad_name (nothing_later c r u.0) u.1))

-- ---- and make the same

same_replaced : (n : NsName) (id : Value) (d : Document) (o p : Option Row) → document_of o ≡ document_of p → replace_changes n id d o ≡ replace_changes n id d p
same_replaced n id d None None e = refl
same_replaced n id d (Some v) (Some w) e = ap (λ (x : Document). replace_changes n id d (Some (record { no = 0; key = []; document = x }))) (some_document v.document w.document e)
same_replaced n id d None (Some w) e = cc
same_replaced n id d (Some v) None e = cc

same_updated : (f : Form) (n : NsName) (id : Value) (u : Option Updated) (o p : Option Row) → document_of o ≡ document_of p → update_changes f n id o u ≡ update_changes f n id p u
same_updated f n id u None None e = refl
same_updated f n id None (Some v) (Some w) e = refl
same_updated f n id (Some u) (Some v) (Some w) e = ap (λ (x : Document). update_changes f n id (Some (record { no = 0; key = []; document = x })) (Some u)) (some_document v.document w.document e)
same_updated f n id u None (Some w) e = cc
same_updated f n id u (Some v) None e = cc

pub changes_same : (f : Form) (c : DocumentCommand) (s r : Rows) → Shows c s r → document_changes f c s ≡ document_changes f c r
changes_same f (Insert n d) s r h = λ i. under_id (λ id. insert_changes (h.there i) n id (id_first d)) (id_of d)
changes_same f (Replace n d) s r h = by (id_of d) h
  where
    by : (o : Option Value) → ShowsIn o (map.get s.tables n) (map.get r.tables n) → under_id (λ id. replace_changes n id (id_first d) (row_at n (key_of id) s)) o ≡ under_id (λ id. replace_changes n id (id_first d) (row_at n (key_of id) r)) o
    by None g = refl
    by (Some id) g = same_replaced n id (id_first d) (row_at n (key_of id) s) (row_at n (key_of id) r) (same_rows (key_of id) (map.get s.tables n) (map.get r.tables n) (g.document id refl))
changes_same f (Update n id ops) s r h =
    (let k = key_of id in
    let rows = same_rows k (map.get s.tables n) (map.get r.tables n) (h.document id refl) in
    ap (update_changes f n id (row_at n k s)) (same_update ops (row_at n k s) (row_at n k r) rows)
    ∙ same_updated f n id (update_of (row_at n k r) ops) (row_at n k s) (row_at n k r) rows)
changes_same f (Delete n id) s r h = refl

-- ---- what the indexes refuse of a command that isn't refused else

the_write : (w v : SingleWrite) (i j : Item) → ◌≡◌ {A = List RecordedWrite} ((w, i) ∷ []) ((v, j) ∷ []) → w ≡ v
the_write w v i j e = ap (λ (p : RecordedWrite). p.0) (one (w, i) (v, j) e)
  where
    one : (a b : RecordedWrite) → a ∷ [] ≡ b ∷ [] → a ≡ b
    one a b f = cc

no_write : (w : SingleWrite) (i : Item) → ◌≡◌ {A = List RecordedWrite} [] ((w, i) ∷ []) → ⊥
no_write w i e = cc

-- a document that is put unless the one that stands is the same
unless_write : (old new : Document) (v w : SingleWrite) (j i : Item) → unless_same old new ((v, j) ∷ []) ≡ (w, i) ∷ [] → v ≡ w
unless_write old new v w j i = elim (same (Object old) (Object new)) as (λ b. ◌≡◌ {A = List RecordedWrite} (elim b [ true ↦ [] | false ↦ (v, j) ∷ [] ]) ((w, i) ∷ []) → v ≡ w) [ true ↦ (λ e. absurd (no_write w i e)) | false ↦ (λ e. the_write v w j i e) ]

unless_none : (old new : Document) (v : SingleWrite) (j : Item) → unless_same old new ((v, j) ∷ []) ≡ [] → old ≡ new
unless_none old new v j e = by (same (Object old) (Object new)) refl
  where
    one : (a b : Document) → Object a ≡ Object b → a ≡ b
    one a b f = (let g : ◌≡◌ {A = Value-F Value} (Value-F.Object a) (Value-F.Object b) = sym (outs-Object a) ∙ (ap out-Value f ∙ outs-Object b) in cc)

    by : (b : Bool) → same (Object old) (Object new) ≡ b → old ≡ new
    by true f = one old new (same_is (Object old) (Object new) f)
    by false f = absurd (no_write v j (sym e ∙ ap (λ (b : Bool). elim b [ true ↦ [] | false ↦ (v, j) ∷ [] ]) f))

good_of : (c : DocumentCommand) (r : Rows) → first_of_facts (facts_of c r) None ≡ None → (facts_of c r).bad_document ≡ false
good_of c r z = (let k = facts_of c r in row_good k.no_namespace k.duplicate_id k.no_document k.bad_document k.bad_update k.bad_name z)

stands_of : (c : DocumentCommand) (r : Rows) → first_of_facts (facts_of c r) None ≡ None → (facts_of c r).no_document ≡ false
stands_of c r z = (let k = facts_of c r in row_document k.no_namespace k.duplicate_id k.no_document None k.bad_document k.bad_update k.bad_name z)

abbrev tests : NsName → Option (List Row) → Rows → Option Refused
tests n rs r = rows_refusal rs (definitions_in (map.get r.tables n))

pub tested_change : (f : Form) (c : DocumentCommand) (r : Rows) (w : SingleWrite) (i : Item) → is_there (namespace_of c) r ≡ true → first_of_facts (facts_of c r) None ≡ None → document_changes f c r ≡ (w, i) ∷ [] → tested_of c r ≡ tested_write w r
tested_change f (Insert n d) r w i t z e =
    ap (λ (b : Bool). tests n (with_good b d (rows_in (map.get r.tables n))) r) (not_not (is_good_document d) (good_of (Insert n d) r z)) ∙ by (id_of d) e
  where
    by : (o : Option Value) → under_id (λ id. insert_changes (is_there n r) n id (id_first d)) o ≡ (w, i) ∷ [] → tests n (with_document o (id_first d) (rows_in (map.get r.tables n))) r ≡ tested_write w r
    by None g = absurd (no_write w i g)
    by (Some id) g = ap (λ (v : SingleWrite). tested_write v r) (the_write (writes.Put n (key_of id) (id_first d)) w (entries.Put n id (id_first d)) i (ap (λ (b : Bool). insert_changes b n id (id_first d)) (sym t) ∙ g))
tested_change f (Replace n d) r w i t z e =
    ap (λ (b : Bool). tests n (with_good b d (rows_in (map.get r.tables n))) r) (not_not (is_good_document d) (good_of (Replace n d) r z)) ∙ by (id_of d) e
  where
    by : (o : Option Value) → under_id (λ id. replace_changes n id (id_first d) (row_at n (key_of id) r)) o ≡ (w, i) ∷ [] → tests n (with_document o (id_first d) (rows_in (map.get r.tables n))) r ≡ tested_write w r
    by None g = absurd (no_write w i g)
    by (Some id) g = on (row_at n (key_of id) r) g
      where
        on : (o : Option Row) → replace_changes n id (id_first d) o ≡ (w, i) ∷ [] → tested_write (writes.Put n (key_of id) (id_first d)) r ≡ tested_write w r
        on None h = absurd (no_write w i h)
        on (Some v) h = ap (λ (x : SingleWrite). tested_write x r) (unless_write v.document (id_first d) (writes.Put n (key_of id) (id_first d)) w (entries.Whole n id (id_first d)) i h)
tested_change f (Update n id ops) r w i t z e = on (row_at n (key_of id) r) e
  where
    on : (o : Option Row) → update_changes f n id o (update_of o ops) ≡ (w, i) ∷ [] → tests n (with_update id (update_of o ops) (rows_in (map.get r.tables n))) r ≡ tested_write w r
    on None g = absurd (no_write w i g)
    on (Some v) g = made (update_of (Some v) ops) g
      where
        made : (o : Option Updated) → update_changes f n id (Some v) o ≡ (w, i) ∷ [] → tests n (with_update id o (rows_in (map.get r.tables n))) r ≡ tested_write w r
        made None h = absurd (no_write w i h)
        made (Some u) h = ap (λ (x : SingleWrite). tested_write x r) (unless_write v.document u.doc (writes.Put n (key_of id) u.doc) w (update_item f n id u.doc u.touches) i h)
tested_change f (Delete n id) r w i t z e = ap (λ (v : SingleWrite). tested_write v r) (the_write (writes.Remove n (key_of id)) w (entries.Remove n id) i e)

-- ---- where nothing changes the indexes hold as before

none_passes : (test : List Row → Option Plan → Bool) (rs : List Row) (m : map.FinMap key_cmp Tree) → ((i : Key) (d : Tree) → map.get m i ≡ Some d → test rs (plan_of d) ≡ false) → any_definition test (Some rs) (map.entries m) ≡ false
none_passes test rs m h = by (cases_Bool (list_any (λ (e : Key × Tree). test rs (plan_of e.1)) (map.entries m)))
  where
    not_both : (b : Bool) → b ≡ true → b ≡ false → ⊥
    not_both b f g = cc

    by : (list_any (λ (e : Key × Tree). test rs (plan_of e.1)) (map.entries m) ≡ true) ⊎ (list_any (λ (e : Key × Tree). test rs (plan_of e.1)) (map.entries m) ≡ false) → any_definition test (Some rs) (map.entries m) ≡ false
    by (inl f) =
        (let x = found_entry (λ (e : Key × Tree). test rs (plan_of e.1)) (map.entries m) (map.entries_sorted m) f in
        absurd (not_both (test rs (plan_of x.0.1)) x.2 (h x.0.0 x.0.1 (map.get-entries m x.0.0 ∙ x.1))))
    by (inr f) = f

holds_tested : (n : NsName) (r : Rows) → IndexesHold r → tests n (Some (rows_in (map.get r.tables n))) r ≡ None
holds_tested n r h = by (map.get r.tables n) refl
  where
    by : (o : Option Table) → map.get r.tables n ≡ o → rows_refusal (Some (rows_in o)) (definitions_in o) ≡ None
    by None e = refl
    by (Some t) e =
        (λ j. refusal_by (none_passes unique_clash t.rows t.indexes (λ i d f. (h n t e i d f).0) j) (none_passes any_parallel t.rows t.indexes (λ i d f. (h n t e i d f).1) j))

put_same : (next : ℕ) (k : Key) (w : Row) (rs : List Row) → row_of rs k ≡ Some w → put_row next k w.document rs ≡ rs
put_same next k w [] e = cc
put_same next k w (r ∷ rs) e = by (same_key k r.key) e (put_same next k w rs)
  where
    one : (a b : Row) → Some a ≡ Some b → a ≡ b
    one a b f = cc

    by : (b : Bool) → (if b then Some r else row_of rs k) ≡ Some w → (row_of rs k ≡ Some w → put_row next k w.document rs ≡ rs) → (if b then record { no = r.no; key = r.key; document = w.document } ∷ rs else r ∷ put_row next k w.document rs) ≡ r ∷ rs
    by true f rest = ap (λ (x : Row). record { no = r.no; key = r.key; document = x.document } ∷ rs) (sym (one r w f))
    by false f rest = ap (λ (l : List Row). r ∷ l) (rest f)

-- the document that stands there
same_tested : (n : NsName) (k : Key) (v : Row) (d : Document) (r : Rows) → IndexesHold r → row_at n k r ≡ Some v → v.document ≡ d → tests n (Some (put_row 0 k d (rows_in (map.get r.tables n)))) r ≡ None
same_tested n k v d r h e f =
    ap (λ (x : Document). tests n (Some (put_row 0 k x (rows_in (map.get r.tables n)))) r) (sym f)
    ∙ (ap (λ (rs : List Row). tests n (Some rs) r) (put_same 0 k v (rows_in (map.get r.tables n)) (found (map.get r.tables n) e)) ∙ holds_tested n r h)
  where
    found : (o : Option Table) → row_in k o ≡ Some v → row_of (rows_in o) k ≡ Some v
    found None g = cc
    found (Some t) g = g

no_change : (w : SingleWrite) (i : Item) → ◌≡◌ {A = List RecordedWrite} ((w, i) ∷ []) [] → ⊥
no_change w i e = no_write w i (sym e)

pub unchanged_tested : (f : Form) (c : DocumentCommand) (r : Rows) → is_there (namespace_of c) r ≡ true → first_of_facts (facts_of c r) None ≡ None → document_changes f c r ≡ [] → IndexesHold r → tested_of c r ≡ None
unchanged_tested f (Insert n d) r t z e h =
    ap (λ (b : Bool). tests n (with_good b d (rows_in (map.get r.tables n))) r) (not_not (is_good_document d) (good_of (Insert n d) r z)) ∙ by (id_of d) e
  where
    by : (o : Option Value) → under_id (λ id. insert_changes (is_there n r) n id (id_first d)) o ≡ [] → tests n (with_document o (id_first d) (rows_in (map.get r.tables n))) r ≡ None
    by None g = refl
    by (Some id) g = absurd (no_change (writes.Put n (key_of id) (id_first d)) (entries.Put n id (id_first d)) (ap (λ (b : Bool). insert_changes b n id (id_first d)) (sym t) ∙ g))
unchanged_tested f (Replace n d) r t z e h =
    ap (λ (b : Bool). tests n (with_good b d (rows_in (map.get r.tables n))) r) (not_not (is_good_document d) (good_of (Replace n d) r z)) ∙ by (id_of d) e (stands_of (Replace n d) r z)
  where
    by : (o : Option Value) → under_id (λ id. replace_changes n id (id_first d) (row_at n (key_of id) r)) o ≡ [] → (is_some o && not (is_some (row_named n o r))) ≡ false → tests n (with_document o (id_first d) (rows_in (map.get r.tables n))) r ≡ None
    by None g q = refl
    by (Some id) g q = on (row_at n (key_of id) r) refl g q
      where
        on : (o : Option Row) → row_at n (key_of id) r ≡ o → replace_changes n id (id_first d) o ≡ [] → not (is_some o) ≡ false → tests n (Some (put_row 0 (key_of id) (id_first d) (rows_in (map.get r.tables n)))) r ≡ None
        on None k j m = cc
        on (Some v) k j m = same_tested n (key_of id) v (id_first d) r h k (unless_none v.document (id_first d) (writes.Put n (key_of id) (id_first d)) (entries.Whole n id (id_first d)) j)
unchanged_tested f (Update n id ops) r t z e h = on (row_at n (key_of id) r) refl e (stands_of (Update n id ops) r z)
  where
    on : (o : Option Row) → row_at n (key_of id) r ≡ o → update_changes f n id o (update_of o ops) ≡ [] → not (is_some o) ≡ false → tests n (with_update id (update_of o ops) (rows_in (map.get r.tables n))) r ≡ None
    on None k j m = cc
    on (Some v) k j m = made (update_of (Some v) ops) j
      where
        made : (o : Option Updated) → update_changes f n id (Some v) o ≡ [] → tests n (with_update id o (rows_in (map.get r.tables n))) r ≡ None
        made None g = refl
        made (Some u) g = same_tested n (key_of id) v u.doc r h k (unless_none v.document u.doc (writes.Put n (key_of id) u.doc) (update_item f n id u.doc u.touches) g)
unchanged_tested f (Delete n id) r t z e h = absurd (no_change (writes.Remove n (key_of id)) (entries.Remove n id) e)

-- ---- the laws

pub changes_are_same : ChangesAreSame
changes_are_same f c s r h = changes_same f c s r h.shows

pub refusals_are_same : RefusalsAreSame
refusals_are_same c s r x h e = refused_too c s r x h.shows h.plain e

pub indexes_decide : IndexesDecide
indexes_decide f c s r w i h e g =
    (let u = unrefused c s r h.shows h.plain e in tested_too c s r h.shows h.plain e ∙ tested_change f c r w i u.0 u.1 (sym (changes_same f c s r h.shows) ∙ g))

pub unchanged_is_accepted : UnchangedIsAccepted
unchanged_is_accepted f c s r h e g holds =
    (let u = unrefused c s r h.shows h.plain e in tested_too c s r h.shows h.plain e ∙ unchanged_tested f c r u.0 u.1 (sym (changes_same f c s r h.shows) ∙ g) holds)
