-- What a taking makes of a state, and of what was made of the takings before it.
use Rattle.std.proofs.Common.{◌≡◌, ℕ, Bool, true, false, cond, List, [], ◌∷◌, ◌++◌, length, refl, sym, ap, subst, ◌∙◌}
use Rattle.std.specs.Prelude.{option_map, IfOk, IfSome, IsTrue, Option, Some, None, Result, Ok, Err, OnOk, OnErr, IsOk, IsErr, not, ◌&&◌, ◌==◌, is_some, fold}
use Rattle.std.specs.BTreeSet.{insert_key}
use Rattle.std.specs.Result.{result_unwrap_or}
use Rattle.std.specs.FinMap as map
use Rattle.bson_value.specs.declared.namespace.NsName.{NsName}
use Rattle.bson_value.specs.declared.value.Ts.{Ts}
use Rattle.bson_value.specs.declared.value.Value.{Object}
use Rattle.bson_value.specs.NamespaceOrder.{namespace_cmp}
use Rattle.json_tree.specs.declared.tree.Tree.{Tree}
use Rattle.bson_check.specs.Faults.{first_fault}
use Rattle.bson_view.specs.Meaning.{document_in}
use Rattle.bson_view.proofs.Meanings.{faultless_read}
use Rattle.archive_format.specs.Shapes.{is_oplog}
use Rattle.archive_format.specs.Archive.{Taking, meta, doc, end, fault_in, fields_of}
use Rattle.metadata_text.specs.Metadata.{metadata_of, Meta}
use Rattle.state_model.specs.States.{State, Collection, no_options, fresh_collection}
use Rattle.state_model.proofs.Maps.{ns_map_same}
use Rattle.state_model.specs.Moves.{Put}
use Rattle.state_model.specs.Replay.{replay, replay_all}
use Rattle.coll_state.specs.Rows.{Document, Rows, key_in, id_of, collection_of, state_of}
use Rattle.coll_state.specs.Changes.{no_rows, put, describe, create}
use Rattle.coll_state.specs.Laws.{PutIsMove, CreateIsMove, DescribedAnew}
use Rattle.coll_state.proofs.Links.{collection_in, get_collection}
use Rattle.bson_view.specs.Views.{elem_value}
use Rattle.doc_path.specs.declared.parts.Form.TheVariants.{V2}
use Rattle.doc_path.specs.declared.touches.Touch.{Touch}
use Rattle.entry_model.specs.Written.{Fields}
use Rattle.entry_model.specs.declared.entry.Entry.{Entry}
use Rattle.entry_model.specs.declared.entry.Action.{out-Action}
use Rattle.entry_model.specs.declared.entry.Action.TheVariants as actions
use Rattle.entry_reader.specs.FieldDeltas.{place_of, SaysAt}
use Rattle.entry_reader.specs.declared.field_delta.FieldDelta.{FieldDelta}
use Rattle.replay.specs.Moves.{moves_of}
use Rattle.restore_entries.specs.Documents.{is_of_document}
use Rattle.restore_entries.specs.Oplog.{reading_of}
use Rattle.restore_entries.specs.FieldDeltas.{IsKeptAs, entry_of_touch}
use Rattle.restore_filter.specs.Names.{takes, new_name}
use Rattle.restore_filter.proofs.Names.{names_stay}
use Rattle.restore_entries.specs.declared.reading.EntryReading.{EntryReading}
use Rattle.restore_entries.specs.declared.reading.EntryReading.TheVariants.{Passed, Kept, Unreadable}
use Rattle.restore_plan.specs.declared.plan.Plan.{Plan}
use Rattle.restore_plan.specs.Base.{ns_of, is_of_base, named_step, base_step, described_in, made, document_taken, has_id, normal_forms, options_in, definitions_in, oplog_reading, kept_in, entries_in, metadata_fault, id_fault, entry_fault, bad_at}
use Rattle.restore_plan.proofs.Tests.{both, no_length}
use Rattle.restore_plan.specs.Taken.{Contents, plays_early, with_entry, ended_with, is_ended, is_ripe, with_collection, with_taking, unless_bad, and_taking, IsTakenAs}
use Rattle.index_build.proofs.Alike.{some_mapped}

-- ---- one taking

-- what is made of these contents by a taking that isn't refused
made_by : (p : Plan) (c d : Contents) (t : Taking) → bad_at p t ≡ None → d ≡ with_taking p c t → Some d ≡ and_taking p (Some c) t
made_by p c d t fine same = ap Some same ∙ ap (λ o. unless_bad o (with_taking p c t)) (sym fine)

-- the same where it has no entry
taken : (p : Plan) (c d : Contents) (t : Taking) → bad_at p t ≡ None → entries_in p t ≡ [] → d.state ≡ cond (is_of_base p t) (base_step p c.state t) c.state → d.entries ≡ c.entries → d.ended ≡ ended_with p c t → Some d ≡ and_taking p (Some c) t
taken p c d t fine none state entries ended =
    let same : d ≡ with_collection p c t = λ i. record { state = state i; entries = entries i; ended = ended i } in
    made_by p c d t fine (same ∙ ap (fold with_entry (with_collection p c t)) (sym none))

of_oplog : (p : Plan) (t : Taking) (s u : State) → is_oplog (ns_of t) ≡ true → u ≡ cond (is_of_base p t) s u
of_oplog p t s u e = ap (λ b. cond (not b && takes p.filter (ns_of t)) s u) (sym e)

of_collection : (p : Plan) (t : Taking) (s u v : State) → is_oplog (ns_of t) ≡ false → v ≡ cond (takes p.filter (ns_of t)) s u → v ≡ cond (is_of_base p t) s u
of_collection p t s u v e f = f ∙ ap (λ b. cond (not b && takes p.filter (ns_of t)) s u) (sym e)

pub oplog_meta : (p : Plan) (c : Contents) (n : NsName) (t : List ℕ) → is_oplog n ≡ true → Some c ≡ and_taking p (Some c) (meta n t)
oplog_meta p c n t e =
    taken p c c (meta n t) (ap (λ b. cond b None (metadata_fault n (metadata_of t))) e) refl (of_oplog p (meta n t) (base_step p c.state (meta n t)) c.state e) refl refl

pub oplog_end : (p : Plan) (c : Contents) (n : NsName) → is_oplog n ≡ true → Some c ≡ and_taking p (Some c) (end n)
oplog_end p c n e =
    taken p c c (end n) refl refl (of_oplog p (end n) (base_step p c.state (end n)) c.state e) refl
    (ap (λ b. cond (not b && plays_early p && map.contains_key c.state n) (insert_key namespace_cmp c.ended n) c.ended) (sym e))

-- a document of the oplog, by what it is to the restore
oplog_fault : (p : Plan) (n : NsName) (b : List ℕ) (r : EntryReading) → is_oplog n ≡ true → r ≡ oplog_reading p b → bad_at p (doc n b) ≡ entry_fault r
oplog_fault p n b r e is = ap (λ x. cond x (entry_fault (oplog_reading p b)) (id_fault n (has_id (document_taken b)))) e ∙ ap entry_fault (sym is)

oplog_entries : (p : Plan) (n : NsName) (b : List ℕ) (r : EntryReading) → is_oplog n ≡ true → r ≡ oplog_reading p b → entries_in p (doc n b) ≡ kept_in r
oplog_entries p n b r e is = ap (λ x. cond x (kept_in (oplog_reading p b)) []) e ∙ ap kept_in (sym is)

pub oplog_passed : (p : Plan) (c : Contents) (n : NsName) (b : List ℕ) (r : EntryReading) → is_oplog n ≡ true → r ≡ oplog_reading p b → r ≡ Passed → Some c ≡ and_taking p (Some c) (doc n b)
oplog_passed p c n b r e is passed =
    taken p c c (doc n b) (oplog_fault p n b r e is ∙ ap entry_fault passed) (oplog_entries p n b r e is ∙ ap kept_in passed) (of_oplog p (doc n b) (base_step p c.state (doc n b)) c.state e) refl refl

pub oplog_kept : (p : Plan) (c d : Contents) (n : NsName) (b : List ℕ) (r : EntryReading) (x : Entry) → is_oplog n ≡ true → r ≡ oplog_reading p b → r ≡ Kept x → d ≡ with_entry c x → Some d ≡ and_taking p (Some c) (doc n b)
oplog_kept p c d n b r x e is kept same =
    let state : c.state ≡ cond (is_of_base p (doc n b)) (base_step p c.state (doc n b)) c.state = of_oplog p (doc n b) (base_step p c.state (doc n b)) c.state e in
    let still : c ≡ with_collection p c (doc n b) = λ i. record { state = state i; entries = c.entries; ended = c.ended } in
    made_by p c d (doc n b) (oplog_fault p n b r e is ∙ ap entry_fault kept)
    (same ∙ ap (λ (k : Contents). with_entry k x) still ∙ ap (fold with_entry (with_collection p c (doc n b))) (sym (oplog_entries p n b r e is ∙ ap kept_in kept)))

-- an entry that was taken already
pub oplog_taken : (p : Plan) (c d : Contents) (n : NsName) (b : List ℕ) → is_oplog n ≡ true → IsTakenAs c (oplog_reading p b) d → Some d ≡ and_taking p (Some c) (doc n b)
oplog_taken p c d n b e t = oplog_kept p c d n b (oplog_reading p b) t.0 e refl t.1 t.2

-- a ripe entry of a delta of one field is taken where its state was made
pub field_taken : (c d : Contents) (r : EntryReading) (n : NsName) (x : FieldDelta) → (length c.entries == 0) ≡ true → is_ended n c.ended ≡ true → IsKeptAs n x r →
    ((ts : Ts) (t : Touch) → SaysAt (place_of x.place) (option_map elem_value x.value) t → d.state ≡ replay_all (moves_of (entry_of_touch ts n x t)) c.state) → d.entries ≡ c.entries → d.ended ≡ c.ended → IsTakenAs c r d
field_taken c d r n x none ended k made entries ends =
    let e : Entry = entry_of_touch k.0 n x k.1 in
    let document : is_of_document (out-Action e.action) ≡ true = ap is_of_document (actions.outs-Delta (elem_value x.id) V2 (k.1 ∷ [])) in
    let ripe : is_ripe c e ≡ true = rw (none, document, ended) refl in
    let state = made k.0 k.1 k.2 in
    (e, k.3, (λ i. record { state = state i; entries = entries i; ended = ends i }) ∙ sym (ap (λ b. cond b (record c { state = replay_all (moves_of e) c.state }) (record c { entries = c.entries ++ e ∷ [] })) ripe))

-- the same of what was read of its fields
pub field_taken_if : {E : Type 0} (r : Result Bool E) (c d : Contents) (o : Option (NsName × FieldDelta)) (n : NsName) (x : FieldDelta) (P : Fields → Type 0) (reading : Fields → EntryReading) →
    o ≡ Some (n, x) → (length c.entries == 0) ≡ true → is_ended n c.ended ≡ true → d.entries ≡ c.entries → d.ended ≡ c.ended → ((fs : Fields) → P fs → IfSome o (λ f. IsKeptAs f.0 f.1 (reading fs))) →
    IfOk r (λ done. IsTrue done → (ts : Ts) (t : Touch) → SaysAt (place_of x.place) (option_map elem_value x.value) t → d.state ≡ replay_all (moves_of (entry_of_touch ts n x t)) c.state) →
    IfOk r (λ done. IsTrue done → (fs : Fields) → P fs → IsTakenAs c (reading fs) d)
field_taken_if (Err e) c d o n x P reading is none ended entries ends kept made = tt
field_taken_if (Ok done) c d o n x P reading is none ended entries ends kept made =
    λ yes fs p. field_taken c d (reading fs) n x none ended (subst (λ (y : Option (NsName × FieldDelta)). IfSome y (λ f. IsKeptAs f.0 f.1 (reading fs))) is (kept fs p)) (made yes) entries ends

-- where entries are replayed, a document of the oplog is what its fields are
pub taken_as_read : (p : Plan) (c d : Contents) (b : List ℕ) → p.replaying ≡ true → IsTakenAs c (reading_of p.filter p.limit (document_taken b)) d → IsTakenAs c (oplog_reading p b) d
taken_as_read p c d b e t = (t.0, ap (λ x. cond x (reading_of p.filter p.limit (document_taken b)) Passed) e ∙ t.1, t.2)

pub oplog_unread : (p : Plan) (n : NsName) (b : List ℕ) (r : EntryReading) (ts : Option Ts) → is_oplog n ≡ true → r ≡ oplog_reading p b → r ≡ Unreadable ts → bad_at p (doc n b) ≡ entry_fault (Unreadable ts)
oplog_unread p n b r ts e is unread = oplog_fault p n b r e is ∙ ap entry_fault unread

-- ---- collections that are there

there : (s : State) (n : NsName) (c : Option Collection) (b : Bool) → is_some c ≡ b → b ≡ true → made n c s ≡ s
there s n None b e f = absurd cc
there s n (Some c) b e f = refl

missing : (s : State) (n : NsName) (c : Option Collection) (b : Bool) → is_some c ≡ b → b ≡ false → made n c s ≡ map.insert s n (fresh_collection no_options)
missing s n None b e f = refl
missing s n (Some c) b e f = absurd cc

has_is : (s : Rows) (n : NsName) → is_some (map.get (state_of s) n) ≡ is_some (map.get s.tables n)
has_is s n = ap is_some (get_collection s n) ∙ some_mapped collection_of (map.get s.tables n)

there_is : (s : State) (n : NsName) → map.contains_key s n ≡ true → named_step n s (end n) ≡ s
there_is s n e = there s n (map.get s n) true e refl

-- takings of collections

pub meta_taken : (p : Plan) (c d : Contents) (n : NsName) (t : List ℕ) (o : Tree) (ds : List Tree) → is_oplog n ≡ false → metadata_of t ≡ Ok (o, ds) → d.state ≡ cond (takes p.filter n) (described_in c.state (new_name p.filter n) o (normal_forms ds)) c.state → d.entries ≡ c.entries → d.ended ≡ c.ended
    → Some d ≡ and_taking p (Some c) (meta n t)
meta_taken p c d n t o ds e is state entries ended =
    let fine : bad_at p (meta n t) ≡ None = ap (λ b. cond b None (metadata_fault n (metadata_of t))) e ∙ ap (metadata_fault n) is in
    taken p c d (meta n t) fine refl
    (of_collection p (meta n t) (base_step p c.state (meta n t)) c.state d.state e
    (state ∙ ap (λ (m : Meta). cond (takes p.filter n) (described_in c.state (new_name p.filter n) (options_in m) (definitions_in m)) c.state) (sym is)))
    entries ended

pub doc_taken : (p : Plan) (c d : Contents) (n : NsName) (b : List ℕ) → is_oplog n ≡ false → has_id (document_taken b) ≡ true → d.state ≡ cond (takes p.filter n) (named_step (new_name p.filter n) c.state (doc n b)) c.state → d.entries ≡ c.entries → d.ended ≡ c.ended
    → Some d ≡ and_taking p (Some c) (doc n b)
doc_taken p c d n b e has state entries ended =
    let fine : bad_at p (doc n b) ≡ None = ap (λ x. cond x (entry_fault (oplog_reading p b)) (id_fault n (has_id (document_taken b)))) e ∙ ap (id_fault n) has in
    let none : entries_in p (doc n b) ≡ [] = ap (λ x. cond x (kept_in (oplog_reading p b)) []) e in
    taken p c d (doc n b) fine none (of_collection p (doc n b) (base_step p c.state (doc n b)) c.state d.state e state) entries ended

pub no_renames : (p : Plan) → plays_early p ≡ true → p.filter.renames ≡ []
no_renames p e = no_length p.filter.renames (both p.replaying (length p.filter.renames == 0) e).1

either : (b : Bool) (s u : State) → u ≡ s → s ≡ cond b u s
either true s u e = sym e
either false s u e = refl

-- whether an end is noted: not where nothing is replayed as it comes or the collection isn't there
unnoted_is : (a b c : Bool) → (b && c) ≡ false → (a && b && c) ≡ false
unnoted_is true b c e = e
unnoted_is false b c e = refl

noted_is : (a b c : Bool) → a ≡ true → (b && c) ≡ true → (a && b && c) ≡ true
noted_is true b c e f = f
noted_is false b c e f = cc

-- an end that isn't noted
pub end_taken : (p : Plan) (s : Rows) (c d : Contents) (n : NsName) (has : Bool) → is_oplog n ≡ false → has ≡ map.contains_key s.tables n → (plays_early p && has) ≡ false → c.state ≡ state_of s → d.state ≡ cond (takes p.filter n) (named_step (new_name p.filter n) c.state (end n)) c.state → d.entries ≡ c.entries → d.ended ≡ c.ended
    → Some d ≡ and_taking p (Some c) (end n)
end_taken p s c d n has e there unnoted is state entries ended =
    let same : map.contains_key c.state n ≡ has = ap (λ (u : State). map.contains_key u n) is ∙ has_is s n ∙ sym there in
    taken p c d (end n) refl refl (of_collection p (end n) (base_step p c.state (end n)) c.state d.state e state) entries
    (ended ∙ ap (λ b. cond b (insert_key namespace_cmp c.ended n) c.ended) (sym (unnoted_is (not (is_oplog n)) (plays_early p) (map.contains_key c.state n) (ap (λ b. plays_early p && b) same ∙ unnoted))))

-- an end that is noted: there is nothing to be made
pub end_noted : (p : Plan) (s : Rows) (c d : Contents) (n : NsName) (has : Bool) → is_oplog n ≡ false → has ≡ map.contains_key s.tables n → (plays_early p && has) ≡ true → c.state ≡ state_of s → d.state ≡ c.state → d.entries ≡ c.entries → d.ended ≡ insert_key namespace_cmp c.ended n
    → Some d ≡ and_taking p (Some c) (end n)
end_noted p s c d n has e there noted is state entries ended =
    let k = both (plays_early p) has noted in
    let name : new_name p.filter n ≡ n = names_stay p.filter n (no_renames p k.0) in
    let same : map.contains_key c.state n ≡ has = ap (λ (u : State). map.contains_key u n) is ∙ has_is s n ∙ sym there in
    let made_none : base_step p c.state (end n) ≡ c.state = ap (λ m. named_step m c.state (end n)) name ∙ there_is c.state n (same ∙ k.1) in
    taken p c d (end n) refl refl (state ∙ either (is_of_base p (end n)) c.state (base_step p c.state (end n)) made_none) entries
    (ended ∙ ap (λ b. cond b (insert_key namespace_cmp c.ended n) c.ended) (sym (noted_is (not (is_oplog n)) (plays_early p) (map.contains_key c.state n) (ap not e) (ap (λ b. plays_early p && b) same ∙ noted))))

-- ---- the calls on rows

-- the document that a taking's bytes spell is the one that they mean
pub taken_is : (b : List ℕ) → fault_in b ≡ None → document_taken b ≡ document_in b
unfolding fault_in fields_of first_fault
taken_is b e = ap (λ r. result_unwrap_or r []) (faultless_read 16793600 200 b e)

pub put_made : (s u : Rows) (n : NsName) (b : List ℕ) (d : Document) → PutIsMove → d ≡ document_taken b → u ≡ put n d s → state_of u ≡ named_step n (state_of s) (doc n b)
put_made s u n b d law is e =
    ap state_of e ∙ law n (key_in (id_of d)) d s ∙ ap (λ (x : Document). replay (Put n (key_in (id_of x)) (Object x)) (state_of s)) is

pub describe_made : (s u : Rows) (n : NsName) (o : Tree) (ds defs : List Tree) → DescribedAnew → ds ≡ normal_forms defs → u ≡ describe n o ds s → state_of u ≡ described_in (state_of s) n o (normal_forms defs)
describe_made s u n o ds defs law is e = ap state_of e ∙ law n o ds s ∙ ap (described_in (state_of s) n o) is

pub made_there : (s : Rows) (n : NsName) (b : Bool) → b ≡ map.contains_key s.tables n → b ≡ true → state_of s ≡ named_step n (state_of s) (end n)
made_there s n b e f = sym (there (state_of s) n (map.get (state_of s) n) b (has_is s n ∙ sym e) f)

pub made_new : (s u : Rows) (n : NsName) (b : Bool) (o : Tree) → CreateIsMove → b ≡ map.contains_key s.tables n → b ≡ false → o ≡ no_options → u ≡ create n o s → state_of u ≡ named_step n (state_of s) (end n)
made_new s u n b o law e f is g =
    ap state_of g ∙ law n o s ∙ ap (λ x. map.insert (state_of s) n (fresh_collection x)) is ∙ sym (missing (state_of s) n (map.get (state_of s) n) b (has_is s n ∙ sym e) f)

-- ---- what a filter doesn't take

-- a step under a new name, where the filter takes it
pub named : (b : Bool) (m n : NsName) (s u : State) (step : NsName → State) → b ≡ true → m ≡ n → u ≡ step m → u ≡ cond b (step n) s
named b m n s u step e is f = f ∙ (ap step is ∙ ap (λ x. cond x (step n) s) (sym e))

pub passed_over : (b : Bool) (s t : State) → b ≡ false → s ≡ cond b t s
passed_over b s t e = ap (λ x. cond x t s) (sym e)

-- ---- what a call answers

pub on_ok : {A B P Q : Type 0} (r : Result A B) → (P → Q) → OnOk r P → OnOk r Q
on_ok (Ok a) f p = f p
on_ok (Err e) f p = tt

-- what is told of a call that was Ok, or wasn't
pub told_ok : {A B C D : Type 0} (P : Type 0) (r : Result A B) (t : Result C D) → OnOk r (IsOk t) → OnOk t P → OnOk r P
told_ok P (Ok a) (Ok c) i h = h
told_ok P (Ok a) (Err d) i h = absurd cc
told_ok P (Err b) t i h = tt

pub told_err : {A B C D : Type 0} (P : Type 0) (r : Result A B) (t : Result C D) → OnErr r (IsErr t) → OnErr t P → OnErr r P
told_err P (Err b) (Err d) i h = h
told_err P (Err b) (Ok c) i h = absurd cc
told_err P (Ok a) t i h = tt

pub both_ok : {A B : Type 0} (P Q R : Type 0) (r : Result A B) → OnOk r P → OnOk r Q → (P → Q → R) → OnOk r R
both_ok P Q R (Ok a) p q f = f p q
both_ok P Q R (Err b) p q f = tt

-- before the first taking
pub nothing_made : state_of no_rows ≡ map.empty
nothing_made = ns_map_same _ _ (λ q. get_collection no_rows q ∙ (ap collection_in (map.get-empty namespace_cmp q) ∙ sym (map.get-empty namespace_cmp q)))
