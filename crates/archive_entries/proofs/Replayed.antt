-- What a restore replays of the takings of a dump's archive.
use Rattle.std.proofs.Common.{◌≡◌, ℕ, List, [], ◌∷◌, ◌++◌, Bool, true, false, cond, refl, sym, ap, ◌∙◌, subst, append_assoc, append-nil, Option, Some, None}
use Rattle.std.specs.Prelude.{◌≢◌, map as each, filter, Ok, if◌then◌else◌}
use Rattle.std.specs.Result.{result_unwrap_or}
use Rattle.std.specs.FinMap as map
use Rattle.bson_value.specs.declared.namespace.NsName.{NsName}
use Rattle.bson_value.specs.declared.value.Ts.{Ts}
use Rattle.archive_format.specs.Shapes.{Metadata, is_oplog}
use Rattle.archive_format.specs.Archive.{Taking, Content, doc, fields_of}
use Rattle.archive_content.specs.Pieces.{meta_taking, all_takings}
use Rattle.entry_model.specs.declared.entry.Entry.{Entry}
use Rattle.entry_model.specs.Edits.{gathered}
use Rattle.entry_model.specs.Spelling.{entry_fields}
use Rattle.state_model.specs.Moves.{Move}
use Rattle.state_model.specs.Cut.{takes_move, taken}
use Rattle.coll_state.specs.Rows.{Document, Row, Table, Rows}
use Rattle.replay.specs.Moves.{moves_of}
use Rattle.restore_filter.specs.Names.{takes}
use Rattle.restore_entries.specs.declared.reading.EntryReading.{EntryReading}
use Rattle.restore_entries.specs.declared.reading.EntryReading.TheVariants.{Passed, Kept, Unreadable}
use Rattle.restore_entries.specs.Oplog.{reading_of}
use Rattle.restore_plan.specs.declared.plan.Plan.{Plan}
use Rattle.restore_plan.specs.Base.{entries, entries_in, kept_in, oplog_reading, document_taken}
use Rattle.history_model.specs.Entries.{OplogEntry, entry_at, entry_bytes, content_moves}
use Rattle.history_model.specs.Runs.{Schedule, Step, Documents, Entries, run}
use Rattle.history_model.specs.Histories.{reads, sent_in, is_before}
use Rattle.history_model.specs.Recordings.{moves_recorded}
use Rattle.dump_model.specs.Archives.{oplog, document_texts, metas_of, all_pieces}
use Rattle.recorded_entries.specs.Kept.{AreKept}
use Rattle.recorded_entries.proofs.RunGood.{recorded_good}
use Rattle.entry_bytes.proofs.Decoded.{entries_are_read}
use Rattle.dump_steps.specs.Steps.{AreStepsOf}
use Rattle.dump_steps.proofs.Pieces.{good_named, good_apart}
use Rattle.dump_steps.proofs.DumpRuns.{steps_follow}
use Rattle.dump_content.specs.Laws.{start_state, TakingsAre}
use Rattle.dump_content.proofs.Metas.{not_oplog}
use Rattle.dump_content.proofs.Sound.{EachEntry, IsFine, each_join, window_fine}
use Rattle.restored_entries.specs.Laws.{StandsFor, kept_moves, GoodIsKept}
use Rattle.archive_entries.specs.Laws.{EntriesAreTaken}
use Rattle.archive_entries.proofs.Takings.{docs, ends, step_takings}

-- ---- lists

gathered_join : {A B : Type 0} (f : A → List B) (xs ys : List A) → gathered f (xs ++ ys) ≡ gathered f xs ++ gathered f ys
gathered_join f [] ys = refl
gathered_join f (x ∷ xs) ys = ap (λ (l : List _). f x ++ l) (gathered_join f xs ys) ∙ sym (append_assoc (f x) (gathered f xs) (gathered f ys))

taken_join : (f : NsName → Bool) (xs ys : List Move) → taken f (xs ++ ys) ≡ taken f xs ++ taken f ys
taken_join f [] ys = refl
taken_join f (x ∷ xs) ys = by (takes_move f x) (taken_join f xs ys)
  where
    by : (b : Bool) → taken f (xs ++ ys) ≡ taken f xs ++ taken f ys → (if b then x ∷ taken f (xs ++ ys) else taken f (xs ++ ys)) ≡ (if b then x ∷ taken f xs else taken f xs) ++ taken f ys
    by true e = ap (λ (l : List Move). x ∷ l) e
    by false e = e

module _ (kept : GoodIsKept) (p : Plan) (playing : p.replaying ≡ true) where
  -- the moves of takings
  abbrev moves_in : List Taking → List Move
  moves_in ts = gathered moves_of (gathered (entries_in p) ts)

  -- those of entries that are before the limit and that the filter takes
  abbrev asked : List OplogEntry → List Move
  asked es = taken (takes p.filter) (moves_recorded (filter (λ (e : OplogEntry). is_before p.limit e.ts) es))

  moves_join : (xs ys : List Taking) → moves_in (xs ++ ys) ≡ moves_in xs ++ moves_in ys
  moves_join xs ys = ap (gathered moves_of) (gathered_join (entries_in p) xs ys) ∙ gathered_join moves_of (gathered (entries_in p) xs) (gathered (entries_in p) ys)

  of_reading : (ms : List Move) (r : EntryReading) → StandsFor ms r → gathered moves_of (kept_in r) ≡ ms
  of_reading ms Passed h = sym h
  of_reading ms (Kept e) h = append-nil (moves_of e) ∙ h
  of_reading ms (Unreadable ts) h = absurd h

  of_oplog : (b : List ℕ) → entries_in p (doc oplog b) ≡ kept_in (reading_of p.filter p.limit (document_taken b))
  of_oplog b = ap (λ (x : Bool). kept_in (if x then reading_of p.filter p.limit (document_taken b) else Passed)) playing

  of_entry : (e : OplogEntry) → IsFine e → gathered moves_of (entries_in p (doc oplog (entry_bytes e))) ≡ kept_moves (is_before p.limit e.ts) p.filter e.content
  of_entry e h =
      let again : document_taken (entry_bytes e) ≡ entry_fields (entry_at e.ts e.content) = ap (λ x. result_unwrap_or x []) (entries_are_read e.ts e.content h.1 h.0) in
      let stands = subst (λ (d : Document). StandsFor (kept_moves (is_before p.limit e.ts) p.filter e.content) (reading_of p.filter p.limit d)) (sym again) (kept p.filter p.limit e.ts e.content h.0) in
      ap (gathered moves_of) (of_oplog (entry_bytes e)) ∙ of_reading (kept_moves (is_before p.limit e.ts) p.filter e.content) (reading_of p.filter p.limit (document_taken (entry_bytes e))) stands

  asked_more : (e : OplogEntry) (es : List OplogEntry) → asked (e ∷ es) ≡ kept_moves (is_before p.limit e.ts) p.filter e.content ++ asked es
  asked_more e es = by (is_before p.limit e.ts)
    where
      by : (b : Bool) → taken (takes p.filter) (moves_recorded (if b then e ∷ filter (λ (x : OplogEntry). is_before p.limit x.ts) es else filter (λ (x : OplogEntry). is_before p.limit x.ts) es)) ≡ kept_moves b p.filter e.content ++ asked es
      by true = taken_join (takes p.filter) (content_moves e.content) (moves_recorded (filter (λ (x : OplogEntry). is_before p.limit x.ts) es))
      by false = refl

  asked_join : (xs ys : List OplogEntry) → asked (xs ++ ys) ≡ asked xs ++ asked ys
  asked_join [] ys = refl
  asked_join (x ∷ xs) ys =
      asked_more x (xs ++ ys) ∙ (ap (λ (l : List Move). kept_moves (is_before p.limit x.ts) p.filter x.content ++ l) (asked_join xs ys)
      ∙ (sym (append_assoc (kept_moves (is_before p.limit x.ts) p.filter x.content) (asked xs) (asked ys)) ∙ ap (λ (l : List Move). l ++ asked ys) (sym (asked_more x xs))))

  of_entries : (es : List OplogEntry) → EachEntry IsFine es → moves_in (docs oplog (each entry_bytes es)) ≡ asked es
  of_entries [] h = refl
  of_entries (e ∷ es) h =
      gathered_join moves_of (entries_in p (doc oplog (entry_bytes e))) (gathered (entries_in p) (docs oplog (each entry_bytes es)))
      ∙ ((λ i. of_entry e h.0 i ++ of_entries es h.1 i) ∙ sym (asked_more e es))

  no_metas : (ms : List Metadata) (ts : List Taking) → moves_in (each meta_taking ms ++ ts) ≡ moves_in ts
  no_metas [] ts = refl
  no_metas (m ∷ ms) ts = no_metas ms ts

  no_docs : (n : NsName) (bs : List (List ℕ)) (ts : List Taking) → is_oplog n ≡ false → moves_in (docs n bs ++ ts) ≡ moves_in ts
  no_docs n [] ts h = refl
  no_docs n (b ∷ bs) ts h = ap (λ (x : Bool). gathered moves_of ((if x then kept_in (oplog_reading p b) else []) ++ gathered (entries_in p) (docs n bs ++ ts))) h ∙ no_docs n bs ts h

  no_ends : (n : NsName) (b : Bool) (ts : List Taking) → moves_in (ends n b ++ ts) ≡ moves_in ts
  no_ends n true ts = refl
  no_ends n false ts = refl

  of_steps : (r : Rows) (ss : List Step) → AreKept r → AreStepsOf r ss → EachEntry IsFine (sent_in ss) → moves_in (all_takings (all_pieces ss)) ≡ asked (sent_in ss)
  of_steps r [] k h f = refl
  of_steps r (Documents n rs ended ∷ ss) k h f =
      ap moves_in (step_takings n (document_texts rs) ended (all_pieces ss))
      ∙ (no_docs n (document_texts rs) (ends n ended ++ all_takings (all_pieces ss)) (there (map.get r.tables n) refl)
      ∙ (no_ends n ended (all_takings (all_pieces ss)) ∙ of_steps r ss k h.3 f))
    where
      there : (o : Option Table) → map.get r.tables n ≡ o → is_oplog n ≡ false
      there None e = absurd (h.0 e)
      there (Some t) e = (let g = (k n t e).0 in not_oplog n (good_named n g) (good_apart n g))
  of_steps r (Entries es last ∷ ss) k h f =
      let g = each_join IsFine es (sent_in ss) f in
      ap moves_in (step_takings oplog (each entry_bytes es) last (all_pieces ss))
      ∙ (moves_join (docs oplog (each entry_bytes es)) (ends oplog last ++ all_takings (all_pieces ss))
      ∙ ((λ i. of_entries es g.0 i ++ (no_ends oplog last (all_takings (all_pieces ss)) ∙ of_steps r ss k h g.1) i) ∙ sym (asked_join es (sent_in ss))))

pub entries_taken : TakingsAre → GoodIsKept → EntriesAreTaken
entries_taken takings kept s d h p playing ts c =
    let f = steps_follow s d.given d.done in
    let fine = subst (EachEntry IsFine) (sym h.sent) (window_fine (run s) h.start h.last (recorded_good s d.given) d.times) in
    ap (λ (l : List Taking). gathered moves_of (entries p l)) (takings s d ts c)
    ∙ (no_metas kept p playing (metas_of (start_state s)) (all_takings (all_pieces (reads s)))
    ∙ (of_steps kept p playing f.rows (reads s) f.kept f.steps fine
    ∙ ap (λ (es : List OplogEntry). taken (takes p.filter) (moves_recorded (filter (λ (e : OplogEntry). is_before p.limit e.ts) es))) h.sent))
