-- None of the takings of a dump's archive is refused.
use Rattle.std.proofs.Common.{◌≡◌, ℕ, List, [], ◌∷◌, ◌++◌, Bool, true, false, cond, refl, sym, ap, ◌∙◌, subst, Option, Some, None}
use Rattle.std.specs.Prelude.{map as each, is_some, if◌then◌else◌}
use Rattle.std.specs.Result.{result_unwrap_or}
use Rattle.std.specs.FinMap as map
use Rattle.std.proofs.lemmas.Slice.Eq.{bytes_eq-Decides}
use Rattle.bson_value.specs.declared.namespace.NsName.{NsName}
use Rattle.bson_value.specs.declared.value.Value.{Value}
use Rattle.bson_value.specs.Spelling.{document_text}
use Rattle.doc_path.specs.Played.{id_name}
use Rattle.entry_model.specs.Spelling.{entry_fields}
use Rattle.metadata_text.specs.Metadata.{Meta}
use Rattle.state_model.specs.Moves.{Move}
use Rattle.state_model.specs.States.{Collection}
use Rattle.coll_state.specs.Rows.{Document as Fields, Row, Table, Rows, id_of}
use Rattle.archive_format.specs.Shapes.{is_oplog}
use Rattle.archive_format.specs.Archive.{Taking, doc}
use Rattle.archive_content.specs.Pieces.{meta_taking, all_takings}
use Rattle.restore_entries.specs.declared.reading.EntryReading.{EntryReading}
use Rattle.restore_entries.specs.declared.reading.EntryReading.TheVariants.{Passed, Kept, Unreadable}
use Rattle.restore_entries.specs.Oplog.{reading_of}
use Rattle.restore_plan.specs.declared.plan.Plan.{Plan}
use Rattle.restore_plan.specs.declared.fault.RestoreFault.{RestoreFault}
use Rattle.restore_plan.specs.Base.{document_taken, has_id, metadata_fault, id_fault, entry_fault, bad_at, or_later, first_bad}
use Rattle.history_model.specs.Entries.{OplogEntry, entry_at, entry_bytes}
use Rattle.history_model.specs.Runs.{Step, Documents, Entries, run}
use Rattle.history_model.specs.Histories.{reads, sent_in, is_before}
use Rattle.history_model.specs.Laws.{DoneIsHealedBefore}
use Rattle.dump_model.specs.Archives.{oplog, metadata_of, document_texts, all_pieces}
use Rattle.recorded_entries.specs.Good.{IsGoodDocument}
use Rattle.recorded_entries.specs.Kept.{AreKeptRows, AreKept}
use Rattle.recorded_entries.proofs.RunGood.{recorded_good}
use Rattle.entry_bytes.proofs.Decoded.{documents_are_read, entries_are_read}
use Rattle.dump_steps.specs.Steps.{AreStepsOf}
use Rattle.dump_steps.proofs.Pieces.{good_named, good_apart}
use Rattle.dump_steps.proofs.DumpRuns.{lines_formed, steps_follow}
use Rattle.dump_content.specs.Laws.{start_state, TakingsAre}
use Rattle.dump_content.proofs.Metas.{not_oplog}
use Rattle.dump_content.proofs.Sound.{EachEntry, IsFine, each_join, window_fine}
use Rattle.restored_entries.specs.Laws.{StandsFor, kept_moves, GoodIsKept}
use Rattle.archive_entries.proofs.Takings.{docs, ends, step_takings}
use Rattle.archive_base.specs.Laws.{AreReadAgain}
use Rattle.metadata_again.specs.Laws.{StartIsReadAgain}
use Rattle.archive_heals.specs.Laws.{ArchiveIsTaken}

module _ (kept : GoodIsKept) (p : Plan) where
  fine_then : (t : Taking) (ts : List Taking) → bad_at p t ≡ None → first_bad p (t ∷ ts) ≡ first_bad p ts
  fine_then t ts e = ap (λ (o : Option RestoreFault). or_later o (first_bad p ts)) e

  either_none : (b : Bool) → cond {A = Option RestoreFault} b None None ≡ None
  either_none true = refl
  either_none false = refl

  metas_fine : (es : List (NsName × Collection)) (ts : List Taking) → AreReadAgain es → first_bad p (each meta_taking (each metadata_of es) ++ ts) ≡ first_bad p ts
  metas_fine [] ts h = refl
  metas_fine (e ∷ es) ts h =
      fine_then (meta_taking (metadata_of e)) (each meta_taking (each metadata_of es) ++ ts)
      (ap (λ (m : Meta). if is_oplog e.0 then None else metadata_fault e.0 m) h.0 ∙ either_none (is_oplog e.0))
      ∙ metas_fine es ts h.1

  id_there : (id : Value) (d : Fields) → IsGoodDocument id d → has_id d ≡ true
  id_there id d g = ap (λ (l : Fields). is_some (id_of l)) g.first.1 ∙ ap (λ (b : Bool). is_some (cond b (Some id) (id_of g.first.0))) ((bytes_eq-Decides id_name id_name).1 refl)

  docs_fine : (n : NsName) (ws : List Row) (ts : List Taking) → is_oplog n ≡ false → AreKeptRows ws → first_bad p (docs n (document_texts ws) ++ ts) ≡ first_bad p ts
  docs_fine n [] ts h k = refl
  docs_fine n (w ∷ ws) ts h k =
      let again : document_taken (document_text w.document) ≡ w.document = ap (λ x. result_unwrap_or x []) (documents_are_read k.0.0 w.document k.0.1) in
      ap (λ (b : Bool). or_later (if b then entry_fault (oplog_reading_of (document_text w.document)) else id_fault n (has_id (document_taken (document_text w.document)))) (first_bad p (docs n (document_texts ws) ++ ts))) h
      ∙ (ap (λ (b : Bool). or_later (id_fault n b) (first_bad p (docs n (document_texts ws) ++ ts))) (ap has_id again ∙ id_there k.0.0 w.document k.0.1)
      ∙ docs_fine n ws ts h k.1)
    where
      oplog_reading_of : List ℕ → EntryReading
      oplog_reading_of b = if p.replaying then reading_of p.filter p.limit (document_taken b) else Passed

  ends_fine : (n : NsName) (b : Bool) (ts : List Taking) → first_bad p (ends n b ++ ts) ≡ first_bad p ts
  ends_fine n true ts = refl
  ends_fine n false ts = refl

  no_fault : (ms : List Move) (r : EntryReading) → StandsFor ms r → entry_fault r ≡ None
  no_fault ms Passed h = refl
  no_fault ms (Kept e) h = refl
  no_fault ms (Unreadable ts) h = absurd h

  of_entry : (e : OplogEntry) → IsFine e → bad_at p (doc oplog (entry_bytes e)) ≡ None
  of_entry e h = by p.replaying
    where
      again : document_taken (entry_bytes e) ≡ entry_fields (entry_at e.ts e.content)
      again = ap (λ x. result_unwrap_or x []) (entries_are_read e.ts e.content h.1 h.0)

      by : (b : Bool) → entry_fault (if b then reading_of p.filter p.limit (document_taken (entry_bytes e)) else Passed) ≡ None
      by true = ap (λ (d : Fields). entry_fault (reading_of p.filter p.limit d)) again ∙ no_fault (kept_moves (is_before p.limit e.ts) p.filter e.content) (reading_of p.filter p.limit (entry_fields (entry_at e.ts e.content))) (kept p.filter p.limit e.ts e.content h.0)
      by false = refl

  entries_fine : (es : List OplogEntry) (ts : List Taking) → EachEntry IsFine es → first_bad p (docs oplog (each entry_bytes es) ++ ts) ≡ first_bad p ts
  entries_fine [] ts h = refl
  entries_fine (e ∷ es) ts h = ap (λ (o : Option RestoreFault). or_later o (first_bad p (docs oplog (each entry_bytes es) ++ ts))) (of_entry e h.0) ∙ entries_fine es ts h.1

  steps_fine : (r : Rows) (ss : List Step) → AreKept r → AreStepsOf r ss → EachEntry IsFine (sent_in ss) → first_bad p (all_takings (all_pieces ss)) ≡ None
  steps_fine r [] k h f = refl
  steps_fine r (Documents n rs ended ∷ ss) k h f =
      ap (first_bad p) (step_takings n (document_texts rs) ended (all_pieces ss))
      ∙ (docs_fine n rs (ends n ended ++ all_takings (all_pieces ss)) (there (map.get r.tables n) refl) h.1
      ∙ (ends_fine n ended (all_takings (all_pieces ss)) ∙ steps_fine r ss k h.3 f))
    where
      there : (o : Option Table) → map.get r.tables n ≡ o → is_oplog n ≡ false
      there None e = absurd (h.0 e)
      there (Some t) e = (let g = (k n t e).0 in not_oplog n (good_named n g) (good_apart n g))
  steps_fine r (Entries es last ∷ ss) k h f =
      let g = each_join IsFine es (sent_in ss) f in
      ap (first_bad p) (step_takings oplog (each entry_bytes es) last (all_pieces ss))
      ∙ (entries_fine es (ends oplog last ++ all_takings (all_pieces ss)) g.0
      ∙ (ends_fine oplog last (all_takings (all_pieces ss)) ∙ steps_fine r ss k h g.1))

pub archive_taken : StartIsReadAgain → TakingsAre → GoodIsKept → DoneIsHealedBefore → ArchiveIsTaken
archive_taken again takings kept healed s d p ts c =
    let f = steps_follow s d.given d.done in
    let h = healed s (lines_formed s.lines d.given) d.done in
    let fine = subst (EachEntry IsFine) (sym h.sent) (window_fine (run s) h.start h.last (recorded_good s d.given) d.times) in
    ap (first_bad p) (takings s d ts c)
    ∙ (metas_fine kept p (map.entries (start_state s)) (all_takings (all_pieces (reads s))) (again s d)
    ∙ steps_fine kept p f.rows (reads s) f.kept f.steps fine)
