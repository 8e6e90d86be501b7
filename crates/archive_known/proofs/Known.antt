-- A restore knows each entry of a dump's archive.
use Rattle.std.proofs.Common.{◌≡◌, ℕ, List, [], ◌∷◌, ◌++◌, Bool, true, false, refl, sym, ap, subst, Option, Some, None}
use Rattle.std.specs.Prelude.{⊤, map as each, option_map, if◌then◌else◌}
use Rattle.std.specs.Result.{result_unwrap_or}
use Rattle.std.specs.FinMap as map
use Rattle.bson_value.specs.declared.namespace.NsName.{NsName}
use Rattle.archive_format.specs.Shapes.{Metadata, is_oplog}
use Rattle.archive_format.specs.Archive.{Taking, doc}
use Rattle.archive_content.specs.Pieces.{meta_taking, all_takings}
use Rattle.entry_model.specs.Spelling.{entry_fields}
use Rattle.entry_model.proofs.Entries.{reads_back}
use Rattle.coll_state.specs.Rows.{Document, Table, Rows}
use Rattle.restore_entries.specs.declared.reading.EntryReading.TheVariants.{Passed}
use Rattle.restore_entries.specs.Oplog.{reading_of}
use Rattle.restore_plan.specs.declared.plan.Plan.{Plan}
use Rattle.restore_plan.specs.Base.{entries, entries_in, kept_in, oplog_reading, document_taken}
use Rattle.restore_plan.specs.Faults.{of_replay}
use Rattle.history_model.specs.Entries.{OplogEntry, entry_at, entry_bytes}
use Rattle.history_model.specs.Runs.{Step, Documents, Entries, entries_from, window, run}
use Rattle.history_model.specs.Histories.{reads, sent_in, Moments}
use Rattle.history_model.specs.Laws.{HistoryIsRecorded, WindowHasNoRename, DoneIsHealedBefore}
use Rattle.dump_model.specs.Archives.{oplog, document_texts, metas_of, all_pieces}
use Rattle.recorded_entries.specs.Kept.{AreKept}
use Rattle.recorded_entries.proofs.RunGood.{recorded_good}
use Rattle.recorded_entries.proofs.Written.{good_read}
use Rattle.entry_bytes.proofs.Decoded.{entries_are_read}
use Rattle.dump_steps.specs.Steps.{AreStepsOf}
use Rattle.dump_steps.proofs.Pieces.{good_named, good_apart}
use Rattle.dump_steps.proofs.DumpRuns.{lines_formed, steps_follow}
use Rattle.dump_content.specs.Laws.{start_state, TakingsAre}
use Rattle.dump_content.proofs.Metas.{not_oplog}
use Rattle.dump_content.proofs.Sound.{EachEntry, IsFine, each_join, window_fine}
use Rattle.replayed_entries.specs.Laws.{GoodIsPlayed}
use Rattle.archive_entries.proofs.Takings.{docs, ends, step_takings}
use Rattle.archive_known.specs.Laws.{EntriesAreKnown}
use Rattle.archive_known.proofs.Readings.{AreKnown, known_join, reading_known}
use Rattle.archive_known.proofs.Windows.{IsPlain, window_plain}

abbrev IsPlainAndFine : OplogEntry → Type 0
IsPlainAndFine e = IsFine e × IsPlain e

both_entries : (es : List OplogEntry) → EachEntry IsFine es → EachEntry IsPlain es → EachEntry IsPlainAndFine es
both_entries [] h g = tt
both_entries (e ∷ es) h g = ((h.0, g.0), both_entries es h.1 g.1)

module _ (played : GoodIsPlayed) (p : Plan) where
  -- the entries of each taking are known
  abbrev OfKnown : List Taking → Type 0
  OfKnown [] = ⊤
  OfKnown (t ∷ ts) = AreKnown (entries_in p t) × OfKnown ts

  all_known : (ts : List Taking) → OfKnown ts → AreKnown (entries p ts)
  all_known [] h = refl
  all_known (t ∷ ts) h = known_join (entries_in p t) (entries p ts) h.0 (all_known ts h.1)

  of_join : (xs ys : List Taking) → OfKnown xs → OfKnown ys → OfKnown (xs ++ ys)
  of_join [] ys h g = g
  of_join (x ∷ xs) ys h g = (h.0, of_join xs ys h.1 g)

  of_metas : (ms : List Metadata) → OfKnown (each meta_taking ms)
  of_metas [] = tt
  of_metas (m ∷ ms) = (refl, of_metas ms)

  of_docs : (n : NsName) (bs : List (List ℕ)) → is_oplog n ≡ false → OfKnown (docs n bs)
  of_docs n [] h = tt
  of_docs n (b ∷ bs) h = (subst (λ (x : Bool). AreKnown (if x then kept_in (oplog_reading p b) else [])) (sym h) refl, of_docs n bs h)

  of_ends : (n : NsName) (b : Bool) → OfKnown (ends n b)
  of_ends n true = (refl, tt)
  of_ends n false = tt

  of_entry : (e : OplogEntry) → IsPlainAndFine e → AreKnown (entries_in p (doc oplog (entry_bytes e)))
  of_entry e h = by p.replaying
    where
      again : document_taken (entry_bytes e) ≡ entry_fields (entry_at e.ts e.content)
      again = ap (λ x. result_unwrap_or x []) (entries_are_read e.ts e.content h.0.1 h.0.0)

      by : (b : Bool) → AreKnown (kept_in (if b then reading_of p.filter p.limit (document_taken (entry_bytes e)) else Passed))
      by true =
          subst (λ (d : Document). AreKnown (kept_in (reading_of p.filter p.limit d))) (sym again)
          (reading_known p.filter p.limit (entry_fields (entry_at e.ts e.content)) (entry_at e.ts e.content) (good_read reads_back e.ts e.content h.0.0) (played e.ts e.content h.1))
      by false = refl

  of_entries : (es : List OplogEntry) → EachEntry IsPlainAndFine es → OfKnown (docs oplog (each entry_bytes es))
  of_entries [] h = tt
  of_entries (e ∷ es) h = (of_entry e h.0, of_entries es h.1)

  of_steps : (r : Rows) (ss : List Step) → AreKept r → AreStepsOf r ss → EachEntry IsPlainAndFine (sent_in ss) → OfKnown (all_takings (all_pieces ss))
  of_steps r [] k h f = tt
  of_steps r (Documents n rs ended ∷ ss) k h f =
      subst OfKnown (sym (step_takings n (document_texts rs) ended (all_pieces ss)))
      (of_join (docs n (document_texts rs)) (ends n ended ++ all_takings (all_pieces ss)) (of_docs n (document_texts rs) (there (map.get r.tables n) refl))
      (of_join (ends n ended) (all_takings (all_pieces ss)) (of_ends n ended) (of_steps r ss k h.3 f)))
    where
      there : (o : Option Table) → map.get r.tables n ≡ o → is_oplog n ≡ false
      there None e = absurd (h.0 e)
      there (Some t) e = (let g = (k n t e).0 in not_oplog n (good_named n g) (good_apart n g))
  of_steps r (Entries es last ∷ ss) k h f =
      let g = each_join IsPlainAndFine es (sent_in ss) f in
      subst OfKnown (sym (step_takings oplog (each entry_bytes es) last (all_pieces ss)))
      (of_join (docs oplog (each entry_bytes es)) (ends oplog last ++ all_takings (all_pieces ss)) (of_entries es g.0)
      (of_join (ends oplog last) (all_takings (all_pieces ss)) (of_ends oplog last) (of_steps r ss k h g.1)))

pub entries_known : TakingsAre → DoneIsHealedBefore → HistoryIsRecorded → WindowHasNoRename → GoodIsPlayed → EntriesAreKnown
entries_known takings healed recorded free played s d p ts c =
    let formed = lines_formed s.lines d.given in
    let f = steps_follow s d.given d.done in
    let h = healed s formed d.done in
    let fine = window_fine (run s) h.start h.last (recorded_good s d.given) d.times in
    let plain = window_plain h.start h.last (run s) (recorded s formed) (free s h.start h.last formed (ap (λ (m : Moments). m.start) h.moments_are) (ap (λ (m : Moments). m.end_ts) h.moments_are)) in
    let sent = subst (EachEntry IsPlainAndFine) (sym h.sent) (both_entries (window h.start h.last (entries_from (run s))) fine plain) in
    let all = subst (OfKnown played p) (sym (takings s d ts c))
    (of_join played p (each meta_taking (metas_of (start_state s))) (all_takings (all_pieces (reads s))) (of_metas played p (metas_of (start_state s))) (of_steps played p f.rows (reads s) f.kept f.steps sent)) in
    ap (option_map of_replay) (all_known played p ts all)
