-- What a dump writes is an archive.
use Rattle.std.proofs.Common.{[], ◌++◌, sym, subst}
use Rattle.std.specs.Prelude.{map as each}
use Rattle.archive_format.specs.Written.{prelude_text}
use Rattle.archive_content.specs.Laws.{WrittenIsContent}
use Rattle.archive_content.specs.Pieces.{AreMetas, meta_taking, all_takings, pieces_text}
use Rattle.state_model.specs.States.{State}
use Rattle.history_model.specs.Runs.{run}
use Rattle.history_model.specs.Histories.{reads}
use Rattle.history_model.specs.Laws.{DoneIsHealedBefore}
use Rattle.dump_model.specs.Archives.{header, metas_of, all_pieces}
use Rattle.recorded_entries.proofs.RunGood.{recorded_good}
use Rattle.dump_steps.proofs.DumpRuns.{lines_formed, steps_follow}
use Rattle.dump_content.specs.Laws.{start_state, AreMetaTexts}
use Rattle.dump_content.proofs.Metas.{is_header, are_metas}
use Rattle.dump_content.proofs.Sound.{EachEntry, IsFine, window_fine, steps_sound, bytes_join, byte_pieces, may_follow}
use Rattle.archive_known.specs.Laws.{ArchiveHasContent}

pub has_content : WrittenIsContent → DoneIsHealedBefore → ArchiveHasContent
has_content content healed s d within =
    let f = steps_follow s d.given d.done in
    let h = healed s (lines_formed s.lines d.given) d.done in
    let ps = all_pieces (reads s) in
    let ms = metas_of (start_state s) in
    let metas : AreMetas [] ms = subst (λ (x : State). AreMetas [] (metas_of x)) f.at_start (are_metas f.rows f.kept (subst (λ (x : State). AreMetaTexts (metas_of x)) (sym f.at_start) d.texts)) in
    let fine = subst (EachEntry IsFine) (sym h.sent) (window_fine (run s) h.start h.last (recorded_good s d.given) d.times) in
    let bytes = (bytes_join (prelude_text header ms) (pieces_text [] ps) d.bytes).1 in (
      each meta_taking ms ++ all_takings ps,
      content header ms ps is_header metas (may_follow [] ps f.stand (steps_sound f.rows (reads s) f.steps fine) (byte_pieces [] ps bytes)) f.ended within,
    )
