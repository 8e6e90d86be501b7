-- The base of a dump's archive is its copy.
use Rattle.std.proofs.Common.{◌≡◌, List, [], ◌++◌, refl, sym, ap, ◌∙◌, subst, Some}
use Rattle.std.specs.Prelude.{map as each}
use Rattle.std.specs.FinMap as map
use Rattle.state_model.specs.States.{State}
use Rattle.state_model.specs.Cut.{cut}
use Rattle.coll_state.specs.Rows.{Rows, state_of}
use Rattle.copy_model.specs.Copies.{copy_of}
use Rattle.copy_model.specs.Blocks as blocks
use Rattle.copy_model.proofs.Blocks.{blocks_make_copy}
use Rattle.archive_format.specs.Archive.{Taking}
use Rattle.archive_content.specs.Pieces.{meta_taking, all_takings}
use Rattle.restore_filter.specs.Names.{takes}
use Rattle.history_model.specs.Runs.{Schedule}
use Rattle.history_model.specs.Histories.{Moments, history, reads}
use Rattle.history_model.specs.Recordings.{reads_in}
use Rattle.history_model.specs.Laws.{HealedBefore}
use Rattle.dump_model.specs.Archives.{metas_of, all_pieces, state_at}
use Rattle.dump_steps.specs.Laws.{Followed}
use Rattle.dump_steps.proofs.DumpRuns.{steps_follow}
use Rattle.dump_content.specs.Laws.{start_state, TakingsAre}
use Rattle.archive_base.specs.Laws.{AreReadAgain, BaseIsCopy}
use Rattle.archive_base.proofs.ReadOrder.{parts, steps_agree}
use Rattle.archive_base.proofs.Copies.{copy_reads, copy_rows}
use Rattle.archive_base.proofs.Metas.{of_metas}
use Rattle.archive_base.proofs.Parts.{full_from, full_join, of_steps, parts_of_rows}
use Rattle.archive_base.proofs.Cuts.{base_cut}

full_copy : (s : Schedule) (f : Followed s) → AreReadAgain (map.entries (start_state s)) → full_from map.empty (each meta_taking (metas_of (start_state s)) ++ all_takings (all_pieces (reads s))) ≡ copy_of f.rows (reads_in (reads s) [])
full_copy s f h =
    full_join map.empty (each meta_taking (metas_of (start_state s))) (all_takings (all_pieces (reads s)))
    ∙ (ap (λ (x : State). full_from x (all_takings (all_pieces (reads s)))) (ap (λ (z : State). full_from map.empty (each meta_taking (metas_of z))) (sym f.at_start) ∙ of_metas f.rows f.kept (subst (λ (z : State). AreReadAgain (map.entries z)) (sym f.at_start) h))
    ∙ (of_steps f.rows (copy_of f.rows []) (reads s) f.kept f.steps
    ∙ (blocks_make_copy (parts (reads s)) f.rows [] (parts_of_rows f.rows (reads s) f.steps)
    ∙ copy_reads f.rows (blocks.reads_in (parts (reads s)) []) (reads_in (reads s) []) (steps_agree f.rows (reads s) [] [] f.steps (λ m k. refl)))))

same_start : (s : Schedule) (f : Followed s) (h : HealedBefore s) → state_of f.rows ≡ state_of h.rows
same_start s f h = f.at_start ∙ (ap (λ (m : Moments). state_at m.start (history s)) h.moments_are ∙ sym h.at_start)

pub base_copy : TakingsAre → BaseIsCopy
base_copy takings s d again h p plain ts c =
    let f = steps_follow s d.given d.done in
    base_cut p plain ts
    ∙ ap (cut (takes p.filter)) (ap (full_from map.empty) (takings s d ts c) ∙ (full_copy s f again ∙ copy_rows f.rows h.rows (reads_in (reads s) []) (same_start s f h)))
