-- The sum of all: no archive is longer than an archive may be.
use Rattle.std.proofs.Common.{◌≡◌, ◌+◌, ◌*◌, ◌≤◌, List, [], ◌∷◌, ◌++◌, length, refl, ap, subst, arith, Option, Some}
use Rattle.std.proofs.lemmas.List.{length-append, length-map}
use Rattle.std.proofs.lemmas.List.Sums.{length-filter, count_by-le-length}
use Rattle.std.specs.Prelude.{filter, ◌&&◌}
use Rattle.std.specs.FinMap as map
use Rattle.bson_value.specs.declared.namespace.NsName.{NsName}
use Rattle.bson_value.specs.declared.value.Ts.{Ts}
use Rattle.state_model.specs.States.{State, Collection}
use Rattle.archive_format.specs.Archive.{magic_bytes, stop_bytes, limit}
use Rattle.archive_format.specs.Written.{header_text, metas_text, prelude_text}
use Rattle.archive_format.proofs.Spelled.{header_size}
use Rattle.archive_content.specs.Pieces.{pieces_text}
use Rattle.history_model.specs.Entries.{OplogEntry}
use Rattle.history_model.specs.Stages.{Write, not_later, entry_of}
use Rattle.history_model.specs.Runs.{Schedule, Run, window, entries_from, run}
use Rattle.history_model.specs.Histories.{history_of, history, state, moments, reads, sent_in}
use Rattle.history_model.specs.Laws.{HealedBefore}
use Rattle.dump_model.specs.Archives.{header, metadata_of, metas_of, all_pieces, state_at, written}
use Rattle.dump_steps.specs.Laws.{Followed}
use Rattle.dump_steps.proofs.DumpRuns.{are_recorded, lines_formed}
use Rattle.dump_content.specs.Laws.{AreMetaTexts, Dumped, start_state}
use Rattle.dump_content.proofs.Sound.{EachEntry, IsFine}
use Rattle.archive_length.proofs.Totals.{total}
use Rattle.archive_length.proofs.Works.{one, work_made, made_few, state_few}
use Rattle.archive_length.proofs.Readings.{read_few}
use Rattle.archive_length.proofs.Sizes.{sizes}
use Rattle.archive_length.proofs.Commands.{run_makes}
use Rattle.archive_length.proofs.Ends.{EndsIn, ends_few, ends_are, names_of}
use Rattle.archive_length.proofs.Pieces.{documents_are, pieces_length, steps_short, metas_length}

total_one : {X : Type 0} (es : List (NsName × X)) → total one es ≡ length es
total_one [] = refl
total_one (e ∷ es) = omega (arith, total_one es)

-- ---- collections at Start

start_few : (s : Schedule) (start : Ts) → (moments s).start ≡ Some start → length (map.entries (start_state s)) ≤ work_made (run s).made
start_few s start e =
    let a = state_few (λ (e : Ts × Write). not_later e.0 start) (run s).made in
    let b : start_state s ≡ state (filter (λ (e : Ts × Write). not_later e.0 start) (history s)) = ap (λ (o : Option Ts). state_at o (history s)) e in
    let c = ap (λ (z : State). length (map.entries z)) b in
    omega (arith, a, c, total_one (map.entries (state (filter (λ (e : Ts × Write). not_later e.0 start) (history_of (run s).made)))))

-- ---- entries that are sent

window_few : (r : Run) (a b : Ts) → length (window a b (entries_from r)) ≤ work_made r.made + 1
window_few r a b = omega (arith, length-filter (λ (e : OplogEntry). not_later a e.ts && not_later e.ts b) (entries_from r), count_by-le-length (λ (e : OplogEntry). not_later a e.ts && not_later e.ts b) (entries_from r), length-map r.made entry_of, made_few r.made)

-- ---- the whole

prelude_length : (s : Schedule) → AreMetaTexts (metas_of (start_state s)) → length (prelude_text header (metas_of (start_state s))) ≤ 16793600 * length (map.entries (start_state s)) + 108
prelude_length s h =
    let ms = metas_of (start_state s) in
    omega (arith, length-append (magic_bytes ++ header_text header ++ metas_text ms) stop_bytes, length-append (magic_bytes ++ header_text header) (metas_text ms), length-append magic_bytes (header_text header), header_size header, metas_length ms h, length-map (map.entries (start_state s)) metadata_of)

pub length_is : (s : Schedule) → Dumped s → Followed s → HealedBefore s → EachEntry IsFine (sent_in (reads s)) → sizes s.lines ≤ 1048576 → length (written s) ≤ limit
length_is s d f h fine small =
    let ps = all_pieces (reads s) in
    let start = start_few s h.start (ap (λ z. z.start) h.moments_are) in
    let sent = ap length h.sent in
    let ends = ends_few ps (names_of (start_state s)) f.stand (subst (λ (z : State). EndsIn (names_of z) ps) f.at_start (ends_are f.rows (reads s) f.steps)) in
    omega (
      arith,
      run_makes s,
      small,
      read_few are_recorded s (lines_formed s.lines d.given),
      start,
      sent,
      window_few (run s) h.start h.last,
      documents_are (reads s),
      ends,
      length-map (map.entries (start_state s)) (λ (e : NsName × Collection). e.0),
      prelude_length s d.texts,
      pieces_length [] ps f.stand (steps_short f.rows (reads s) f.steps fine),
      length-append (prelude_text header (metas_of (start_state s))) (pieces_text [] ps),
    )
