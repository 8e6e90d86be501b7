-- What a block and an end make of the stage of the grammar.
use Rattle.std.specs.Prelude.{ℕ, ◌≡◌, ◌<◌, ◌^◌, List, [], ◌∷◌, ◌++◌, map, length, set, slice_get, true, false, Option, Some, None}
use Rattle.std.specs.Int.{w64, cast_signed}
use Rattle.bson_value.specs.declared.namespace.NsName.{NsName}
use Rattle.archive_format.specs.declared.place.Place.TheVariants.{Blocks}
use Rattle.archive_format.specs.Crc.{crc_start, crc_on, crc_end}
use Rattle.archive_format.specs.Shapes.{Head}
use Rattle.archive_format.specs.Archive.{document, terminator, doc, end, Seen, Stage, Runs, IsItem, head_in, fault_in, seat_of}
use Rattle.archive_format.specs.Written.{joined}
use Rattle.archive_content.specs.Pieces.{AreSound}

-- the namespace's seat, and what stands there; a new one behind the others
pub record Seat (n : NsName) (seen opened : List Seen) (i : ℕ) (e : Seen) : Type 0 where
  pub there : slice_get opened i ≡ Some e
  pub name : e.ns ≡ n
  pub open_yet : e.ended ≡ false

-- the seats after a header of the namespace
abbrev pub open_at : NsName → Option ℕ → List Seen → List Seen
open_at n None seen = seen ++ record { ns = n; sum = crc_start; ended = false } ∷ []
open_at n (Some i) seen = seen

abbrev pub place_at : Option ℕ → List Seen → ℕ
place_at None seen = length seen
place_at (Some i) seen = i

abbrev pub opened : NsName → List Seen → List Seen
opened n seen = open_at n (seat_of n seen) seen

abbrev pub seat : NsName → List Seen → ℕ
seat n seen = place_at (seat_of n seen) seen

-- a header that is read
pub record IsHead (b : List ℕ) (h : Head) : Type 0 where
  pub item : IsItem (document b)
  pub sound : fault_in b ≡ None
  pub reads : head_in b ≡ Some h

abbrev pub blocks_at : Stage → List Seen → Stage
blocks_at s seen = record { place = Blocks; metas = s.metas; seen = seen }

abbrev pub BlockRuns : Type 0
BlockRuns = (s : Stage) (at : ℕ) (n : NsName) (b : List ℕ) (ds : List (List ℕ)) (e : Seen) →
    s.place ≡ Blocks → IsHead b (record { ns = n; eof = false; crc = None }) → AreSound ds → Seat n s.seen (opened n s.seen) (seat n s.seen) e →
    Runs s at (document b ∷ (map document ds ++ (terminator ∷ []))) (blocks_at s (set (opened n s.seen) (seat n s.seen) (record e { sum = crc_on e.sum (joined ds) }))) (map (λ d. doc n d) ds)

abbrev pub EndRuns : Type 0
EndRuns = (s : Stage) (at : ℕ) (n : NsName) (b : List ℕ) (e : Seen) →
    s.place ≡ Blocks → crc_end e.sum < 2 ^ 64 → IsHead b (record { ns = n; eof = true; crc = Some (cast_signed w64 (crc_end e.sum)) }) → Seat n s.seen (opened n s.seen) (seat n s.seen) e →
    Runs s at (document b ∷ (terminator ∷ [])) (blocks_at s (set (opened n s.seen) (seat n s.seen) (record e { ended = true }))) (end n ∷ [])
