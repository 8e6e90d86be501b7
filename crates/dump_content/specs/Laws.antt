-- What the archive of a dump holds.
use Rattle.std.specs.Prelude.{⊤, ◌≡◌, ◌++◌, true, List, [], ◌∷◌, map as each}
use Rattle.std.specs.Str.{is_utf8}
use Rattle.archive_format.specs.Shapes.{Metadata}
use Rattle.archive_format.specs.Archive.{Taking, Content}
use Rattle.archive_format.specs.Written.{MetaFits}
use Rattle.archive_content.specs.Pieces.{AreBytes, meta_taking, all_takings}
use Rattle.state_model.specs.States.{State}
use Rattle.history_model.specs.Runs.{Schedule, Done, run}
use Rattle.history_model.specs.Histories.{history, moments, reads, outcome}
use Rattle.history_model.specs.Recordings.{EachMade}
use Rattle.dump_model.specs.Archives.{metas_of, all_pieces, state_at, written}
use Rattle.entry_documents.specs.Laws.{FitsStamp}
use Rattle.recorded_entries.specs.Given.{AreGivenLines}

-- all timestamps have 32 bits each
abbrev pub TimesFit : Schedule → Type 0
TimesFit s = EachMade (λ m. FitsStamp m.ts) (run s).made

-- the collections at Start
abbrev pub start_state : Schedule → State
start_state s = state_at (moments s).start (history s)

-- a text, with which its document has at most 16,793,600 bytes
abbrev pub AreMetaTexts : List Metadata → Type 0
AreMetaTexts [] = ⊤
AreMetaTexts (m ∷ ms) = (is_utf8 m.text ≡ true) × MetaFits m × AreMetaTexts ms

-- what a schedule holds, and the bytes that its dump writes
pub record Dumped (s : Schedule) : Type 0 where
  pub given : AreGivenLines s.lines
  pub done : outcome s ≡ Done
  pub times : TimesFit s
  pub texts : AreMetaTexts (metas_of (start_state s))
  pub bytes : AreBytes (written s)

abbrev pub TakingsAre : Type 0
TakingsAre = (s : Schedule) → Dumped s → (ts : List Taking) → Content (written s) ts → ts ≡ each meta_taking (metas_of (start_state s)) ++ all_takings (all_pieces (reads s))
