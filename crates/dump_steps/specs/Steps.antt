-- What the steps of a dump are, and which pieces may follow others.
use Rattle.std.specs.Prelude.{⊤, ◌≡◌, ◌≢◌, ℕ, List, [], ◌∷◌, ◌++◌, false, None}
use Rattle.std.specs.FinMap as map
use Rattle.bson_value.specs.declared.namespace.NsName.{NsName}
use Rattle.coll_state.specs.Rows.{Row, Rows, row_of}
use Rattle.archive_content.specs.Pieces.{Piece, Block, End, IsNamed, has_ended}
use Rattle.history_model.specs.Runs.{Step, Documents, Entries}
use Rattle.recorded_entries.specs.Kept.{AreKeptRows}

-- each key stands once
abbrev pub AreOnce : List Row → Type 0
AreOnce [] = ⊤
AreOnce (w ∷ ws) = (row_of ws w.key ≡ None) × AreOnce ws

-- kept documents, each key once, of collections that are there
abbrev pub AreStepsOf : Rows → List Step → Type 0
AreStepsOf r [] = ⊤
AreStepsOf r (Documents n rs ended ∷ ss) = (map.get r.tables n ≢ None) × AreKeptRows rs × AreOnce rs × AreStepsOf r ss
AreStepsOf r (Entries es last ∷ ss) = AreStepsOf r ss

-- a piece of a namespace that wasn't ended, which isn't empty
abbrev pub MayStand : List Piece → Piece → Type 0
MayStand before (Block n []) = ⊥
MayStand before (Block n (d ∷ ds)) = IsNamed n × (has_ended n before ≡ false)
MayStand before (End n) = IsNamed n × (has_ended n before ≡ false)

abbrev pub AllStand : List Piece → List Piece → Type 0
AllStand before [] = ⊤
AllStand before (p ∷ ps) = MayStand before p × AllStand (before ++ p ∷ []) ps
