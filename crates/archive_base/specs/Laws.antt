-- The state that a restore makes of the takings of a dump's archive, before it replays.
use Rattle.std.specs.Prelude.{⊤, ◌≡◌, List, [], ◌∷◌, Ok}
use Rattle.std.specs.FinMap as map
use Rattle.bson_value.specs.declared.namespace.NsName.{NsName}
use Rattle.json_text.specs.Print.{text_of}
use Rattle.metadata_text.specs.Metadata.{metadata_tree, metadata_of}
use Rattle.state_model.specs.States.{Collection}
use Rattle.state_model.specs.Cut.{cut}
use Rattle.copy_model.specs.Copies.{copy_of}
use Rattle.archive_format.specs.Archive.{Taking, Content}
use Rattle.restore_filter.specs.Rules.{Rules}
use Rattle.restore_filter.specs.Names.{takes, new_name}
use Rattle.restore_plan.specs.declared.plan.Plan.{Plan}
use Rattle.restore_plan.specs.Base.{base}
use Rattle.history_model.specs.Runs.{Schedule}
use Rattle.history_model.specs.Histories.{reads}
use Rattle.history_model.specs.Recordings.{reads_in}
use Rattle.history_model.specs.Laws.{HealedBefore}
use Rattle.dump_model.specs.Archives.{written}
use Rattle.dump_content.specs.Laws.{Dumped, start_state}

-- what is written of options and definitions is read as them
abbrev pub AreReadAgain : List (NsName × Collection) → Type 0
AreReadAgain [] = ⊤
AreReadAgain (e ∷ es) = (metadata_of (text_of (metadata_tree e.0.coll e.1.options (map.values e.1.indexes))) ≡ Ok (e.1.options, map.values e.1.indexes)) × AreReadAgain es

abbrev pub RenamesNone : Rules → Type 0
RenamesNone r = (n : NsName) → new_name r n ≡ n

abbrev pub BaseIsCopy : Type 0
BaseIsCopy = (s : Schedule) → Dumped s → AreReadAgain (map.entries (start_state s)) → (h : HealedBefore s) → (p : Plan) → RenamesNone p.filter → (ts : List Taking) → Content (written s) ts →
    base p ts ≡ cut (takes p.filter) (copy_of h.rows (reads_in (reads s) []))
