-- What a dump writes whose outcome is Done: metadata that its archive has room for, and bytes.
use Rattle.std.specs.Prelude.{◌≡◌}
use Rattle.archive_content.specs.Pieces.{AreBytes}
use Rattle.history_model.specs.Runs.{Schedule, Done}
use Rattle.history_model.specs.Histories.{outcome}
use Rattle.dump_model.specs.Archives.{metas_of, written}
use Rattle.recorded_entries.specs.Given.{AreGivenLines}
use Rattle.dump_content.specs.Laws.{TimesFit, AreMetaTexts, start_state}

abbrev pub MetadataFits : Type 0
MetadataFits = (s : Schedule) → AreGivenLines s.lines → outcome s ≡ Done → AreMetaTexts (metas_of (start_state s))

abbrev pub WrittenAreBytes : Type 0
WrittenAreBytes = (s : Schedule) → AreGivenLines s.lines → outcome s ≡ Done → TimesFit s → AreBytes (written s)
