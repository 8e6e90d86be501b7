use Rattle.std.proofs.Common.{◌≡◌, ◌++◌, length, IsUtf8}
use Rattle.doc_path.specs.declared.parts.Part.TheVariants.{Name as name}
use Rattle.doc_path.specs.Paths.{parts_of}
use Rattle.entry_model.specs.Edits.{mapped}
use Rattle.oplog_entry.proofs.PathParts.{NoZero}
use Rattle.oplog_entry.proofs.paths.path_place.Given as goal

abbrev pub invariant-parts : goal.invariant-parts
invariant-parts l = (mapped name (parts_of l.path) ≡ l.place ++ mapped name (parts_of l.rest)) × NoZero l.rest × IsUtf8 l.rest

abbrev pub decreases-parts : goal.decreases-parts
decreases-parts l = length l.rest
