use Rattle.std.proofs.Common.{◌≤◌, take}
use Rattle.std.specs.Prelude.{flat_map}
use Rattle.std.specs.Io.KnownBytes.{Appends}
use Rattle.archive_format.specs.Written.{meta_text}
use Rattle.archive_prelude.specs.Parts.{metadata_of}
use Rattle.archive_prelude.proofs.writing.write_metas.Given as goal

abbrev pub invariant-loop-meta : goal.invariant-loop-meta
invariant-loop-meta g l = record {
  appends : Appends (g.K.Sink.end l.fn.sink).bytes (g.K.Sink.end l.sink).bytes (flat_map (λ m. meta_text (metadata_of m)) (take l.meta-index l.metas));
  later : (g.K.Sink.end l.fn.sink).faults ≤ (g.K.Sink.end l.sink).faults;
}
