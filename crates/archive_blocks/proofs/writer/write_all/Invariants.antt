use Rattle.std.proofs.Common.{◌≡◌, ◌≤◌, take}
use Rattle.std.specs.Io.KnownBytes.{Appends}
use Rattle.archive_format.specs.Crc.{crc_on}
use Rattle.archive_format.specs.Written.{joined}
use Rattle.archive_blocks.proofs.writer.write_all.Given as goal

abbrev pub invariant-loop-doc : goal.invariant-loop-doc
invariant-loop-doc g l = record {
  appends : Appends (g.K.Sink.end l.fn.sink).bytes (g.K.Sink.end l.sink).bytes (joined (take l.doc-index l.docs));
  summed : l.sum ≡ crc_on l.fn.sum (joined (take l.doc-index l.docs));
  later : (g.K.Sink.end l.fn.sink).faults ≤ (g.K.Sink.end l.sink).faults;
}
