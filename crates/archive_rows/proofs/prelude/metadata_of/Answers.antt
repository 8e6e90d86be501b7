use Rattle.std.proofs.Common.{string_bytes}
use Rattle.archive_rows.proofs.Shapes.{no_meta}
use Rattle.archive_rows.proofs.prelude.metadata_of.Goals as goal

pub returns-in-Err : goal.returns-in-Err
returns-in-Err c = no_meta string_bytes c.fault_text.result c.in-Err.fault _ c.fault_text.ensures.told c.fault_text.ensures.memory c.in-Err.ensures.err
