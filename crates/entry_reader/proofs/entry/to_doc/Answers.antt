use Rattle.entry_reader.proofs.Documents.{is_read, never_bad}
use Rattle.entry_reader.proofs.entry.to_doc.Goals as goal

pub returns-in-Ok : goal.returns-in-Ok
returns-in-Ok c = is_read c.bytes-bytes.result.now _ c.in-Ok.doc c.bytes-bytes.ensures.spelled c.in-Ok.ensures.exact

pub unreachable-requires : goal.unreachable-requires
unreachable-requires c = never_bad c.bytes-bytes.result.now _ c.in-Err-Bad.field-0 c.in-Err-Bad.field-0-0 c.bytes-bytes.ensures.spelled c.in-Err-Bad.field-0-is c.in-Err-Bad.ensures.exact
