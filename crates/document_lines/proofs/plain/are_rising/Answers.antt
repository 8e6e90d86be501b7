use Rattle.std.proofs.Common.{rules}
use Rattle.bson_view.specs.Views.{parts_left}
use Rattle.document_lines.proofs.PlainDocuments.{rising_bytes}
use Rattle.document_lines.proofs.plain.are_rising.Goals as goal

pub returns : goal.returns
returns c e = rising_bytes (parts_left c.args.elements) c.requires (search rules)
