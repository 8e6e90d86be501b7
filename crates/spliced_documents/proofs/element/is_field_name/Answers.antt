use Rattle.std.proofs.lemmas.Str.{is_utf8-from_IsUtf8}
use Rattle.spliced_documents.proofs.Leaves.{no_zero_named}
use Rattle.spliced_documents.proofs.element.is_field_name.Goals as goal

pub returns : goal.returns
returns c = no_zero_named c.args.name.now c.has_zero.result (is_utf8-from_IsUtf8 _ c.utf8.name) c.has_zero.ensures
