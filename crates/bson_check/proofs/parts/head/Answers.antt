use Rattle.std.proofs.Common.{sym}
use Rattle.std.proofs.lemmas.Str.{IsUtf8-from_is_utf8}
use Rattle.bson_check.proofs.parts.head.Goals as goal

pub from_utf8_unchecked-requires : goal.from_utf8_unchecked-requires
from_utf8_unchecked-requires c = IsUtf8-from_is_utf8 _ (sym c.if-not-is_text.ensures)
