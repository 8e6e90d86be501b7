use Rattle.std.proofs.Common.{sym}
use Rattle.std.proofs.lemmas.Str.{IsUtf8-from_ascii, is_utf8-from_IsUtf8}
use Rattle.bson_check.proofs.Texts.{not_utf8}
use Rattle.bson_check.proofs.parts.is_text.Goals as goal

pub returns-then-ascii : goal.returns-then-ascii
returns-then-ascii c = sym (is_utf8-from_IsUtf8 _ (IsUtf8-from_ascii _ (c.requires c.if-ascii.true)))

pub returns-in-Ok : goal.returns-in-Ok
returns-in-Ok c = sym (is_utf8-from_IsUtf8 _ c.in-Ok.ensures.cases.1)

pub returns-in-Err : goal.returns-in-Err
returns-in-Err c = sym (not_utf8 _ c.in-Err.ensures.cases.0)
