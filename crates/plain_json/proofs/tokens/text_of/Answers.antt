use Rattle.std.proofs.lemmas.Str.{IsUtf8-from_ascii, is_utf8-from_IsUtf8}
use Rattle.json_text.proofs.Texts.{not_utf8}
use Rattle.plain_json.proofs.tokens.text_of.Goals as goal

pub from_utf8_unchecked-requires : goal.from_utf8_unchecked-requires
from_utf8_unchecked-requires c = IsUtf8-from_ascii _ (c.requires c.if-ascii.true)

pub returns-then-ascii : goal.returns-then-ascii
returns-then-ascii c = (is_utf8-from_IsUtf8 _ (IsUtf8-from_ascii _ (c.requires c.if-ascii.true)), c.from_utf8_unchecked.ensures)

pub returns-in-Ok : goal.returns-in-Ok
returns-in-Ok c = (is_utf8-from_IsUtf8 _ c.in-Ok.ensures.cases.1, c.in-Ok.ensures.cases.0)

pub returns-in-Err : goal.returns-in-Err
returns-in-Err c = not_utf8 _ c.in-Err.ensures.cases.0
