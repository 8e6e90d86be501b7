use Rattle.document_lines.proofs.Escapes.{spells_itself}
use Rattle.document_lines.proofs.strings.is_plain_text.Goals as goal

pub returns-then-text-lt32 : goal.returns-then-text-lt32
returns-then-text-lt32 c e = spells_itself c.args.text.now (c.is_short_plain.ensures e)

pub returns-else-text-lt32 : goal.returns-else-text-lt32
returns-else-text-lt32 c e = spells_itself c.args.text.now (c.is_long_plain.ensures e)
