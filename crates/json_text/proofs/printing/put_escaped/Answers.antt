use Rattle.json_text.proofs.Printed.{escapes}
use Rattle.json_text.proofs.printing.put_escaped.Goals as goal

pub chars-preserved : goal.chars-preserved
chars-preserved c = escapes c.in-Some.c _ _ _ _ _ c.in-Some.ensures.steps.0 c.in_ok-put_char.ensures c.chars.invariant
