use Rattle.std.proofs.Common.{sym, subst, ◌∙◌}
use Rattle.json_tree.specs.Numbers.{IsNumber}
use Rattle.json_text.proofs.Found.{number_taken}
use Rattle.json_text.proofs.tokens.number.Goals as goal

pub of-requires-in-Some : goal.of-requires-in-Some
of-requires-in-Some c =
    subst IsNumber (sym (c.in_ok-of-in-Some.ensures ∙ c.in-Some.ensures.1)) (number_taken _ _ c.args.bytes.now _ c.in_ok-rest.ensures.gives)
