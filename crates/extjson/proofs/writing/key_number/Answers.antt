use Rattle.std.proofs.Common.{sym, subst}
use Rattle.json_tree.specs.Numbers.{IsNumber}
use Rattle.extjson.proofs.Decimals.{one_number}
use Rattle.extjson.proofs.writing.key_number.Goals as goal

pub of-requires-2 : goal.of-requires-2
of-requires-2 c = subst IsNumber (sym c.in_ok-of.ensures) one_number
