use Rattle.std.proofs.Common.{sym, ap}
use Rattle.bson_view.specs.Meaning.{value_in}
use Rattle.entry_reader.proofs.Values.{int_taken}
use Rattle.entry_reader.proofs.diff_fields.number.Goals as goal

pub returns-then-elem-eq-INT32 : goal.returns-then-elem-eq-INT32
returns-then-elem-eq-INT32 c = int_taken c.int_of.result _ _ (ap (λ t. value_in t c.args.elem.now.value.now) (sym c.if-elem-eq-INT32.true)) c.int_of.ensures
