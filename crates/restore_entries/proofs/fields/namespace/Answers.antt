use Rattle.restore_entries.proofs.FieldDeltas.{if_split}
use Rattle.restore_entries.proofs.fields.namespace.Goals as goal

pub returns : goal.returns
returns c = if_split c.args.text.now c.split.result c.split.ensures.some
