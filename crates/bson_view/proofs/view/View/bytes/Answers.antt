use Rattle.bson_view.proofs.Meanings.{checked_spells}
use Rattle.bson_view.proofs.view.View.bytes.Goals as goal

pub returns-clause-spelled : goal.returns-clause-spelled
returns-clause-spelled c = checked_spells c.args.self.now.bytes.now c.args.self.now.checked
