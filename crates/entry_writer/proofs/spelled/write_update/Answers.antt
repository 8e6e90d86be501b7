use Rattle.std.proofs.Common.{refl}
use Rattle.entry_model.specs.declared.entry.Action.TheVariants.{Whole, Delta}
use Rattle.entry_model.specs.Spelling.{level_limit}
use Rattle.entry_model.specs.Touches.{written}
use Rattle.entry_writer.proofs.Items.{whole_is, delta_is}
use Rattle.entry_writer.proofs.spelled.write_update.Goals as goal

pub returns-clause-whole : goal.returns-clause-whole
returns-clause-whole c = λ d text.
    c.update_bytes.ensures (record { ts = c.args.ts; ns = c.args.ns.now; action = Whole c.args.id.now d }) d refl text
    (whole_is c.args.ts c.args.ns.now c.args.id.now d)

pub returns-clause-delta : goal.returns-clause-delta
returns-clause-delta c = λ form touches text.
    c.update_bytes.ensures (record { ts = c.args.ts; ns = c.args.ns.now; action = Delta c.args.id.now form touches }) (written form level_limit touches) refl text
    (delta_is c.args.ts c.args.ns.now c.args.id.now form touches)
