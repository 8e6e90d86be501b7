use Rattle.std.proofs.Common.{arith}
use Rattle.json_tree.proofs.Names.{set_tells, absent_if}
use Rattle.json_tree.proofs.builder.MembersBuilder.has.Goals as goal

pub returns-clause-is : goal.returns-clause-is
returns-clause-is g c = set_tells c.self.inside.names c.self.inside.members c.args.self.now c.args.name.now c.contains.result c.self.view_is c.self.invariant (omega (arith, c.if-len-le-FEW.false, c.len.ensures.count)) c.contains.ensures

pub returns-clause-absent : goal.returns-clause-absent
returns-clause-absent g c = absent_if c.args.name.now c.args.self.now c.contains.result (returns-clause-is g c)
