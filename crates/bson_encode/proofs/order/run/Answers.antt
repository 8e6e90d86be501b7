use Rattle.std.proofs.Common.{sym, subst}
use Rattle.bson_encode.specs.Leading.{Leads}
use Rattle.bson_encode.proofs.Leading.{leads_as_long, same_lists}
use Rattle.bson_encode.proofs.order.run.Goals as goal

pub returns : goal.returns
returns c = record {
  leads = λ e. subst (Leads c.args.a.now c.args.b.now) (sym c.cmp.ensures) (leads_as_long c.args.a.now c.args.b.now e);
  equal = same_lists c.args.a.now c.args.b.now c.cmp.result c.cmp.ensures;
}
