use Rattle.std.proofs.Common.{refl, length}
use Rattle.std.proofs.lemmas.Option.{slice_get_read}
use Rattle.containers.proofs.Entries.{distinct_remove}
use Rattle.bson_value.proofs.fields.Fields.take.Goals as goal

pub invariant_of-self : goal.invariant_of-self
invariant_of-self g c = rw c.remove.ensures.items (distinct_remove c.self.inside.entries.items c.args.at c.self.invariant)

pub returns-clause-entry : goal.returns-clause-entry
returns-clause-entry g c = slice_get_read c.args.self.now (length c.args.self.now) c.args.at c.remove.result refl c.requires (rw c.self.view_is at c.remove.ensures.value)
