use Rattle.std.proofs.Common.{◌<◌, length, ap, ◌∙◌}
use Rattle.containers.specs.Entries.{with_value}
use Rattle.containers.proofs.Entries.{wrote}
use Rattle.json_tree.proofs.members.Members.replace.Goals as goal

pub invariant_of-self : goal.invariant_of-self
invariant_of-self g c =
    let lt : c.args.at < length c.self.inside.entries.items = rw c.self.view_is c.requires in
    (wrote c.self.inside.entries.items c.args.at c.index_mut-entry.result.now c.args.value c.replace.new.dest lt c.index_mut-entry.ensures.value c.replace.ensures.after).distinct c.self.invariant

pub returns-clause-new : goal.returns-clause-new
returns-clause-new g c =
    let lt : c.args.at < length c.self.inside.entries.items = rw c.self.view_is c.requires in
    let e = ap (λ es. with_value es c.args.at c.args.value) c.self.view_is in
    (wrote c.self.inside.entries.items c.args.at c.index_mut-entry.result.now c.args.value c.replace.new.dest lt c.index_mut-entry.ensures.value c.replace.ensures.after).is ∙ e
