use Rattle.std.proofs.Common.{◌<◌, length, ap, ◌∙◌, refl}
use Rattle.containers.specs.Entries.{with_value}
use Rattle.containers.proofs.Entries.{wrote, read_value}
use Rattle.json_tree.proofs.members.Members.value_mut.Goals as goal

pub invariant_of-self-lent : goal.invariant_of-self-lent
invariant_of-self-lent g c = λ w.
    let lt : c.args.at < length c.self.inside.entries.items = rw c.self.view_is c.requires in
    (wrote c.self.inside.entries.items c.args.at c.index_mut-entry.result.now w w lt c.index_mut-entry.ensures.value refl).distinct c.self.invariant

pub returns : goal.returns
returns g c =
    let lt : c.args.at < length c.self.inside.entries.items = rw c.self.view_is c.requires in (
      (
        refl,
        λ w.
            (wrote c.self.inside.entries.items c.args.at c.index_mut-entry.result.now w w lt c.index_mut-entry.ensures.value refl).is ∙ ap (λ es. with_value es c.args.at w) c.self.view_is,
      ),
      record { writes_back = tt; value = rw c.self.view_is at (read_value c.self.inside.entries.items c.args.at c.index_mut-entry.result.now lt c.index_mut-entry.ensures.value) },
    )
