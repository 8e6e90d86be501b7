use Rattle.std.proofs.Common.{refl}
use Rattle.entry_writer.proofs.Groups.{joined_set}
use Rattle.entry_writer.proofs.parts.join.Goals as goal

pub returns : goal.returns
returns c =
    joined_set c.args.groups.now.items c.args.at c.index_mut.result.now record { part = c.index_mut.result.now.part; edits = c.push.new.self } c.args.edit.now
    c.requires c.index_mut.ensures.value refl c.in_ok-push.ensures.items
