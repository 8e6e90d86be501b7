use Rattle.std.proofs.Common.{refl, map, subst, sym, ◌<◌, ℕ}
use Rattle.std.specs.Fmt.{decimal}
use Rattle.entry_model.specs.Spelling.{item_value}
use Rattle.bson_encode.proofs.Spelled.{item_put}
use Rattle.entry_writer.proofs.Items.{mapped_length, mapped_at}
use Rattle.entry_writer.proofs.group.put_items.Goals as goal

pub loop-at-preserved : goal.loop-at-preserved
loop-at-preserved c =
    item_put c.args.out.now.items c.loop-at.out.items c.put_item.new.out.items (decimal c.loop-at.at) (map item_value c.args.entries.now) c.loop-at.at (item_value c.index-entries-at.result)
    c.loop-at.invariant refl (subst (λ (n : ℕ). c.loop-at.at < n) (sym (mapped_length c.args.entries.now)) c.loop-at-test.true) (mapped_at c.args.entries.now c.loop-at.at c.index-entries-at.result c.loop-at-test.true c.index-entries-at.is)
    c.in_ok-put_item.ensures
