use Rattle.std.specs.Prelude.{◌++◌, codes}
use Rattle.std.specs.Fmt.{decimal}
use Rattle.schedule_text.proofs.DrillRows.{put_both}
use Rattle.schedule_text.proofs.drill_text.put_set.Goals as goal

pub returns : goal.returns
returns c = put_both c.args.text.now.items (codes "update d.c" ++ decimal c.args.j) c.put_number.new.text.items _ c.extend_from_slice.new.self.items c.in_ok-put_number.ensures (put_both c.put_number.new.text.items (codes " {\"_id\":" ++ decimal c.args.k) c.put_number-2.new.text.items _ c.extend_from_slice.new.self.items c.in_ok-put_number-2.ensures (put_both c.put_number-2.new.text.items (codes ",\"$set\":{\"b.x\":" ++ decimal c.args.i) c.put_number-3.new.text.items _ c.extend_from_slice.new.self.items c.in_ok-put_number-3.ensures c.in_ok-extend_from_slice.ensures.items))
