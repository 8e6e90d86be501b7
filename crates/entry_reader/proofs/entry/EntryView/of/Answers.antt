use Rattle.std.proofs.Common.{◌∙◌}
use Rattle.bson_view.specs.Views.{document}
use Rattle.entry_reader.specs.Parts.{text_at, stamp_at, head_by}
use Rattle.entry_reader.proofs.Changes.{head_read}
use Rattle.entry_reader.proofs.entry.EntryView.of.Goals as goal

pub returns : goal.returns
returns c =
    let f = c.of-found.ensures in
    record {
      head = c.head_at.ensures ∙ ((λ k. head_by (c.stamp.ensures k) (c.text.ensures k)) ∙ ((λ k. head_by (stamp_at (f.ts k)) (text_at (f.ns k))) ∙ head_read (document c.args.view.now)));
      op = c.text-2.ensures ∙ (λ k. text_at (f.op k));
      o = f.o;
      o2 = f.o2;
    }
