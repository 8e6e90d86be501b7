use Rattle.std.proofs.Common.{ℕ, ◌+◌, List, ◌++◌, length, ap, ◌∙◌}
use Rattle.entry_writer.proofs.Headings.{heading_put}
use Rattle.entry_writer.proofs.heading.put_heading.Goals as goal

pub returns : goal.returns
returns c =
    let db = c.as_str-db.result.now in
    let coll = c.as_str-coll.result.now in
    heading_put c.args.op (length db + length coll + 2) c.args.ns.now.db c.args.ns.now.coll c.args.out.now.items c.extend_from_slice.new.self.items c.extend_from_slice-2.new.self.items c.extend_from_slice-3.new.self.items c.push.new.self.items c.extend_from_slice-4.new.self.items c.push-2.new.self.items
    c.in_ok-extend_from_slice.ensures.items
    (λ i. length (c.as_str-db.ensures i) + length (c.as_str-coll.ensures i) + 2)
    (c.in_ok-extend_from_slice-2.ensures.items ∙ ap (λ (l : List ℕ). c.extend_from_slice.new.self.items ++ l) c.count_bytes.ensures)
    (c.in_ok-extend_from_slice-3.ensures.items ∙ ap (λ (l : List ℕ). c.extend_from_slice-2.new.self.items ++ l) (c.as_bytes.ensures.value ∙ c.as_str-db.ensures))
    c.in_ok-push.ensures.items
    (c.in_ok-extend_from_slice-4.ensures.items ∙ ap (λ (l : List ℕ). c.push.new.self.items ++ l) (c.as_bytes-2.ensures.value ∙ c.as_str-coll.ensures))
    c.in_ok-push-2.ensures.items
