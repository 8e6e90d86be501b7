use Rattle.std.proofs.Common.{List, ℕ, ◌++◌, ap, ◌∙◌}
use Rattle.std.specs.Fmt.{decimal}
use Rattle.entry_writer.specs.Elements.{opening}
use Rattle.entry_writer.specs.Bodies.{plain_fields}
use Rattle.std.proofs.lemmas.Result.{on_ok_weaker}
use Rattle.entry_writer.proofs.Bytes.{object_put}
use Rattle.entry_writer.proofs.group.put_item.Goals as goal

pub returns : goal.returns
returns c =
    on_ok_weaker c.close.result
    (λ h. object_put c.args.out.now.items (decimal c.args.at) c.open.new.out.items c.put_plain.new.out.items c.close.new.out.items (plain_fields c.args.entry.now.ns c.args.entry.now.action) c.len-start.result
    (c.in_ok-open.ensures ∙ ap (λ (n : List ℕ). c.args.out.now.items ++ opening n) c.format.ensures.text)
    (c.len-start.ensures ∙ c.open.new.out.ok.0) c.in_ok-put_plain.ensures h)
    c.close.ensures
