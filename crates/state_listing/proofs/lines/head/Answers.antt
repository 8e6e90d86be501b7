use Rattle.std.proofs.Common.{◌∙◌}
use Rattle.state_listing.proofs.lines.head.Goals as goal

pub returns : goal.returns
returns c = c.head_of.ensures c.args.db.now c.args.coll.now c.args.options.now (c.as_str.ensures ∙ c.in_ok-name.ensures) (c.as_str-2.ensures ∙ c.in_ok-options.ensures.text)
