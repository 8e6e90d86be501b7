use Rattle.std.proofs.Common.{sym, ◌∙◌}
use Rattle.metadata_text.proofs.Definitions.{kept_other}
use Rattle.metadata_text.proofs.reading.keep.Goals as goal

pub returns : goal.returns
returns c =
    let put = rw c.in_ok-copy.ensures at c.in_ok-insert.ensures.entries in
    kept_other c.args.kept.now.entries c.insert.new.self.entries c.in_ok-key.key c.args.name.now c.args.tree.now (sym c.eq.ensures ∙ c.if-eq.false) c.in_ok-key.ensures.ok put
