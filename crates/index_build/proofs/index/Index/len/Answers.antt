use Rattle.std.proofs.Common.{sym, ap, ◌∙◌}
use Rattle.std.specs.Prelude.{min}
use Rattle.index_build.specs.Owned.{Holding, pairs_in, texts_count}
use Rattle.index_build.proofs.Owned.{entries_owned}
use Rattle.index_build.proofs.index.Index.len.Goals as goal

pub returns : goal.returns
returns c =
    c.total.ensures ∙ (ap (λ z. min (texts_count z) 18446744073709551615) (sym (entries_owned c.self.inside.entries.items c.self.invariant.rise))
    ∙ ap (λ (h : Holding). min (pairs_in h.owned) 18446744073709551615) c.self.view_is)
