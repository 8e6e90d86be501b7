use Rattle.std.proofs.Common.{ℕ, ap, ◌∙◌, eqb}
use Rattle.history_model.specs.Runs.{all_ended}
use Rattle.dump_copies.specs.Steps.{Copying}
use Rattle.dump_copies.proofs.Named.{all_have_ended}
use Rattle.dump_copies.proofs.copies.Copies.have_ended.Goals as goal

pub returns : goal.returns
returns c =
    ap (λ (n : ℕ). eqb n 0) c.self.invariant.counted ∙ (all_have_ended c.self.inside.items.items c.self.invariant.rise ∙ ap (λ (x : Copying). all_ended x.cursors) c.self.view_is)
