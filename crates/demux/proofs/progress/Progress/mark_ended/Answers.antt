use Rattle.std.proofs.Common.{◌≡◌, true, sym, ◌∙◌}
use Rattle.std.specs.Prelude.{Some, slice_get}
use Rattle.archive_format.specs.Archive.{end_step}
use Rattle.demux.proofs.Seats.{right_sum}
use Rattle.demux.proofs.progress.Progress.mark_ended.Goals as goal

pub returns-in-None : goal.returns-in-None
unfolding end_step
returns-in-None c =
    let e = c.in-Some.entry.now in
    let is : slice_get c.args.self.now.seen c.args.i ≡ Some e = sym c.in-Some.ensures.entry in
    let k = c.close-in-None.ensures e is in
    (record e { ended = true }, k.1, rw (is, c.in-None.is) k.0)

pub returns-in-Some-2 : goal.returns-in-Some-2
returns-in-Some-2 c =
    let e = c.in-Some.entry.now in
    let is : slice_get c.args.self.now.seen c.args.i ≡ Some e = sym c.in-Some.ensures.entry in
    let k = c.close.ensures e is in
    (record e { ended = true }, k.1, rw is (right_sum _ c.args.at c.args.i c.args.said e c.in-Some-said.said c.in-Some-said.is (c.if-said-found.false ∙ c.sum-found.ensures) ∙ k.0))
