use Rattle.std.proofs.Common.{[], ◌∷◌, true, sym, ap, ◌∙◌}
use Rattle.std.specs.Prelude.{slice_get}
use Rattle.archive_format.specs.Archive.{goes, end}
use Rattle.archive_format.specs.declared.place.Place.TheVariants.{Blocks}
use Rattle.demux.proofs.Seats.{written}
use Rattle.demux.proofs.progress.Progress.close.Goals as goal

pub returns : goal.returns
returns c = λ e is.
    let k = c.end.ensures e is in
    (ap (λ z. goes (record { place = Blocks; metas = c.args.self.now.metas; seen = z }) (end e.ns ∷ [])) (sym k), ap (λ z. slice_get z c.args.i) k ∙ written c.args.self.now.seen c.args.i (record e { ended = true }) c.requires)
