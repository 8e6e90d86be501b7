use Rattle.std.proofs.Common.{◌≡◌, rules}
use Rattle.archive_format.specs.Shapes.{named}
use Rattle.archive_format.specs.Archive.{seat_of}
use Rattle.demux.proofs.Names.{seat_within}
use Rattle.demux.proofs.namespaces.Namespaces.seat_of.Goals as goal

pub returns-clause-within : goal.returns-clause-within
returns-clause-within c =
    let n = named c.args.db.now c.args.coll.now in
    let is : c.place.result ≡ seat_of n c.args.self.now = search rules in
    seat_within n c.args.self.now c.place.result is
