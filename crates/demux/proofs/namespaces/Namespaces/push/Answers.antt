use Rattle.std.proofs.Common.{◌≡◌, length, sym, subst, rules}
use Rattle.std.specs.Prelude.{None}
use Rattle.archive_format.specs.Shapes.{named}
use Rattle.archive_format.specs.Archive.{seat_of}
use Rattle.demux.specs.Names.{FindsSeen}
use Rattle.demux.proofs.Names.{Puts, seen_push}
use Rattle.demux.proofs.namespaces.Namespaces.push.Goals as goal

pub invariant_of-self-in-Ok : goal.invariant_of-self-in-Ok
invariant_of-self-in-Ok c =
    let xs = c.self.inside.entries.items in
    let db = c.args.db.now in
    let coll = c.args.coll.now in
    let m = c.self.inside.index.databases in
    let n = c.insert.new.self.databases in
    let new : seat_of (named db coll) xs ≡ None = search rules in
    let i : c.len-i.result ≡ length xs = search rules in
    let puts : Puts m n db coll (length xs) = rw i at c.in-Ok.ensures.ok in
    let is : c.new.result.ns ≡ named db coll = search rules in
    subst (FindsSeen n) (sym c.in_ok-push.ensures.items) (seen_push m n xs c.new.result db coll is new c.self.invariant puts)
