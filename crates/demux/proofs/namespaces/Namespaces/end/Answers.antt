use Rattle.std.proofs.Common.{◌≡◌, ◌<◌, true, length, set, sym, ap, ◌∙◌, rules}
use Rattle.std.specs.Prelude.{Some, slice_get}
use Rattle.archive_format.specs.Archive.{Seen}
use Rattle.demux.proofs.Names.{seen_set}
use Rattle.demux.proofs.Seats.{there}
use Rattle.demux.proofs.namespaces.Namespaces.end.Goals as goal

pub invariant_of-self : goal.invariant_of-self
invariant_of-self c =
    let xs = c.self.inside.entries.items in
    let le : c.args.i < length xs = search rules in
    let is = there xs c.args.i c.index_mut.result.now le c.index_mut.ensures.value in
    seen_set c.self.inside.index.databases xs c.args.i c.index_mut.result.now c.end.new.self is (ap (λ z. z.ns) c.end.ensures) c.self.invariant

pub returns : goal.returns
returns c = λ e at.
    let xs = c.self.inside.entries.items in
    let le : c.args.i < length xs = search rules in
    let v : xs ≡ c.args.self.now = search rules in
    let is : slice_get xs c.args.i ≡ Some c.index_mut.result.now = there xs c.args.i c.index_mut.result.now le c.index_mut.ensures.value in
    let one : Some c.index_mut.result.now ≡ Some e = sym is ∙ ap (λ z. slice_get z c.args.i) v ∙ at in
    let k : c.index_mut.result.now ≡ e = cc in
    ap (λ z. set z c.args.i c.end.new.self) v ∙ ap (set c.args.self.now c.args.i) (c.end.ensures ∙ ap (λ (z : Seen). record z { ended = true }) k)
