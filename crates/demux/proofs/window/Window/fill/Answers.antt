use Rattle.std.proofs.Common.{◌≡◌, ◌+◌, ◌-◌, ◌++◌, length, take, drop, ap, subst, ◌∙◌, arith, ℕ, List}
use Rattle.std.proofs.lemmas.List.{take_at}
use Rattle.demux.specs.Held.{Fills}
use Rattle.demux.proofs.Buffers.{fills_from}
use Rattle.demux.proofs.window.Window.fill.Goals as goal

pub returns-clause-ok : goal.returns-clause-ok
returns-clause-ok g c =
    let w = c.self.inside in
    let b = c.make_room-begin.result in
    let m = w.end - w.start in
    let n = c.in_ok-count.count in
    let xs = c.make_room-begin.new.buffer.items in
    let ys = c.read_behind.new.buffer in
    let left = (g.S.Source.end c.args.source.now).bytes in
    let now = (g.S.Source.end c.read_behind.new.source).bytes in
    let same : c.deref_mut.result.now ≡ xs = c.deref_mut.ensures.value in
    let read : Fills (take (b + m) xs) (take (b + m + n) ys) n left now = subst (λ (z : List ℕ). Fills (take (b + m) z) (take (b + m + n) ys) n left now) same c.in_ok-count.ensures.ok in
    let k : Fills (take (b + m - b) (drop b xs)) (take (b + m + n - b) (drop b ys)) n left now = fills_from b (b + m) n xs ys left now (omega arith) (omega arith) read in
    let size : b + m - b ≡ m = omega arith in
    let held : take (b + m - b) (drop b xs) ≡ c.args.self.now.bytes = ap (λ (j : ℕ). take j (drop b xs)) size ∙ c.make_room-begin.ensures.same ∙ ap (λ h. h.bytes) c.self.view_is in
    let whole : take c.make_room-begin.new.buffer.len (ys ++ drop (length ys) xs) ≡ ys = take_at ys (drop (length ys) xs) c.make_room-begin.new.buffer.len (c.read_behind.ensures.size ∙ c.deref_mut.ensures.len) in
    rw (whole, ← held) k
