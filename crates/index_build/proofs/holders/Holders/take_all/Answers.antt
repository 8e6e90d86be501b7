use Rattle.std.proofs.Common.{◌≡◌, [], ◌∷◌, ◌++◌, ◌≤◌, ◌∙◌, rules, sym, ap, None, arith}
use Rattle.std.specs.Prelude.{if◌then◌else◌}
use Rattle.index_build.specs.Holders.{holder_of}
use Rattle.index_build.specs.Owners.{Texts, has}
use Rattle.index_build.proofs.Searches.{taken_all}
use Rattle.index_build.proofs.holders.Holders.take_all.Goals as goal

pub loop-key-preserved : goal.loop-key-preserved
loop-key-preserved c =
    let k = c.in-Some.key.now in
    let rest = c.in-Some.rest.now in
    let parts : c.loop-key.left.now ≡ rest ++ k ∷ [] = search rules in
    let a = c.take.ensures.room in
    let b = c.loop-key.invariant.1 in
    let room : c.args.self.now.recent.room ≤ c.take.new.self.recent.room = omega (arith, a, b) in (
      c.take.ensures.rise,
      room,
      λ t.
          taken_all t k rest (holder_of c.loop-key.self.recent.items c.loop-key.self.settled.items t) (holder_of c.take.new.self.recent.items c.take.new.self.settled.items t) (c.take.ensures.holders t)
          ∙ (ap (λ (ks : Texts). if has t ks then None else holder_of c.loop-key.self.recent.items c.loop-key.self.settled.items t) (sym parts) ∙ c.loop-key.invariant.2 t),
    )
