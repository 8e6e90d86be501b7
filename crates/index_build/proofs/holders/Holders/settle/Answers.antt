use Rattle.std.proofs.Common.{List, sym, ap, ◌∙◌, Some}
use Rattle.std.specs.Prelude.{if◌then◌else◌}
use Rattle.state_model.specs.Keys.{same_key}
use Rattle.index_build.specs.declared.holder.Holder.{Holder}
use Rattle.index_build.specs.Holders.{found_key, holder_of}
use Rattle.index_build.proofs.Searches.{settled_one}
use Rattle.index_build.proofs.holders.Holders.settle.Goals as goal

pub loop-self-preserved-in-Some : goal.loop-self-preserved-in-Some
loop-self-preserved-in-Some c =
    let h = c.in-Some.holder in (
      c.settle_one.ensures.rise,
      λ t.
          settled_one c.pop.new.self.items c.loop-self.self.settled.items c.settle_one.new.settled.items h
          (λ u. c.settle_one.ensures.found u ∙ ap (λ (hs : List Holder). if same_key u h.key then Some h else found_key u hs) c.reserve.ensures.items) t
          ∙ (ap (λ (hs : List Holder). holder_of hs c.loop-self.self.settled.items t) (sym c.in-Some.ensures.items) ∙ c.loop-self.invariant.1 t),
    )
