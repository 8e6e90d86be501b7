use Rattle.std.proofs.Common.{refl, sym, subst}
use Rattle.kept_indexes.specs.Kept.{KeptCollections, AreKept}
use Rattle.store_core.specs.Stores.{Stored}
use Rattle.store_core.proofs.Sound.{sound_same}
use Rattle.store_core.proofs.TogetherEffects.{changed_kept, some_holds, some_made, unchanged_kept}
use Rattle.store_core.proofs.store.Store.apply_together.Goals as goal

pub together-requires : goal.together-requires
together-requires c = subst (λ (ks : KeptCollections). AreKept ks c.self.inside.state) (sym c.replace-indexes.ensures.value) c.self.invariant.kept

pub change-requires-clause-holds : goal.change-requires-clause-holds
change-requires-clause-holds c =
    let s : Stored = record { rows = c.self.inside.state; log = c.self.inside.log } in
    some_holds c.changes_are_writes.ensures.writes c.args.commands.now s c.in-Ok.group c.in-Some.group c.self.invariant.holds c.in-Ok.ensures.makes c.in-Some.is

pub change-requires-clause-kept : goal.change-requires-clause-kept
change-requires-clause-kept c = changed_kept c.in-Ok.group c.in-Some.group c.together.new.indexes c.self.inside.state c.in-Some.is c.in-Ok.ensures.kept

pub invariant_of-self-in-None : goal.invariant_of-self-in-None
invariant_of-self-in-None c =
    sound_same c.self.inside.state c.self.inside.state c.self.inside.log c.self.invariant refl (unchanged_kept c.in-Ok.group c.together.new.indexes c.self.inside.state c.in-None.is c.in-Ok.ensures.kept)

pub returns-in_ok-change-in-Some : goal.returns-in_ok-change-in-Some
returns-in_ok-change-in-Some c =
    let s : Stored = record { rows = c.self.inside.state; log = c.self.inside.log } in
    some_made c.changes_are_writes.ensures.writes c.args.commands.now s c.args.self.now c.in-Ok.group c.in-Some.group c.change.new.self c.self.view_is c.in-Ok.ensures.makes c.in-Some.is c.in_ok-change-in-Some.ensures.ok
