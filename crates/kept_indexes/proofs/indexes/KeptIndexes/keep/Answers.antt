use Rattle.std.proofs.Common.{◌≡◌, sym, ◌∙◌, subst, inl, inr}
use Rattle.std.specs.FinMap as map
use Rattle.kept_indexes.specs.Kept.{AreBuilt}
use Rattle.kept_indexes.proofs.Moving.{more_kept, built_in, has_built}
use Rattle.kept_indexes.proofs.indexes.KeptIndexes.keep.Goals as goal

pub returns-then-has-clause-taken : goal.returns-then-has-clause-taken
returns-then-has-clause-taken c = inr (sym c.has.ensures ∙ c.if-has.true)

pub returns-in-None-clause-taken : goal.returns-in-None-clause-taken
returns-in-None-clause-taken c = inl (subst (AreBuilt (map.get c.args.state.now.tables c.args.ns.now)) c.in-None.is c.in_ok-indexes.ensures)

pub returns-in-Some-clause-kept : goal.returns-in-Some-clause-kept
returns-in-Some-clause-kept c =
    more_kept c.args.self.now c.add.new.self c.args.state.now c.args.ns.now c.requires.kept c.add.ensures.others
    (built_in c.args.self.now c.add.new.self c.args.state.now c.args.ns.now c.in-Some.indexes c.add.result c.requires.kept (subst (AreBuilt (map.get c.args.state.now.tables c.args.ns.now)) c.in-Some.is c.in_ok-indexes.ensures) c.add.ensures.added c.add.ensures.err)

pub returns-in-Some-clause-taken : goal.returns-in-Some-clause-taken
returns-in-Some-clause-taken c = has_built c.add.new.self c.args.state.now c.args.ns.now c.in-Some.indexes c.add.result c.add.ensures.added
