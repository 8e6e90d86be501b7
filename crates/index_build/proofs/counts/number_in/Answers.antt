use Rattle.std.proofs.Common.{rules, sym, ap, ◌∙◌}
use Rattle.std.specs.Option.{option_copied}
use Rattle.std.proofs.lemmas.Fn.{always_returns_same}
use Rattle.index_build.proofs.Names.{at_index, indexes_ordered, index_some, index_none}
use Rattle.index_build.proofs.counts.number_in.Goals as goal

pub returns-in-Some : goal.returns-in-Some
returns-in-Some c = λ rise.
    let f = c.find.ensures (at_index c.args.index.now) (always_returns_same _ _ _ (λ a r f called. (search rules, search rules))) (indexes_ordered c.args.numbers.now c.args.index.now rise) in
    index_some c.args.numbers.now c.args.index.now c.in-Some.entry.now (sym (ap option_copied c.in-Some.is) ∙ f)

pub returns-in-None : goal.returns-in-None
returns-in-None c = λ rise.
    let f = c.find.ensures (at_index c.args.index.now) (always_returns_same _ _ _ (λ a r f called. (search rules, search rules))) (indexes_ordered c.args.numbers.now c.args.index.now rise) in
    index_none c.args.numbers.now c.args.index.now (sym (ap option_copied c.in-None.is) ∙ f)
