use Rattle.std.proofs.Common.{rules}
use Rattle.std.proofs.lemmas.Fn.{always_returns_same}
use Rattle.sorted_list.proofs.Order.{searched_ok, searched_err}
use Rattle.dump_copies.specs.Places.{at_name}
use Rattle.dump_copies.proofs.Named.{ordered}
use Rattle.dump_copies.proofs.copies.place_of.Goals as goal

pub returns-in-Ok-clause-place : goal.returns-in-Ok-clause-place
returns-in-Ok-clause-place c = λ r.
    let facts = c.in-Ok.ensures in (
      facts.bound,
      searched_ok (at_name c.args.ns.now) c.args.items.now c.in-Ok.at (ordered c.args.items.now c.args.ns.now r) facts.bound
          (facts.position (at_name c.args.ns.now) (always_returns_same _ _ _ (λ a r f called. (search rules, search rules)))),
    )

pub returns-in-Err-clause-place : goal.returns-in-Err-clause-place
returns-in-Err-clause-place c = λ r.
    let facts = c.in-Err.ensures in
    (searched_err (at_name c.args.ns.now) c.args.items.now c.in-Err.field-0 (ordered c.args.items.now c.args.ns.now r) facts.bound
    (facts.position (at_name c.args.ns.now) (always_returns_same _ _ _ (λ a r f called. (search rules, search rules))))).is_absent
