use Rattle.std.proofs.Common.{◌≡◌, rules, sym, ap, ◌∙◌, refl, None}
use Rattle.std.specs.Option.{option_copied_mut}
use Rattle.coll_state.specs.Tables.{stock_at}
use Rattle.coll_state.proofs.Named.{updated, get_absent, is_some_there, none_there}
use Rattle.coll_state.proofs.tables.replace.Goals as goal

pub returns-in-Some : goal.returns-in-Some
returns-in-Some c =
    let there = sym c.get_mut.ensures.value ∙ ap option_copied_mut c.in-Some.is in
    updated c.args.tables.now (c.get_mut.follows.lender c.args.collection) c.args.ns.now c.args.collection c.args.collection.table ((c.get_mut.follows.holds c.args.collection).3 (is_some_there (stock_at c.args.tables.now c.args.ns.now) _ there)).0 refl

pub returns-in_default : goal.returns-in_default
returns-in_default c =
    let none : c.get_mut.result ≡ None = search rules in
    absurd (none_there _ (sym (get_absent c.args.tables.now c.args.ns.now (sym c.get_mut.ensures.value ∙ ap option_copied_mut none))) c.requires)
