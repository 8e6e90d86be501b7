use Rattle.std.proofs.Common.{◌≡◌, None, rules, ap, sym, ◌∙◌, subst}
use Rattle.std.specs.Prelude.{option_map}
use Rattle.capped_oplog.specs.Ring.{IsPlaceOf}
use Rattle.dump_run.proofs.Places.{not_there, stands_there, always_there}
use Rattle.dump_run.proofs.window.place_of.Goals as goal

pub returns-in_default-clause-place : goal.returns-in_default-clause-place
returns-in_default-clause-place c =
    let none : c.place_of.result ≡ None = search rules in
    not_there c.args.oplog.now.entries c.args.ts (subst (λ (o : _). IsPlaceOf c.args.oplog.now.entries c.args.ts o) none c.place_of.ensures)

pub unreachable-requires : goal.unreachable-requires
unreachable-requires c = always_there c.args.oplog.now.entries c.args.ts c.in-Some.at c.in-Some.ensures (ap (λ (o : _). option_map (λ e. (e.0, e.1.now)) o) (sym c.in-None.is) ∙ c.entry.ensures)

pub returns-clause-place : goal.returns-clause-place
returns-clause-place c = stands_there c.args.oplog.now.entries c.args.ts _ _ c.in-Some.at c.in-Some.ensures (ap (λ (o : _). option_map (λ e. (e.0, e.1.now)) o) (sym c.in-Some-entry.is) ∙ c.entry.ensures) c.is_ordered_by_number.ensures
