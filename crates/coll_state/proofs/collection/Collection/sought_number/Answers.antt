use Rattle.std.proofs.Common.{rules, Some, None, refl, sym, ap, ◌∙◌}
use Rattle.std.specs.Option.{option_copied}
use Rattle.std.proofs.lemmas.Fn.{always_returns_same}
use Rattle.coll_state.specs.Rows.{row_of}
use Rattle.coll_state.specs.Stock.{Stock}
use Rattle.coll_state.proofs.RowLists.{no_in}
use Rattle.coll_state.proofs.Parts.{at_key, numbers_ordered, number_is}
use Rattle.coll_state.proofs.collection.Collection.sought_number.Goals as goal

pub returns-in-Some : goal.returns-in-Some
returns-in-Some c =
    let found = c.find.ensures (at_key c.args.key.now) (always_returns_same _ _ _ (λ a r f called. (search rules, search rules))) (numbers_ordered _ c.args.key.now c.self.invariant.keys) in
    number_is _ c.self.inside.records.items c.args.key.now (Some c.in-Some.numbered.now.no) (Some c.in-Some.numbered.now) c.self.invariant.covers refl (sym (ap option_copied c.in-Some.is) ∙ found)
    ∙ ap (λ (s : Stock). no_in (row_of s.table.rows c.args.key.now)) c.self.view_is

pub returns-in-None : goal.returns-in-None
returns-in-None c =
    let found = c.find.ensures (at_key c.args.key.now) (always_returns_same _ _ _ (λ a r f called. (search rules, search rules))) (numbers_ordered _ c.args.key.now c.self.invariant.keys) in
    number_is _ c.self.inside.records.items c.args.key.now None None c.self.invariant.covers refl (sym (ap option_copied c.in-None.is) ∙ found)
    ∙ ap (λ (s : Stock). no_in (row_of s.table.rows c.args.key.now)) c.self.view_is
