use Rattle.std.proofs.Common.{rules, sym, ap, ◌∙◌}
use Rattle.std.specs.Prelude.{is_some}
use Rattle.std.proofs.lemmas.Fn.{always_returns_same}
use Rattle.bson_encode.specs.Key.{key_of}
use Rattle.coll_state.specs.Rows.{row_of}
use Rattle.coll_state.specs.Changes.{drop_table}
use Rattle.coll_state.specs.Stock.{Stock, rows_in, table_in}
use Rattle.coll_state.proofs.Records.{at_no, records_ordered, take_row}
use Rattle.coll_state.proofs.Parts.{at_key, numbers_ordered, number_is, absent_of, parts_removed, drop_absent, table_drop, is_there, is_absent}
use Rattle.coll_state.proofs.collection.Collection.remove.Goals as goal

pub invariant_of-self : goal.invariant_of-self
invariant_of-self c =
    let k = key_of c.args.id.now in
    let order = numbers_ordered c.self.inside.numbers.items k c.self.invariant.keys in
    let value = c.remove.ensures.value (at_key k) (always_returns_same _ _ _ (λ a r f called. (search rules, search rules))) order in
    let is = c.remove.ensures.items (at_key k) (always_returns_same _ _ _ (λ a r f called. (search rules, search rules))) order in
    let there = sym (sym c.in-Some.is ∙ number_is c.self.inside.numbers.items c.self.inside.records.items k _ _ c.self.invariant.covers c.number_in.ensures value) in
    let drop = ap rows_in (c.remove-in-Some.ensures.items (at_no c.in-Some.no) (always_returns_same _ _ _ (λ a r f called. (search rules, search rules))) (records_ordered _ _ c.self.invariant.rising))
    ∙ take_row 0 c.self.inside.records.items k c.in-Some.no c.self.invariant.rising there in
    parts_removed c.self.inside.indexes c.self.inside.next c.self.inside.numbers.items _ c.self.inside.records.items _ k c.self.invariant is drop

pub invariant_of-self-in-None : goal.invariant_of-self-in-None
invariant_of-self-in-None c =
    let k = key_of c.args.id.now in
    let order = numbers_ordered c.self.inside.numbers.items k c.self.invariant.keys in
    let value = c.remove.ensures.value (at_key k) (always_returns_same _ _ _ (λ a r f called. (search rules, search rules))) order in
    let is = c.remove.ensures.items (at_key k) (always_returns_same _ _ _ (λ a r f called. (search rules, search rules))) order in
    let none = absent_of (rows_in c.self.inside.records.items) k (sym c.in-None.is ∙ number_is c.self.inside.numbers.items c.self.inside.records.items k _ _ c.self.invariant.covers c.number_in.ensures value) in
    parts_removed c.self.inside.indexes c.self.inside.next c.self.inside.numbers.items _ c.self.inside.records.items _ k c.self.invariant is (sym (drop_absent (rows_in c.self.inside.records.items) k none))

pub returns-in-Some-clause-there : goal.returns-in-Some-clause-there
returns-in-Some-clause-there c =
    let k = key_of c.args.id.now in
    let value = c.remove.ensures.value (at_key k) (always_returns_same _ _ _ (λ a r f called. (search rules, search rules))) (numbers_ordered c.self.inside.numbers.items k c.self.invariant.keys) in
    let there = sym (sym c.in-Some.is ∙ number_is c.self.inside.numbers.items c.self.inside.records.items k _ _ c.self.invariant.covers c.number_in.ensures value) in
    is_there (row_of (rows_in c.self.inside.records.items) k) c.in-Some.no there ∙ ap (λ (s : Stock). is_some (row_of s.table.rows k)) c.self.view_is

pub returns-in-Some-clause-table : goal.returns-in-Some-clause-table
returns-in-Some-clause-table c =
    let k = key_of c.args.id.now in
    let t = table_in c.self.inside.options c.self.inside.indexes c.self.inside.incarnation c.self.inside.next c.self.inside.records.items in
    let value = c.remove.ensures.value (at_key k) (always_returns_same _ _ _ (λ a r f called. (search rules, search rules))) (numbers_ordered c.self.inside.numbers.items k c.self.invariant.keys) in
    let there = sym (sym c.in-Some.is ∙ number_is c.self.inside.numbers.items c.self.inside.records.items k _ _ c.self.invariant.covers c.number_in.ensures value) in
    let drop = ap rows_in (c.remove-in-Some.ensures.items (at_no c.in-Some.no) (always_returns_same _ _ _ (λ a r f called. (search rules, search rules))) (records_ordered _ _ c.self.invariant.rising))
    ∙ take_row 0 c.self.inside.records.items k c.in-Some.no c.self.invariant.rising there in
    table_drop t k _ drop ∙ ap (λ (s : Stock). drop_table k s.table) c.self.view_is

pub returns-in-None-clause-there : goal.returns-in-None-clause-there
returns-in-None-clause-there c =
    let k = key_of c.args.id.now in
    let value = c.remove.ensures.value (at_key k) (always_returns_same _ _ _ (λ a r f called. (search rules, search rules))) (numbers_ordered c.self.inside.numbers.items k c.self.invariant.keys) in
    let none = absent_of (rows_in c.self.inside.records.items) k (sym c.in-None.is ∙ number_is c.self.inside.numbers.items c.self.inside.records.items k _ _ c.self.invariant.covers c.number_in.ensures value) in
    is_absent (row_of (rows_in c.self.inside.records.items) k) none ∙ ap (λ (s : Stock). is_some (row_of s.table.rows k)) c.self.view_is

pub returns-in-None-clause-table : goal.returns-in-None-clause-table
returns-in-None-clause-table c =
    let k = key_of c.args.id.now in
    let t = table_in c.self.inside.options c.self.inside.indexes c.self.inside.incarnation c.self.inside.next c.self.inside.records.items in
    let value = c.remove.ensures.value (at_key k) (always_returns_same _ _ _ (λ a r f called. (search rules, search rules))) (numbers_ordered c.self.inside.numbers.items k c.self.invariant.keys) in
    let none = absent_of (rows_in c.self.inside.records.items) k (sym c.in-None.is ∙ number_is c.self.inside.numbers.items c.self.inside.records.items k _ _ c.self.invariant.covers c.number_in.ensures value) in
    table_drop t k t.rows (sym (drop_absent t.rows k none)) ∙ ap (λ (s : Stock). drop_table k s.table) c.self.view_is
