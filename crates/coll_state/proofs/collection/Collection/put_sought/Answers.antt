use Rattle.std.proofs.Common.{rules, List, refl, sym, ap, ◌∙◌, subst}
use Rattle.std.proofs.lemmas.Fn.{always_returns_same}
use Rattle.state_model.specs.Keys.{Key, key_cmp}
use Rattle.sorted_list.proofs.Order.{new_gone}
use Rattle.coll_state.specs.declared.collection.NumberedKey.{NumberedKey}
use Rattle.coll_state.specs.Rows.{row_of}
use Rattle.coll_state.specs.Changes.{put_table}
use Rattle.coll_state.specs.Stock.{Stock, AreParts, rows_in, table_in}
use Rattle.coll_state.proofs.RowLists.{no_in}
use Rattle.coll_state.proofs.Records.{append_row}
use Rattle.coll_state.proofs.Parts.{at_key, numbers_ordered, numbers_kept, no_number, absent_of, next_fresh, parts_added, table_put}
use Rattle.coll_state.proofs.collection.Collection.put_sought.Goals as goal

pub invariant_of-self : goal.invariant_of-self
invariant_of-self c =
    let ns = c.self.inside.numbers.items in
    let order = numbers_ordered ns c.args.key c.self.invariant.keys in
    let there = c.in-Some.ensures.there (λ a b. key_cmp a.key b.key) (λ n. n.no) (always_returns_same _ _ _ (λ a r f called. (search rules, search rules))) (always_returns_same _ _ _ (λ a r f called. (search rules, search rules))) order in
    let items = c.put_new-there.ensures.items (λ a b. key_cmp a.key b.key) (always_returns_same _ _ _ (λ a r f called. (search rules, search rules))) order in
    subst (λ (l : List NumberedKey). AreParts c.self.inside.indexes c.self.inside.next l c.self.inside.records.items)
    (sym (items ∙ numbers_kept ns c.args.key c.in-Some.no (record { key = c.args.key; no = c.self.inside.next }) there)) c.self.invariant

pub replace-requires : goal.replace-requires
replace-requires c =
    let ns = c.self.inside.numbers.items in
    let there = c.in-Some.ensures.there (λ a b. key_cmp a.key b.key) (λ n. n.no) (always_returns_same _ _ _ (λ a r f called. (search rules, search rules))) (always_returns_same _ _ _ (λ a r f called. (search rules, search rules))) (numbers_ordered ns c.args.key c.self.invariant.keys) in
    ap (λ (k : Key). no_in (row_of (rows_in c.self.inside.records.items) k)) (sym c.requires.key) ∙ sym (there ∙ c.self.invariant.covers c.args.key)

pub invariant_of-self-in-None : goal.invariant_of-self-in-None
invariant_of-self-in-None c =
    let k = c.args.key in
    let ns = c.self.inside.numbers.items in
    let rs = c.self.inside.records.items in
    let y : NumberedKey = record { key = k; no = c.self.inside.next } in
    let order = numbers_ordered ns k c.self.invariant.keys in
    let gone = c.in-None.ensures.there (λ a b. key_cmp a.key b.key) (λ n. n.no) (always_returns_same _ _ _ (λ a r f called. (search rules, search rules))) (always_returns_same _ _ _ (λ a r f called. (search rules, search rules))) order in
    let items = c.put_new-there.ensures.items (λ a b. key_cmp a.key b.key) (always_returns_same _ _ _ (λ a r f called. (search rules, search rules))) order in
    let absent = absent_of (rows_in rs) k (gone ∙ c.self.invariant.covers k) in
    let put = ap rows_in c.push.ensures.items ∙ append_row rs k c.self.inside.next _ refl (sym c.requires.key) absent in
    parts_added c.self.inside.indexes c.self.inside.next ns _ rs _ k c.args.document y c.self.invariant absent refl refl
    (items ∙ sym (new_gone (at_key k) ns y (sym (no_number ns k (sym gone))))) put

pub returns-in-None-clause-table : goal.returns-in-None-clause-table
returns-in-None-clause-table c =
    let k = c.args.key in
    let ns = c.self.inside.numbers.items in
    let rs = c.self.inside.records.items in
    let t = table_in c.self.inside.options c.self.inside.indexes c.self.inside.incarnation c.self.inside.next rs in
    let gone = c.in-None.ensures.there (λ a b. key_cmp a.key b.key) (λ n. n.no) (always_returns_same _ _ _ (λ a r f called. (search rules, search rules))) (always_returns_same _ _ _ (λ a r f called. (search rules, search rules))) (numbers_ordered ns k c.self.invariant.keys) in
    let absent = absent_of t.rows k (gone ∙ c.self.invariant.covers k) in
    let put = ap rows_in c.push.ensures.items ∙ append_row rs k c.self.inside.next _ refl (sym c.requires.key) absent in
    table_put t k c.args.document _ _ (sym (next_fresh t.next (row_of t.rows k) absent)) put
    ∙ ap (λ (s : Stock). put_table k c.args.document s.table) c.self.view_is
