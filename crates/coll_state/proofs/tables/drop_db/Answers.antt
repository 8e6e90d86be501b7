use Rattle.std.proofs.Common.{rules, ◌∙◌, arith}
use Rattle.std.specs.Prelude.{not}
use Rattle.std.specs.Str.{bytes_eq}
use Rattle.std.specs.Cmp.Lexicographic.{texts_ties}
use Rattle.std.specs.FinMap as map
use Rattle.std.proofs.lemmas.Map.Made.{filter_same_pairs}
use Rattle.coll_state.specs.Tables.{tables_in}
use Rattle.coll_state.proofs.Named.{filtered, len_is}
use Rattle.coll_state.proofs.tables.drop_db.Goals as goal

pub returns-clause-tables : goal.returns-clause-tables
returns-clause-tables c =
    filtered c.args.tables.now c.retain.new.self (λ n. not (bytes_eq n.db c.args.db.now))
    (filter_same_pairs _ (λ e. not (bytes_eq e.0.db c.args.db.now)) _ (λ k v b w f t. (search rules, search rules, search rules)) _ _ c.retain.ensures.filtered)
    ∙ (λ i. map.retain_keys (tables_in c.args.tables.now) (λ n. not (texts_ties n.db c.args.db.now i)))

pub returns-clause-count : goal.returns-clause-count
returns-clause-count c =
    let before = len_is c.args.tables.now c.len-before.ensures.ordered in
    let after = len_is c.retain.new.self c.retain.ensures.ordered in
    omega (arith, before, after, c.len-before.ensures.len, c.len.ensures.len, c.retain.ensures.bound)
