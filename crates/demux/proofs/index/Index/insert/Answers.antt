use Rattle.std.proofs.Common.{◌≡◌, ◌∙◌, sym, ap, rules, string_bytes}
use Rattle.std.specs.Prelude.{Some, None, bytes_eq}
use Rattle.std.specs.BTreeMap.{get_by_text}
use Rattle.std.specs.Map.{update}
use Rattle.std.proofs.lemmas.Result.{IfOk-at_ok}
use Rattle.std.proofs.lemmas.Map.Text.{btree_map_updates_text}
use Rattle.demux.proofs.Names.{Sets, put, put_none, known, unknown, empty, on_ok, on_err}
use Rattle.demux.proofs.index.Index.insert.Goals as goal

pub returns-in-Some-clause-ok : goal.returns-in-Some-clause-ok
returns-in-Some-clause-ok c =
    let m = c.args.self.now.databases in
    let db = c.args.db.now in
    let w = c.set.new.names in
    let n = c.get_mut.follows.lender w in
    let old = c.in-Some.names.now in
    let at : get_by_text m db ≡ Some old = sym c.in-Some.ensures.value in
    let sets : Sets m n db w = btree_map_updates_text db m n _ ((c.get_mut.follows.holds w).3 (search rules)) in
    on_ok c.set.result (λ inner. put m n db c.args.coll.now w c.args.place sets (λ q. inner q ∙ ap (λ o. update bytes_eq (λ _. o) c.args.coll.now (Some c.args.place) q) (sym (known m db old at q)))) c.set.ensures.ok

pub returns-in-Some-clause-err : goal.returns-in-Some-clause-err
returns-in-Some-clause-err c =
    let m = c.args.self.now.databases in
    let db = c.args.db.now in
    let w = c.set.new.names in
    let n = c.get_mut.follows.lender w in
    let old = c.in-Some.names.now in
    let at : get_by_text m db ≡ Some old = sym c.in-Some.ensures.value in
    let sets : Sets m n db w = btree_map_updates_text db m n _ ((c.get_mut.follows.holds w).3 (search rules)) in
    on_err c.set.result (λ inner. put_none m n db w sets (λ q. inner q ∙ sym (known m db old at q))) c.set.ensures.err

pub returns-in_ok-insert-in-None-clause-ok : goal.returns-in_ok-insert-in-None-clause-ok
returns-in_ok-insert-in-None-clause-ok c =
    let m = c.args.self.now.databases in
    let db = c.args.db.now in
    let w = c.set-in-None.new.names in
    let n = c.insert.new.self in
    let key = IfOk-at_ok (λ s. string_bytes s ≡ db) c.in_ok-key-in-None.was c.from_str.ensures.ok in
    let at : get_by_text m db ≡ None = sym c.in-None.ensures.value in
    let sets : Sets m n db w = λ d. rw (key, c.get_mut.follows.holds-at-none) at (btree_map_updates_text (string_bytes c.in_ok-key-in-None.key) c.get_mut.follows.lender-at-none n _ c.in_ok-insert-in-None.ensures.updates d) in
    put m n db c.args.coll.now w c.args.place sets (λ q. c.in_ok-set-in-None.ensures.ok q ∙ ap (λ o. update bytes_eq (λ _. o) c.args.coll.now (Some c.args.place) q) (empty c.new-names.result c.new-names.ensures.empty q ∙ sym (unknown m db at q)))
