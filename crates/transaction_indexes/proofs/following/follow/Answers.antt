use Rattle.bson_encode.specs.Key.{key_of}
use Rattle.coll_state.specs.ChangeAll.{change_one}
use Rattle.coll_state.specs.Changes.{put, remove}
use Rattle.coll_state.specs.Rows.{id_of, key_in}
use Rattle.kept_indexes.specs.Moves.{ArePut, AreTakenOut}
use Rattle.transaction_indexes.proofs.Indexes.{on_ok}
use Rattle.transaction_indexes.proofs.Indexes.{change_put, change_removed, kept_changed, become_stays}
use Rattle.transaction_indexes.proofs.following.follow.Goals as goal

pub returns-in-Some-clause-kept : goal.returns-in-Some-clause-kept
returns-in-Some-clause-kept c = λ r a s h.
    let x = c.args.change.now in
    kept_changed c.put.new.self (change_one x r) (put x.ns c.in-Some.doc r) (change_put x c.in-Some.doc r c.in-Some.is c.requires) (λ i. c.put.ensures.kept r a s i) h

pub returns-in-Some-clause-stay : goal.returns-in-Some-clause-stay
returns-in-Some-clause-stay c =
    let d = c.in-Some.doc in
    on_ok c.put.result c.put.ensures.moved (λ m. become_stays (ArePut (key_in (id_of d)) d) c.args.indexes.now c.put.new.self c.args.change.now.ns m c.put.ensures.others)

pub returns-in-None-clause-kept : goal.returns-in-None-clause-kept
returns-in-None-clause-kept c = λ r a s h.
    let x = c.args.change.now in
    kept_changed c.remove.new.self (change_one x r) (remove x.ns (key_of x.id) r) (change_removed x r c.in-None.is) (λ i. c.remove.ensures.kept r a i) h

pub returns-in-None-clause-stay : goal.returns-in-None-clause-stay
returns-in-None-clause-stay c =
    on_ok c.remove.result c.remove.ensures.moved (λ m. become_stays (AreTakenOut (key_of c.args.change.now.id)) c.args.indexes.now c.remove.new.self c.args.change.now.ns m c.remove.ensures.others)
