use Rattle.coll_state.specs.ChangeAll.{change_all}
use Rattle.transaction_indexes.specs.Reversal.{documents_of}
use Rattle.transaction_indexes.proofs.Indexes.{on_ok}
use Rattle.transaction_indexes.proofs.TakingBack.{changed_keys, keys_kept}
use Rattle.transaction_indexes.proofs.reversal.take_back.Goals as goal

pub returns-clause-kept : goal.returns-clause-kept
returns-clause-kept c =
    let cs = c.args.changes.now in
    let r = c.args.state.now in
    let f = documents_of (change_all cs r) in
    let out = c.in_ok-take_out.ensures.out f r (changed_keys cs c.args.indexes.now r c.requires.there c.requires.kept) in
    on_ok c.put_back.result c.put_back.ensures.back (λ back. keys_kept cs c.put_back.new.indexes r c.is_sound.ensures c.requires.hold (back f out))

pub returns-clause-stay : goal.returns-clause-stay
returns-clause-stay c =
    on_ok c.put_back.result c.put_back.ensures.stay (λ stay n e. stay n (c.in_ok-take_out.ensures.stay n e))
