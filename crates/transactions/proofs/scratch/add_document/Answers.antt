use Rattle.bson_encode.specs.Key.{key_of}
use Rattle.coll_state.specs.Changes.{document_at}
use Rattle.transactions.proofs.Looks.{found_look}
use Rattle.transactions.proofs.scratch.add_document.Goals as goal

pub put_copy-requires : goal.put_copy-requires
put_copy-requires c = found_look c.in-Some.held (document_at c.args.ns.now (key_of c.args.id.now) c.args.state.now.tables) c.in-Some.ensures
