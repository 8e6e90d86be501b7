use Rattle.std.proofs.Common.{take}
use Rattle.coll_state.specs.Stock.{rows_in}
use Rattle.coll_state.specs.Walks.{item_of, looks_left}
use Rattle.copy_cursor.proofs.Shown.{shown_first}
use Rattle.copy_cursor.proofs.cursor.add_all.Goals as goal

pub spelling-requires-clause-look : goal.spelling-requires-clause-look
spelling-requires-clause-look c =
    shown_first (rows_in (take c.documents.left.left c.documents.left.records)) (item_of c.in-Some.item) (looks_left c.next.new.self) c.in-Some.ensures.steps
