use Rattle.std.proofs.Common.{rules, sym, subst}
use Rattle.sorted_list.specs.Chunks.{AreEmpty}
use Rattle.sorted_list.proofs.Edits.{empty_push}
use Rattle.sorted_list.proofs.spares.set_aside.Goals as goal

pub returns-clause-empty : goal.returns-clause-empty
returns-clause-empty g c =
    subst AreEmpty (sym c.in-Ok.ensures.items) (empty_push c.args.spares.now.items c.remove-chunk.result c.requires.empty (search rules))
