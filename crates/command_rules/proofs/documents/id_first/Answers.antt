use Rattle.std.proofs.Common.{List, ℕ, sym, subst}
use Rattle.containers.specs.Entries.{IsAbsent, names_of}
use Rattle.doc_path.specs.Played.{id_name}
use Rattle.coll_state.specs.Rows.{Document}
use Rattle.command_rules.proofs.Spelled.{absent_without}
use Rattle.command_rules.proofs.documents.id_first.Goals as goal

pub moved_first-requires : goal.moved_first-requires
moved_first-requires c =
    subst (λ (n : List ℕ). IsAbsent n (names_of c.remove.new.self)) (sym c.in_ok-name.ensures)
    (subst (λ (d : Document). IsAbsent id_name (names_of d)) (sym c.in-Some.ensures.rest) (absent_without id_name c.in_ok-copy.copy))
