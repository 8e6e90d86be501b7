use Rattle.std.proofs.Common.{◌≡◌, ◌++◌, map as each}
use Rattle.std.specs.FinMap as map
use Rattle.coll_state.specs.Walks.{names_left}
use Rattle.dump_copies.specs.Places.{name_of, AreWritable}
use Rattle.dump_copies.proofs.First.{AreFirst}
use Rattle.dump_copies.proofs.copies.Copies.begin.Given as goal

abbrev pub invariant-collections : goal.invariant-collections
invariant-collections l = record {
  names : each name_of l.items.items ++ names_left l.left ≡ map.keys l.store.rows.tables;
  first : AreFirst l.store.rows.tables l.items.items;
  writable : AreWritable l.items.items;
}
