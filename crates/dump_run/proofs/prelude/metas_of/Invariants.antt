use Rattle.std.proofs.Common.{◌≡◌, ◌++◌, List, map as each}
use Rattle.std.specs.Prelude.{All}
use Rattle.std.specs.FinMap as map
use Rattle.bson_value.specs.declared.namespace.NsName.{NsName}
use Rattle.archive_format.specs.Written.{MetaFits}
use Rattle.archive_prelude.specs.Parts.{metadata_of}
use Rattle.coll_state.specs.Walks.{names_left}
use Rattle.dump_run.proofs.Metas.{meta_of_name}
use Rattle.dump_run.proofs.prelude.metas_of.Given as goal

abbrev pub invariant-collections : goal.invariant-collections
invariant-collections l = record {
  names : (front : List NsName) × (front ++ names_left l.left ≡ map.keys l.state.tables);
  metas : each metadata_of l.metas ++ each (meta_of_name l.state.tables) (names_left l.left) ≡ each (meta_of_name l.state.tables) (map.keys l.state.tables);
  fit : All (λ m. MetaFits (metadata_of m)) l.metas;
}
