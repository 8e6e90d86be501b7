use Rattle.std.proofs.Common.{List, sym, ap, ◌∙◌, subst}
use Rattle.std.specs.FinMap as map
use Rattle.coll_state.specs.declared.collection.NumberedKey.{NumberedKey}
use Rattle.coll_state.specs.Rows.{collection_of}
use Rattle.coll_state.specs.Documents.{AreNumbered, values_under}
use Rattle.coll_state.specs.Stock.{Stock}
use Rattle.coll_state.proofs.ByKey.{values_by_key, are_numbered}
use Rattle.coll_state.proofs.collection.Collection.documents.Goals as goal

pub of-requires : goal.of-requires
of-requires c = subst (λ (ns : List NumberedKey). AreNumbered ns c.self.inside.records.items) (sym c.walk.ensures) (are_numbered _ _ _ _ c.self.invariant)

pub returns : goal.returns
returns c =
    c.of.ensures ∙ (ap (λ (ns : List NumberedKey). values_under ns c.self.inside.records.items) c.walk.ensures
    ∙ (values_by_key c.self.inside.options c.self.inside.indexes c.self.inside.incarnation c.self.inside.next c.self.inside.numbers.items c.self.inside.records.items c.self.invariant
    ∙ ap (λ (s : Stock). map.values (collection_of s.table).documents) c.self.view_is))
