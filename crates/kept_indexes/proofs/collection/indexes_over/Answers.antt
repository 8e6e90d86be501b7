use Rattle.std.proofs.Common.{List, [], ◌∷◌, ◌++◌, take, ap, sym, ◌∙◌, subst}
use Rattle.std.proofs.lemmas.List.{take_more}
use Rattle.json_tree.specs.declared.tree.Tree.{Tree}
use Rattle.index_keys.specs.declared.plan.Plan.{Plan}
use Rattle.index_build.specs.Counting.{held}
use Rattle.kept_indexes.specs.Kept.{keyed, plans_of, AreOver}
use Rattle.kept_indexes.proofs.Over.{plans_more}
use Rattle.kept_indexes.proofs.collection.indexes_over.Goals as goal

pub loop-def-preserved : goal.loop-def-preserved
loop-def-preserved c =
    let defs = c.args.defs.now in
    let i = c.loop-def.def-index in
    let def = c.def-item.result in
    let more = take_more defs i def c.loop-def-test.true ∙ ap (λ (d : Tree). take i defs ++ d ∷ []) (sym c.def-item.is) in
    subst (λ (ps : List Plan). AreOver (keyed (held c.args.docs.now)) c.in_ok-indexes.indexes ps) (sym (ap plans_of more ∙ plans_more (take i defs) def))
    (c.in_ok-indexes.ensures (plans_of (take i defs)) c.loop-def.invariant)
