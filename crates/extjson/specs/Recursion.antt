-- Functions of trees by one level, where each part stands beside what the function gives for it.
use Rattle.json_tree.specs.declared.tree.Tree.{Tree, Tree-F, roll-Tree, map-Tree, fold-Tree}

abbrev pub beside : {A : Type 0} → (Tree-F (Tree × A) → A) → Tree → Tree × A
beside {A} step = fold-Tree (Tree × A) (λ x. (roll-Tree (map-Tree (Tree × A) Tree (λ p. p.0) x), step x))

unfoldable pub by_parts : {A : Type 0} → (Tree-F (Tree × A) → A) → Tree → A
by_parts step t = (beside step t).1
