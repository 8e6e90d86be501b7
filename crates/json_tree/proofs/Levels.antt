-- The levels of a value, by its one level.
use Rattle.std.proofs.Common.{◌≡◌, ℕ, max, List, [], ◌∷◌, map, refl, sym, ap, ◌∙◌}
use Rattle.json_tree.specs.declared.tree.Tree.{Tree, Tree-F, out-Tree, roll-Tree, roll-out-Tree, map-Tree, fold-roll-Tree}
use Rattle.json_tree.specs.Levels.{largest, levels_step, levels_of, field_levels}

abbrev pub levels_at : Tree-F Tree → ℕ
levels_at x = levels_step (map-Tree Tree ℕ levels_of x)

pub levels_roll : (x : Tree-F Tree) → levels_of (roll-Tree x) ≡ levels_at x
unfolding levels_of
levels_roll x = fold-roll-Tree ℕ levels_step x

pub levels_out : (t : Tree) → levels_of t ≡ levels_at (out-Tree t)
levels_out t = ap levels_of (sym (roll-out-Tree t)) ∙ levels_roll (out-Tree t)

pub fields_same : (es : List (List ℕ × Tree)) → largest (map (λ (e : List ℕ × ℕ). e.1) (map (λ (e : List ℕ × Tree). (e.0, levels_of e.1)) es)) ≡ field_levels es
fields_same [] = refl
fields_same (e ∷ es) = ap (λ (n : ℕ). max (levels_of e.1) n) (fields_same es)
