-- A function of trees by one level.
use Rattle.std.proofs.Common.{◌≡◌, ℕ, List, [], ◌∷◌, refl, ap, ◌∙◌, subst}
use Rattle.std.specs.Prelude.{map}
use Rattle.json_tree.specs.declared.tree.Tree.{Tree, Tree-F, roll-Tree, map-Tree, fold-roll-Tree, ind-Tree}
use Rattle.extjson.specs.Recursion.{beside, by_parts}

module _ {A : Type 0} (step : Tree-F (Tree × A) → A) where
  abbrev Keeps : Tree → Type 0
  Keeps t = (beside step t).0 ≡ t

  abbrev Held : Type 0
  Held = (t : Tree) × Keeps t

  abbrev tree_in : Held → Tree
  tree_in h = h.0

  items_kept : (hs : List Held) → map (λ (p : Tree × A). p.0) (map (beside step) (map tree_in hs)) ≡ map tree_in hs
  items_kept [] = refl
  items_kept (h ∷ hs) = λ i. h.1 i ∷ items_kept hs i

  abbrev first_of : List ℕ × (Tree × A) → List ℕ × Tree
  first_of e = (e.0, e.1.0)

  abbrev parted : List ℕ × Tree → List ℕ × (Tree × A)
  parted e = (e.0, beside step e.1)

  abbrev on_tree : List ℕ × Held → List ℕ × Tree
  on_tree e = (e.0, e.1.0)

  fields_kept : (hs : List (List ℕ × Held)) → map first_of (map parted (map on_tree hs)) ≡ map on_tree hs
  fields_kept [] = refl
  fields_kept (h ∷ hs) = λ i. (h.0, h.1.1 i) ∷ fields_kept hs i

  level_kept : (y : Tree-F Held) → map-Tree (Tree × A) Tree (λ p. p.0) (map-Tree Tree (Tree × A) (beside step) (map-Tree Held Tree tree_in y)) ≡ map-Tree Held Tree tree_in y
  level_kept (Tree-F.Items hs) = ap (λ (ts : List Tree). Tree-F.Items ts) (items_kept hs)
  level_kept (Tree-F.Object hs) = ap (λ (es : List (List ℕ × Tree)). Tree-F.Object es) (fields_kept hs)
  level_kept Tree-F.Null = refl
  level_kept (Tree-F.Bool b) = refl
  level_kept (Tree-F.Number t) = refl
  level_kept (Tree-F.Str t) = refl

  keeps_step : (x : Tree-F Tree) (y : Tree-F Held) → map-Tree Held Tree tree_in y ≡ x → Keeps (roll-Tree x)
  keeps_step x y e =
      ap (λ (p : Tree × A). p.0) (fold-roll-Tree (Tree × A) (λ z. (roll-Tree (map-Tree (Tree × A) Tree (λ p. p.0) z), step z)) x)
      ∙ ap roll-Tree (subst (λ (z : Tree-F Tree). map-Tree (Tree × A) Tree (λ p. p.0) (map-Tree Tree (Tree × A) (beside step) z) ≡ z) e (level_kept y))

  keeps : (t : Tree) → Keeps t
  keeps t = ind-Tree Keeps keeps_step t

  beside_is : (t : Tree) → beside step t ≡ (t, by_parts step t)
  unfolding by_parts
  beside_is t = λ i. (keeps t i, (beside step t).1)

  -- one level, where each part stands beside what it gives
  pub by_parts-roll : (x : Tree-F Tree) → by_parts step (roll-Tree x) ≡ step (map-Tree Tree (Tree × A) (λ t. (t, by_parts step t)) x)
  unfolding by_parts
  by_parts-roll x =
      ap (λ (p : Tree × A). p.1) (fold-roll-Tree (Tree × A) (λ z. (roll-Tree (map-Tree (Tree × A) Tree (λ p. p.0) z), step z)) x)
      ∙ ap (λ (f : Tree → Tree × A). step (map-Tree Tree (Tree × A) f x)) (λ i t. beside_is t i)
