use Rattle.std.proofs.Common.{◌≡◌, ◌++◌, ◌∷◌, [], take, fold, length}
use Rattle.std.specs.List.{flat_map}
use Rattle.index_keys.specs.HeldBranches.{texts_behind}
use Rattle.index_keys.specs.Texts.{put_text}
use Rattle.index_keys.proofs.products.+product.Given as goal

abbrev pub decreases-product : goal.decreases-product
decreases-product l = length l.fields.now

abbrev pub invariant-loop-branch : goal.invariant-loop-branch
invariant-loop-branch l =
    (l.front.items ≡ l.fn.front.items) × (l.count ≡ length l.fn.front.items) ×
    (l.keys.keys ≡ fold put_text l.fn.keys.keys (flat_map (λ b. texts_behind (l.fn.front.items ++ b ∷ []) l.rest) (take l.branch-index l.branch-items)))
