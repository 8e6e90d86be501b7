-- What one index after the other says.
use Rattle.std.proofs.Common.{◌≡◌, ℕ, ◌+◌, ◌<◌, List, length, take, get_or, sym, ap, ◌∙◌}
use Rattle.std.specs.Prelude.{◌||◌}
use Rattle.std.proofs.lemmas.List.Folds.{list_any_more}
use Rattle.state_model.specs.Keys.{Key}
use Rattle.index_keys.specs.Keys.{Fields}
use Rattle.index_build.specs.Owned.{Holding, refusal}
use Rattle.kept_indexes.specs.Verdicts.{is_shared, is_parallel, some_shared, some_parallel}

pub shared_more : (hs : List Holding) (i : ℕ) (h : Holding) (k : Key) (d : Fields) → i < length hs → h ≡ get_or hs i h → some_shared (take (i + 1) hs) k d ≡ (some_shared (take i hs) k d || is_shared (refusal h.plan k d h.owned))
shared_more hs i h k d l e =
    list_any_more (λ (x : Holding). is_shared (refusal x.plan k d x.owned)) hs i h l ∙ ap (λ (z : Holding). some_shared (take i hs) k d || is_shared (refusal z.plan k d z.owned)) (sym e)

pub parallel_more : (hs : List Holding) (i : ℕ) (h : Holding) (k : Key) (d : Fields) → i < length hs → h ≡ get_or hs i h → some_parallel (take (i + 1) hs) k d ≡ (some_parallel (take i hs) k d || is_parallel (refusal h.plan k d h.owned))
parallel_more hs i h k d l e =
    list_any_more (λ (x : Holding). is_parallel (refusal x.plan k d x.owned)) hs i h l ∙ ap (λ (z : Holding). some_parallel (take i hs) k d || is_parallel (refusal z.plan k d z.owned)) (sym e)
