-- What an index has of documents that were taken in one after the other.
use Rattle.std.proofs.Common.{◌≡◌, ℕ, ◌+◌, ◌<◌, List, [], ◌∷◌, length, take, get_or, sym, ap, ◌∙◌}
use Rattle.std.proofs.lemmas.List.{map-append}
use Rattle.state_model.specs.Keys.{Key}
use Rattle.coll_state.specs.Rows.{id_of, key_in}
use Rattle.bson_view.specs.declared.held.Held.{Held}
use Rattle.bson_view.specs.Held.{held_document}
use Rattle.index_keys.specs.declared.plan.Plan.{Plan}
use Rattle.index_keys.specs.Keys.{Fields}
use Rattle.index_build.specs.Counting.{held}
use Rattle.index_build.specs.Owned.{Owned, build, put_document}
use Rattle.index_build.proofs.Counted.{held_more}
use Rattle.kept_indexes.specs.Kept.{keyed}
use Rattle.kept_indexes.proofs.Owned.{built_more}

abbrev pub keyed_one : Fields → Key × Fields
keyed_one d = (key_in (id_of d), d)

pub held_built : (p : Plan) (hs : List Held) (i : ℕ) (h : Held) (old new : Owned) → i < length hs → h ≡ get_or hs i h → old ≡ build p (keyed (held (take i hs))) → new ≡ put_document p old (keyed_one (held_document h)) →
    new ≡ build p (keyed (held (take (i + 1) hs)))
held_built p hs i h old new l e o n =
    n ∙ (ap (λ (m : Owned). put_document p m (keyed_one (held_document h))) o ∙ sym (ap (λ (ds : List Fields). build p (keyed ds)) (held_more hs i h l e)
    ∙ (ap (build p) (map-append keyed_one (held (take i hs)) (held_document h ∷ [])) ∙ built_more p (keyed (held (take i hs))) (keyed_one (held_document h)))))
