-- What the kept indexes of a collection say is what its indexes refuse.
use Rattle.std.proofs.Common.{◌≡◌, List, [], true, refl, sym, ap, ◌∙◌, Option, Some, None, Result, Ok, Err, inl, inr}
use Rattle.std.specs.Prelude.{IfOk, is_some}
use Rattle.std.specs.FinMap as map
use Rattle.bson_value.specs.declared.namespace.NsName.{NsName}
use Rattle.json_tree.specs.declared.tree.Tree.{Tree}
use Rattle.state_model.specs.Keys.{Key}
use Rattle.coll_state.specs.Rows.{Row, Table, Rows}
use Rattle.coll_state.specs.Changes.{put_row}
use Rattle.index_keys.specs.Keys.{Fields}
use Rattle.index_build.specs.Owned.{Holding}
use Rattle.history_model.specs.Refusals.{rows_in, definitions_in}
use Rattle.command_refusals.specs.Tests.{refusal_by, rows_refusal}
use Rattle.kept_indexes.specs.Kept.{KeptCollections, kept_at, AreKept, HasIndexes}
use Rattle.kept_indexes.specs.Verdicts.{some_shared, some_parallel}
use Rattle.kept_indexes.proofs.Clashing.{all_shared, all_parallel}

pub if_ok : {A E : Type 0} (r : Result A E) {P Q : A → Type 0} → IfOk r P → ((a : A) → P a → Q a) → IfOk r Q
if_ok (Ok a) h f = f a h
if_ok (Err e) h f = h

abbrev put_rows : Key → Fields → Option Table → Option (List Row)
put_rows k d o = Some (put_row 0 k d (rows_in o))

pub told_rows : (cs : KeptCollections) (r : Rows) (n : NsName) (hs : List Holding) (k : Key) (d : Fields) → AreKept cs r → kept_at cs n ≡ Some hs →
    refusal_by (some_shared hs k d) (some_parallel hs k d) ≡ rows_refusal (put_rows k d (map.get r.tables n)) (definitions_in (map.get r.tables n))
told_rows cs r n hs k d kept at =
    let w = kept n hs at in
    let t = w.0 in
    (λ i. refusal_by (all_shared t hs k d w.2 i) (all_parallel t hs k d w.2 i)) ∙ ap (λ (o : Option Table). rows_refusal (put_rows k d o) (definitions_in o)) (sym w.1)

-- nothing is kept of a collection that has no definitions
pub nothing_told : (cs : KeptCollections) (r : Rows) (n : NsName) (rs : List Row) → HasIndexes cs n r → kept_at cs n ≡ None → None ≡ rows_refusal (Some rs) (definitions_in (map.get r.tables n))
nothing_told cs r n rs (inl e) at = sym (ap (λ (ds : List (Key × Tree)). rows_refusal (Some rs) ds) e)
nothing_told cs r n rs (inr e) at = absurd (none (kept_at cs n) at e)
  where
    none : (o : Option (List Holding)) → o ≡ None → is_some o ≡ true → ⊥
    none None f g = cc
    none (Some hs) f g = cc
