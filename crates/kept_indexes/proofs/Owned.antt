-- What an index over the rows of a collection has, and what becomes of it as a row is put or dropped.
use Rattle.std.proofs.Common.{◌≡◌, ℕ, List, [], ◌∷◌, ◌++◌, true, false, cond, refl, sym, ap, ◌∙◌, Option, Some, None, inl, inr}
use Rattle.std.specs.Prelude.{◌⊎◌, option_map, fold}
use Rattle.std.specs.FinMap as map
use Rattle.std.proofs.lemmas.Bool.{cases_Bool}
use Rattle.std.proofs.lemmas.List.Sums.{fold-append}
use Rattle.state_model.specs.Keys.{Key, same_key}
use Rattle.state_model.proofs.Keys.{key_is}
use Rattle.state_model.proofs.Maps.{key_map_same, key_at_insert, key_at_remove}
use Rattle.coll_state.specs.Rows.{Row, row_of, Rising}
use Rattle.coll_state.specs.Changes.{put_row, drop_row}
use Rattle.coll_state.proofs.RowLists.{row_put_doc, row_put_else, row_drop_else, row_drop_here}
use Rattle.index_keys.specs.declared.plan.Plan.{Plan}
use Rattle.index_keys.specs.Keys.{Fields, Docs}
use Rattle.index_keys.specs.Texts.{key_texts}
use Rattle.index_build.specs.Owned.{Owned, put_document, build}
use Rattle.index_build.specs.Owners.{Texts}
use Rattle.command_refusals.specs.Keyed.{AllKeyed, documents}
use Rattle.kept_indexes.specs.Kept.{paired, keyed}

-- ---- what a build has under a key

-- the keys of a row
abbrev pub row_texts : Plan → Option Row → Option Texts
row_texts p o = option_map (λ (r : Row). key_texts p r.document) o

abbrev or_what : Option Texts → Option Texts → Option Texts
or_what None o = o
or_what (Some ts) o = Some ts

or_none : (o : Option Texts) → or_what o None ≡ o
or_none None = refl
or_none (Some ts) = refl

-- a row of the list, or else what there was
built_on : (p : Plan) (rs : List Row) (low : ℕ) (m : Owned) (j : Key) → Rising low rs → map.get (fold (put_document p) m (paired rs)) j ≡ or_what (row_texts p (row_of rs j)) (map.get m j)
built_on p [] low m j up = refl
built_on p (r ∷ rs) low m j up =
    built_on p rs r.no (put_document p m (r.key, r.document)) j up.2
    ∙ (ap (or_what (row_texts p (row_of rs j))) (key_at_insert m r.key (key_texts p r.document) j) ∙ by (cases_Bool (same_key j r.key)))
  where
    gone : same_key j r.key ≡ true → row_of rs j ≡ None
    gone s = ap (row_of rs) (key_is j r.key s) ∙ up.1

    by : (same_key j r.key ≡ true) ⊎ (same_key j r.key ≡ false) →
        or_what (row_texts p (row_of rs j)) (cond (same_key j r.key) (Some (key_texts p r.document)) (map.get m j)) ≡ or_what (row_texts p (cond (same_key j r.key) (Some r) (row_of rs j))) (map.get m j)
    by (inl s) = rw s (ap (λ (o : Option Row). or_what (row_texts p o) (Some (key_texts p r.document))) (gone s))
    by (inr s) = rw s refl

pub built_get : (p : Plan) (rs : List Row) (low : ℕ) (j : Key) → Rising low rs → map.get (build p (paired rs)) j ≡ option_map (λ (r : Row). key_texts p r.document) (row_of rs j)
built_get p rs low j up = built_on p rs low map.empty j up ∙ (ap (or_what (row_texts p (row_of rs j))) (map.get-empty _ j) ∙ or_none (row_texts p (row_of rs j)))

-- ---- a row that is put or dropped

texts_put : (p : Plan) (d : Fields) (o : Option Row) → option_map (λ (r : Row). r.document) o ≡ Some d → row_texts p o ≡ Some (key_texts p d)
texts_put p d None e = cc
texts_put p d (Some r) e = (let f : r.document ≡ d = cc in ap (λ (z : Fields). Some (key_texts p z)) f)

pub built_put : (p : Plan) (rs : List Row) (low low' next : ℕ) (k : Key) (d : Fields) → Rising low rs → Rising low' (put_row next k d rs) → build p (paired (put_row next k d rs)) ≡ put_document p (build p (paired rs)) (k, d)
built_put p rs low low' next k d up after =
    key_map_same _ _ (λ j. built_get p (put_row next k d rs) low' j after ∙ (by j (cases_Bool (same_key j k)) ∙ (ap (cond (same_key j k) (Some (key_texts p d))) (sym (built_get p rs low j up)) ∙ sym (key_at_insert (build p (paired rs)) k (key_texts p d) j))))
  where
    here : row_texts p (row_of (put_row next k d rs) k) ≡ Some (key_texts p d)
    here = texts_put p d (row_of (put_row next k d rs) k) (row_put_doc rs next k d)

    by : (j : Key) → (same_key j k ≡ true) ⊎ (same_key j k ≡ false) → row_texts p (row_of (put_row next k d rs) j) ≡ cond (same_key j k) (Some (key_texts p d)) (row_texts p (row_of rs j))
    by j (inl s) = rw s (ap (λ (z : Key). row_texts p (row_of (put_row next k d rs) z)) (key_is j k s) ∙ here)
    by j (inr s) = rw s (ap (row_texts p) (row_put_else rs next k j d s))

pub built_drop : (p : Plan) (rs : List Row) (low low' : ℕ) (k : Key) → Rising low rs → Rising low' (drop_row k rs) → build p (paired (drop_row k rs)) ≡ map.remove (build p (paired rs)) k
built_drop p rs low low' k up after =
    key_map_same _ _ (λ j. built_get p (drop_row k rs) low' j after ∙ (by j (cases_Bool (same_key j k)) ∙ (ap (cond (same_key j k) None) (sym (built_get p rs low j up)) ∙ sym (key_at_remove (build p (paired rs)) k j))))
  where
    by : (j : Key) → (same_key j k ≡ true) ⊎ (same_key j k ≡ false) → row_texts p (row_of (drop_row k rs) j) ≡ cond (same_key j k) None (row_texts p (row_of rs j))
    by j (inl s) = rw s (ap (λ (z : Key). row_texts p (row_of (drop_row k rs) z)) (key_is j k s) ∙ ap (row_texts p) (row_drop_here low rs k up))
    by j (inr s) = rw s (ap (row_texts p) (row_drop_else rs k j s))

-- ---- documents one after the other

pub built_more : (p : Plan) (ds : Docs) (e : Key × Fields) → build p (ds ++ e ∷ []) ≡ put_document p (build p ds) e
built_more p ds e = fold-append (put_document p) map.empty ds (e ∷ [])

pub keyed_paired : (rs : List Row) → AllKeyed rs → paired rs ≡ keyed (documents rs)
keyed_paired [] h = refl
keyed_paired (r ∷ rs) h = λ i. (h.0 i, r.document) ∷ keyed_paired rs h.1 i
