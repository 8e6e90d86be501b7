-- An index kept up step by step is one that is built over the documents that are in.
use Rattle.std.proofs.Common.{◌≡◌, ◌+◌, List, [], ◌∷◌, length, map as each, Bool, true, false, cond, refl, sym, ap, ◌∙◌, subst, Option, Some, None, inl, inr}
use Rattle.std.specs.Prelude.{◌⊎◌, ◌&&◌, option_map, T, fold}
use Rattle.std.specs.Ordering.{is_eq, is_lt}
use Rattle.std.specs.declared.cmp.Ordering.{Ordering}
use Rattle.std.specs.declared.cmp.Ordering.TheVariants.{Less, Equal, Greater}
use Rattle.std.specs.FinMap as map
use Rattle.std.specs.FinMap.Entries.{below_all}
use Rattle.std.proofs.lemmas.Bool.{cases_Bool}
use Rattle.state_model.specs.Keys.{Key, key_cmp, same_key}
use Rattle.state_model.proofs.Keys.{key_is}
use Rattle.state_model.proofs.Maps.{key_map_same, key_at_insert, key_at_remove}
use Rattle.index_keys.specs.declared.plan.Plan.{Plan}
use Rattle.index_keys.specs.Keys.{Fields, Docs}
use Rattle.index_keys.specs.Texts.{key_texts}
use Rattle.index_build.specs.Laws.{Stored, index_over, BuiltEmpty, BuiltWith, BuiltWithout, BuildsAreCounted}
use Rattle.index_build.specs.Numbers.{pair_count}
use Rattle.index_build.specs.Owned.{Owned, put_document, texts_count}
use Rattle.index_build.specs.Owners.{Texts}

-- ---- what a build has under a key

abbrev texts_in : Plan → Option Fields → Option Texts
texts_in plan o = option_map (key_texts plan) o

abbrev or_what : Option Texts → Option Texts → Option Texts
or_what None o = o
or_what (Some ts) o = Some ts

pub is_less : {A : Type 0} (o : Ordering) (x y : Option A) → T (is_lt o) → cond (is_eq o) x y ≡ y
is_less Less x y t = refl
is_less Equal x y t = absurd t
is_less Greater x y t = absurd t

pub first : (a b : Bool) → T (a && b) → T a
first true b t = tt
first false b t = absurd t

pub second : (a b : Bool) → T (a && b) → T b
second true b t = t
second false b t = absurd t

-- nothing stands under a key that is below all
none_below : (k : Key) (es : Docs) → T (below_all key_cmp k es) → map.find key_cmp k es ≡ None
none_below k [] t = refl
none_below k (e ∷ es) t = is_less (key_cmp k e.0) (Some e.1) (map.find key_cmp k es) (first (is_lt (key_cmp k e.0)) (below_all key_cmp k es) t) ∙ none_below k es (second (is_lt (key_cmp k e.0)) (below_all key_cmp k es) t)

-- a document of the list, or else what there was; in a list whose keys rise no two are of one key
built_on : (plan : Plan) (es : Docs) (m : Owned) (q : Key) → T (map.is_sorted key_cmp es) → map.get (fold (put_document plan) m es) q ≡ or_what (texts_in plan (map.find key_cmp q es)) (map.get m q)
built_on plan [] m q s = refl
built_on plan (e ∷ es) m q s = built_on plan es (put_document plan m e) q (second (below_all key_cmp e.0 es) (map.is_sorted key_cmp es) s)
    ∙ (ap (or_what (texts_in plan (map.find key_cmp q es))) (key_at_insert m e.0 (key_texts plan e.1) q) ∙ by (cases_Bool (same_key q e.0)))
  where
    by : (same_key q e.0 ≡ true) ⊎ (same_key q e.0 ≡ false) → or_what (texts_in plan (map.find key_cmp q es)) (cond (same_key q e.0) (Some (key_texts plan e.1)) (map.get m q)) ≡ or_what (texts_in plan (cond (same_key q e.0) (Some e.1) (map.find key_cmp q es))) (map.get m q)
    by (inl x) = rw x (ap (λ o. or_what (texts_in plan o) (Some (key_texts plan e.1))) (ap (λ z. map.find key_cmp z es) (key_is q e.0 x) ∙ none_below e.0 es (first (below_all key_cmp e.0 es) (map.is_sorted key_cmp es) s)))
    by (inr x) = rw x refl

get_over : (plan : Plan) (docs : Stored) (q : Key) → map.get (index_over plan docs) q ≡ texts_in plan (map.get docs q)
get_over plan docs q =
    built_on plan (map.entries docs) map.empty q (map.entries_sorted docs)
    ∙ (ap (or_what (texts_in plan (map.find key_cmp q (map.entries docs)))) (map.get-empty key_cmp q) ∙ (or_none (texts_in plan (map.find key_cmp q (map.entries docs))) ∙ ap (texts_in plan) (sym (map.get-entries docs q))))
  where
    or_none : (o : Option Texts) → or_what o None ≡ o
    or_none None = refl
    or_none (Some ts) = refl

texts_if : (plan : Plan) (b : Bool) (d : Fields) (o : Option Fields) → texts_in plan (cond b (Some d) o) ≡ cond b (Some (key_texts plan d)) (texts_in plan o)
texts_if plan true d o = refl
texts_if plan false d o = refl

gone_if : (plan : Plan) (b : Bool) (o : Option Fields) → texts_in plan (cond b None o) ≡ cond b None (texts_in plan o)
gone_if plan true o = refl
gone_if plan false o = refl

pub built_empty : BuiltEmpty
built_empty plan = key_map_same _ _ (λ q. get_over plan map.empty q ∙ (ap (texts_in plan) (map.get-empty key_cmp q) ∙ sym (map.get-empty key_cmp q)))

pub built_with : BuiltWith
built_with plan docs k d = key_map_same _ _ (λ q. get_over plan (map.insert docs k d) q ∙ (ap (texts_in plan) (key_at_insert docs k d q)
    ∙ (texts_if plan (same_key q k) d (map.get docs q) ∙ (ap (cond (same_key q k) (Some (key_texts plan d))) (sym (get_over plan docs q)) ∙ sym (key_at_insert (index_over plan docs) k (key_texts plan d) q)))))

pub built_without : BuiltWithout
built_without plan docs k = key_map_same _ _ (λ q. get_over plan (map.remove docs k) q ∙ (ap (texts_in plan) (key_at_remove docs k q)
    ∙ (gone_if plan (same_key q k) (map.get docs q) ∙ (ap (cond (same_key q k) None) (sym (get_over plan docs q)) ∙ sym (key_at_remove (index_over plan docs) k q)))))

-- ---- how many pairs

abbrev with_texts : Plan → Docs → List (Key × Texts)
with_texts plan es = each (λ (e : Key × Fields). (e.0, key_texts plan e.1)) es

below_texts : (plan : Plan) (k : Key) (es : Docs) → below_all key_cmp k (with_texts plan es) ≡ below_all key_cmp k es
below_texts plan k [] = refl
below_texts plan k (e ∷ es) = ap (λ b. is_lt (key_cmp k e.0) && b) (below_texts plan k es)

sorted_texts : (plan : Plan) (es : Docs) → map.is_sorted key_cmp (with_texts plan es) ≡ map.is_sorted key_cmp es
sorted_texts plan [] = refl
sorted_texts plan (e ∷ es) = λ i. below_texts plan e.0 es i && sorted_texts plan es i

find_texts : (plan : Plan) (q : Key) (es : Docs) → map.find key_cmp q (with_texts plan es) ≡ texts_in plan (map.find key_cmp q es)
find_texts plan q [] = refl
find_texts plan q (e ∷ es) = ap (cond (same_key q e.0) (Some (key_texts plan e.1))) (find_texts plan q es) ∙ sym (texts_if plan (same_key q e.0) e.1 (map.find key_cmp q es))

entries_over : (plan : Plan) (docs : Stored) → map.entries (index_over plan docs) ≡ with_texts plan (map.entries docs)
entries_over plan docs =
    let es = with_texts plan (map.entries docs) in
    let s : T (map.is_sorted key_cmp es) = subst T (sym (sorted_texts plan (map.entries docs))) (map.entries_sorted docs) in
    let is : map.from_sorted {R = key_cmp} es ≡ index_over plan docs = key_map_same _ _ (λ q. map.get-from_sorted key_cmp es q s
    ∙ (find_texts plan q (map.entries docs) ∙ (ap (texts_in plan) (sym (map.get-entries docs q)) ∙ sym (get_over plan docs q)))) in
    sym (ap map.entries is) ∙ map.entries-from_sorted key_cmp es s

count_texts : (plan : Plan) (es : Docs) → texts_count (with_texts plan es) ≡ pair_count plan (each (λ (e : Key × Fields). e.1) es)
count_texts plan [] = refl
count_texts plan (e ∷ es) = ap (λ n. length (key_texts plan e.1) + n) (count_texts plan es)

pub builds_are_counted : BuildsAreCounted
builds_are_counted plan docs = ap texts_count (entries_over plan docs) ∙ count_texts plan (map.entries docs)
