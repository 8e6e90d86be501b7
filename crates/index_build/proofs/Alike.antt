-- States that are equal up to the order of fields have the same numbers, and a fault in both or in neither.
use Rattle.std.proofs.Common.{◌≡◌, ◌+◌, List, [], ◌∷◌, ◌++◌, length, map as each, Bool, true, false, refl, sym, ap, ◌∙◌, Option, Some, None}
use Rattle.std.specs.Prelude.{⊤, option_map, is_some, if◌then◌else◌}
use Rattle.std.specs.FinMap as map
use Rattle.bson_value.specs.declared.namespace.NsName.{NsName}
use Rattle.bson_value.specs.declared.value.Value.{Value, Value-F, Object, out-Value, roll-Value, roll-out-Value}
use Rattle.bson_value.specs.declared.value.Value.TheVariants.{outs-Object}
use Rattle.bson_value.specs.Alike.{ordered, AreAlike}
use Rattle.bson_value.specs.NamespaceOrder.{namespace_cmp}
use Rattle.bson_value.specs.Place.{Shape, a_leaf, an_array, an_object, a_code, shape_in, shape}
use Rattle.bson_value.proofs.Alike.{shape-ordered}
use Rattle.json_tree.specs.declared.tree.Tree.{Tree}
use Rattle.state_model.specs.Keys.{Key}
use Rattle.state_model.specs.States.{State, Collection}
use Rattle.state_model.specs.Shown.{ShownCollection, shown_document, shown_collection, shown}
use Rattle.state_model.proofs.Shown.{answers_on, some_shown}
use Rattle.index_keys.specs.declared.plan.Plan.{Plan}
use Rattle.index_keys.specs.Definition.{plan_of}
use Rattle.index_keys.specs.Keys.{Fields, parallel}
use Rattle.index_keys.specs.Texts.{key_text, key_texts, each_once}
use Rattle.index_keys.proofs.AlikeKeys.{alike_keys, alike_parallel}
use Rattle.index_build.specs.Documents.{fields, fields_at, documents}
use Rattle.index_build.specs.Faults.{meet, share_a_key, first_parallel, duplicate_if, parallel_fault, duplicate_fault, built_fault, definitions_fault, collection_fault, fault_among, fault, or_else}
use Rattle.index_build.specs.Numbers.{pair_count, numbers_of, numbers_in, counts}
use Rattle.index_build.specs.Repeats.{first_where, or_later, repeat_behind}
use Rattle.index_build.proofs.Names.{counted}

-- ---- the fields of alike values

some_fields : Value-F Value → Option Fields
some_fields (Value-F.Object fs) = Some fs
some_fields _ = None

or_empty : Option Fields → Fields
or_empty None = []
or_empty (Some fs) = fs

is_document : Shape → Bool
is_document an_object = true
is_document an_array = false
is_document (a_leaf f) = false
is_document (a_code t) = false

fields_or : (f : Value-F Value) → fields_at f ≡ or_empty (some_fields f)
unfolding some_fields or_empty
fields_or (Value-F.Object fs) = refl
fields_or _ = refl

shape_tells : (f : Value-F Value) → is_some (some_fields f) ≡ is_document (shape_in f)
unfolding some_fields is_document
shape_tells (Value-F.Object fs) = refl
shape_tells (Value-F.Array vs) = refl
shape_tells (Value-F.ScopedCode t fs) = refl
shape_tells _ = refl

object_is : (f : Value-F Value) (fs : Fields) → some_fields f ≡ Some fs → f ≡ Value-F.Object fs
unfolding some_fields
object_is (Value-F.Object gs) fs e = let is : gs ≡ fs = cc in ap (λ z. Value-F.Object z) is
object_is _ fs e = cc

value_is : (v : Value) (fs : Fields) → some_fields (out-Value v) ≡ Some fs → Object fs ≡ v
value_is v fs e = sym (roll-out-Value (Object fs)) ∙ (ap roll-Value (outs-Object fs ∙ sym (object_is (out-Value v) fs e)) ∙ roll-out-Value v)

alike_fields : (v w : Value) → ordered v ≡ ordered w → AreAlike (fields v) (fields w)
unfolding shape or_empty
alike_fields v w e = by (some_fields (out-Value v)) (some_fields (out-Value w)) refl refl same
  where
    same : is_some (some_fields (out-Value v)) ≡ is_some (some_fields (out-Value w))
    same = shape_tells (out-Value v) ∙ (ap is_document (sym (shape-ordered v) ∙ (ap shape e ∙ shape-ordered w)) ∙ sym (shape_tells (out-Value w)))

    of : (u : Value) (o : Option Fields) → some_fields (out-Value u) ≡ o → fields u ≡ or_empty o
    of u o p = fields_or (out-Value u) ∙ ap or_empty p

    by : (o p : Option Fields) → some_fields (out-Value v) ≡ o → some_fields (out-Value w) ≡ p → is_some (some_fields (out-Value v)) ≡ is_some (some_fields (out-Value w)) → AreAlike (fields v) (fields w)
    by None None x y s = ap (λ (fs : Fields). ordered (Object fs)) (of v None x ∙ sym (of w None y))
    by (Some fs) (Some gs) x y s =
        ap (λ (z : Fields). ordered (Object z)) (of v (Some fs) x) ∙ (ap ordered (value_is v fs x) ∙ (e ∙ (sym (ap ordered (value_is w gs y)) ∙ sym (ap (λ (z : Fields). ordered (Object z)) (of w (Some gs) y)))))
    by None (Some gs) x y s = let c : false ≡ true = sym (ap is_some x) ∙ (s ∙ ap is_some y) in absurd cc
    by (Some fs) None x y s = let c : true ≡ false = sym (ap is_some x) ∙ (s ∙ ap is_some y) in absurd cc

-- ---- alike documents

abbrev AllAlike : List Fields → List Fields → Type 0
AllAlike [] [] = ⊤
AllAlike [] (e ∷ es) = ⊥
AllAlike (d ∷ ds) [] = ⊥
AllAlike (d ∷ ds) (e ∷ es) = AreAlike d e × AllAlike ds es

same_texts : (plan : Plan) (d e : Fields) → AreAlike d e → key_texts plan d ≡ key_texts plan e
same_texts plan d e h = ap (λ ks. each_once (each key_text ks)) (alike_keys plan d e h)

same_count : (plan : Plan) (ds es : List Fields) → AllAlike ds es → pair_count plan ds ≡ pair_count plan es
same_count plan [] [] h = refl
same_count plan [] (e ∷ es) h = absurd h
same_count plan (d ∷ ds) [] h = absurd h
same_count plan (d ∷ ds) (e ∷ es) h = λ i. length (same_texts plan d e h.0 i) + same_count plan ds es h.1 i

some_first : {A : Type 0} (a b : Bool) (x y : A) (o u : Option A) → a ≡ b → is_some o ≡ is_some u → is_some (if a then Some x else o) ≡ is_some (if b then Some y else u)
some_first true true x y o u e f = refl
some_first false false x y o u e f = f
some_first true false x y o u e f = cc
some_first false true x y o u e f = cc

same_parallel : (plan : Plan) (ds es : List Fields) → AllAlike ds es → is_some (first_parallel plan ds) ≡ is_some (first_parallel plan es)
same_parallel plan [] [] h = refl
same_parallel plan [] (e ∷ es) h = absurd h
same_parallel plan (d ∷ ds) [] h = absurd h
same_parallel plan (d ∷ ds) (e ∷ es) h = some_first (is_some (parallel plan d)) (is_some (parallel plan e)) d e (first_parallel plan ds) (first_parallel plan es) (ap is_some (alike_parallel plan d e h.0)) (same_parallel plan ds es h.1)

same_sharer : (plan : Plan) (x y : Fields) (ds es : List Fields) → AreAlike x y → AllAlike ds es → is_some (first_where (share_a_key plan x) ds) ≡ is_some (first_where (share_a_key plan y) es)
same_sharer plan x y [] [] a h = refl
same_sharer plan x y [] (e ∷ es) a h = absurd h
same_sharer plan x y (d ∷ ds) [] a h = absurd h
same_sharer plan x y (d ∷ ds) (e ∷ es) a h =
    some_first (share_a_key plan x d) (share_a_key plan y e) d e (first_where (share_a_key plan x) ds) (first_where (share_a_key plan y) es) (λ i. meet (same_texts plan x y a i) (same_texts plan d e h.0 i)) (same_sharer plan x y ds es a h.1)

alike_more : (ds es : List Fields) (x y : Fields) → AllAlike ds es → AreAlike x y → AllAlike (ds ++ x ∷ []) (es ++ y ∷ [])
alike_more [] [] x y h a = (a, tt)
alike_more [] (e ∷ es) x y h a = absurd h
alike_more (d ∷ ds) [] x y h a = absurd h
alike_more (d ∷ ds) (e ∷ es) x y h a = (h.0, alike_more ds es x y h.1 a)

some_later : (o u : Option Fields) (x y : Fields) (p q : Option (Fields × Fields)) → is_some o ≡ is_some u → is_some p ≡ is_some q → is_some (or_later x o p) ≡ is_some (or_later y u q)
some_later (Some a) (Some b) x y p q e f = refl
some_later None None x y p q e f = f
some_later (Some a) None x y p q e f = cc
some_later None (Some b) x y p q e f = cc

same_behind : (plan : Plan) (xs ys ds es : List Fields) → AllAlike xs ys → AllAlike ds es → is_some (repeat_behind (share_a_key plan) xs ds) ≡ is_some (repeat_behind (share_a_key plan) ys es)
same_behind plan xs ys [] [] a h = refl
same_behind plan xs ys [] (e ∷ es) a h = absurd h
same_behind plan xs ys (d ∷ ds) [] a h = absurd h
same_behind plan xs ys (d ∷ ds) (e ∷ es) a h =
    some_later (first_where (share_a_key plan d) xs) (first_where (share_a_key plan e) ys) d e (repeat_behind (share_a_key plan) (xs ++ d ∷ []) ds) (repeat_behind (share_a_key plan) (ys ++ e ∷ []) es)
    (same_sharer plan d e xs ys h.0 a) (same_behind plan (xs ++ d ∷ []) (ys ++ e ∷ []) ds es (alike_more xs ys d e a h.0) h.1)

same_duplicate : (b : Bool) (plan : Plan) (ds es : List Fields) → AllAlike ds es → is_some (duplicate_if b plan ds) ≡ is_some (duplicate_if b plan es)
same_duplicate true plan ds es h = same_behind plan [] [] ds es tt h
same_duplicate false plan ds es h = refl

pub some_mapped : {A B : Type 0} (f : A → B) (o : Option A) → is_some (option_map f o) ≡ is_some o
some_mapped f None = refl
some_mapped f (Some x) = refl

some_else : {A : Type 0} (o p u v : Option A) → is_some o ≡ is_some u → is_some p ≡ is_some v → is_some (or_else o p) ≡ is_some (or_else u v)
some_else (Some x) p (Some y) v e f = refl
some_else None p None v e f = f
some_else (Some x) p None v e f = cc
some_else None p (Some y) v e f = cc

both_mapped : {A B : Type 0} (f g : A → B) (o u : Option A) → is_some o ≡ is_some u → is_some (option_map f o) ≡ is_some (option_map g u)
both_mapped f g o u e = some_mapped f o ∙ (e ∙ sym (some_mapped g u))

same_built : (n : NsName) (i : Key) (o : Option Plan) (ds es : List Fields) → AllAlike ds es → is_some (built_fault n i o ds) ≡ is_some (built_fault n i o es)
same_built n i None ds es h = refl
same_built n i (Some plan) ds es h =
    some_else (option_map (parallel_fault n i) (first_parallel plan ds)) (option_map (duplicate_fault n i) (duplicate_if plan.unique plan ds)) (option_map (parallel_fault n i) (first_parallel plan es)) (option_map (duplicate_fault n i) (duplicate_if plan.unique plan es))
    (both_mapped (parallel_fault n i) (parallel_fault n i) (first_parallel plan ds) (first_parallel plan es) (same_parallel plan ds es h))
    (both_mapped (duplicate_fault n i) (duplicate_fault n i) (duplicate_if plan.unique plan ds) (duplicate_if plan.unique plan es) (same_duplicate plan.unique plan ds es h))

same_definitions : (n : NsName) (defs : List (Key × Tree)) (ds es : List Fields) → AllAlike ds es → is_some (definitions_fault n defs ds) ≡ is_some (definitions_fault n defs es)
same_definitions n [] ds es h = refl
same_definitions n (x ∷ defs) ds es h =
    some_else (built_fault n x.0 (plan_of x.1) ds) (definitions_fault n defs ds) (built_fault n x.0 (plan_of x.1) es) (definitions_fault n defs es) (same_built n x.0 (plan_of x.1) ds es h) (same_definitions n defs ds es h)

same_numbers : (defs : List (Key × Tree)) (ds es : List Fields) → AllAlike ds es → numbers_of defs ds ≡ numbers_of defs es
same_numbers [] ds es h = refl
same_numbers (x ∷ defs) ds es h = λ i. (x.0, by (plan_of x.1) i) ∷ same_numbers defs ds es h i
  where
    by : (o : Option Plan) → option_map (λ plan. pair_count plan ds) o ≡ option_map (λ plan. pair_count plan es) o
    by None = refl
    by (Some plan) = ap Some (same_count plan ds es h)

-- ---- collections that are shown alike

abbrev values_of : List (Key × Value) → List Value
values_of es = each (λ (e : Key × Value). e.1) es

docs_alike : (es fs : List (Key × Value)) → each shown_document es ≡ each shown_document fs → AllAlike (each fields (values_of es)) (each fields (values_of fs))
docs_alike [] [] e = tt
docs_alike [] (f ∷ fs) e = cc
docs_alike (x ∷ es) [] e = cc
docs_alike (x ∷ es) (f ∷ fs) e =
    let head : shown_document x ≡ shown_document f = cc in
    let tail : each shown_document es ≡ each shown_document fs = cc in
    (alike_fields x.1 f.1 (ap (λ (z : Key × Value). z.1) head), docs_alike es fs tail)

same_shown : (c k : Collection) → shown_collection c ≡ shown_collection k → (map.entries c.indexes ≡ map.entries k.indexes) × AllAlike (documents c) (documents k)
same_shown c k e = (ap (λ (s : ShownCollection). s.indexes) e, docs_alike (map.entries c.documents) (map.entries k.documents) (ap (λ (s : ShownCollection). s.documents) e))

numbers_shown : (o u : Option Collection) → option_map shown_collection o ≡ option_map shown_collection u → numbers_in o ≡ numbers_in u
numbers_shown None None e = refl
numbers_shown None (Some k) e = cc
numbers_shown (Some c) None e = cc
numbers_shown (Some c) (Some k) e =
    let s = same_shown c k (some_shown (shown_collection c) (shown_collection k) e) in
    ap (λ defs. numbers_of defs (documents c)) s.0 ∙ same_numbers (map.entries k.indexes) (documents c) (documents k) s.1

fault_shown : (n : NsName) (o u : Option Collection) → option_map shown_collection o ≡ option_map shown_collection u → is_some (collection_fault n o) ≡ is_some (collection_fault n u)
fault_shown n None None e = refl
fault_shown n None (Some k) e = cc
fault_shown n (Some c) None e = cc
fault_shown n (Some c) (Some k) e =
    let s = same_shown c k (some_shown (shown_collection c) (shown_collection k) e) in
    ap (λ defs. is_some (definitions_fault n defs (documents c))) s.0 ∙ same_definitions n (map.entries k.indexes) (documents c) (documents k) s.1

-- ---- states

pub names_shown : (es : List (NsName × Collection)) → each (λ (e : NsName × ShownCollection). e.0) (each (λ (e : NsName × Collection). (e.0, shown_collection e.1)) es) ≡ each (λ (e : NsName × Collection). e.0) es
names_shown [] = refl
names_shown (e ∷ es) = ap (λ (ns : List NsName). e.0 ∷ ns) (names_shown es)

pub same_names : (a b : State) → shown a ≡ shown b → map.keys a ≡ map.keys b
same_names a b e = sym (names_shown (map.entries a)) ∙ (ap (each (λ (e : NsName × ShownCollection). e.0)) e ∙ names_shown (map.entries b))

at_name : (a b : State) → shown a ≡ shown b → (n : NsName) → option_map shown_collection (map.get a n) ≡ option_map shown_collection (map.get b n)
at_name a b e n = answers_on namespace_cmp shown_collection a b e n

counts_among : (a b : State) → shown a ≡ shown b → (ns : List NsName) → each (counted a) ns ≡ each (counted b) ns
counts_among a b e [] = refl
counts_among a b e (n ∷ ns) = λ i. (n, numbers_shown (map.get a n) (map.get b n) (at_name a b e n) i) ∷ counts_among a b e ns i

pub counts_shown : (a b : State) → shown a ≡ shown b → counts a ≡ counts b
counts_shown a b e = counts_among a b e (map.keys a) ∙ ap (each (counted b)) (same_names a b e)

faults_among : (a b : State) → shown a ≡ shown b → (ns : List NsName) → is_some (fault_among a ns) ≡ is_some (fault_among b ns)
faults_among a b e [] = refl
faults_among a b e (n ∷ ns) =
    some_else (collection_fault n (map.get a n)) (fault_among a ns) (collection_fault n (map.get b n)) (fault_among b ns) (fault_shown n (map.get a n) (map.get b n) (at_name a b e n)) (faults_among a b e ns)

pub faults_shown : (a b : State) → shown a ≡ shown b → is_some (fault a) ≡ is_some (fault b)
faults_shown a b e = faults_among a b e (map.keys a) ∙ ap (λ ns. is_some (fault_among b ns)) (same_names a b e)
