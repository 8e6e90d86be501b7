-- Walks over the collections of a state, their definitions and documents.
use Rattle.std.proofs.Common.{◌≡◌, List, [], ◌∷◌, ◌++◌, map as each, refl, sym, ap, ◌∙◌, subst, append_assoc, Option, Some, None}
use Rattle.std.specs.Prelude.{◌&&◌, option_map, T}
use Rattle.std.specs.Ordering.{is_lt}
use Rattle.std.specs.FinMap as map
use Rattle.std.specs.FinMap.Entries.{below_all}
use Rattle.bson_value.specs.declared.namespace.NsName.{NsName}
use Rattle.bson_value.specs.declared.value.Value.{Object}
use Rattle.bson_value.specs.declared.value.Value.TheVariants.{outs-Object}
use Rattle.bson_value.specs.NamespaceOrder.{namespace_cmp}
use Rattle.bson_view.specs.declared.held.Held.{Held}
use Rattle.bson_view.specs.Held.{held_document}
use Rattle.json_tree.specs.declared.tree.Tree.{Tree}
use Rattle.state_model.specs.Keys.{Key, key_cmp}
use Rattle.state_model.specs.States.{Collection}
use Rattle.state_model.proofs.Keys.{ns_total}
use Rattle.state_model.proofs.Maps.{ns_map_same}
use Rattle.coll_state.specs.Definitions.{definition_name}
use Rattle.coll_state.specs.Documents.{documents_by_key}
use Rattle.coll_state.specs.Rows.{Table, Rows, collection_of, collections_of, state_of}
use Rattle.coll_state.specs.Stock.{named}
use Rattle.coll_state.proofs.Links.{get_collection}
use Rattle.index_keys.specs.Keys.{Fields}
use Rattle.index_build.specs.Counting.{held, held_values}
use Rattle.index_build.specs.Documents.{fields, fields_at, documents}
use Rattle.index_build.specs.Faults.{definitions_fault, collection_fault}
use Rattle.index_build.specs.Numbers.{numbers_of, numbers_in}

-- ---- documents

pub fields_object : (d : Fields) → fields (Object d) ≡ d
fields_object d = ap fields_at (outs-Object d)

fields_held : (hs : List Held) → each fields (held_values hs) ≡ held hs
fields_held [] = refl
fields_held (h ∷ hs) = λ i. fields_object (held_document h) i ∷ fields_held hs i

-- ---- definitions

tail_of : List Key → List Key
tail_of [] = []
tail_of (k ∷ ks) = ks

head_of : List Key → Key
head_of [] = []
head_of (k ∷ ks) = k

named_entries : (es : List (Key × Tree)) → each definition_name (each (λ (e : Key × Tree). e.1) es) ≡ each (λ (e : Key × Tree). e.0) es → named (each (λ (e : Key × Tree). e.1) es) ≡ es
unfolding tail_of head_of
named_entries [] e = refl
named_entries (x ∷ es) e = λ i. (ap head_of e i, x.1) ∷ named_entries es (ap tail_of e) i

some_list : {A : Type 0} (x y : List A) → Some x ≡ Some y → x ≡ y
some_list x y e = cc

named_are : (c : map.FinMap key_cmp Tree) (defs : List Tree) → defs ≡ map.values c → each definition_name defs ≡ map.keys c → named defs ≡ map.entries c
named_are c defs e f = ap named e ∙ named_entries (map.entries c) (ap (each definition_name) (sym e) ∙ f)

-- what stands under a name
pub record IsCollection (o : Option Collection) (n : NsName) (defs : List Tree) (hs : List Held) : Type 0 where
  pub numbers : numbers_of (named defs) (held hs) ≡ numbers_in o
  pub fault : definitions_fault n (named defs) (held hs) ≡ collection_fault n o

pub collection_there : (s : Rows) (n : NsName) (defs : List Tree) (hs : List Held) (o : Option Table) → map.get s.tables n ≡ o → Some defs ≡ option_map (λ (t : Table). map.values t.indexes) o → Some (each definition_name defs) ≡ option_map (λ (t : Table). map.keys t.indexes) o →
    held_values hs ≡ documents_by_key o → IsCollection (map.get (state_of s) n) n defs hs
collection_there s n defs hs None g e f d = absurd (nothing e)
  where
    nothing : Some defs ≡ None → ⊥
    nothing e = cc
collection_there s n defs hs (Some t) g e f d =
    let entries : named defs ≡ map.entries t.indexes = named_are t.indexes defs (some_list _ _ e) (some_list _ _ f) in
    let docs : held hs ≡ documents (collection_of t) = sym (fields_held hs) ∙ ap (each fields) d in
    let there : map.get (state_of s) n ≡ Some (collection_of t) = get_collection s n ∙ ap (option_map collection_of) g in
    subst (λ (o : Option Collection). IsCollection o n defs hs) (sym there) (record {
      numbers = λ i. numbers_of (entries i) (docs i);
      fault = λ i. definitions_fault n (entries i) (docs i);
    })

pub collection_absent : (s : Rows) (n : NsName) → None ≡ option_map (λ (t : Table). map.values t.indexes) (map.get s.tables n) → map.get (state_of s) n ≡ None
collection_absent s n e = get_collection s n ∙ by (map.get s.tables n) e
  where
    by : (o : Option Table) → None ≡ option_map (λ (t : Table). map.values t.indexes) o → option_map collection_of o ≡ None
    by None f = refl
    by (Some t) f = cc

-- ---- the names of a state

below_collections : (n : NsName) (es : List (NsName × Table)) → below_all namespace_cmp n (collections_of es) ≡ below_all namespace_cmp n es
below_collections n [] = refl
below_collections n (e ∷ es) = ap (λ b. is_lt (namespace_cmp n e.0) && b) (below_collections n es)

sorted_collections : (es : List (NsName × Table)) → map.is_sorted namespace_cmp (collections_of es) ≡ map.is_sorted namespace_cmp es
sorted_collections [] = refl
sorted_collections (e ∷ es) = λ i. below_collections e.0 es i && sorted_collections es i

names_kept : (es : List (NsName × Table)) → each (λ (e : NsName × Collection). e.0) (collections_of es) ≡ each (λ (e : NsName × Table). e.0) es
names_kept [] = refl
names_kept (e ∷ es) = ap (λ (l : List NsName). e.0 ∷ l) (names_kept es)

pub names_of_state : (s : Rows) → map.keys (state_of s) ≡ map.keys s.tables
names_of_state s =
    let es = collections_of (map.entries s.tables) in
    let sorted : T (map.is_sorted namespace_cmp es) = subst T (sym (sorted_collections (map.entries s.tables))) (map.entries_sorted s.tables) in
    let is : map.from_sorted {R = namespace_cmp} es ≡ state_of s = ns_map_same _ _ (λ n. map.get-from_sorted namespace_cmp es n sorted ∙ sym (map.get-from_entries ns_total es n)) in
    ap (each (λ (e : NsName × Collection). e.0)) (sym (ap map.entries is) ∙ map.entries-from_sorted namespace_cmp es sorted) ∙ names_kept (map.entries s.tables)

-- ---- a walk that appends what it makes of each

pub one_made : {A B : Type 0} (g : A → B) (done : List B) (x : A) (left : List A) (all : List B) → done ++ each g (x ∷ left) ≡ all → (done ++ g x ∷ []) ++ each g left ≡ all
one_made g done x left all e = append_assoc done (g x ∷ []) (each g left) ∙ e

pub all_made : {B : Type 0} (done : List B) → done ++ [] ≡ done
all_made [] = refl
all_made (x ∷ done) = ap (λ l. x ∷ l) (all_made done)

no_entries : (es : List (Key × Tree)) → [] ≡ each (λ (e : Key × Tree). e.1) es → es ≡ []
no_entries [] e = refl
no_entries (x ∷ es) e = cc

-- a collection without definitions
pub collection_bare : (s : Rows) (n : NsName) (defs : List Tree) (o : Option Table) → defs ≡ [] → map.get s.tables n ≡ o → Some defs ≡ option_map (λ (t : Table). map.values t.indexes) o →
    (numbers_in (map.get (state_of s) n) ≡ []) × (collection_fault n (map.get (state_of s) n) ≡ None)
collection_bare s n defs None b g e = absurd (nothing e)
  where
    nothing : Some defs ≡ None → ⊥
    nothing e = cc
collection_bare s n defs (Some t) b g e =
    let there : map.get (state_of s) n ≡ Some (collection_of t) = get_collection s n ∙ ap (option_map collection_of) g in
    let none : map.entries t.indexes ≡ [] = no_entries (map.entries t.indexes) (sym b ∙ some_list defs (map.values t.indexes) e) in (
      ap numbers_in there ∙ ap (λ (es : List (Key × Tree)). numbers_of es (documents (collection_of t))) none,
      ap (collection_fault n) there ∙ ap (λ (es : List (Key × Tree)). definitions_fault n es (documents (collection_of t))) none,
    )
