-- The metadata of the collections of a state, name by name.
use Rattle.std.proofs.Common.{◌≡◌, List, [], ◌∷◌, ◌++◌, Bool, true, false, cond, Option, Some, refl, sym, ap, ◌∙◌, subst, append_assoc, append-nil, map as each}
use Rattle.std.specs.Prelude.{◌&&◌, ◌||◌, T}
use Rattle.std.specs.List.{list_any}
use Rattle.std.specs.Ordering.{is_lt, is_eq}
use Rattle.std.specs.FinMap as map
use Rattle.std.specs.FinMap.Entries.{below_all}
use Rattle.std.specs.declared.cmp.Ordering.TheVariants.{Less}
use Rattle.bson_value.specs.declared.namespace.NsName.{NsName}
use Rattle.bson_value.specs.NamespaceOrder.{namespace_cmp}
use Rattle.archive_format.specs.Shapes.{Metadata}
use Rattle.archive_prelude.specs.declared.prelude.Meta.{Meta}
use Rattle.archive_prelude.specs.Parts as parts
use Rattle.state_model.specs.Keys.{same_ns}
use Rattle.state_model.proofs.Keys.{ns_total, ns_refl, ns_turn}
use Rattle.state_model.proofs.Maps.{ns_map_same}
use Rattle.coll_state.specs.Rows.{Table, Rows, collections_of, state_of}
use Rattle.dump_model.specs.Archives.{metas_of, metadata_of}
use Rattle.dump_run.specs.Preludes.{meta_at}
use Rattle.dump_copies.proofs.First.{less_of}

abbrev pub meta_of_name : map.FinMap namespace_cmp Table → NsName → Metadata
meta_of_name ts n = meta_at n (map.get ts n)

-- ---- a walk over the names

pub next_there : (ts : map.FinMap namespace_cmp Table) (front left rest : List NsName) (n : NsName) → front ++ left ≡ map.keys ts → left ≡ n ∷ rest → map.contains_key ts n ≡ true
next_there ts front left rest n w e = map.contains_key-keys ts n ∙ (ap (list_any (same_ns n)) (sym w ∙ ap (λ (z : List NsName). front ++ z) e) ∙ among front)
  where
    or_true : (b : Bool) → (b || true) ≡ true
    or_true true = refl
    or_true false = refl

    among : (ns : List NsName) → list_any (same_ns n) (ns ++ (n ∷ rest)) ≡ true
    among [] = ap (λ (b : Bool). b || list_any (same_ns n) rest) (ns_refl n)
    among (m ∷ ns) = ap (λ (b : Bool). same_ns n m || b) (among ns) ∙ or_true (same_ns n m)

pub front_on : (front left rest all : List NsName) (n : NsName) → front ++ left ≡ all → left ≡ n ∷ rest → (front ++ (n ∷ [])) ++ rest ≡ all
front_on front left rest all n w e = append_assoc front (n ∷ []) rest ∙ (ap (λ (z : List NsName). front ++ z) (sym e) ∙ w)

pub metas_init : (ts : map.FinMap namespace_cmp Table) (ms : List Meta) (left : List NsName) → ms ≡ [] → left ≡ map.keys ts → each parts.metadata_of ms ++ each (meta_of_name ts) left ≡ each (meta_of_name ts) (map.keys ts)
metas_init ts ms left e f = ap (λ (z : List Meta). each parts.metadata_of z ++ each (meta_of_name ts) left) e ∙ ap (each (meta_of_name ts)) f

pub metas_on : (ts : map.FinMap namespace_cmp Table) (ms next : List Meta) (left rest : List NsName) (n : NsName) (m : Meta) (whole : List Metadata) → each parts.metadata_of ms ++ each (meta_of_name ts) left ≡ whole → left ≡ n ∷ rest → next ≡ ms ++ (m ∷ []) → parts.metadata_of m ≡ meta_of_name ts n →
    each parts.metadata_of next ++ each (meta_of_name ts) rest ≡ whole
metas_on ts ms next left rest n m whole w e f g =
    ap (λ (z : List Meta). each parts.metadata_of z ++ each (meta_of_name ts) rest) f
    ∙ (more ms ∙ (ap (λ (x : Metadata). each parts.metadata_of ms ++ (x ∷ each (meta_of_name ts) rest)) g ∙ (ap (λ (z : List NsName). each parts.metadata_of ms ++ each (meta_of_name ts) z) (sym e) ∙ w)))
  where
    more : (xs : List Meta) → each parts.metadata_of (xs ++ (m ∷ [])) ++ each (meta_of_name ts) rest ≡ each parts.metadata_of xs ++ (parts.metadata_of m ∷ each (meta_of_name ts) rest)
    more [] = refl
    more (x ∷ xs) = ap (λ (z : List Metadata). parts.metadata_of x ∷ z) (more xs)

-- ---- all of them

first_of : (a b : Bool) → T (a && b) → T a
first_of true b t = tt
first_of false b t = t

second_of : (a b : Bool) → T (a && b) → T b
second_of true b t = t
second_of false b t = absurd t

below_same : (n : NsName) (es : List (NsName × Table)) → below_all namespace_cmp n (collections_of es) ≡ below_all namespace_cmp n es
below_same n [] = refl
below_same n (e ∷ es) = ap (λ (b : Bool). is_lt (namespace_cmp n e.0) && b) (below_same n es)

sorted_same : (es : List (NsName × Table)) → map.is_sorted namespace_cmp (collections_of es) ≡ map.is_sorted namespace_cmp es
sorted_same [] = refl
sorted_same (e ∷ es) = λ i. below_same e.0 es i && sorted_same es i

entries_of_state : (s : Rows) → map.entries (state_of s) ≡ collections_of (map.entries s.tables)
entries_of_state s =
    let es = collections_of (map.entries s.tables) in
    let sorted : T (map.is_sorted namespace_cmp es) = subst T (sym (sorted_same (map.entries s.tables))) (map.entries_sorted s.tables) in
    let is : map.from_sorted {R = namespace_cmp} es ≡ state_of s = ns_map_same _ _ (λ n. map.get-from_sorted namespace_cmp es n sorted ∙ sym (map.get-from_entries ns_total es n)) in
    ap map.entries (sym is) ∙ map.entries-from_sorted namespace_cmp es sorted

-- what stands among sorted entries is found there
apart : (k q : NsName) → namespace_cmp k q ≡ Less → same_ns q k ≡ false
apart k q e = ns_turn k q false (ap is_eq e)

found_later : (x : NsName × Table) (es us : List (NsName × Table)) → T (below_all namespace_cmp x.0 us) → each (λ (e : NsName × Table). map.find namespace_cmp e.0 (x ∷ es)) us ≡ each (λ (e : NsName × Table). map.find namespace_cmp e.0 es) us
found_later x es [] t = refl
found_later x es (u ∷ us) t =
    let e = apart x.0 u.0 (less_of (namespace_cmp x.0 u.0) (first_of (is_lt (namespace_cmp x.0 u.0)) (below_all namespace_cmp x.0 us) t)) in
    let here : map.find namespace_cmp u.0 (x ∷ es) ≡ map.find namespace_cmp u.0 es = ap (λ b. cond b (Some x.1) (map.find namespace_cmp u.0 es)) e in
    λ i. here i ∷ found_later x es us (second_of (is_lt (namespace_cmp x.0 u.0)) (below_all namespace_cmp x.0 us) t) i

all_found : (es : List (NsName × Table)) → T (map.is_sorted namespace_cmp es) → each (λ (e : NsName × Table). map.find namespace_cmp e.0 es) es ≡ each (λ (e : NsName × Table). Some e.1) es
all_found [] t = refl
all_found (x ∷ es) t =
    let here : map.find namespace_cmp x.0 (x ∷ es) ≡ Some x.1 = ap (λ b. cond b (Some x.1) (map.find namespace_cmp x.0 es)) (ns_refl x.0) in
    let later = found_later x es es (first_of (below_all namespace_cmp x.0 es) (map.is_sorted namespace_cmp es) t) ∙ all_found es (second_of (below_all namespace_cmp x.0 es) (map.is_sorted namespace_cmp es) t) in
    λ i. here i ∷ later i

some_tables : (a b : Option Table) (xs ys : List (Option Table)) → a ∷ xs ≡ b ∷ ys → (a ≡ b) × (xs ≡ ys)
some_tables a b xs ys e = (cc, cc)

by_entries : (ts : map.FinMap namespace_cmp Table) (es us : List (NsName × Table)) → ((n : NsName) → map.get ts n ≡ map.find namespace_cmp n es) → each (λ (e : NsName × Table). map.find namespace_cmp e.0 es) us ≡ each (λ (e : NsName × Table). Some e.1) us →
    each (meta_of_name ts) (each (λ (e : NsName × Table). e.0) us) ≡ each metadata_of (collections_of us)
by_entries ts es [] g f = refl
by_entries ts es (u ∷ us) g f =
    let w = some_tables (map.find namespace_cmp u.0 es) (Some u.1) (each (λ (e : NsName × Table). map.find namespace_cmp e.0 es) us) (each (λ (e : NsName × Table). Some e.1) us) f in
    λ i. meta_at u.0 ((g u.0 ∙ w.0) i) ∷ by_entries ts es us g w.1 i

pub metas_are : (s : Rows) → each (meta_of_name s.tables) (map.keys s.tables) ≡ metas_of (state_of s)
metas_are s = by_entries s.tables (map.entries s.tables) (map.entries s.tables) (λ n. map.get-entries s.tables n) (all_found (map.entries s.tables) (map.entries_sorted s.tables)) ∙ ap (each metadata_of) (sym (entries_of_state s))

pub metas_all : (s : Rows) (ms : List Meta) (left : List NsName) → each parts.metadata_of ms ++ each (meta_of_name s.tables) left ≡ each (meta_of_name s.tables) (map.keys s.tables) → left ≡ [] → each parts.metadata_of ms ≡ metas_of (state_of s)
metas_all s ms left w e = sym (append-nil (each parts.metadata_of ms)) ∙ (ap (λ (z : List NsName). each parts.metadata_of ms ++ each (meta_of_name s.tables) z) (sym e) ∙ (w ∙ metas_are s))
