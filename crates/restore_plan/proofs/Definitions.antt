-- The definitions that a metadata text has stand in the order of their names, each once, so a state has them as they stand there.
use Rattle.std.proofs.Common.{◌≡◌, ℕ, Bool, true, false, cond, List, [], ◌∷◌, ◌++◌, length, arith, refl, sym, ap, ◌∙◌, subst, append_assoc}
use Rattle.std.specs.Prelude.{⊤, codes, fold, Option, Some, None, Ok, Err, map as each}
use Rattle.std.specs.FinMap as map
use Rattle.std.specs.FinMap.Entries.{put, by_order}
use Rattle.std.specs.declared.cmp.Ordering.TheVariants.{Greater}
use Rattle.std.proofs.lemmas.List.{append-nil}
use Rattle.containers.specs.Entries.{lookup}
use Rattle.json_tree.specs.declared.tree.Tree.{Tree, Tree-F, out-Tree}
use Rattle.json_tree.specs.declared.tree.Tree.TheVariants as trees
use Rattle.extjson.specs.Plain.{wrapped_fields}
use Rattle.extjson.proofs.Wrapping.{wrapped_str}
use Rattle.state_model.specs.Keys.{Key, key_cmp}
use Rattle.state_model.proofs.Keys.{key_total}
use Rattle.coll_state.specs.Changes.{under_names}
use Rattle.coll_state.specs.Definitions.{definition_name, name_in, text_in as text_at}
use Rattle.index_keys.specs.Definition.{Members, members, members_at, members_in, text, text_in, arranged, normal, normal_in, normal_of}
use Rattle.metadata_text.specs.Metadata.{Meta, Named, named, name_first, metadata_of, definition_name as text_name, name_at, name_beside, text_in as name_text, is_object}
use Rattle.metadata_text.specs.RoundTrip.{AllBehind, AreRising}
use Rattle.metadata_text.proofs.Normal.{read_normal}
use Rattle.restore_plan.specs.Base.{normal_forms, with_normal, definitions_in}
use Rattle.restore_plan.specs.Laws.{DefinitionsStand}

-- ---- a normal form has the name of its definition

some_of : {A : Type 0} {x y : A} → Some x ≡ Some y → x ≡ y
some_of {x = x} {y = y} e = cc

named_as : (key : Members) (name : List ℕ) (es : Members) → definition_name (trees.Object (wrapped_fields (arranged key name es))) ≡ name
unfolding definition_name
named_as key name es =
    ap name_in (trees.outs-Object (wrapped_fields (arranged key name es)))
    ∙ ap (λ (t : Tree). text_at (out-Tree t)) (wrapped_str name)
    ∙ ap text_at (trees.outs-Str name)

by_parts : (k : Option Members) (n : Option (List ℕ)) (es : Members) (f : Tree) → normal_of k n es ≡ Some f → n ≡ Some (definition_name f)
by_parts (Some key) (Some name) es f e =
    let is : trees.Object (wrapped_fields (arranged key name es)) ≡ f = some_of e in ap Some (sym (named_as key name es) ∙ ap definition_name is)
by_parts (Some key) None es f e = absurd cc
by_parts None n es f e = absurd cc

-- one definition by its level, its normal form and its name
same_name : (b : Bool) (o : Option Tree) (n : List ℕ) → cond b (name_text o) None ≡ Some n → text_in o ≡ Some n
unfolding text
same_name true None n h = absurd cc
same_name true (Some t) n h = h
same_name false o n h = absurd cc

name_there : (k o : Option Tree) (n : List ℕ) → name_beside k o ≡ Some n → text_in o ≡ Some n
name_there None o n h = absurd cc
name_there (Some key) o n h = same_name (is_object key) o n h

by_level : (x : Tree-F Tree) (f : Tree) (n : List ℕ) → normal_in (members_at x) ≡ Some f → name_at x ≡ Some n → definition_name f ≡ n
by_level (Tree-F.Object es) f n e is =
    some_of (sym (by_parts (members_in (lookup (codes "key") es)) (text_in (lookup (codes "name") es)) es f e) ∙ name_there (lookup (codes "key") es) (lookup (codes "name") es) n is)
by_level _ f n e is = absurd cc

name_kept : (d f : Tree) (n : List ℕ) → normal d ≡ Some f → text_name d ≡ Some n → definition_name f ≡ n
unfolding normal members text_name
name_kept d f n e is = by_level (out-Tree d) f n e is

-- ---- names that rise

AllUp : Key → List Tree → Type 0
AllUp n [] = ⊤
AllUp n (d ∷ ds) = (key_cmp (definition_name d) n ≡ Greater) × AllUp n ds

AreUp : List Tree → Type 0
AreUp [] = ⊤
AreUp (d ∷ ds) = AllUp (definition_name d) ds × AreUp ds

-- each definition has a name
record First (d : Tree) (ds : List Tree) (es : Named) : Type 0 where
  name : List ℕ
  rest : Named
  here : text_name d ≡ Some name
  others : named ds ≡ Some rest
  is : es ≡ (name, d) ∷ rest

first : (d : Tree) (ds : List Tree) (es : Named) (n : Option (List ℕ)) (o : Option Named) → text_name d ≡ n → named ds ≡ o → name_first d n o ≡ Some es → First d ds es
first d ds es None o a b e = absurd cc
first d ds es (Some n) None a b e = absurd cc
first d ds es (Some n) (Some rest) a b e = record { name = n; rest = rest; here = a; others = b; is = sym (some_of e) }

split : (d : Tree) (ds : List Tree) (es : Named) → named (d ∷ ds) ≡ Some es → First d ds es
unfolding named
split d ds es e = first d ds es (text_name d) (named ds) refl refl e

with_up : (k : Key) (o : Option Tree) (ds : List Tree) → ((n : Tree) → o ≡ Some n → key_cmp (definition_name n) k ≡ Greater) → AllUp k ds → AllUp k (with_normal o ds)
unfolding AllUp
with_up k None ds g r = r
with_up k (Some n) ds g r = (g n refl, r)

all_up : (k : Key) (ds : List Tree) (es : Named) → named ds ≡ Some es → AllBehind k es → AllUp k (normal_forms ds)
unfolding AllUp
all_up k [] es e h = tt
all_up k (d ∷ ds) es e h =
    let f = split d ds es e in
    let b = subst (AllBehind k) f.is h in
    with_up k (normal d) (normal_forms ds) (λ n g. ap (λ z. key_cmp z k) (name_kept d n f.name g f.here) ∙ b.0) (all_up k ds f.rest f.others b.1)

with_are : (o : Option Tree) (ds : List Tree) → ((n : Tree) → o ≡ Some n → AllUp (definition_name n) ds) → AreUp ds → AreUp (with_normal o ds)
unfolding AreUp
with_are None ds g r = r
with_are (Some n) ds g r = (g n refl, r)

none_up : AreUp []
unfolding AreUp
none_up = tt

are_up : (ds : List Tree) (es : Named) → named ds ≡ Some es → AreRising es → AreUp (normal_forms ds)
are_up [] es e h = none_up
are_up (d ∷ ds) es e h =
    let f = split d ds es e in
    let r = subst AreRising f.is h in
    with_are (normal d) (normal_forms ds) (λ n g. subst (λ (z : Key). AllUp z (normal_forms ds)) (sym (name_kept d n f.name g f.here)) (all_up f.name ds f.rest f.others r.0)) (are_up ds f.rest f.others r.1)

-- ---- a map of them

abbrev Entries : Type 0
Entries = List (Key × Tree)

-- each entry comes before this name
AllBelow : Key → Entries → Type 0
AllBelow k [] = ⊤
AllBelow k (e ∷ es) = (key_cmp k e.0 ≡ Greater) × AllBelow k es

abbrev entry : Tree → Key × Tree
entry d = (definition_name d, d)

put_last : (k : Key) (d : Tree) (es : Entries) → AllBelow k es → put key_cmp k d es ≡ es ++ (k, d) ∷ []
unfolding AllBelow
put_last k d [] h = refl
put_last k d (e ∷ es) h = ap (λ o. by_order o ((k, d) ∷ e ∷ es) ((e.0, d) ∷ es) (e ∷ put key_cmp k d es)) h.0 ∙ ap (λ l. e ∷ l) (put_last k d es h.1)

-- these definitions come behind all entries
AllBehindAll : Entries → List Tree → Type 0
AllBehindAll es [] = ⊤
AllBehindAll es (d ∷ ds) = AllBelow (definition_name d) es × AllBehindAll es ds

below_more : (k : Key) (es : Entries) (e : Key × Tree) → AllBelow k es → key_cmp k e.0 ≡ Greater → AllBelow k (es ++ e ∷ [])
unfolding AllBelow
below_more k [] e h g = (g, tt)
below_more k (x ∷ es) e h g = (h.0, below_more k es e h.1 g)

behind_more : (es : Entries) (d : Tree) (ds : List Tree) → AllBehindAll es ds → AllUp (definition_name d) ds → AllBehindAll (es ++ entry d ∷ []) ds
unfolding AllBehindAll AllUp
behind_more es d [] h u = tt
behind_more es d (x ∷ ds) h u = (below_more (definition_name x) es (entry d) h.0 u.0, behind_more es d ds h.1 u.1)

abbrev put_in : map.FinMap key_cmp Tree → Tree → map.FinMap key_cmp Tree
put_in m d = map.insert m (definition_name d) d

appended : (m : map.FinMap key_cmp Tree) (ds : List Tree) → AllBehindAll (map.entries m) ds → AreUp ds → map.entries (fold put_in m ds) ≡ map.entries m ++ each entry ds
unfolding AllBehindAll AreUp
appended m [] h u = sym (append-nil (map.entries m))
appended m (d ∷ ds) h u =
    let put : map.entries (put_in m d) ≡ map.entries m ++ entry d ∷ [] = map.entries-insert key_total m (definition_name d) d ∙ put_last (definition_name d) d (map.entries m) h.0 in
    appended (put_in m d) ds (subst (λ (es : Entries). AllBehindAll es ds) (sym put) (behind_more (map.entries m) d ds h.1 u.0)) u.1
    ∙ (ap (λ es. es ++ each entry ds) put ∙ append_assoc (map.entries m) (entry d ∷ []) (each entry ds))

no_entries : map.entries (map.empty {X = Tree} {R = key_cmp}) ≡ []
no_entries = none (map.entries (map.empty {X = Tree} {R = key_cmp})) (sym (map.len-entries (map.empty {X = Tree} {R = key_cmp})) ∙ map.len-empty key_cmp Tree)
  where
    none : (es : Entries) → length es ≡ 0 → es ≡ []
    none [] e = refl
    none (x ∷ es) e = absurd (omega (arith, e))

behind_none : (es : Entries) (ds : List Tree) → es ≡ [] → AllBehindAll es ds
unfolding AllBehindAll AllBelow
behind_none es [] e = tt
behind_none es (d ∷ ds) e = (subst (AllBelow (definition_name d)) (sym e) tt, behind_none es ds e)

seconds : (ds : List Tree) → each (λ (e : Key × Tree). e.1) (each entry ds) ≡ ds
seconds [] = refl
seconds (d ∷ ds) = ap (λ l. d ∷ l) (seconds ds)

as_they_stand : (ds : List Tree) → AreUp ds → map.values (under_names ds) ≡ ds
as_they_stand ds u =
    ap (each (λ (e : Key × Tree). e.1)) (appended map.empty ds (behind_none (map.entries map.empty) ds no_entries) u ∙ ap (λ es. es ++ each entry ds) no_entries) ∙ seconds ds

of_text : (text : List ℕ) (m : Meta) → metadata_of text ≡ m → map.values (under_names (definitions_in m)) ≡ definitions_in m
of_text text (Ok x) e = let n = read_normal (Ok x) text e in as_they_stand (normal_forms x.1) (are_up x.1 n.names n.named_so n.rising)
of_text text (Err at) e = as_they_stand [] none_up

pub definitions_stand : DefinitionsStand
definitions_stand text = of_text text (metadata_of text) refl
