-- States in which the same stands at each place are listed alike.
use Rattle.std.proofs.Common.{◌≡◌, List, [], ◌∷◌, Bool, true, false, cond, refl, sym, ap, ◌∙◌, subst, Option, Some, None, map as each}
use Rattle.std.specs.Prelude.{◌&&◌, ◌↔◌, option_map, T}
use Rattle.std.specs.Ordering.{eq_by_cmp, is_lt}
use Rattle.std.specs.declared.cmp.Ordering.{Ordering}
use Rattle.std.specs.Cmp.{IsTotalOrder}
use Rattle.std.specs.FinMap as map
use Rattle.std.specs.FinMap.{IsAntisymmetric}
use Rattle.std.specs.FinMap.Entries.{below_all}
use Rattle.bson_value.specs.declared.value.Value.{Value}
use Rattle.bson_value.specs.NamespaceOrder.{namespace_cmp}
use Rattle.bson_value.specs.Place.{Place, look, LooksTheSame}
use Rattle.bson_value.specs.Alike.{ordered, ◌~◌}
use Rattle.json_tree.specs.declared.tree.Tree.{Tree}
use Rattle.state_model.specs.Keys.{key_cmp}
use Rattle.state_model.specs.States.{State, Collection}
use Rattle.state_model.specs.Spots.{Inner, Options, Index, Document, Spot, Namespace, Inside, here, tree, kind, stands_in, stands_at, stands}
use Rattle.state_model.specs.Agreement.{SameStates}
use Rattle.state_model.specs.Shown.{ShownCollection, shown_document, shown_collection, shown}
use Rattle.state_model.proofs.Keys.{key_total, ns_total, key_anti, ns_anti}
use Rattle.state_model.proofs.Maps.{key_map_same}
use Rattle.state_model.proofs.Collections.{kind_of}

module _ {K X Y : Type 0} (R : K → K → Ordering) (g : X → Y) where
  abbrev on : K × X → K × Y
  on e = (e.0, g e.1)

  abbrev all : List (K × X) → List (K × Y)
  all es = each on es

  below_on : (k : K) (es : List (K × X)) → below_all R k (all es) ≡ below_all R k es
  below_on k [] = refl
  below_on k (e ∷ es) = ap (λ b. is_lt (R k e.0) && b) (below_on k es)

  sorted_on : (es : List (K × X)) → map.is_sorted R (all es) ≡ map.is_sorted R es
  sorted_on [] = refl
  sorted_on (e ∷ es) = λ i. below_on e.0 es i && sorted_on es i

  find_on : (q : K) (es : List (K × X)) → map.find R q (all es) ≡ option_map g (map.find R q es)
  find_on q [] = refl
  find_on q (e ∷ es) = by (eq_by_cmp R q e.0) (find_on q es)
    where
      by : (b : Bool) → map.find R q (all es) ≡ option_map g (map.find R q es) → cond b (Some (g e.1)) (map.find R q (all es)) ≡ option_map g (cond b (Some e.1) (map.find R q es))
      by true h = refl
      by false h = h

  -- maps that answer alike through g have the same entries through g
  pub entries_on : IsTotalOrder R → IsAntisymmetric R → (m n : map.FinMap R X) → ((q : K) → option_map g (map.get m q) ≡ option_map g (map.get n q)) →
      all (map.entries m) ≡ all (map.entries n)
  entries_on o anti m n h =
      let s : T (map.is_sorted R (all (map.entries m))) = subst T (sym (sorted_on (map.entries m))) (map.entries_sorted m) in
      let t : T (map.is_sorted R (all (map.entries n))) = subst T (sym (sorted_on (map.entries n))) (map.entries_sorted n) in
      let at : (q : K) → map.get (map.from_sorted {R = R} (all (map.entries m))) q ≡ map.get (map.from_sorted {R = R} (all (map.entries n))) q =
      λ q. map.get-from_sorted R (all (map.entries m)) q s ∙ (find_on q (map.entries m) ∙ (ap (option_map g) (sym (map.get-entries m q)) ∙ (h q ∙ (ap (option_map g) (map.get-entries n q) ∙ (sym (find_on q (map.entries n)) ∙ sym (map.get-from_sorted R (all (map.entries n)) q t)))))) in
      sym (map.entries-from_sorted R (all (map.entries m)) s) ∙ (ap map.entries (map.same_map o anti _ _ at) ∙ map.entries-from_sorted R (all (map.entries n)) t)

  -- maps that have the same entries through g answer alike through g
  pub answers_on : (m n : map.FinMap R X) → all (map.entries m) ≡ all (map.entries n) → (q : K) → option_map g (map.get m q) ≡ option_map g (map.get n q)
  answers_on m n e q =
      ap (option_map g) (map.get-entries m q) ∙ (sym (find_on q (map.entries m)) ∙ (ap (map.find R q) e ∙ (find_on q (map.entries n) ∙ ap (option_map g) (sym (map.get-entries n q)))))

-- documents
abbrev AlikeLooksTheSame : Type 0
AlikeLooksTheSame = (a b : Value) → (a ~ b) ↔ LooksTheSame a b

alike_docs : AlikeLooksTheSame → (o u : Option Value) → ((q : Place) → look o q ≡ look u q) → option_map ordered o ≡ option_map ordered u
unfolding look
alike_docs looks None None h = refl
alike_docs looks None (Some v) h = let e = h [] in cc
alike_docs looks (Some v) None h = let e = h [] in cc
alike_docs looks (Some v) (Some w) h = ap Some ((looks v w).1 (λ q. h q))

some_value : (v w : Value) → Some v ≡ Some w → v ≡ w
some_value v w e = cc

docs_alike : AlikeLooksTheSame → (o u : Option Value) → option_map ordered o ≡ option_map ordered u → (q : Place) → look o q ≡ look u q
unfolding look
docs_alike looks None None e q = refl
docs_alike looks None (Some v) e q = cc
docs_alike looks (Some v) None e q = cc
docs_alike looks (Some v) (Some w) e q = (looks v w).0 (some_value (ordered v) (ordered w) e) q

some_tree : (o u : Option Tree) → option_map tree o ≡ option_map tree u → o ≡ u
some_tree None None e = refl
some_tree None (Some t) e = cc
some_tree (Some t) None e = cc
some_tree (Some t) (Some s) e = cc

some_option : (t s : Tree) → Some (tree t) ≡ Some (tree s) → t ≡ s
some_option t s e = cc

same_colls : AlikeLooksTheSame → (c k : Collection) → ((p : Inner) → stands_in c p ≡ stands_in k p) → shown_collection c ≡ shown_collection k
same_colls looks c k h =
    let options : c.options ≡ k.options = some_option c.options k.options (h Options) in
    let indexes : c.indexes ≡ k.indexes = key_map_same c.indexes k.indexes (λ i. some_tree (map.get c.indexes i) (map.get k.indexes i) (h (Index i))) in
    let docs : each shown_document (map.entries c.documents) ≡ each shown_document (map.entries k.documents) =
    entries_on key_cmp ordered key_total key_anti c.documents k.documents (λ i. alike_docs looks (map.get c.documents i) (map.get k.documents i) (λ q. kind_of (map.get c.documents i) (map.get k.documents i) q (h (Document i q)))) in
    λ i. record { options = options i; indexes = map.entries (indexes i); documents = docs i }

colls_same : AlikeLooksTheSame → (c k : Collection) → shown_collection c ≡ shown_collection k → (p : Inner) → stands_in c p ≡ stands_in k p
colls_same looks c k e Options = ap (λ (s : ShownCollection). Some (tree s.options)) e
colls_same looks c k e (Index i) = ap (λ (m : map.FinMap key_cmp Tree). option_map tree (map.get m i)) (map.same_entries_map c.indexes k.indexes (ap (λ (s : ShownCollection). s.indexes) e))
colls_same looks c k e (Document i q) =
    ap (option_map kind) (docs_alike looks (map.get c.documents i) (map.get k.documents i) (answers_on key_cmp ordered c.documents k.documents (ap (λ (s : ShownCollection). s.documents) e) i) q)

same_options : AlikeLooksTheSame → (o u : Option Collection) → option_map (λ (c : Collection). here) o ≡ option_map (λ (c : Collection). here) u → ((p : Inner) → stands_at o p ≡ stands_at u p) → option_map shown_collection o ≡ option_map shown_collection u
same_options looks None None e h = refl
same_options looks None (Some c) e h = cc
same_options looks (Some c) None e h = cc
same_options looks (Some c) (Some k) e h = ap Some (same_colls looks c k h)

pub some_shown : (c k : ShownCollection) → Some c ≡ Some k → c ≡ k
some_shown c k e = cc

options_same : AlikeLooksTheSame → (o u : Option Collection) → option_map shown_collection o ≡ option_map shown_collection u → (option_map (λ (c : Collection). here) o ≡ option_map (λ (c : Collection). here) u) × ((p : Inner) → stands_at o p ≡ stands_at u p)
options_same looks None None e = (refl, λ p. refl)
options_same looks None (Some c) e = cc
options_same looks (Some c) None e = cc
options_same looks (Some c) (Some k) e = (refl, colls_same looks c k (some_shown (shown_collection c) (shown_collection k) e))

shown_same : AlikeLooksTheSame → (a b : State) → shown a ≡ shown b → (p : Spot) → stands a p ≡ stands b p
shown_same looks a b e (Namespace n) = (options_same looks (map.get a n) (map.get b n) (answers_on namespace_cmp shown_collection a b e n)).0
shown_same looks a b e (Inside n p) = (options_same looks (map.get a n) (map.get b n) (answers_on namespace_cmp shown_collection a b e n)).1 p

pub shown_alike : AlikeLooksTheSame → (a b : State) → SameStates a b ↔ (shown a ≡ shown b)
shown_alike looks a b = (
  (λ h. entries_on namespace_cmp shown_collection ns_total ns_anti a b (λ n. same_options looks (map.get a n) (map.get b n) (h (Namespace n)) (λ p. h (Inside n p)))),
  (λ e p. shown_same looks a b e p),
)
