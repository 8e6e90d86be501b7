-- Who has the keys of a unique index, before and after a swap.
use Rattle.std.proofs.Common.{◌≡◌, List, [], ◌∷◌, Bool, true, false, cond, not, refl, sym, ap, ◌∙◌, subst, Option, Some, None, inl, inr}
use Rattle.std.specs.Prelude.{◌⊎◌, ◌&&◌, ◌||◌, option_map, is_some, if◌then◌else◌}
use Rattle.std.specs.Ordering.{is_lt, ordering_reverse}
use Rattle.std.specs.declared.cmp.Ordering.{Ordering}
use Rattle.std.specs.declared.cmp.Ordering.TheVariants.{Less, Equal, Greater}
use Rattle.std.specs.Str.{bytes_eq}
use Rattle.std.specs.Cmp.Lexicographic.{texts_ties}
use Rattle.std.specs.FinMap as map
use Rattle.std.proofs.lemmas.Bool.{cases_Bool}
use Rattle.state_model.specs.Keys.{Key, key_cmp, same_key}
use Rattle.state_model.proofs.Keys.{key_total, key_anti, key_is, key_refl, key_turn, key_from}
use Rattle.state_model.proofs.Maps.{key_at_insert, key_at_remove}
use Rattle.coll_state.specs.Stock.{AllAfter, Rise, beside}
use Rattle.coll_state.proofs.Keyed.{found_put, found_take, rise_put, rise_take}
use Rattle.sorted_list.specs.Order.{found, put_in, take_out}
use Rattle.index_build.specs.declared.entry.Entry.{Entry}
use Rattle.index_build.specs.declared.holder.Holder.{Holder}
use Rattle.index_keys.specs.declared.plan.Plan.{Plan}
use Rattle.index_build.specs.Entries.{entry_key, owned_of, owned_in, put_or_removed, keys_refusal}
use Rattle.index_build.specs.Faults.{or_else, meet}
use Rattle.index_build.specs.Holders.{holder_key, found_key, id_in, held_by, is_held_by, holder_of, has_in, AreHolders, AreKept, lesser_key, but_for, least_from, least_other, released, texts_of}
use Rattle.index_build.specs.Owned.{Owned, Shared, other_has, first_other, refusal_by}
use Rattle.index_build.specs.Owners.{Texts, has}
use Rattle.index_build.specs.Repeats.{first_where}
use Rattle.index_build.proofs.Apart.{none_is}
use Rattle.index_build.proofs.Owned.{absent_behind, entries_owned, owned_empty}
use Rattle.index_build.proofs.Repeated.{both_have}

-- ---- elements under their keys, with one more in the place of that of its key

pub same_text : (a b : Key) → bytes_eq a b ≡ same_key b a
same_text a b = texts_ties a b ∙ key_turn b a (same_key b a) refl

over : {X : Type 0} (b : Bool) (x o : Option X) → cond b x (cond b None o) ≡ cond b x o
over true x o = refl
over false x o = refl

gone : {X : Type 0} (b : Bool) (o : Option X) → b ≡ true → ◌≡◌ {A = Option X} (cond b None o) None
gone true o e = refl
gone false o e = cc

module _ {T : Type 0} (key : T → Key) where
  pub found_placed : (xs : List T) (y : T) (t : Key) → Rise key_cmp key xs →
      found (beside key_cmp key t) (put_in (beside key_cmp key (key y)) y (take_out (beside key_cmp key (key y)) xs)) ≡ (if same_key t (key y) then Some y else found (beside key_cmp key t) xs)
  found_placed xs y t r =
      found_put key_cmp key_total key_anti key (take_out (beside key_cmp key (key y)) xs) (key y) t y refl
      ∙ (ap (λ o. if same_key t (key y) then Some y else o) (found_take key_cmp key_total key_anti key xs (key y) t r)
      ∙ over (same_key t (key y)) (Some y) (found (beside key_cmp key t) xs))

  pub rise_placed : (xs : List T) (y : T) → Rise key_cmp key xs → Rise key_cmp key (put_in (beside key_cmp key (key y)) y (take_out (beside key_cmp key (key y)) xs))
  rise_placed xs y r =
      rise_put key_cmp key_total key_anti key (take_out (beside key_cmp key (key y)) xs) (key y) y refl
      (found_take key_cmp key_total key_anti key xs (key y) (key y) r ∙ gone (same_key (key y) (key y)) (found (beside key_cmp key (key y)) xs) (key_refl (key y)))
      (rise_take key_cmp key_total key_anti key xs (key y) r)

  pub taken_placed : (y : T) (taken xs : List T) → taken ≡ take_out (beside key_cmp key (key y)) xs →
      put_in (beside key_cmp key (key y)) y taken ≡ put_in (beside key_cmp key (key y)) y (take_out (beside key_cmp key (key y)) xs)
  taken_placed y taken xs e = ap (put_in (beside key_cmp key (key y)) y) e

-- ---- a document with its keys

one_found : (a b c : Bool) (x : Holder) (k : Key) (o : Option Holder) → x.id ≡ k → b ≡ a → id_in o ≡ (if c then Some k else None) → id_in (if a then Some x else o) ≡ (if b || c then Some k else None)
one_found true true c x k o i e h = ap Some i
one_found false false c x k o i e h = h
one_found true false c x k o i e h = cc
one_found false true c x k o i e h = cc

pub found_held : (t k : Key) (ts : Texts) → id_in (found_key t (held_by k ts)) ≡ (if has t ts then Some k else None)
found_held t k [] = refl
found_held t k (u ∷ ts) = one_found (same_key u t) (bytes_eq t u) (has t ts) (record { key = u; id = k }) k (found_key t (held_by k ts)) refl (same_text t u) (found_held t k ts)

-- ---- searches over entries

no_some : {A : Type 0} (x : A) → Some x ≡ None → ⊥
no_some x e = cc

clash : (b : Bool) → b ≡ true → b ≡ false → ⊥
clash b t f = cc

abbrev pub first_key : Option (Key × Texts) → Option Key
first_key o = option_map (λ (e : Key × Texts). e.0) o

same_search : {A : Type 0} (p q : A → Bool) (xs : List A) → ((x : A) → p x ≡ q x) → first_where p xs ≡ first_where q xs
same_search p q [] h = refl
same_search p q (x ∷ xs) h = (λ i. if h x i then Some x else same_search p q xs h i)

none_where : {A : Type 0} (xs : List A) → first_where (λ x. false) xs ≡ None
none_where [] = refl
none_where (x ∷ xs) = none_where xs

-- what is found behind an entry comes after it
after_first : (k : Key) (es : List Entry) (p : Key × Texts → Bool) (x : Key × Texts) → AllAfter key_cmp entry_key k es → first_where p (owned_of es) ≡ Some x → key_cmp k x.0 ≡ Less
after_first k [] p x a e = cc
after_first k (y ∷ es) p x a e = by (p (y.key, y.keys)) e (λ f. after_first k es p x a.1 f)
  where
    by : (b : Bool) → (if b then Some (y.key, y.keys) else first_where p (owned_of es)) ≡ Some x → (first_where p (owned_of es) ≡ Some x → key_cmp k x.0 ≡ Less) → key_cmp k x.0 ≡ Less
    by true f later = subst (λ (z : Key × Texts). key_cmp k z.0 ≡ Less) (some_is f) a.0
      where
        some_is : {A : Type 0} {u v : A} → Some u ≡ Some v → u ≡ v
        some_is e = cc
    by false f later = later f

turned : (a b : Key) → key_cmp a b ≡ Less → key_cmp b a ≡ Greater
turned a b e = key_total.antisymm b a ∙ ap ordering_reverse e

self_less : (a : Key) → is_lt (key_cmp a a) ≡ false
self_less a = by (key_cmp a a) (key_refl a)
  where
    open_eq : (o : Ordering) → Bool
    open_eq Less = false
    open_eq Equal = true
    open_eq Greater = false

    by : (o : Ordering) → open_eq o ≡ true → is_lt o ≡ false
    by Less e = cc
    by Equal e = refl
    by Greater e = refl

-- of two searches the one that finds what comes first
pub either_first : (es : List Entry) (p q : Key × Texts → Bool) → Rise key_cmp entry_key es →
    first_key (first_where (λ x. p x || q x) (owned_of es)) ≡ lesser_key (first_key (first_where p (owned_of es))) (first_key (first_where q (owned_of es)))
either_first [] p q r = refl
either_first (e ∷ es) p q r = by (p (e.key, e.keys)) (q (e.key, e.keys)) (either_first es p q r.1)
  where
    left_of : (o : Option (Key × Texts)) → ((x : Key × Texts) → o ≡ Some x → key_cmp e.key x.0 ≡ Less) → Some e.key ≡ lesser_key (Some e.key) (first_key o)
    left_of None h = refl
    left_of (Some x) h = sym (ap (λ (o : Ordering). if is_lt o then Some x.0 else Some e.key) (turned e.key x.0 (h x refl)))

    right_of : (o : Option (Key × Texts)) → ((x : Key × Texts) → o ≡ Some x → key_cmp e.key x.0 ≡ Less) → Some e.key ≡ lesser_key (first_key o) (Some e.key)
    right_of None h = refl
    right_of (Some x) h = sym (ap (λ (o : Ordering). if is_lt o then Some e.key else Some x.0) (h x refl))

    both_of : Some e.key ≡ lesser_key (Some e.key) (Some e.key)
    both_of = sym (ap (λ (b : Bool). if b then Some e.key else Some e.key) (self_less e.key))

    by : (a b : Bool) → first_key (first_where (λ x. p x || q x) (owned_of es)) ≡ lesser_key (first_key (first_where p (owned_of es))) (first_key (first_where q (owned_of es))) →
        first_key (if a || b then Some (e.key, e.keys) else first_where (λ x. p x || q x) (owned_of es)) ≡ lesser_key (first_key (if a then Some (e.key, e.keys) else first_where p (owned_of es))) (first_key (if b then Some (e.key, e.keys) else first_where q (owned_of es)))
    by true true later = both_of
    by true false later = left_of (first_where q (owned_of es)) (λ x f. after_first e.key es q x r.0 f)
    by false true later = right_of (first_where p (owned_of es)) (λ x f. after_first e.key es p x r.0 f)
    by false false later = later

-- ---- the holder of a key among entries

-- nobody else among them has the key
abbrev pub Holds : Key → Option Key → List Entry → Type 0
Holds t o es = (q : Key) → is_held_by q o ≡ has_in t (map.find key_cmp q (owned_of es))

abbrev pub has_too : Key → Key → Key × Texts → Bool
has_too k t x = not (same_key x.0 k) && has t x.1

no_holder : (t : Key) (o : Option Key) → Holds t o [] → o ≡ None
no_holder t None h = refl
no_holder t (Some j) h = absurd (clash (same_key j j) (key_refl j) (h j))

held_is : (o : Option Key) (k : Key) → is_held_by k o ≡ true → o ≡ Some k
held_is None k e = cc
held_is (Some j) k e = ap Some (key_is j k e)

-- the holder of those behind an entry that has the key, or hasn't it
behind_one : (t : Key) (e : Entry) (es : List Entry) → Rise key_cmp entry_key (e ∷ es) → Holds t (Some e.key) (e ∷ es) → Holds t None es
behind_one t e es r h q = by (cases_Bool (same_key q e.key))
  where
    by : (same_key q e.key ≡ true) ⊎ (same_key q e.key ≡ false) → false ≡ has_in t (map.find key_cmp q (owned_of es))
    by (inl s) = sym (ap (has_in t) (absent_behind e es q r s))
    by (inr s) = sym (key_turn q e.key false s) ∙ (h q ∙ ap (λ (b : Bool). has_in t (cond b (Some e.keys) (map.find key_cmp q (owned_of es)))) s)

behind_none : (t : Key) (o : Option Key) (e : Entry) (es : List Entry) → Rise key_cmp entry_key (e ∷ es) → has t e.keys ≡ false → Holds t o (e ∷ es) → Holds t o es
behind_none t o e es r n h q = by (cases_Bool (same_key q e.key))
  where
    by : (same_key q e.key ≡ true) ⊎ (same_key q e.key ≡ false) → is_held_by q o ≡ has_in t (map.find key_cmp q (owned_of es))
    by (inl s) = h q ∙ (ap (λ (b : Bool). has_in t (cond b (Some e.keys) (map.find key_cmp q (owned_of es)))) s ∙ (n ∙ sym (ap (has_in t) (absent_behind e es q r s))))
    by (inr s) = h q ∙ ap (λ (b : Bool). has_in t (cond b (Some e.keys) (map.find key_cmp q (owned_of es)))) s

holds_here : (t : Key) (o : Option Key) (e : Entry) (es : List Entry) → has t e.keys ≡ true → Holds t o (e ∷ es) → o ≡ Some e.key
holds_here t o e es b h = held_is o e.key (h e.key ∙ (ap (λ (c : Bool). has_in t (cond c (Some e.keys) (map.find key_cmp e.key (owned_of es)))) (key_refl e.key) ∙ b))

pub one_first : (es : List Entry) (t k : Key) (o : Option Key) → Rise key_cmp entry_key es → Holds t o es → first_key (first_where (has_too k t) (owned_of es)) ≡ but_for k o
one_first [] t k o r h = sym (ap (but_for k) (no_holder t o h))
one_first (e ∷ es) t k o r h = by (cases_Bool (has t e.keys)) (cases_Bool (same_key e.key k)) (λ p g. one_first es t k p r.1 g)
  where
    by : (has t e.keys ≡ true) ⊎ (has t e.keys ≡ false) → (same_key e.key k ≡ true) ⊎ (same_key e.key k ≡ false) → ((p : Option Key) → Holds t p es → first_key (first_where (has_too k t) (owned_of es)) ≡ but_for k p) →
        first_key (if not (same_key e.key k) && has t e.keys then Some (e.key, e.keys) else first_where (has_too k t) (owned_of es)) ≡ but_for k o
    by (inl b) (inl s) later =
        ap (λ (c : Bool). first_key (if not c && has t e.keys then Some (e.key, e.keys) else first_where (has_too k t) (owned_of es))) s
        ∙ (later None (behind_one t e es r (subst (λ (p : Option Key). Holds t p (e ∷ es)) (holds_here t o e es b h) h))
        ∙ sym (ap (but_for k) (holds_here t o e es b h) ∙ ap (λ (c : Bool). if c then None else Some e.key) s))
    by (inl b) (inr s) later =
        (λ i. first_key (if not (s i) && b i then Some (e.key, e.keys) else first_where (has_too k t) (owned_of es)))
        ∙ sym (ap (but_for k) (holds_here t o e es b h) ∙ ap (λ (c : Bool). if c then None else Some e.key) s)
    by (inr b) s later =
        ap (λ (c : Bool). first_key (if c then Some (e.key, e.keys) else first_where (has_too k t) (owned_of es))) (and_false (not (same_key e.key k)) (has t e.keys) b)
        ∙ later o (behind_none t o e es r b h)
      where
        and_false : (x y : Bool) → y ≡ false → (x && y) ≡ false
        and_false true y e = e
        and_false false y e = refl

apart_or : (a b c d : Bool) → ((d || (a && b)) || (a && c)) ≡ (d || (a && (b || c)))
apart_or a b c true = refl
apart_or true b c false = refl
apart_or false b c false = refl

or_none : (a b : Bool) → (b || (a && false)) ≡ b
or_none true true = refl
or_none true false = refl
or_none false true = refl
or_none false false = refl

pub least_is : (es : List Entry) (k : Key) (holder : Key → Option Key) (ts : Texts) (p : Key × Texts → Bool) → Rise key_cmp entry_key es → ((t : Key) → Holds t (holder t) es) →
    first_key (first_where (λ x. p x || other_has k ts x) (owned_of es)) ≡ least_from k holder (first_key (first_where p (owned_of es))) ts
least_is es k holder [] p r h = ap first_key (same_search _ p (owned_of es) (λ x. or_none (not (same_key x.0 k)) (p x)))
least_is es k holder (t ∷ ts) p r h =
    ap first_key (same_search (λ x. p x || other_has k (t ∷ ts) x) (λ x. (p x || has_too k t x) || other_has k ts x) (owned_of es) (λ x. sym (apart_or (not (same_key x.0 k)) (has t x.1) (meet ts x.1) (p x))))
    ∙ (least_is es k holder ts (λ x. p x || has_too k t x) r h
    ∙ ap (λ (o : Option Key). least_from k holder o ts) (either_first es p (has_too k t) r ∙ ap (lesser_key (first_key (first_where p (owned_of es)))) (one_first es t k (holder t) r (h t))))

pub least_other_is : (es : List Entry) (k : Key) (holder : Key → Option Key) (ts : Texts) → Rise key_cmp entry_key es → ((t : Key) → Holds t (holder t) es) →
    first_key (first_where (other_has k ts) (owned_of es)) ≡ least_from k holder None ts
least_other_is es k holder ts r h = least_is es k holder ts (λ x. false) r h ∙ ap (λ (o : Option Key). least_from k holder o ts) (ap first_key (none_where (owned_of es)))

-- what a search finds is there
pub found_there : (es : List (Key × Texts)) (p : Key × Texts → Bool) (x : Key × Texts) → first_where p es ≡ Some x → is_some (map.find key_cmp x.0 es) ≡ true
found_there [] p x e = cc
found_there (y ∷ es) p x e = by (p y) e (λ f. found_there es p x f)
  where
    either : (b : Bool) (t : Texts) (o : Option Texts) → is_some o ≡ true → is_some (cond b (Some t) o) ≡ true
    either true t o e = refl
    either false t o e = e

    there : (b : Bool) (t : Texts) (o : Option Texts) → b ≡ true → is_some (cond b (Some t) o) ≡ true
    there true t o e = refl
    there false t o e = cc

    some_is : {A : Type 0} {u v : A} → Some u ≡ Some v → u ≡ v
    some_is e = cc

    by : (b : Bool) → (if b then Some y else first_where p es) ≡ Some x → (first_where p es ≡ Some x → is_some (map.find key_cmp x.0 es) ≡ true) → is_some (map.find key_cmp x.0 (y ∷ es)) ≡ true
    by true f later = there (same_key x.0 y.0) y.1 (map.find key_cmp x.0 es) (key_from x.0 y.0 (ap (λ (z : Key × Texts). z.0) (sym (some_is f))))
    by false f later = either (same_key x.0 y.0) y.1 (map.find key_cmp x.0 es) (later f)

-- ---- after a swap

pub none_holds : AreHolders (λ t. None) map.empty
none_holds t k = sym (ap (has_in t) (map.get-empty key_cmp k))

at_exchange : (k : Key) (keys : Option Texts) (m : Owned) (q : Key) → map.get (put_or_removed k keys m) q ≡ cond (same_key q k) keys (map.get m q)
at_exchange k None m q = key_at_remove m k q
at_exchange k (Some ts) m q = key_at_insert m k ts q

in_keys : (t : Key) (keys : Option Texts) → has_in t keys ≡ has t (texts_of keys)
in_keys t None = refl
in_keys t (Some ts) = refl

-- nobody else has one of these keys
abbrev Free : Key → Texts → Owned → Type 0
Free k ts m = (t q : Key) → has t ts ≡ true → same_key q k ≡ false → has_in t (map.get m q) ≡ false

free_none : (k : Key) (m : Owned) → Free k [] m
free_none k m t q e s = cc

refused_none : (o : Option (Key × Texts)) → refusal_by false true o ≡ None → o ≡ None
refused_none None e = refl
refused_none (Some x) e = cc

free_keys : (k : Key) (keys : Option Texts) (m : Owned) → keys_refusal k true keys m ≡ None → Free k (texts_of keys) m
free_keys k None m e t q h s = free_none k m t q h s
free_keys k (Some ts) m e t q h s = by (map.get m q) refl
  where
    by : (o : Option Texts) → map.get m q ≡ o → has_in t o ≡ false
    by None g = refl
    by (Some us) g = of (cases_Bool (has t us))
      where
        of : (has t us ≡ true) ⊎ (has t us ≡ false) → has t us ≡ false
        of (inr n) = n
        of (inl y) =
            let no = none_is (other_has k ts) (map.entries m) q us (refused_none (first_other k ts m) e) (sym (map.get-entries m q) ∙ g) in
            absurd (clash (other_has k ts (q, us)) (λ i. not (s i) && both_have t ts us h y i) no)

abbrev given : Bool → Key → Option Key
given b k = if b then Some k else None

module _ (holder : Key → Option Key) (m : Owned) (k : Key) (ts : Texts) (are : AreHolders holder m) (free : Free k ts m) where
  -- nobody holds a key of these, once the document's own are released
  open_key : (t : Key) → has t ts ≡ true → released (map.get m k) holder t ≡ None
  open_key t h = by (map.get m k) refl (holder t) refl
    where
      other : (j : Key) → holder t ≡ Some j → has_in t (map.get m j) ≡ true
      other j e = sym (are t j) ∙ (ap (is_held_by j) e ∙ key_refl j)

      by : (o : Option Texts) → map.get m k ≡ o → (a : Option Key) → holder t ≡ a → released o holder t ≡ None
      by None g None e = e
      by None g (Some j) e = of (cases_Bool (same_key j k))
        where
          of : (same_key j k ≡ true) ⊎ (same_key j k ≡ false) → holder t ≡ None
          of (inl s) = absurd (clash (has_in t (map.get m j)) (other j e) (ap (λ (z : Key). has_in t (map.get m z)) (key_is j k s) ∙ ap (has_in t) g))
          of (inr s) = absurd (clash (has_in t (map.get m j)) (other j e) (free t j h s))
      by (Some os) g None e = ap (λ (z : Option Key). if has t os then None else z) e ∙ none_if (has t os)
        where
          none_if : (b : Bool) → ◌≡◌ {A = Option Key} (if b then None else None) None
          none_if true = refl
          none_if false = refl
      by (Some os) g (Some j) e = of (cases_Bool (same_key j k))
        where
          of : (same_key j k ≡ true) ⊎ (same_key j k ≡ false) → (if has t os then None else holder t) ≡ None
          of (inl s) = ap (λ (b : Bool). if b then None else holder t) (sym (ap (has_in t) g) ∙ (ap (λ (z : Key). has_in t (map.get m z)) (sym (key_is j k s)) ∙ other j e))
          of (inr s) = absurd (clash (has_in t (map.get m j)) (other j e) (free t j h s))

  -- the others keep their keys
  kept_key : (t q : Key) → same_key q k ≡ false → is_held_by q (released (map.get m k) holder t) ≡ has_in t (map.get m q)
  kept_key t q s = by (map.get m k) refl
    where
      by : (o : Option Texts) → map.get m k ≡ o → is_held_by q (released o holder t) ≡ has_in t (map.get m q)
      by None g = are t q
      by (Some os) g = of (cases_Bool (has t os))
        where
          of : (has t os ≡ true) ⊎ (has t os ≡ false) → is_held_by q (if has t os then None else holder t) ≡ has_in t (map.get m q)
          of (inr n) = ap (λ (b : Bool). is_held_by q (if b then None else holder t)) n ∙ are t q
          of (inl y) =
              let own : holder t ≡ Some k = held_is (holder t) k (are t k ∙ (ap (has_in t) g ∙ y)) in
              ap (λ (b : Bool). is_held_by q (if b then None else holder t)) y ∙ (sym (key_turn q k false s) ∙ (sym (ap (is_held_by q) own) ∙ are t q))

  own_key : (t : Key) → is_held_by k (released (map.get m k) holder t) ≡ false
  own_key t = by (map.get m k) refl
    where
      by : (o : Option Texts) → map.get m k ≡ o → is_held_by k (released o holder t) ≡ false
      by None g = are t k ∙ ap (has_in t) g
      by (Some os) g = of (cases_Bool (has t os))
        where
          of : (has t os ≡ true) ⊎ (has t os ≡ false) → is_held_by k (if has t os then None else holder t) ≡ false
          of (inl y) = ap (λ (b : Bool). is_held_by k (if b then None else holder t)) y
          of (inr n) = ap (λ (b : Bool). is_held_by k (if b then None else holder t)) n ∙ (are t k ∙ (ap (has_in t) g ∙ n))

  or_nobody : (o : Option Key) → or_else o None ≡ o
  or_nobody None = refl
  or_nobody (Some x) = refl

  swapped_at : (t q : Key) → is_held_by q (or_else (released (map.get m k) holder t) (given (has t ts) k)) ≡ cond (same_key q k) (has t ts) (has_in t (map.get m q))
  swapped_at t q = by (cases_Bool (same_key q k)) (cases_Bool (has t ts))
    where
      freed : Option Key
      freed = released (map.get m k) holder t

      by : (same_key q k ≡ true) ⊎ (same_key q k ≡ false) → (has t ts ≡ true) ⊎ (has t ts ≡ false) → is_held_by q (or_else freed (given (has t ts) k)) ≡ cond (same_key q k) (has t ts) (has_in t (map.get m q))
      by (inl s) (inl h) =
          (λ i. is_held_by q (or_else (open_key t h i) (given (h i) k))) ∙ (key_turn q k true s ∙ sym (λ i. cond (s i) (h i) (has_in t (map.get m q))))
      by (inl s) (inr n) =
          (λ i. is_held_by (key_is q k s i) (or_else freed (given (n i) k))) ∙ (ap (is_held_by k) (or_nobody freed) ∙ (own_key t ∙ sym (λ i. cond (s i) (n i) (has_in t (map.get m q)))))
      by (inr s) (inl h) =
          (λ i. is_held_by q (or_else (open_key t h i) (given (h i) k))) ∙ (key_turn q k false s ∙ (sym (free t q h s) ∙ sym (ap (λ (b : Bool). cond b (has t ts) (has_in t (map.get m q))) s)))
      by (inr s) (inr n) =
          ap (λ (b : Bool). is_held_by q (or_else freed (given b k))) n ∙ (ap (is_held_by q) (or_nobody freed) ∙ (kept_key t q s ∙ sym (ap (λ (b : Bool). cond b (has t ts) (has_in t (map.get m q))) s)))

has_cond : (t : Key) (b : Bool) (keys o : Option Texts) → has_in t (cond b keys o) ≡ cond b (has t (texts_of keys)) (has_in t o)
has_cond t true keys o = in_keys t keys
has_cond t false keys o = refl

-- what the holders are after a swap
pub holders_swapped : (old new : Key → Option Key) (m : Owned) (k : Key) (keys : Option Texts) → AreHolders old m → keys_refusal k true keys m ≡ None →
    ((t : Key) → new t ≡ or_else (released (map.get m k) old t) (given (has t (texts_of keys)) k)) → AreHolders new (put_or_removed k keys m)
holders_swapped old new m k keys are free is t q =
    ap (is_held_by q) (is t)
    ∙ (swapped_at old m k (texts_of keys) are (free_keys k keys m free) t q
    ∙ (sym (has_cond t (same_key q k) keys (map.get m q)) ∙ ap (has_in t) (sym (at_exchange k keys m q))))

-- what an index keeps after a swap
pub kept_swapped : (plan : Plan) (es after : List Entry) (recent settled new held own : List Holder) (k : Key) (keys : Option Texts) → AreKept plan es recent settled →
    Rise key_cmp entry_key after → owned_in after ≡ put_or_removed k keys (owned_in es) → Rise key_cmp holder_key held →
    (plan.unique ≡ true → keys_refusal k true keys (owned_in es) ≡ None) → (plan.unique ≡ true → own ≡ held_by k (texts_of keys)) →
    (plan.unique ≡ true → (t : Key) → holder_of new held t ≡ or_else (released (map.get (owned_in es) k) (holder_of recent settled) t) (id_in (found_key t own))) →
    AreKept plan after new held
kept_swapped plan es after recent settled new held own k keys kept rise is held_rise free ready holders = record {
  rise = rise;
  held = held_rise;
  holders = λ u. subst (AreHolders (holder_of new held)) (sym is)
      (holders_swapped (holder_of recent settled) (holder_of new held) (owned_in es) k keys (kept.holders u) (free u)
      (λ t. holders u t ∙ ap (or_else (released (map.get (owned_in es) k) (holder_of recent settled) t)) (ap (λ (hs : List Holder). id_in (found_key t hs)) (ready u) ∙ found_held t k (texts_of keys))));
}

-- an index that has nothing yet
pub kept_new : (plan : Plan) (es : List Entry) (recent settled : List Holder) → es ≡ [] → recent ≡ [] → settled ≡ [] → AreKept plan es recent settled
kept_new plan es recent settled e f g = record {
  rise = subst (Rise key_cmp entry_key) (sym e) tt;
  held = subst (Rise key_cmp holder_key) (sym g) tt;
  holders = λ u t k.
      (λ i. is_held_by k (holder_of (f i) (g i) t))
      ∙ (none_holds t k ∙ ap (λ (m : Owned). has_in t (map.get m k)) (sym (ap owned_in e ∙ owned_empty)));
}

-- other holders that hold the same
pub kept_same : (plan : Plan) (es : List Entry) (recent settled new held : List Holder) → AreKept plan es recent settled → Rise key_cmp holder_key held → ((t : Key) → holder_of new held t ≡ holder_of recent settled t) → AreKept plan es new held
kept_same plan es recent settled new held kept rise same = record { rise = kept.rise; held = rise; holders = λ u t k. ap (is_held_by k) (same t) ∙ kept.holders u t k }

-- ---- the first other holder

holds_all : (es : List Entry) (holder : Key → Option Key) → AreHolders holder (owned_in es) → (t : Key) → Holds t (holder t) es
holds_all es holder are t q = are t q ∙ ap (has_in t) (map.get-from_entries key_total (owned_of es) q)

-- the first other holder is that of the first other document
pub other_is : (plan : Plan) (es : List Entry) (recent settled : List Holder) (k : Key) (ts : Texts) → plan.unique ≡ true → AreKept plan es recent settled →
    first_key (first_other k ts (owned_in es)) ≡ least_other k (holder_of recent settled) ts
other_is plan es recent settled k ts u kept =
    ap (λ (xs : List (Key × Texts)). first_key (first_where (other_has k ts) xs)) (entries_owned es kept.rise)
    ∙ least_other_is es k (holder_of recent settled) ts kept.rise (holds_all es (holder_of recent settled) (kept.holders u))

pub no_first : (o : Option (Key × Texts)) → first_key o ≡ None → o ≡ None
no_first None e = refl
no_first (Some x) e = cc

-- its entry is there
pub other_there : (es : List Entry) (k j : Key) (ts : Texts) → Rise key_cmp entry_key es → first_key (first_other k ts (owned_in es)) ≡ Some j → map.get (owned_in es) j ≡ None → ⊥
other_there es k j ts r e gone = by (first_other k ts (owned_in es)) refl e
  where
    by : (o : Option (Key × Texts)) → first_other k ts (owned_in es) ≡ o → first_key o ≡ Some j → ⊥
    by None f g = cc
    by (Some x) f g =
        let is : x.0 ≡ j = cc in
        let there = found_there (map.entries (owned_in es)) (other_has k ts) x f in
        clash (is_some (map.find key_cmp x.0 (map.entries (owned_in es)))) there (ap is_some (sym (map.get-entries (owned_in es) x.0) ∙ (ap (map.get (owned_in es)) is ∙ gone)))

pub shared_by : (o : Option (Key × Texts)) (j : Key) → first_key o ≡ Some j → refusal_by false true o ≡ Some (Shared j)
shared_by None j e = cc
shared_by (Some x) j e = let is : x.0 ≡ j = cc in ap (λ (z : Key). Some (Shared z)) is
