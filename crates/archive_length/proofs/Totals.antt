-- Sums over the collections of a map.
use Rattle.std.proofs.Common.{◌≡◌, ℕ, ◌+◌, ◌≤◌, List, [], ◌∷◌, Bool, true, false, cond, not, refl, sym, ap, ◌∙◌, subst, arith, Option, Some, None}
use Rattle.std.specs.declared.cmp.Ordering.{Ordering}
use Rattle.std.specs.declared.cmp.Ordering.TheVariants.{Less, Equal, Greater}
use Rattle.std.specs.FinMap as map
use Rattle.std.specs.FinMap.Entries.{by_order, where_key, put, is_sorted-where_key, find-where_key}
use Rattle.bson_value.specs.declared.namespace.NsName.{NsName}
use Rattle.bson_value.specs.NamespaceOrder.{namespace_cmp}
use Rattle.state_model.specs.Keys.{same_ns}
use Rattle.state_model.proofs.Keys.{ns_total, ns_anti, ns_is, ns_refl}
use Rattle.state_model.proofs.Maps.{ns_at_insert, ns_at_remove, ns_map_same}

abbrev pub Weight : Type 0 → Type 0
Weight X = NsName → X → ℕ

abbrev pub total : {X : Type 0} → Weight X → List (NsName × X) → ℕ
total w [] = 0
total w (e ∷ es) = w e.0 e.1 + total w es

abbrev pub at : {X : Type 0} → Weight X → NsName → Option X → ℕ
at w n None = 0
at w n (Some x) = w n x

abbrev pub sum : {X : Type 0} → Weight X → map.FinMap namespace_cmp X → ℕ
sum w m = total w (map.entries m)

-- ---- where weights differ

pub total_less : {X : Type 0} (v w : Weight X) (es : List (NsName × X)) → ((n : NsName) (x : X) → v n x ≤ w n x) → total v es ≤ total w es
total_less v w [] h = omega arith
total_less v w (e ∷ es) h = omega (arith, h e.0 e.1, total_less v w es h)

-- one of them by so much
find_less : {X : Type 0} (v w : Weight X) (es : List (NsName × X)) (n : NsName) (x : X) (d : ℕ) → ((m : NsName) (y : X) → v m y ≤ w m y) → v n x + d ≤ w n x → map.find namespace_cmp n es ≡ Some x → total v es + d ≤ total w es
find_less v w [] n x d h g e = cc
find_less v w (f ∷ es) n x d h g e = by (same_ns n f.0) refl e (find_less v w es n x d h g)
  where
    by : (b : Bool) → same_ns n f.0 ≡ b → cond b (Some f.1) (map.find namespace_cmp n es) ≡ Some x → (map.find namespace_cmp n es ≡ Some x → total v es + d ≤ total w es) → (v f.0 f.1 + total v es) + d ≤ w f.0 f.1 + total w es
    by true s q rest =
        (let a : f.1 ≡ x = cc in
        let b = ns_is n f.0 s in
        let c = subst (λ (z : NsName). v z f.1 + d ≤ w z f.1) b (subst (λ (z : _). v n z + d ≤ w n z) (sym a) g) in
        omega (arith, c, total_less v w es h))
    by false s q rest = omega (arith, rest q, h f.0 f.1)

pub sum_lost : {X : Type 0} (v w : Weight X) (m : map.FinMap namespace_cmp X) (n : NsName) (x : X) (d : ℕ) → ((k : NsName) (y : X) → v k y ≤ w k y) → v n x + d ≤ w n x → map.get m n ≡ Some x → sum v m + d ≤ sum w m
sum_lost v w m n x d h g e = find_less v w (map.entries m) n x d h g (sym (map.get-entries m n) ∙ e)

-- ---- where a map is changed

put_total : {X : Type 0} (w : Weight X) (k : NsName) (v : X) (es : List (NsName × X)) → total w (put namespace_cmp k v es) ≤ total w es + w k v
put_total w k v [] = omega arith
put_total w k v (e ∷ es) = by (namespace_cmp k e.0) refl (put_total w k v es)
  where
    by : (o : Ordering) → namespace_cmp k e.0 ≡ o → total w (put namespace_cmp k v es) ≤ total w es + w k v → total w (by_order o ((k, v) ∷ e ∷ es) ((e.0, v) ∷ es) (e ∷ put namespace_cmp k v es)) ≤ (w e.0 e.1 + total w es) + w k v
    by Less q h = omega arith
    by Equal q h = (let c : w e.0 v ≡ w k v = ap (λ (z : NsName). w z v) (sym (ns_anti k e.0 q)) in omega (arith, c))
    by Greater q h = omega (arith, h)

where_total : {X : Type 0} (w : Weight X) (p : NsName → Bool) (es : List (NsName × X)) → total w (where_key namespace_cmp p es) ≤ total w es
where_total w p [] = omega arith
where_total w p (e ∷ es) = by (p e.0) (where_total w p es)
  where
    by : (b : Bool) → total w (where_key namespace_cmp p es) ≤ total w es → total w (cond b (e ∷ where_key namespace_cmp p es) (where_key namespace_cmp p es)) ≤ w e.0 e.1 + total w es
    by true h = omega (arith, h)
    by false h = omega (arith, h)

abbrev other : NsName → NsName → Bool
other k x = not (same_ns x k)

without_total : {X : Type 0} (w : Weight X) (k : NsName) (es : List (NsName × X)) → total w (where_key namespace_cmp (other k) es) + at w k (map.find namespace_cmp k es) ≤ total w es
without_total w k [] = omega arith
without_total w k (e ∷ es) = by (same_ns k e.0) refl (other k e.0) refl (without_total w k es) (where_total w (other k) es)
  where
    by : (b : Bool) → same_ns k e.0 ≡ b → (c : Bool) → other k e.0 ≡ c → total w (where_key namespace_cmp (other k) es) + at w k (map.find namespace_cmp k es) ≤ total w es → total w (where_key namespace_cmp (other k) es) ≤ total w es →
        total w (cond c (e ∷ where_key namespace_cmp (other k) es) (where_key namespace_cmp (other k) es)) + at w k (cond b (Some e.1) (map.find namespace_cmp k es)) ≤ w e.0 e.1 + total w es
    by true q true r h g = (let i = ns_is k e.0 q in let j : same_ns e.0 k ≡ true = subst (λ (z : NsName). same_ns z k ≡ true) i (ns_refl k) in let l : other k e.0 ≡ false = ap not j in absurd cc)
    by true q false r h g = (let c : w e.0 e.1 ≡ w k e.1 = ap (λ (z : NsName). w z e.1) (sym (ns_is k e.0 q)) in omega (arith, c, g))
    by false q true r h g = omega (arith, h)
    by false q false r h g = omega (arith, h)

retained_entries : {X : Type 0} (m : map.FinMap namespace_cmp X) (p : NsName → Bool) → map.entries (map.retain_keys m p) ≡ where_key namespace_cmp p (map.entries m)
retained_entries m p =
    let es = map.entries m in
    let alike = λ (q x : NsName) (e : namespace_cmp q x ≡ Equal). ap p (sym (ns_anti q x e)) in
    let sorted = is_sorted-where_key namespace_cmp p es (map.entries_sorted m) in
    ap map.entries (ns_map_same (map.retain_keys m p) (map.from_sorted (where_key namespace_cmp p es)) (λ q.
    map.get-retain_keys m p q (alike q) ∙ (ap (λ (o : Option _). cond (p q) o None) (map.get-entries m q)
    ∙ (sym (find-where_key namespace_cmp p q (alike q) es) ∙ sym (map.get-from_sorted namespace_cmp (where_key namespace_cmp p es) q sorted)))))
    ∙ map.entries-from_sorted namespace_cmp (where_key namespace_cmp p es) sorted

pub retained_sum : {X : Type 0} (w : Weight X) (m : map.FinMap namespace_cmp X) (p : NsName → Bool) → sum w (map.retain_keys m p) ≤ sum w m
retained_sum w m p = subst (λ (es : List _). total w es ≤ sum w m) (sym (retained_entries m p)) (where_total w p (map.entries m))

removed_is : {X : Type 0} (m : map.FinMap namespace_cmp X) (k : NsName) → map.remove m k ≡ map.retain_keys m (other k)
removed_is m k =
    ns_map_same (map.remove m k) (map.retain_keys m (other k)) (λ q.
    ns_at_remove m k q ∙ (turned (same_ns q k) (map.get m q) ∙ sym (map.get-retain_keys m (other k) q (λ x e. ap (other k) (sym (ns_anti q x e))))))
  where
    turned : {Y : Type 0} (b : Bool) (o : Option Y) → cond b None o ≡ cond (not b) o None
    turned true o = refl
    turned false o = refl

pub removed_sum : {X : Type 0} (w : Weight X) (m : map.FinMap namespace_cmp X) (k : NsName) → sum w (map.remove m k) + at w k (map.get m k) ≤ sum w m
removed_sum w m k =
    subst (λ (es : List _). total w es + at w k (map.get m k) ≤ sum w m) (sym (ap map.entries (removed_is m k) ∙ retained_entries m (other k)))
    (subst (λ (o : Option _). total w (where_key namespace_cmp (other k) (map.entries m)) + at w k o ≤ sum w m) (sym (map.get-entries m k)) (without_total w k (map.entries m)))

pub inserted_sum : {X : Type 0} (w : Weight X) (m : map.FinMap namespace_cmp X) (k : NsName) (v : X) → sum w (map.insert m k v) ≤ sum w m + w k v
inserted_sum w m k v = subst (λ (es : List _). total w es ≤ sum w m + w k v) (sym (map.entries-insert ns_total m k v)) (put_total w k v (map.entries m))

-- what is inserted under a name is inserted where it was removed
renewed : {X : Type 0} (m : map.FinMap namespace_cmp X) (k : NsName) (v : X) → map.insert m k v ≡ map.insert (map.remove m k) k v
renewed m k v = ns_map_same (map.insert m k v) (map.insert (map.remove m k) k v) (λ q. ns_at_insert m k v q ∙ (by (same_ns q k) (map.get m q) ∙ sym (ns_at_insert (map.remove m k) k v q ∙ ap (cond (same_ns q k) (Some v)) (ns_at_remove m k q))))
  where
    by : (b : Bool) (o : Option _) → cond b (Some v) o ≡ cond b (Some v) (cond b None o)
    by true o = refl
    by false o = refl

pub replaced_sum : {X : Type 0} (w : Weight X) (m : map.FinMap namespace_cmp X) (k : NsName) (v : X) → sum w (map.insert m k v) + at w k (map.get m k) ≤ sum w m + w k v
replaced_sum w m k v =
    let a = removed_sum w m k in
    let b = inserted_sum w (map.remove m k) k v in
    subst (λ (z : map.FinMap namespace_cmp _). sum w z + at w k (map.get m k) ≤ sum w m + w k v) (sym (renewed m k v)) (omega (arith, a, b))
