-- Maps under names, after an insertion and a removal.
use Rattle.std.proofs.Common.{◌≡◌, Bool, true, false, cond, refl, sym, ◌∙◌, subst, Option, Some, None, inl, inr}
use Rattle.std.specs.Prelude.{◌⊎◌}
use Rattle.std.specs.FinMap as map
use Rattle.std.proofs.lemmas.Bool.{cases_Bool}
use Rattle.bson_value.specs.declared.namespace.NsName.{NsName}
use Rattle.bson_value.specs.NamespaceOrder.{namespace_cmp}
use Rattle.state_model.specs.Keys.{Key, key_cmp, same_key, same_ns}
use Rattle.state_model.proofs.Keys.{key_total, ns_total, key_anti, ns_anti, key_is, ns_is, key_refl, ns_refl}

at_true : {X : Type 0} (b : Bool) (p o : Option X) → b ≡ true → cond b p o ≡ p
at_true b p o e = rw e refl

at_false : {X : Type 0} (b : Bool) (p o : Option X) → b ≡ false → cond b p o ≡ o
at_false b p o e = rw e refl

pub key_at_insert : {X : Type 0} (m : map.FinMap key_cmp X) (k : Key) (v : X) (q : Key) → map.get (map.insert m k v) q ≡ cond (same_key q k) (Some v) (map.get m q)
key_at_insert m k v q = map.get-insert key_total m k v q

pub ns_at_insert : {X : Type 0} (m : map.FinMap namespace_cmp X) (k : NsName) (v : X) (q : NsName) → map.get (map.insert m k v) q ≡ cond (same_ns q k) (Some v) (map.get m q)
ns_at_insert m k v q = map.get-insert ns_total m k v q

pub key_at_remove : {X : Type 0} (m : map.FinMap key_cmp X) (k q : Key) → map.get (map.remove m k) q ≡ cond (same_key q k) None (map.get m q)
key_at_remove m k q = map.get-remove key_total m k q

pub ns_at_remove : {X : Type 0} (m : map.FinMap namespace_cmp X) (k q : NsName) → map.get (map.remove m k) q ≡ cond (same_ns q k) None (map.get m q)
ns_at_remove m k q = map.get-remove ns_total m k q

pub key_insert_here : {X : Type 0} (m : map.FinMap key_cmp X) (k : Key) (v : X) → map.get (map.insert m k v) k ≡ Some v
key_insert_here m k v = key_at_insert m k v k ∙ at_true (same_key k k) (Some v) (map.get m k) (key_refl k)

pub ns_insert_here : {X : Type 0} (m : map.FinMap namespace_cmp X) (k : NsName) (v : X) → map.get (map.insert m k v) k ≡ Some v
ns_insert_here m k v = ns_at_insert m k v k ∙ at_true (same_ns k k) (Some v) (map.get m k) (ns_refl k)

pub key_insert_else : {X : Type 0} (m : map.FinMap key_cmp X) (k : Key) (v : X) (q : Key) → same_key q k ≡ false → map.get (map.insert m k v) q ≡ map.get m q
key_insert_else m k v q e = key_at_insert m k v q ∙ at_false (same_key q k) (Some v) (map.get m q) e

pub ns_insert_else : {X : Type 0} (m : map.FinMap namespace_cmp X) (k : NsName) (v : X) (q : NsName) → same_ns q k ≡ false → map.get (map.insert m k v) q ≡ map.get m q
ns_insert_else m k v q e = ns_at_insert m k v q ∙ at_false (same_ns q k) (Some v) (map.get m q) e

pub key_remove_here : {X : Type 0} (m : map.FinMap key_cmp X) (k : Key) → map.get (map.remove m k) k ≡ None
key_remove_here m k = key_at_remove m k k ∙ at_true (same_key k k) None (map.get m k) (key_refl k)

pub ns_remove_here : {X : Type 0} (m : map.FinMap namespace_cmp X) (k : NsName) → map.get (map.remove m k) k ≡ None
ns_remove_here m k = ns_at_remove m k k ∙ at_true (same_ns k k) None (map.get m k) (ns_refl k)

pub key_remove_else : {X : Type 0} (m : map.FinMap key_cmp X) (k q : Key) → same_key q k ≡ false → map.get (map.remove m k) q ≡ map.get m q
key_remove_else m k q e = key_at_remove m k q ∙ at_false (same_key q k) None (map.get m q) e

pub ns_remove_else : {X : Type 0} (m : map.FinMap namespace_cmp X) (k q : NsName) → same_ns q k ≡ false → map.get (map.remove m k) q ≡ map.get m q
ns_remove_else m k q e = ns_at_remove m k q ∙ at_false (same_ns q k) None (map.get m q) e

pub key_map_same : {X : Type 0} (m n : map.FinMap key_cmp X) → ((q : Key) → map.get m q ≡ map.get n q) → m ≡ n
key_map_same m n h = map.same_map key_total key_anti m n h

pub ns_map_same : {X : Type 0} (m n : map.FinMap namespace_cmp X) → ((q : NsName) → map.get m q ≡ map.get n q) → m ≡ n
ns_map_same m n h = map.same_map ns_total ns_anti m n h

pub key_insert_same : {X : Type 0} (m : map.FinMap key_cmp X) (k : Key) (v : X) → map.get m k ≡ Some v → map.insert m k v ≡ m
key_insert_same m k v e = key_map_same (map.insert m k v) m (λ q. at q (cases_Bool (same_key q k)))
  where
    at : (q : Key) → (same_key q k ≡ true) ⊎ (same_key q k ≡ false) → map.get (map.insert m k v) q ≡ map.get m q
    at q (inl s) = subst (λ (z : Key). map.get (map.insert m k v) z ≡ map.get m z) (sym (key_is q k s)) (key_insert_here m k v ∙ sym e)
    at q (inr s) = key_insert_else m k v q s

pub ns_insert_same : {X : Type 0} (m : map.FinMap namespace_cmp X) (k : NsName) (v : X) → map.get m k ≡ Some v → map.insert m k v ≡ m
ns_insert_same m k v e = ns_map_same (map.insert m k v) m (λ q. at q (cases_Bool (same_ns q k)))
  where
    at : (q : NsName) → (same_ns q k ≡ true) ⊎ (same_ns q k ≡ false) → map.get (map.insert m k v) q ≡ map.get m q
    at q (inl s) = subst (λ (z : NsName). map.get (map.insert m k v) z ≡ map.get m z) (sym (ns_is q k s)) (ns_insert_here m k v ∙ sym e)
    at q (inr s) = ns_insert_else m k v q s

pub key_remove_same : {X : Type 0} (m : map.FinMap key_cmp X) (k : Key) → map.get m k ≡ None → map.remove m k ≡ m
key_remove_same m k e = key_map_same (map.remove m k) m (λ q. at q (cases_Bool (same_key q k)))
  where
    at : (q : Key) → (same_key q k ≡ true) ⊎ (same_key q k ≡ false) → map.get (map.remove m k) q ≡ map.get m q
    at q (inl s) = subst (λ (z : Key). map.get (map.remove m k) z ≡ map.get m z) (sym (key_is q k s)) (key_remove_here m k ∙ sym e)
    at q (inr s) = key_remove_else m k q s

pub ns_remove_same : {X : Type 0} (m : map.FinMap namespace_cmp X) (k : NsName) → map.get m k ≡ None → map.remove m k ≡ m
ns_remove_same m k e = ns_map_same (map.remove m k) m (λ q. at q (cases_Bool (same_ns q k)))
  where
    at : (q : NsName) → (same_ns q k ≡ true) ⊎ (same_ns q k ≡ false) → map.get (map.remove m k) q ≡ map.get m q
    at q (inl s) = subst (λ (z : NsName). map.get (map.remove m k) z ≡ map.get m z) (sym (ns_is q k s)) (ns_remove_here m k ∙ sym e)
    at q (inr s) = ns_remove_else m k q s
