-- The orders of names are total, and names that tie are equal.
use Rattle.std.proofs.Common.{◌≡◌, Bool, true, refl, sym, ap, ◌∙◌, subst}
use Rattle.std.specs.Ordering.{ordering_then, is_eq}
use Rattle.std.specs.declared.cmp.Ordering.{Ordering}
use Rattle.std.specs.declared.cmp.Ordering.TheVariants.{Less, Equal, Greater}
use Rattle.std.specs.Cmp.{IsTotalOrder, on_total, eq_by_cmp_equiv, tied_itself}
use Rattle.std.specs.Cmp.Lexicographic.{nat_list_cmp_total}
use Rattle.std.specs.FinMap.{IsAntisymmetric, nat_cmp-IsAntisymmetric, slice_cmp-IsAntisymmetric}
use Rattle.std.proofs.lemmas.Cmp.{then_total}
use Rattle.bson_value.specs.declared.namespace.NsName.{NsName}
use Rattle.bson_value.specs.NamespaceOrder.{namespace_cmp}
use Rattle.state_model.specs.Keys.{Key, key_cmp, same_key, same_ns}

pub key_total : IsTotalOrder key_cmp
key_total = nat_list_cmp_total

pub ns_total : IsTotalOrder namespace_cmp
ns_total = then_total (on_total (λ (n : NsName). n.db) nat_list_cmp_total) (on_total (λ (n : NsName). n.coll) nat_list_cmp_total)

pub key_anti : IsAntisymmetric key_cmp
key_anti = slice_cmp-IsAntisymmetric nat_cmp-IsAntisymmetric

both_equal : (a b : Ordering) → ordering_then a b ≡ Equal → (a ≡ Equal) × (b ≡ Equal)
both_equal Less b e = cc
both_equal Greater b e = cc
both_equal Equal b e = (refl, e)

pub ns_anti : IsAntisymmetric namespace_cmp
ns_anti a b e =
    let h = both_equal (key_cmp a.db b.db) (key_cmp a.coll b.coll) e in
    λ i. record { db = key_anti a.db b.db h.0 i; coll = key_anti a.coll b.coll h.1 i }

tied : (o : Ordering) → is_eq o ≡ true → o ≡ Equal
tied Less e = cc
tied Equal e = refl
tied Greater e = cc

pub key_is : (a b : Key) → same_key a b ≡ true → a ≡ b
key_is a b e = key_anti a b (tied (key_cmp a b) e)

pub ns_is : (a b : NsName) → same_ns a b ≡ true → a ≡ b
ns_is a b e = ns_anti a b (tied (namespace_cmp a b) e)

pub key_refl : (a : Key) → same_key a a ≡ true
key_refl a = ap is_eq (tied_itself key_total a)

pub ns_refl : (a : NsName) → same_ns a a ≡ true
ns_refl a = ap is_eq (tied_itself ns_total a)

pub key_from : (a b : Key) → a ≡ b → same_key a b ≡ true
key_from a b e = subst (λ (z : Key). same_key a z ≡ true) e (key_refl a)

pub ns_from : (a b : NsName) → a ≡ b → same_ns a b ≡ true
ns_from a b e = subst (λ (z : NsName). same_ns a z ≡ true) e (ns_refl a)

pub key_turn : (a b : Key) (c : Bool) → same_key a b ≡ c → same_key b a ≡ c
key_turn a b c e = sym ((eq_by_cmp_equiv key_total).symm a b) ∙ e

pub ns_turn : (a b : NsName) (c : Bool) → same_ns a b ≡ c → same_ns b a ≡ c
ns_turn a b c e = sym ((eq_by_cmp_equiv ns_total).symm a b) ∙ e
