-- What a filter takes of a state without a fault has none.
use Rattle.std.proofs.Common.{◌≡◌, List, [], ◌∷◌, map as each, Bool, true, false, cond, refl, sym, ap, ◌∙◌, subst, Option, Some, None, inl, inr}
use Rattle.std.specs.Prelude.{◌⊎◌}
use Rattle.std.specs.FinMap as map
use Rattle.std.proofs.lemmas.Bool.{cases_Bool}
use Rattle.bson_value.specs.declared.namespace.NsName.{NsName}
use Rattle.bson_value.specs.NamespaceOrder.{namespace_cmp}
use Rattle.state_model.specs.Keys.{same_ns}
use Rattle.state_model.specs.States.{State, Collection}
use Rattle.state_model.specs.Cut.{cut}
use Rattle.state_model.proofs.Keys.{ns_is}
use Rattle.state_model.proofs.Cut.{get_cut}
use Rattle.index_build.specs.declared.fault.CountFault.{CountFault}
use Rattle.index_build.specs.Faults.{or_else, collection_fault, fault_among, fault}
use Rattle.held_moments.specs.Laws.{TakenAreFaultless}

either_none : (o p : Option CountFault) → or_else o p ≡ None → (o ≡ None) × (p ≡ None)
either_none None p e = (refl, e)
either_none (Some x) p e = cc

abbrev names : List (NsName × Collection) → List NsName
names es = each (λ (e : NsName × Collection). e.0) es

-- where no name of these has a fault, what is found among them has none
found_faultless : (s : State) (es : List (NsName × Collection)) (n : NsName) (c : Collection) → fault_among s (names es) ≡ None → map.find namespace_cmp n es ≡ Some c → collection_fault n (map.get s n) ≡ None
found_faultless s [] n c h e = cc
found_faultless s (x ∷ es) n c h e = by (cases_Bool (same_ns n x.0)) (either_none (collection_fault x.0 (map.get s x.0)) (fault_among s (names es)) h) (found_faultless s es n c)
  where
    by : (same_ns n x.0 ≡ true) ⊎ (same_ns n x.0 ≡ false) → (collection_fault x.0 (map.get s x.0) ≡ None) × (fault_among s (names es) ≡ None) → (fault_among s (names es) ≡ None → map.find namespace_cmp n es ≡ Some c → collection_fault n (map.get s n) ≡ None) →
        collection_fault n (map.get s n) ≡ None
    by (inl b) both rest = subst (λ (m : NsName). collection_fault m (map.get s m) ≡ None) (sym (ns_is n x.0 b)) both.0
    by (inr b) both rest = rest both.1 (subst (λ (z : Bool). cond z (Some x.1) (map.find namespace_cmp n es) ≡ Some c) b e)

each_faultless : (s : State) (n : NsName) → fault s ≡ None → collection_fault n (map.get s n) ≡ None
each_faultless s n h = by (map.get s n) refl
  where
    by : (o : Option Collection) → map.get s n ≡ o → collection_fault n o ≡ None
    by None e = refl
    by (Some c) e = ap (collection_fault n) (sym e) ∙ found_faultless s (map.entries s) n c h (sym (map.get-entries s n) ∙ e)

faultless_among : (f : NsName → Bool) (s : State) (ns : List NsName) → fault s ≡ None → fault_among (cut f s) ns ≡ None
faultless_among f s [] h = refl
faultless_among f s (n ∷ ns) h =
    ap (λ (o : Option CountFault). or_else o (fault_among (cut f s) ns)) (ap (collection_fault n) (get_cut f s n) ∙ by (f n)) ∙ faultless_among f s ns h
  where
    by : (b : Bool) → collection_fault n (cond b (map.get s n) None) ≡ None
    by true = each_faultless s n h
    by false = refl

pub taken_faultless : TakenAreFaultless
taken_faultless f s h = faultless_among f s (map.keys (cut f s)) h
